-- `Cipher::encrypt` meets its contract: before round i the state is that after i - 1 whole rounds. Assumes nothing.
use Rattle.std.proofs.Common.{◌≡◌, ◌-◌}
use Rattle.meaning.specs.Cipher.{rounds}
use Rattle.aes.specs.Words.{state_of}
use Rattle.aes.proofs.rounds.Cipher.encrypt.Given as goal

abbrev pub invariant-loop-i : goal.invariant-loop-i
invariant-loop-i l = state_of l.s ≡ rounds l.self.schedule (state_of l.initial.s) (l.i - 1)
