-- `aes::keys::schedule` meets its contract: the key's buffer has grown by n round keys, one more a turn. Assumes nothing.
use Rattle.std.proofs.Common.{◌≡◌, ◌*◌}
use Rattle.aes.specs.Schedule.{grown}
use Rattle.aes.proofs.keys.schedule.Given as goal

abbrev pub invariant-loop-n : goal.invariant-loop-n
invariant-loop-n l = l.w ≡ grown l.initial.w 16 (16 * l.n)
