-- `aes::keys::other_words` meets its contract: an octet more a turn. Assumes nothing.
use Rattle.std.proofs.Common.{◌≡◌}
use Rattle.aes.specs.Schedule.{grown}
use Rattle.aes.proofs.keys.other_words.Given as goal

abbrev pub invariant-loop-j : goal.invariant-loop-j
invariant-loop-j l = l.w ≡ grown l.initial.w l.i l.j
