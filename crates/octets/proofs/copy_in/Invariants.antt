-- `copy_in` meets its contract: after j turns the first j octets are stored. Assumes nothing.
use Rattle.std.proofs.Common.{◌≡◌, take}
use Rattle.std.proofs.lemmas.List.Edits.{sets}
use Rattle.octets.proofs.copy_in.Given as goal

abbrev pub invariant-loop-j : goal.invariant-loop-j
invariant-loop-j l = l.dst ≡ sets l.initial.dst l.at (take l.j l.src)
