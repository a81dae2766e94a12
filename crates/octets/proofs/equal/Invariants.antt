-- `equal` meets its contract. The loop's invariant: nothing differs so far where the octets that are yielded are the same. Assumes nothing.
use Rattle.std.proofs.Common.{length}
use Rattle.meaning.proofs.Same.{Compared}
use Rattle.octets.proofs.equal.Given as goal

abbrev pub invariant-loop-x : goal.invariant-loop-x
invariant-loop-x l = Compared l.a l.b l.differ (length l.yielded)
