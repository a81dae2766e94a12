-- `Table::sum` meets its contract. The loop's invariant: what is left, from the register, sums to what all sums to.
-- Assumes nothing.
use Rattle.std.proofs.Common.{◌≡◌, drop}
use Rattle.meaning.specs.Fcs.{sum, summed}
use Rattle.fcs.proofs.entries.Table.sum.Given as goal

abbrev pub invariant-loop-x : goal.invariant-loop-x
invariant-loop-x l = summed l.r (drop l.x-index l.s) ≡ sum l.s
