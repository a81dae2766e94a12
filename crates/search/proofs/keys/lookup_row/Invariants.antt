-- `search::lookup_row` meets its contract, for every number of octets compared. The outer loop's invariant: the records passed do not fit;
-- the inner loop's: the octets passed agree. Assumes nothing.
use Rattle.std.specs.Prelude.{Some, None}
use mathlib.Core.Bool.{true, false, not}
use Prim.Native.Nat.{◌+◌, ◌-◌}
use lib.ListN.{get_or}
use lib.Dec.{eqb}
use Rattle.meaning.specs.Steps.{fits_lookup}
use Rattle.meaning.proofs.Scan.{Passed}
use Rattle.search.proofs.keys.lookup_row.Given as goal

abbrev pub invariant-loop-j : goal.invariant-loop-j
invariant-loop-j l = Passed (λ k. not (eqb (get_or l.lookups (l.from + l.at + 1 + k) 0) (get_or l.wanted k 0))) (λ k. false) true l.m l.j

abbrev pub decreases-loop-j : goal.decreases-loop-j
decreases-loop-j l = l.m - l.j

abbrev pub invariant-records : goal.invariant-records
invariant-records l = Passed (fits_lookup l.lookups l.mode l.at l.lead l.wanted) Some None l.n l.i

abbrev pub decreases-records : goal.decreases-records
decreases-records l = l.n - l.i
