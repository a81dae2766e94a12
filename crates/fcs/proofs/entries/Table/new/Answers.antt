-- `Table::new` makes the table of the FCS: one test at each of the 256 entries, which antt computes.
-- Assumes nothing.
use mathlib.Core.Path.{◌≡◌, refl}
use mathlib.Core.Bool.{Bool}
use mathlib.Core.List.{List}
use Prim.Native.Nat.{ℕ}
use lib.Dec.{T, eqb, eqb→eq}
use lib.ListN.{get_or, length}
use Rattle.meaning.specs.Fcs.{IsTable, fed, shifted}
use Rattle.meaning.proofs.Computed.{every, at}
use Rattle.fcs.proofs.entries.Table.new.Goals as goal

abbrev right : ℕ → ℕ → Bool
right k x = eqb x (fed 8 0 k)

rule : (t : List ℕ) → length t ≡ 256 → T (every right 0 t) → IsTable t
unfolding IsTable
rule t l r x h = eqb→eq (get_or t x 0) (fed 8 0 x) (at right t r x (rw l h))

pub invariant_of-result : goal.invariant_of-result
unfolding fed shifted
invariant_of-result c = record { is_table = rule _ refl tt }
