-- The S-box's rule of a table is a test at each of its 256 entries, which antt computes.
-- Assumes nothing.
use mathlib.Core.Path.{◌≡◌}
use mathlib.Core.Bool.{Bool}
use mathlib.Core.List.{List}
use Prim.Native.Nat.{ℕ}
use lib.Dec.{T, eqb, eqb→eq}
use lib.ListN.{get_or, length}
use Rattle.meaning.specs.Sbox.{IsSbox, sbox}
use Rattle.meaning.proofs.Computed.{every, at}

abbrev pub right : ℕ → ℕ → Bool
right k x = eqb x (sbox k)

pub rule : (t : List ℕ) → length t ≡ 256 → T (every right 0 t) → IsSbox t
unfolding IsSbox
rule t l r x h = eqb→eq (get_or t x 0) (sbox x) (at right t r x (rw l h))
