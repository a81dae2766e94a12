-- The meaning's laws that the check is given for the functions here: each length is small, and the lengths of whole parts. Assumes nothing.
use mathlib.Core.Path.{◌≡◌}
use mathlib.Core.List.{List}
use Prim.Native.Nat.{ℕ, ◌+◌}
use native.Mathlib.Nat.{zero-add}
use lib.ListN.{drop}
use Rattle.meaning.specs.Frame.{gts_len, pending_len, beacon_m}
use Rattle.meaning.proofs.Lengths.{
  address-bound,
  destination-bound,
  source-bound,
  key-source-bound,
  key-id-bound,
  head-bound,
  aux-bound,
  gts-bound,
  pending-bound,
  head-len,
  beacon-len,
  cuts-are,
  bounded,
}

pub ruleset bounds = (address-bound, destination-bound, source-bound, key-source-bound, key-id-bound, head-bound, aux-bound, gts-bound, pending-bound, bounded)

-- a beacon's open payload at the start
pub beacon-first : (l : List ℕ) → beacon_m l ≡ 3 + gts_len l + (1 + pending_len (drop (3 + gts_len l) l))
beacon-first l = rw zero-add at (beacon-len l 0)

pub ruleset spans = (head-len, beacon-first, cuts-are)
