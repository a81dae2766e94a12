-- A part of a slice that is replaced whole is a run of stores; so is a copy, one octet after the other. Assumes nothing.
use mathlib.Core.Path.{◌≡◌, refl, sym, ap, ◌∙◌}
use mathlib.Core.List.{List, [], ◌∷◌, ◌++◌, append_assoc}
use Prim.Native.Nat.{ℕ, ◌+◌, ◌-◌, ◌≤◌, ◌<◌}
use native.Mathlib.Numerals.{add-one}
use native.Mathlib.Omega.{arith}
use lib.ListN.{length, take, drop, set, get_or}
use lib.Seq.{sets, sets-eq, take-suc, length-take-le}
use Rattle.meaning.proofs.Stores.{sets-append}
use borrow.Rule.Slice.PartMut.{put_mid, Post-is}

pub put_sets : (d s : List ℕ) (at n : ℕ) → length s ≡ n → at + n ≤ length d → put_mid at (at + n - at) d s ≡ sets d at s
put_sets d s at n e h =
    rw (sym e)
    (ap (λ (r : List ℕ). take at d ++ (s ++ r)) (Post-is at (at + length s) d (omega arith))
    ∙ sym (append_assoc (take at d) s (drop (at + length s) d))
    ∙ sym (sets-eq s d at (omega arith)))

-- the first j are copied; one more
pub copied-more : (d s : List ℕ) (at j : ℕ) → j < length s → set (sets d at (take j s)) (at + j) (get_or s j 0) ≡ sets d at (take (j + 1) s)
copied-more d s at j h =
    rw (add-one j, take-suc s j 0 h, sets-append d at (take j s) (get_or s j 0 ∷ []), length-take-le j s (omega arith)) refl
