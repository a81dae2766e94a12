-- The place of an open payload, by the cuts that a frame has or has not. Assumes nothing.
use Rattle.std.specs.Prelude.{Option, Some, None, length, ltb}
use Rattle.std.proofs.Common.{◌≡◌, refl, sym, ap, ◌∙◌, List, ℕ, Bool, true, false, subst}
use Rattle.meaning.specs.Octets.{pick}
use Rattle.meaning.specs.Fcs.{inner}
use Rattle.meaning.specs.Frame.{cuts_of}
use Rattle.meaning.specs.declared.Cuts.{Cuts}
use Rattle.meaning.proofs.Lengths.{Bounded, bounded}
use Rattle.frame.specs.Parts.{divided, cuts_in}
use Rattle.export.specs.Boundary.{place_in, open_place}

placed : Option Cuts → ℕ
placed None = 0
placed (Some c) = place_in c

picked : (a b c : Bool) (k : Cuts)
    → pick a 0 (pick b 0 (pick c (place_in k) 0)) ≡ placed (pick a None (pick b None (pick c (Some k) None)))
unfolding placed
picked true b c k = refl
picked false true c k = refl
picked false false true k = refl
picked false false false k = refl

open-placed : (f : List ℕ) → open_place f ≡ placed (cuts_in f)
unfolding open_place cuts_in
open-placed f = picked (ltb (length f) 5) (ltb 127 (length f)) (divided (inner f)) (cuts_of (inner f))

-- what a callee answered of a frame is its place
pub place-none : (f : List ℕ) (u : Option Cuts) → u ≡ cuts_in f → u ≡ None → 0 ≡ open_place f
unfolding placed
place-none f u e n = sym (open-placed f ∙ ap placed (sym e ∙ n))

pub place-some : (f : List ℕ) (u : Option Cuts) (c : Cuts) (z : ℕ) → u ≡ cuts_in f → u ≡ Some c → z ≡ place_in c → z ≡ open_place f
unfolding placed
place-some f u c z e s h = h ∙ sym (open-placed f ∙ ap placed (sym e ∙ s))

Within : Option Cuts → Type 0
Within None = Unit {0}
Within (Some c) = Bounded c

within : (a b c : Bool) (k : Cuts) → Bounded k → Within (pick a None (pick b None (pick c (Some k) None)))
unfolding Within
within true b c k h = tt
within false true c k h = tt
within false false true k h = h
within false false false k h = tt

cuts-within : (f : List ℕ) → Within (cuts_in f)
unfolding cuts_in
cuts-within f = within (ltb (length f) 5) (ltb 127 (length f)) (divided (inner f)) (cuts_of (inner f)) (bounded (inner f) (cuts_of (inner f)) refl)

-- and the cuts are bounded
pub some-bounded : (f : List ℕ) (u : Option Cuts) (c : Cuts) → u ≡ cuts_in f → u ≡ Some c → Bounded c
unfolding Within
some-bounded f u c e s = subst Within (sym e ∙ s) (cuts-within f)
