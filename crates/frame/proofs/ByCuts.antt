-- The division by the cuts that a callee found, and what the cuts of a frame with its FCS give. Assumes nothing.
use Rattle.std.specs.Prelude.{Option, Some, None}
use mathlib.Core.Path.{◌≡◌, refl, sym, ap, ◌∙◌, subst}
use mathlib.Core.Bool.{Bool, true, false, ◌&&◌}
use mathlib.Core.List.{List, []}
use Prim.Native.Nat.{ℕ, ◌+◌, ◌-◌, ◌≤◌}
use native.Mathlib.Omega.{arith}
use borrow.Author.Tests.{leb-true}
use lib.ListN.{length, take, drop}
use lib.Seq.{take-take}
use lib.Dec.{leb, ltb}
use Rattle.meaning.specs.Octets.{pick, part}
use Rattle.meaning.specs.Frame.{
  header_of,
  level_of,
  tag_len,
  cuts_of,
  view,
  open_end,
  head_right,
  pending_right,
  bodied,
}
use Rattle.meaning.specs.Fcs.{inner}
use Rattle.meaning.specs.declared.Cuts.{Cuts}
use Rattle.meaning.specs.declared.Header.{Header}
use Rattle.meaning.proofs.Frame.{head-is, aux-is, opens-is}
use Rattle.meaning.proofs.Lengths.{Bounded, cuts-bound}
use Rattle.meaning.proofs.Lists.{drop-take, length-take-most}
use Rattle.meaning.proofs.Scan.{pick-all}
use Rattle.meaning.proofs.Lists.{and_both}
use Rattle.frame.specs.Parts.{divided, cuts_in, open_payload}

-- status 5 does not refuse b, divided by the cuts c, with the header h
abbrev pub whole : List ℕ → Cuts → Header → Bool
whole b c h =
    head_right c h (length b)
    && (leb (open_end c + tag_len (level_of (part c.head c.aux b))) (length b)
    && pending_right h.kind (part (c.head + c.aux) c.opens b))

divided-is : (b : List ℕ) → divided b ≡ whole b (cuts_of b) (header_of (part 0 (cuts_of b).head b))
unfolding divided view bodied
divided-is b = rw (head-is b, aux-is b, opens-is b)

-- the answer z of the tests of b by its cuts c and its header h
module _ (b : List ℕ) (c : Cuts) (h : Header) (z : Bool) where
  divided-by : c ≡ cuts_of b → h ≡ header_of (part 0 c.head b) → z ≡ whole b c h → z ≡ divided b
  divided-by e g w = w ∙ sym (divided-is b ∙ rw (g, e))

  pub some-by : c ≡ cuts_of b → h ≡ header_of (part 0 c.head b) → z ≡ whole b c h → z ≡ true → Some c ≡ pick (divided b) (Some (cuts_of b)) None
  some-by e g w t = rw (sym (divided-by e g w) ∙ t) (ap Some e)

  pub none-by : c ≡ cuts_of b → h ≡ header_of (part 0 c.head b) → z ≡ whole b c h → z ≡ false → None ≡ pick (divided b) (Some (cuts_of b)) None
  none-by e g w t = rw (sym (divided-by e g w) ∙ t) refl

-- ---- the cuts of a frame with its FCS
-- a part of the front is a part of the whole
part-front : (m at n : ℕ) (l : List ℕ) → at + n ≤ m → part at n (take m l) ≡ part at n l
part-front m at n l h = sym (drop-take at n (take m l)) ∙ ap (drop at) (take-take (at + n) m l h) ∙ drop-take at n l

pub record Cut (f : List ℕ) (c : Cuts) : Type 0 where
  pub small : Bounded c
  pub opens : part (c.head + c.aux) c.opens f ≡ open_payload f

-- what the cuts say of a frame
Told : List ℕ → Option Cuts → Type 0
Told f (Some c) = Cut f c
Told f None = [] ≡ open_payload f

fits : (b : List ℕ) → divided b ≡ true → leb (open_end (cuts_of b) + tag_len (level_of (view b).aux)) (length b) ≡ true
unfolding divided view bodied
fits b d = (and_both _ _ (and_both _ _ d).1).0

fitting : (b : List ℕ) → divided b ≡ true → open_end (cuts_of b) ≤ length b
fitting b d = omega (arith, leb-true _ _ (fits b d))

told : (f : List ℕ) → Told f (cuts_in f)
unfolding Told cuts_in open_payload view open_end inner
told f =
    pick-all (Told f) (ltb (length f) 5) _ _ (λ s. rw s refl)
    (λ s. pick-all (Told f) (ltb 127 (length f)) _ _ (λ t. rw (s, t) refl)
    (λ t. pick-all (Told f) (divided (inner f)) _ _
    (λ d. record {
      small = cuts-bound (inner f);
      opens =
          let c : Cuts = cuts_of (inner f) in
          rw (s, t, d)
          (sym (part-front (length f - 2) (c.head + c.aux) c.opens f (omega (arith, fitting (inner f) d, length-take-most (length f - 2) f)))
          ∙ sym (opens-is (inner f)));
    })
    (λ d. rw (s, t, d) refl)))

-- u is a callee's answer
pub cut-some : (f : List ℕ) (c : Cuts) (u : Option Cuts) → u ≡ cuts_in f → u ≡ Some c → Cut f c
unfolding Told
cut-some f c u e h = subst (Told f) (sym e ∙ h) (told f)

pub cut-none : (f : List ℕ) (u : Option Cuts) → u ≡ cuts_in f → u ≡ None → [] ≡ open_payload f
unfolding Told
cut-none f u e h = subst (Told f) (sym e ∙ h) (told f)
