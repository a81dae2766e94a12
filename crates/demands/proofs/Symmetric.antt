-- Demand 3's premise is the same from both sides: which octets are compared is read off the first frame, and the second gives the same. Assumes nothing.
use mathlib.Core.Path.{◌≡◌, refl, sym, ap, ◌∙◌}
use Prim.Native.Nat.{ℕ, max}
use mathlib.Core.List.{List, [], ◌∷◌}
use lib.ListN.{length}
use Rattle.meaning.specs.Frame.{View, view, cuts_of}
use Rattle.meaning.specs.Fcs.{inner}
use Rattle.meaning.specs.Receive.{Received, received}
use Rattle.demands.specs.Secrecy.{AlikeSites, span, outside, AlikeFrames, Paired, Agreed}
use Rattle.demands.proofs.Alike.{alike-back}
use Rattle.demands.proofs.Secrecy.{Standing, same_view, one}

span-same : (status : ℕ) (f g : List ℕ) → length f ≡ length g → cuts_of (inner f) ≡ cuts_of (inner g) → span status f ≡ span status g
unfolding span
span-same status f g l c = rw (l, c)

cuts-same : (b b' : List ℕ) → view b ≡ view b' → cuts_of b ≡ cuts_of b'
unfolding view
cuts-same b b' e = ap (λ (v : View). v.cuts) e

module _ (m : ℕ) (s t f g o p : List ℕ) (st : Standing m s t o p) (a : AlikeFrames s t f g o p) where
  outside-same : outside s f o ≡ outside t g p
  unfolding outside
  outside-same =
      span-same (received s f o).answer.status f g a.lengths (cuts-same (inner f) (inner g) (same_view m s t f g o p st a))
      ∙ ap (λ (r : Received). span r.status g) (one m s t f g o p st a).answers

  frames-back : AlikeFrames t s g f p o
  frames-back =
      record {
        lengths = sym a.lengths;
        octets = rw (← outside-same) (sym a.octets);
        checks = sym a.checks;
        tags = λ x y i k. sym (a.tags y x k i);
      }

back : (m : ℕ) (s t o p : List ℕ) (fs gs : List (List ℕ)) → Standing m s t o p → Paired s t o p fs gs → Paired t s p o gs fs
back m s t o p [] [] st ps = tt
back m s t o p [] (g ∷ gs) st ps = ps
back m s t o p (f ∷ fs) [] st ps = ps
back m s t o p (f ∷ fs) (g ∷ gs) st ps =
    let n : ℕ = max m (received s f o).answer.private in
    let r : Agreed n f g (received s f o) (received t g p) = one m s t f g o p st ps.0 in (
      frames-back m s t f g o p st ps.0,
      back n _ _ _ _ fs gs (record { sites = r.sites; rooms = r.rooms; outs = r.outs }) ps.1,
    )

pub premise-back : (s t o : List ℕ) (fs gs : List (List ℕ)) → AlikeSites s t → Paired s t o o fs gs → AlikeSites t s × Paired t s o o gs fs
premise-back s t o fs gs a ps = (alike-back s t a, back 0 s t o o fs gs (record { sites = a; rooms = refl; outs = refl }) ps)
