-- The log prints the same lines of two inputs that pair up: alike files load to alike sites, by demand 3 the answers are equal, and the lines show
-- nothing else. Assumes nothing.
use Prim.Native.Nat.{ℕ, ◌+◌, ◌-◌, max}
use mathlib.Core.Path.{◌≡◌, refl, sym, ap₂, ◌∙◌}
use mathlib.Core.List.{List, [], ◌∷◌}
use lib.ListN.{length, replicate, length-drop}
use Rattle.meaning.specs.Octets.{le_at}
use Rattle.meaning.specs.Loading.{site_of}
use Rattle.meaning.specs.Receive.{Received, received}
use Rattle.lines.specs.Log.{items, answers, printed_with, printed_sized, printed}
use Rattle.lines.proofs.Log.{printed-same}
use Rattle.demands.specs.Secrecy.{Agree, Secret}
use Rattle.demands.specs.Lines.{file_in, rest_in, AlikeInputs, SameLines}
use Rattle.demands.proofs.Secrecy.{secrecy}
use Rattle.demands.proofs.Loading.{sites-of}
use Rattle.demands.proofs.Inputs.{cuts-same}

agreed-answers : (m : ℕ) (s t o p : List ℕ) (fs gs : List (List ℕ)) → Agree m s t o p fs gs → answers s o fs ≡ answers t p gs
unfolding answers
agreed-answers m s t o p [] [] a = refl
agreed-answers m s t o p [] (g ∷ gs) a = absurd a
agreed-answers m s t o p (f ∷ fs) [] a = absurd a
agreed-answers m s t o p (f ∷ fs) (g ∷ gs) a =
    ap₂ (λ (x : Received) (r : List Received). x ∷ r) a.0.answers
    (agreed-answers (max m (received s f o).answer.private) (received s f o).site (received t g p).site (received s f o).out (received t g p).out fs gs a.1)

module _ (i j : List ℕ) (a : AlikeInputs i j) where
  rests : length (rest_in i) ≡ length (rest_in j)
  unfolding rest_in
  rests =
      length-drop (2 + le_at 2 i 0) i ∙ ap₂ (λ (m n : ℕ). m - (2 + n)) a.lengths a.sizes ∙ sym (length-drop (2 + le_at 2 j 0) j)

  with-site : printed_with (le_at 2 i 0) i ≡ printed_with (le_at 2 j 0) j
  unfolding printed_with file_in rest_in Secret
  with-site =
      let s : List ℕ = site_of (file_in i) in
      let t : List ℕ = site_of (file_in j) in
      let fs : List (List ℕ) = (items (rest_in i)).frames in
      let gs : List (List ℕ) = (items (rest_in j)).frames in
      printed-same 1 s t (replicate 127 0) (replicate 127 0) (rest_in i) (rest_in j)
      (agreed-answers 0 s t (replicate 127 0) (replicate 127 0) fs gs
      (secrecy s t (replicate 127 0) fs gs (sites-of (file_in i) (file_in j) a.files) a.frames))
      (cuts-same s t (replicate 127 0) (replicate 127 0) (rest_in i) (rest_in j) rests a.frames)

  sized : printed_sized (le_at 2 i 0) i ≡ printed_sized (le_at 2 j 0) j
  unfolding printed_sized
  sized = rw (with-site, a.sizes, a.lengths)

  whole : printed i ≡ printed j
  unfolding printed
  whole = rw (sized, a.lengths)

pub same-lines : SameLines
unfolding SameLines
same-lines i j a = whole i j a
