-- What the log finds in its input. It ends inside an item exactly where the frames, each with its length octet, take fewer octets than there are;
-- and an input put together of a file and frames gives them back: both item by item. So frames that pair up make inputs that are alike.
-- Assumes nothing.
use mathlib.Core.Path.{◌≡◌, refl, sym, ap, ap₂, ◌∙◌}
use mathlib.Core.Bool.{Bool, true, false}
use mathlib.Core.List.{List, [], ◌∷◌, ◌++◌, append-nil}
use Prim.Native.Nat.{ℕ, zero, suc, ◌+◌, ◌-◌, ◌≤◌, ◌<◌, ◌^◌}
use native.Mathlib.Omega.{arith}
use lib.Dec.{ltb}
use lib.ListN.{length, take, drop, replicate, length-append, length-drop}
use lib.Seq.{take_at, drop_at, length-take-le, drop-drop}
use borrow.Author.Tests.{ltb-true, ltb-false, lt-ltb, le-ltb}
use Rattle.meaning.specs.Octets.{le_at, octs}
use Rattle.meaning.specs.Records.{width_of, limit_of, start_by}
use Rattle.meaning.specs.File.{file_most}
use Rattle.meaning.specs.Loading.{site_of}
use Rattle.meaning.specs.Receive.{received}
use Rattle.meaning.proofs.Numbers.{length-octs, le_at-octs}
use Rattle.lines.specs.Text.{heading}
use Rattle.lines.specs.Log.{items, answers, lines_from, ending, printed_from, printed_with, printed_sized, printed}
use Rattle.lines.proofs.Log.{items-frame, items-cut, items-end}
use Rattle.demands.specs.Secrecy.{Paired}
use Rattle.demands.specs.Loading.{AlikeFiles}
use Rattle.demands.specs.Lines.{file_in, rest_in, AlikeInputs, framed, input_of}

-- ---- where an input ends
-- the octets that frames take
abbrev taken : List (List ℕ) → ℕ
taken [] = 0
taken (f ∷ fs) = suc (length f + taken fs)

less-same : (a b c d : ℕ) → (a < b → c < d) → (b ≤ a → d ≤ c) → ltb a b ≡ ltb c d
less-same a b c d h g = by (ltb a b) refl
  where
    by : (t : Bool) → ltb a b ≡ t → ltb a b ≡ ltb c d
    by true e = e ∙ sym (lt-ltb c d (h (ltb-true a b e)))
    by false e = e ∙ sym (le-ltb c d (g (ltb-false a b e)))

-- octets end inside an item where the frames take fewer
abbrev Cut : List ℕ → Type 0
Cut l = (items l).cut ≡ ltb (taken (items l).frames) (length l)

cut-item : (n : ℕ) (l : List ℕ) → Cut (drop n l) → Cut (n ∷ l)
cut-item n l c = by (ltb (length l) n) refl
  where
    r : List (List ℕ)
    r = (items (drop n l)).frames

    by : (t : Bool) → ltb (length l) n ≡ t → Cut (n ∷ l)
    by true e = rw (items-cut n l (ltb-true (length l) n e)) (sym (lt-ltb 0 (suc (length l)) (omega arith)))
    by false e =
        let b : n ≤ length l = ltb-false (length l) n e in
        let m : length (take n l) ≡ n = length-take-le n l b in
        let k : length (drop n l) + n ≡ length l = omega (arith, length-drop n l) in
        rw (items-frame n l b)
        (c ∙ less-same (taken r) (length (drop n l)) (taken (take n l ∷ r)) (suc (length l)) (λ x. omega arith) (λ x. omega arith))

-- of at most k octets
cut-by : (k : ℕ) (l : List ℕ) → length l ≤ k → Cut l
cut-by zero [] h = rw items-end
cut-by (suc k) [] h = rw items-end
cut-by zero (n ∷ l) h = absurd (omega arith)
cut-by (suc k) (n ∷ l) h = cut-item n l (cut-by k (drop n l) (omega (arith, length-drop n l)))

-- frames that pair up take equally many
taken-paired : (s t o p : List ℕ) (fs gs : List (List ℕ)) → Paired s t o p fs gs → taken fs ≡ taken gs
taken-paired s t o p [] [] a = refl
taken-paired s t o p [] (g ∷ gs) a = absurd a
taken-paired s t o p (f ∷ fs) [] a = absurd a
taken-paired s t o p (f ∷ fs) (g ∷ gs) a =
    ap₂ (λ (m n : ℕ). suc (m + n)) a.0.lengths
    (taken-paired (received s f o).site (received t g p).site (received s f o).out (received t g p).out fs gs a.1)

pub cuts-same : (s t o p l m : List ℕ) → length l ≡ length m → Paired s t o p (items l).frames (items m).frames → (items l).cut ≡ (items m).cut
cuts-same s t o p l m e a =
    cut-by (length l) l (omega arith) ∙ ap₂ ltb (taken-paired s t o p (items l).frames (items m).frames a) e
    ∙ sym (cut-by (length m) m (omega arith))

-- ---- an input put together
items-framed : (fs : List (List ℕ)) → items (framed fs) ≡ record { frames = fs; cut = false }
unfolding framed
items-framed [] = items-end
items-framed (f ∷ fs) =
    rw (
      items-frame (length f) (f ++ framed fs) (omega (arith, length-append f (framed fs))),
      take_at f (framed fs) (length f) refl,
      drop_at f (framed fs) (length f) refl,
      items-framed fs,
    )

module _ (f : List ℕ) (fs : List (List ℕ)) (h : length f < 256 ^ 2) where
  size-in : le_at 2 (input_of f fs) 0 ≡ length f
  unfolding input_of
  size-in = le_at-octs 2 (length f) (f ++ framed fs) h

  after : drop 2 (input_of f fs) ≡ f ++ framed fs
  unfolding input_of
  after = drop_at (octs 2 (length f)) (f ++ framed fs) 2 (length-octs 2 (length f))

  file-in : file_in (input_of f fs) ≡ f
  unfolding file_in
  file-in = rw (size-in, after) (take_at f (framed fs) (length f) refl)

  rest-in : rest_in (input_of f fs) ≡ framed fs
  unfolding rest_in
  rest-in = rw size-in (sym (drop-drop (length f) 2 (input_of f fs)) ∙ rw after (drop_at f (framed fs) (length f) refl))

  frames-in : (items (rest_in (input_of f fs))).frames ≡ fs
  frames-in = rw (rest-in, items-framed fs)

length-framed : (fs : List (List ℕ)) → length (framed fs) ≡ taken fs
unfolding framed
length-framed [] = refl
length-framed (f ∷ fs) = ap suc (length-append f (framed fs) ∙ ap (λ (n : ℕ). length f + n) (length-framed fs))

length-input : (f : List ℕ) (fs : List (List ℕ)) → length (input_of f fs) ≡ 2 + (length f + taken fs)
unfolding input_of
length-input f fs =
    length-append (octs 2 (length f)) (f ++ framed fs)
    ∙ ap₂ (λ (m n : ℕ). m + n) (length-octs 2 (length f)) (length-append f (framed fs) ∙ ap (λ (n : ℕ). length f + n) (length-framed fs))

-- alike files, and frames that pair up where they are loaded
pub inputs-of : (f g : List ℕ) (fs gs : List (List ℕ)) → length f < 256 ^ 2 → AlikeFiles f g
    → Paired (site_of f) (site_of g) (replicate 127 0) (replicate 127 0) fs gs → AlikeInputs (input_of f fs) (input_of g gs)
inputs-of f g fs gs h a p =
    let k : length g < 256 ^ 2 = rw (← a.lengths) h in
    record {
      lengths =
          length-input f fs
          ∙ ap₂ (λ (m n : ℕ). 2 + (m + n)) a.lengths (taken-paired (site_of f) (site_of g) (replicate 127 0) (replicate 127 0) fs gs p)
          ∙ sym (length-input g gs);
      sizes = size-in f fs h ∙ a.lengths ∙ sym (size-in g gs k);
      files = rw (file-in f fs h, file-in g gs k) a;
      frames = rw (file-in f fs h, file-in g gs k, frames-in f fs h, frames-in g gs k) p;
    }

-- ---- what is printed of it: a line for each frame
with-parts : (i : List ℕ) → printed_with (le_at 2 i 0) i ≡ printed_from 1 (site_of (file_in i)) (replicate 127 0) (rest_in i)
unfolding printed_with file_in rest_in
with-parts i = refl

most-small : file_most < 256 ^ 2
unfolding file_most start_by width_of limit_of
most-small = omega arith

module _ (f : List ℕ) (fs : List (List ℕ)) (h : length f ≤ file_most) where
  short : length f < 256 ^ 2
  short = omega (arith, most-small)

  with-frames : printed_with (le_at 2 (input_of f fs) 0) (input_of f fs) ≡ lines_from 1 (answers (site_of f) (replicate 127 0) fs)
  unfolding printed_from ending
  with-frames =
      with-parts (input_of f fs)
      ∙ rw (file-in f fs short, rest-in f fs short, items-framed fs) (append-nil (lines_from 1 (answers (site_of f) (replicate 127 0) fs)))

  pub printed-of : printed (input_of f fs) ≡ heading ++ lines_from 1 (answers (site_of f) (replicate 127 0) fs)
  unfolding printed printed_sized
  printed-of =
      let l : length (input_of f fs) ≡ 2 + (length f + taken fs) = length-input f fs in
      let n : le_at 2 (input_of f fs) 0 ≡ length f = size-in f fs short in
      rw (
        with-frames,
        le-ltb (length (input_of f fs)) 2 (omega arith),
        le-ltb file_most (le_at 2 (input_of f fs) 0) (omega arith),
        le-ltb (length (input_of f fs) - 2) (le_at 2 (input_of f fs) 0) (omega arith),
      )
