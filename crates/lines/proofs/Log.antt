-- What is printed, frame by frame; and that it depends on the answers alone.
-- Assumes nothing.
use mathlib.Core.Path.{◌≡◌, refl, ap, ap₂}
use mathlib.Core.Bool.{Bool, true, false}
use mathlib.Core.List.{List, [], ◌∷◌, ◌++◌, append_assoc}
use Prim.Native.Nat.{ℕ, zero, suc, ◌≤◌, ◌<◌}
use native.Mathlib.Omega.{arith}
use lib.ListN.{length, take, drop, length-drop}
use borrow.Author.Tests.{lt-ltb, le-ltb}
use Rattle.meaning.specs.Receive.{Received, received}
use Rattle.lines.specs.Text.{line_of}
use Rattle.lines.specs.Log.{none, with, items_by, items, answers, lines_from, ending, printed_from}

-- ---- the items
-- a bound that is large enough does not matter
enough : (j k : ℕ) (l : List ℕ) → length l ≤ j → length l ≤ k → items_by j l ≡ items_by k l
unfolding items_by
enough zero zero [] h g = refl
enough zero (suc k) [] h g = refl
enough (suc j) zero [] h g = refl
enough (suc j) (suc k) [] h g = refl
enough zero k (n ∷ l) h g = absurd (omega arith)
enough (suc j) zero (n ∷ l) h g = absurd (omega arith)
enough (suc j) (suc k) (n ∷ l) h g =
    rw (enough j k (drop n l) (omega (arith, length-drop n l)) (omega (arith, length-drop n l)))

pub items-frame : (n : ℕ) (l : List ℕ) → n ≤ length l → items (n ∷ l) ≡ with (take n l) (items (drop n l))
unfolding items items_by
items-frame n l h =
    rw (le-ltb (length l) n h)
    (ap (with (take n l)) (enough (length l) (length (drop n l)) (drop n l) (omega (arith, length-drop n l)) (omega arith)))

pub items-cut : (n : ℕ) (l : List ℕ) → length l < n → items (n ∷ l) ≡ none true
unfolding items items_by
items-cut n l h = rw (lt-ltb (length l) n h)

pub items-end : items [] ≡ none false
unfolding items items_by
items-end = refl

-- ---- what is printed
module _ (k : ℕ) (s o : List ℕ) where
  pub printed-frame : (n : ℕ) (l : List ℕ) → n ≤ length l
      → printed_from k s o (n ∷ l)
      ≡ line_of k (received s (take n l) o).answer.status (received s (take n l) o).answer.private
      ++ printed_from (suc k) (received s (take n l) o).site (received s (take n l) o).out (drop n l)
  unfolding printed_from answers lines_from
  printed-frame n l h = rw (items-frame n l h) (append_assoc (line_of k _ _) _ _)

-- equal answers, equal lines
pub printed-same : (k : ℕ) (s t o p l m : List ℕ) → answers s o (items l).frames ≡ answers t p (items m).frames → (items l).cut ≡ (items m).cut
    → printed_from k s o l ≡ printed_from k t p m
unfolding printed_from
printed-same k s t o p l m e c = ap₂ (λ (a : List Received) (b : Bool). lines_from k a ++ ending b) e c
