-- What is left at the end of the input: its octets are no whole frame, so that no line but its ending is printed.
-- Assumes nothing.
use Rattle.std.proofs.Common.{◌≡◌, ℕ, ◌<◌, Bool, true, false, List, [], ◌∷◌, ◌++◌, length, get_or, refl, ap, ◌∙◌, arith, append-nil, None}
use Rattle.std.specs.Bool.{then_some, ◌==◌}
use Rattle.std.proofs.lemmas.Bool.Decides.{nat_tests}
use lib.Dec.{leb, ltb}
use borrow.Author.Tests.{lt-ltb, leb-false}
use Rattle.lines.specs.Text.{cut_line}
use Rattle.lines.specs.Log.{answers, lines_from, ending, printed_from}
use Rattle.lines.proofs.Log.{items-cut, items-end}
use Rattle.frame_log.specs.Buffers.{whole_len}

-- the line that is written
pub ending-none : (h : List ℕ) → true ≡ (length h == 0) → [] ≡ ending (ltb 0 (length h))
unfolding ending
ending-none [] e = refl
ending-none (x ∷ l) e = absurd (grind (arith, nat_tests))

pub ending-cut : (h : List ℕ) → false ≡ (length h == 0) → cut_line ≡ ending (ltb 0 (length h))
unfolding ending
ending-cut [] e = absurd (grind (arith, nat_tests))
ending-cut (x ∷ l) e = rw (lt-ltb 0 (length (x ∷ l)) (omega arith)) refl

-- a length octet and fewer octets than it says
not-whole : (n : ℕ) (l : List ℕ) → whole_len (n ∷ l) ≡ None → length l < n
unfolding whole_len
not-whole n l e = by (leb n (length l)) refl e
  where
    by : (t : Bool) → leb n (length l) ≡ t → then_some t n ≡ None → length l < n
    by true q e = absurd (let z : ◌≡◌ {A = ℕ} 0 1 = cc in omega arith)
    by false q e = leb-false n (length l) q

-- with 256 octets at hand a frame is whole
pub frame-short : (h : List ℕ) → get_or h 0 0 < 256 → whole_len h ≡ None → length h < 256
frame-short [] v e = omega arith
frame-short (n ∷ l) v e = let w = not-whole n l e in omega arith

module _ (k : ℕ) (s o : List ℕ) where
  printed-none : printed_from k s o [] ≡ ending false
  unfolding printed_from answers lines_from
  printed-none = rw items-end

  printed-cut : (v : ℕ) (l : List ℕ) → length l < v → printed_from k s o (v ∷ l) ≡ ending true
  unfolding printed_from answers lines_from
  printed-cut v l h = rw (items-cut v l h)

  pub printed-ending : (h : List ℕ) → whole_len h ≡ None → printed_from k s o (h ++ []) ≡ ending (ltb 0 (length h))
  printed-ending [] e = printed-none
  printed-ending (n ∷ l) e = rw (lt-ltb 0 (length (n ∷ l)) (omega arith)) (ap (λ (x : List ℕ). printed_from k s o x) (append-nil (n ∷ l)) ∙ printed-cut n l (not-whole n l e))
