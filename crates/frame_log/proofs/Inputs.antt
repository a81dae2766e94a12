-- What is printed of an input, by how its first octets begin. i: those octets, y: the others.
-- Assumes nothing.
use Rattle.std.proofs.Common.{◌≡◌, ℕ, ◌+◌, ◌-◌, ◌≤◌, ◌<◌, List, [], ◌++◌, length, take, drop, replicate, sym, ap, ap₂, ◌∙◌, arith, append-nil, length-append, length-drop}
use lib.Seq.{take-append-le, drop-append-le}
use lib.ListN.{get_or-append}
use borrow.Author.Tests.{lt-ltb, le-ltb}
use Rattle.meaning.specs.Octets.{le_at, part}
use Rattle.meaning.specs.Records.{width_of, limit_of, start_by}
use Rattle.meaning.specs.File.{file_most}
use Rattle.meaning.specs.Loading.{site_of}
use Rattle.lines.specs.Text.{heading, cut_line, site_line}
use Rattle.lines.specs.Log.{printed_from, printed_with, printed_sized, printed}
use Rattle.std.specs.Prelude.{Result, Ok, Err}
use Rattle.frame_log.specs.Opening.{opening_of}
use Rattle.frame_log.specs.declared.opening.Fault.{Fault}
use Rattle.frame_log.specs.declared.opening.Fault.TheVariants.{Cut, Long}
use Rattle.frame_log.proofs.Openings.{Begins, short, some, long, full, begins}
use Rattle.frame_log.proofs.Rounds.{left}

module _ (i y : List ℕ) where
  front : 2 ≤ length i → le_at 2 (i ++ y) 0 ≡ le_at 2 i 0
  unfolding le_at
  front h = rw (get_or-append i y 0 0 (omega arith), get_or-append i y 0 1 (omega arith))

  longer : length i ≤ length (i ++ y)
  longer = omega (arith, length-append i y)

  sized : 2 ≤ length i → printed (i ++ y) ≡ heading ++ printed_sized (le_at 2 i 0) (i ++ y)
  unfolding printed
  sized h = let l : 2 ≤ length (i ++ y) = omega (arith, longer) in rw (le-ltb (length (i ++ y)) 2 l, front h)

  long-printed : 2 ≤ length i → file_most < le_at 2 i 0 → printed (i ++ y) ≡ heading ++ site_line
  unfolding printed_sized
  long-printed h l = sized h ∙ rw (lt-ltb file_most (le_at 2 i 0) l)

  full-printed : 2 ≤ length i → le_at 2 i 0 ≤ file_most → le_at 2 i 0 ≤ length i - 2 → printed (i ++ y) ≡ heading ++ printed_with (le_at 2 i 0) (i ++ y)
  unfolding printed_sized
  full-printed h l k =
      let w : le_at 2 i 0 ≤ length (i ++ y) - 2 = omega (arith, longer) in
      sized h ∙ rw (le-ltb file_most (le_at 2 i 0) l, le-ltb (length (i ++ y) - 2) (le_at 2 i 0) w)

short-printed : (i : List ℕ) → length i < 2 → printed (i ++ []) ≡ heading ++ cut_line
unfolding printed
short-printed i h = rw append-nil (rw (lt-ltb (length i) 2 h))

some-printed : (i : List ℕ) → 2 ≤ length i → le_at 2 i 0 ≤ file_most → length i - 2 < le_at 2 i 0 → printed (i ++ []) ≡ heading ++ cut_line
unfolding printed printed_sized
some-printed i h l k = rw append-nil (rw (le-ltb (length i) 2 h, le-ltb file_most (le_at 2 i 0) l, lt-ltb (length i - 2) (le_at 2 i 0) k))

-- ---- by what the program found
cut-by : {i : List ℕ} {r : Result ℕ Fault} → Begins i r → r ≡ Err Cut → (length i < 4096) × (printed (i ++ []) ≡ heading ++ cut_line)
unfolding file_most start_by width_of limit_of
cut-by {i} (short h) e = (omega arith, short-printed i h)
cut-by {i} (some h l k) e = (omega arith, some-printed i h l k)
cut-by (long h l) e = absurd (let z : ◌≡◌ {A = ℕ} 0 1 = cc in omega arith)
cut-by (full h l k) e = absurd (let z : ◌≡◌ {A = ℕ} 0 1 = cc in omega arith)

long-by : {i : List ℕ} {r : Result ℕ Fault} → Begins i r → r ≡ Err Long → (y : List ℕ) → printed (i ++ y) ≡ heading ++ site_line
long-by {i} (long h l) e y = long-printed i y h l
long-by (short h) e y = absurd (let z : ◌≡◌ {A = ℕ} 0 1 = cc in omega arith)
long-by (some h l k) e y = absurd (let z : ◌≡◌ {A = ℕ} 0 1 = cc in omega arith)
long-by (full h l k) e y = absurd (let z : ◌≡◌ {A = ℕ} 0 1 = cc in omega arith)

full-by : {i : List ℕ} {r : Result ℕ Fault} (n : ℕ) → Begins i r → r ≡ Ok n → (2 + n ≤ length i) × ((y : List ℕ) → printed (i ++ y) ≡ heading ++ printed_with n (i ++ y))
full-by n (short h) e = absurd (let z : ◌≡◌ {A = ℕ} 0 1 = cc in omega arith)
full-by n (some h l k) e = absurd (let z : ◌≡◌ {A = ℕ} 0 1 = cc in omega arith)
full-by n (long h l) e = absurd (let z : ◌≡◌ {A = ℕ} 0 1 = cc in omega arith)
full-by {i} n (full h l k) e =
    let q : le_at 2 i 0 ≡ n = cc in
    (omega arith, λ y. full-printed i y h l k ∙ ap (λ (m : ℕ). heading ++ printed_with m (i ++ y)) q)

module _ (i : List ℕ) (r : Result ℕ Fault) (p : r ≡ opening_of i) where
  pub cut-printed : r ≡ Err Cut → (length i < 4096) × (printed (i ++ []) ≡ heading ++ cut_line)
  cut-printed e = cut-by (begins i) (sym p ∙ e)

  pub site-long : r ≡ Err Long → (y : List ℕ) → printed (i ++ y) ≡ heading ++ site_line
  site-long e = long-by (begins i) (sym p ∙ e)

  pub site-printed : (n : ℕ) → r ≡ Ok n → (s : List ℕ) → s ≡ site_of (take n (drop 2 i)) → (y : List ℕ)
      → printed (i ++ y) ≡ heading ++ left 1 s (replicate 127 0) (drop (2 + n) i) y
  unfolding printed_with
  site-printed n e s site y =
      let w = full-by n (begins i) (sym p ∙ e) in
      let h : 2 + n ≤ length i = w.0 in
      let held : part 2 n (i ++ y) ≡ take n (drop 2 i) =
      ap (take n) (drop-append-le 2 i y (omega arith)) ∙ take-append-le n (drop 2 i) y (omega (arith, length-drop 2 i)) in
      let more : drop (2 + n) (i ++ y) ≡ drop (2 + n) i ++ y = drop-append-le (2 + n) i y h in
      w.1 y ∙ ap₂ (λ (u v : List ℕ). heading ++ printed_from 1 u (replicate 127 0) v) (ap site_of held ∙ sym site) more
