-- Where the records of each kind lie: one kind after another; in a site, past the header; and what a store in one region leaves of the others. Assumes nothing.
use mathlib.Core.Path.{◌≡◌, refl}
use Prim.Native.Nat.{ℕ, zero, suc, ◌+◌, ◌*◌, ◌-◌, ◌≤◌, ◌<◌}
use native.Mathlib.Decide.{dec_lt}
use native.Mathlib.Nat.{mul-le-mul_left}
use native.Mathlib.Omega.{arith}
use mathlib.Core.List.{List}
use lib.ListN.{length}
use lib.Seq.{sets}
use lib.Dec.{ltb}
use borrow.Author.Tests.{ltb-true}
use Rattle.meaning.specs.Octets.{part}
use Rattle.meaning.specs.Records.{kinds, width_of, limit_of, start_by}
use Rattle.meaning.proofs.Scan.{every-at}
use Rattle.meaning.proofs.Stores.{part-before, part-after, part-in}
use Rattle.meaning.proofs.Numbers.{le_at-sets-before}
use Rattle.meaning.specs.Site.{header_len, place_of, site_len, count_of, body}

-- ---- where records start
module _ (a : ℕ) (n : ℕ → ℕ) where
  pub start-past : (k : ℕ) → a ≤ start_by a n k
  unfolding start_by
  start-past zero = omega arith
  start-past (suc k) = omega (arith, start-past k)

  pub start-grows : (j d : ℕ) → start_by a n j ≤ start_by a n (j + d)
  unfolding start_by
  start-grows j zero = let e : j + 0 ≡ j = omega arith in rw e (omega arith)
  start-grows j (suc d) = let e : j + suc d ≡ suc (j + d) = omega arith in rw e (omega (arith, start-grows j d))

  -- the records of kind j end before those of kind k start
  pub start-apart : (j k : ℕ) → j < k → start_by a n j + width_of j * n j ≤ start_by a n k
  unfolding start_by
  start-apart j k h = let e : suc j + (k - suc j) ≡ k = omega arith in rw e at (start-grows (suc j) (k - suc j))

-- ---- the places
pub place-grows : (j d : ℕ) → place_of j ≤ place_of (j + d)
unfolding place_of
place-grows = start-grows header_len limit_of

pub place-past : (k : ℕ) → header_len ≤ place_of k
unfolding place_of
place-past = start-past header_len limit_of

-- region j ends before region k begins
pub place-apart : (j k : ℕ) → j < k → place_of j + width_of j * limit_of j ≤ place_of k
unfolding place_of
place-apart = start-apart header_len limit_of

pub place-inside : (k : ℕ) → k < kinds → place_of k + width_of k * limit_of k ≤ site_len
unfolding site_len
place-inside k h = place-apart k kinds h

-- the header is inside
pub header-inside : header_len ≤ site_len
unfolding site_len
header-inside = place-past kinds

-- n records fit into their region
pub fits : (k n : ℕ) → n ≤ limit_of k → width_of k * n ≤ width_of k * limit_of k
fits k n h = mul-le-mul_left (width_of k) h

pub limit-small : (k : ℕ) → k < kinds → limit_of k < 65536
unfolding limit_of
limit-small k h = ltb-true (limit_of k) 65536 (every-at (λ j. ltb (limit_of j) 65536) kinds refl k h)

pub width-some : (k : ℕ) → k < kinds → 0 < width_of k
unfolding width_of
width-some k h = ltb-true 0 (width_of k) (every-at (λ j. ltb 0 (width_of j)) kinds refl k h)

pub width-small : (k : ℕ) → k < kinds → width_of k < 256
unfolding width_of
width-small k h = ltb-true (width_of k) 256 (every-at (λ j. ltb (width_of j) 256) kinds refl k h)

-- ---- octets xs stored in region k, from its octet o on
module _ (s : List ℕ) (k o : ℕ) (xs : List ℕ) where
  -- the header stays
  pub count-store : (j : ℕ) → j < kinds → count_of (sets s (place_of k + o) xs) j ≡ count_of s j
  unfolding count_of
  count-store j h = le_at-sets-before 2 xs s (place_of k + o) (2 * j) (omega (arith, place-past k))

  -- and n records of another kind
  part-store : (j n : ℕ) → (j ≡ k → ⊥) → n ≤ limit_of j → o + length xs ≤ width_of k * limit_of k
      → part (place_of j) (width_of j * n) (sets s (place_of k + o) xs) ≡ part (place_of j) (width_of j * n) s
  part-store j n d few room = by (dec_lt j k)
    where
      by : Dec (j < k) → part (place_of j) (width_of j * n) (sets s (place_of k + o) xs) ≡ part (place_of j) (width_of j * n) s
      by (yes l) = part-before xs s (place_of k + o) (place_of j) (width_of j * n) (omega (arith, place-apart j k l, fits j n few))
      by (no m) = part-after xs s (place_of k + o) (place_of j) (width_of j * n) (omega (arith, place-apart k j (omega arith)))

  pub body-store : (j : ℕ) → j < kinds → (j ≡ k → ⊥) → count_of s j ≤ limit_of j → o + length xs ≤ width_of k * limit_of k
      → body (sets s (place_of k + o) xs) j ≡ body s j
  unfolding body
  body-store j h d few room = rw (count-store j h) (part-store j (count_of s j) d few room)

  -- in its own body
  pub stored-body : k < kinds → o + length xs ≤ width_of k * count_of s k → body (sets s (place_of k + o) xs) k ≡ sets (body s k) o xs
  unfolding body
  stored-body h room = rw (count-store k h) (part-in xs s o (place_of k) (width_of k * count_of s k) room)
