-- One kind written: its count and body are the new ones, every other count and body stays. Assumes nothing.
use mathlib.Core.Path.{◌≡◌, sym, ◌∙◌}
use Prim.Native.Nat.{ℕ, ◌+◌, ◌*◌, ◌≤◌, ◌<◌}
use native.Mathlib.Decide.{dec_lt}
use native.Mathlib.Omega.{arith}
use mathlib.Core.List.{List}
use lib.ListN.{length, drop, length-drop}
use lib.Seq.{sets, length-sets, length-take-le}
use Rattle.meaning.specs.Octets.{part, le_at, octs}
use Rattle.meaning.specs.Records.{kinds, width_of, limit_of, records}
use Rattle.meaning.proofs.Stores.{part-after, part-in, sets-whole}
use Rattle.meaning.proofs.Numbers.{length-octs, le_at-sets-before, le_at-sets-after, le_at-stored}
use Rattle.meaning.specs.Site.{place_of, site_len, count_of, body}
use Rattle.meaning.specs.Loading.{with_body}
use Rattle.meaning.proofs.Records.{records-whole}
use Rattle.meaning.proofs.Regions.{place-past, place-inside, fits, limit-small, width-some, count-store, body-store}

pub with-length : (m : List ℕ) (k : ℕ) (b : List ℕ) → length (with_body m k b) ≡ length m
unfolding with_body
with-length m k b = length-sets (sets m (2 * k) (octs 2 (records (width_of k) b))) (place_of k) b ∙ length-sets m (2 * k) (octs 2 (records (width_of k) b))

-- a count, stored in the header
module _ (m : List ℕ) (k n : ℕ) (h : k < kinds) where
  counts-other : (j : ℕ) → j < kinds → (j ≡ k → ⊥) → count_of (sets m (2 * k) (octs 2 n)) j ≡ count_of m j
  unfolding count_of
  counts-other j l d = by (dec_lt j k)
    where
      by : Dec (j < k) → le_at 2 (sets m (2 * k) (octs 2 n)) (2 * j) ≡ le_at 2 m (2 * j)
      by (yes z) = le_at-sets-before 2 (octs 2 n) m (2 * k) (2 * j) (omega arith)
      by (no z) = le_at-sets-after 2 (octs 2 n) m (2 * k) (2 * j) (omega (arith, length-octs 2 n))

  bodies-stay : (j : ℕ) → j < kinds → (j ≡ k → ⊥) → body (sets m (2 * k) (octs 2 n)) j ≡ body m j
  unfolding body
  bodies-stay j l d =
      rw (counts-other j l d)
      (part-after (octs 2 n) m (2 * k) (place_of j) (width_of j * count_of m j) (omega (arith, length-octs 2 n, place-past j)))

-- n records of kind k, written into a site
module _ (m : List ℕ) (k : ℕ) (b : List ℕ) (n : ℕ) (long : length m ≡ site_len) (h : k < kinds) (whole : length b ≡ width_of k * n)
    (few : n ≤ limit_of k) where
  number : records (width_of k) b ≡ n
  number = records-whole (width_of k) n b (width-some k h) whole

  inside : place_of k + length b ≤ length m
  inside = omega (arith, place-inside k h, fits k n few)

  -- the store of its records, with the offset that the laws of regions want
  written : with_body m k b ≡ sets (sets m (2 * k) (octs 2 n)) (place_of k + 0) b
  unfolding with_body
  written = let e : place_of k + 0 ≡ place_of k = omega arith in rw (number, e)

  pub with-count : count_of (with_body m k b) k ≡ n
  unfolding count_of
  with-count =
      rw written
      (count-store (sets m (2 * k) (octs 2 n)) k 0 b k h
      ∙ le_at-stored 2 n m (2 * k) (omega (arith, place-past k, inside)) (omega (arith, limit-small k h)))

  pub with-other-count : (j : ℕ) → j < kinds → (j ≡ k → ⊥) → count_of (with_body m k b) j ≡ count_of m j
  with-other-count j l d = rw written (count-store (sets m (2 * k) (octs 2 n)) k 0 b j l ∙ counts-other m k n h j l d)

  pub with-body : body (with_body m k b) k ≡ b
  unfolding body
  with-body =
      let r : List ℕ = sets m (2 * k) (octs 2 n) in
      let l : length r ≡ length m = length-sets m (2 * k) (octs 2 n) in
      rw (with-count, written)
      (part-in b r 0 (place_of k) (width_of k * n) (omega arith)
      ∙ sets-whole b (part (place_of k) (width_of k * n) r)
      (length-take-le (width_of k * n) (drop (place_of k) r) (omega (arith, inside, length-drop (place_of k) r)) ∙ sym whole))

  pub with-other-body : (j : ℕ) → j < kinds → (j ≡ k → ⊥) → count_of m j ≤ limit_of j → body (with_body m k b) j ≡ body m j
  with-other-body j l d c =
      rw written
      (body-store (sets m (2 * k) (octs 2 n)) k 0 b j l d (rw (counts-other m k n h j l d) c) (omega (arith, fits k n few))
      ∙ bodies-stay m k n h j l d)
