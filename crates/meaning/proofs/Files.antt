-- What the table of contents of a right file says: its counts, and where each body lies. Assumes nothing.
use mathlib.Core.Path.{◌≡◌}
use Prim.Native.Nat.{ℕ, ◌+◌, ◌*◌, ◌≤◌, ◌<◌}
use native.Mathlib.Omega.{arith}
use mathlib.Core.Bool.{true, ◌&&◌}
use mathlib.Core.List.{List}
use lib.ListN.{length, get_or, drop, length-drop}
use lib.Seq.{length-take-le}
use lib.Dec.{leb, eqb}
use borrow.Author.Tests.{eqb-true}
use Rattle.meaning.specs.Octets.{every}
use Rattle.meaning.specs.Records.{kinds, width_of, limit_of, least_of, count_right, store_rule}
use Rattle.meaning.specs.File.{entry_len, contents_len, file_count, file_place, start_of, entry_right, contents_right, file_body, file_store, file_rule}
use Rattle.meaning.proofs.Lists.{and_both}
use Rattle.meaning.proofs.Scan.{every-at}
use Rattle.meaning.proofs.Records.{count-least, count-limit}
use Rattle.meaning.proofs.Regions.{start-past, start-apart}

-- ---- the table of contents
module _ (f : List ℕ) (right : contents_right f ≡ true) where
  contents-entries : (every (entry_right f) kinds && eqb (length f) (start_of f kinds)) ≡ true
  unfolding contents_right
  contents-entries = (and_both (leb contents_len (length f)) _ right).1

  contents-end : length f ≡ start_of f kinds
  contents-end = eqb-true (length f) (start_of f kinds) (and_both (every (entry_right f) kinds) _ contents-entries).1

  -- an entry's tests of count and offset
  contents-entry : (k : ℕ) → k < kinds
      → (count_right k (file_count f k) && eqb (file_place f k) (start_of f k)) ≡ true
  unfolding entry_right
  contents-entry k h =
      (and_both (eqb (get_or f (entry_len * k + 1) 0) (width_of k)) _
      (and_both (eqb (get_or f (entry_len * k) 0) (k + 1)) _ (every-at (entry_right f) kinds (and_both _ _ contents-entries).0 k h)).1).1

  pub contents-least : (k : ℕ) → k < kinds → least_of k ≤ file_count f k
  contents-least k h = count-least k (file_count f k) (and_both _ _ (contents-entry k h)).0

  pub contents-limit : (k : ℕ) → k < kinds → file_count f k ≤ limit_of k
  contents-limit k h = count-limit k (file_count f k) (and_both _ _ (contents-entry k h)).0

  pub contents-place : (k : ℕ) → k < kinds → file_place f k ≡ start_of f k
  contents-place k h = eqb-true (file_place f k) (start_of f k) (and_both (count_right k (file_count f k)) _ (contents-entry k h)).1

  -- a body starts past the table of contents, ends before the next, and lies inside
  pub contents-past : (k : ℕ) → k < kinds → contents_len ≤ file_place f k
  unfolding start_of
  contents-past k h = omega (arith, contents-place k h, start-past contents_len (file_count f) k)

  pub contents-apart : (j k : ℕ) → j < k → k < kinds → file_place f j + width_of j * file_count f j ≤ file_place f k
  unfolding start_of
  contents-apart j k h l =
      omega (arith, contents-place j (omega arith), contents-place k l, start-apart contents_len (file_count f) j k h)

  pub contents-inside : (k : ℕ) → k < kinds → file_place f k + width_of k * file_count f k ≤ length f
  unfolding start_of
  contents-inside k h = omega (arith, contents-place k h, contents-end, start-apart contents_len (file_count f) k kinds h)

  pub length-file : (k : ℕ) → k < kinds → length (file_body f k) ≡ width_of k * file_count f k
  unfolding file_body
  length-file k h =
      length-take-le (width_of k * file_count f k) (drop (file_place f k) f) (omega (arith, contents-inside k h, length-drop (file_place f k) f))

-- ---- the rules
module _ (f : List ℕ) (rule : file_rule f ≡ true) where
  pub file-contents : contents_right f ≡ true
  unfolding file_rule
  file-contents = (and_both _ _ rule).0

  pub file-store : store_rule (file_store f) ≡ true
  unfolding file_rule
  file-store = (and_both (contents_right f) _ rule).1
