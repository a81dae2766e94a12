-- What the tests and the loop over the entries come to, each over what the callees ensure. Assumes nothing.
use mathlib.Core.Path.{◌≡◌, refl}
use Prim.Native.Nat.{ℕ, ◌+◌, ◌*◌, ◌≤◌, ◌<◌}
use native.Mathlib.Numerals.{add-one}
use native.Mathlib.Omega.{arith}
use mathlib.Core.Bool.{false}
use mathlib.Core.List.{List}
use lib.ListN.{length}
use lib.Dec.{eqb}
use borrow.Author.Tests.{le-leb, lt-leb}
use Rattle.meaning.specs.Octets.{every}
use Rattle.meaning.specs.Records.{kinds, width_of, start_by}
use Rattle.meaning.specs.File.{contents_len, file_count, start_of, entry_right, contents_right}
use Rattle.meaning.proofs.Scan.{Kept, every-end}

-- ---- the entries
pub start-first : (f : List ℕ) → contents_len ≡ start_of f 0
unfolding start_of start_by
start-first f = refl

pub start-more : (f : List ℕ) (k a u : ℕ) → a ≡ start_of f k → u ≡ width_of k * file_count f k → a + u ≡ start_of f (k + 1)
unfolding start_of start_by
start-more f k a u d e = rw (add-one, d, e)

pub contents-short : (f : List ℕ) → length f < contents_len → false ≡ contents_right f
unfolding contents_right
contents-short f h = rw (lt-leb contents_len (length f) h)

pub contents-fails : (f : List ℕ) → contents_len ≤ length f → false ≡ every (entry_right f) kinds → false ≡ contents_right f
unfolding contents_right
contents-fails f h e = rw (le-leb contents_len (length f) h, ← e)

pub contents-done : (f : List ℕ) (k a : ℕ) → contents_len ≤ length f → Kept (entry_right f) kinds k → kinds ≤ k
    → a ≡ start_of f k → eqb (length f) a ≡ contents_right f
unfolding contents_right
contents-done f k a h w l d =
    let e : k ≡ kinds = omega (arith, w.passed.within) in
    rw (le-leb contents_len (length f) h, ← every-end (entry_right f) kinds k w l, d, e)
