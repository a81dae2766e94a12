-- What the loops, stores and answers of `load` come to, each over what the callees ensure. Assumes nothing.
use mathlib.Core.Path.{◌≡◌, sym, ap, ◌∙◌}
use Prim.Native.Nat.{ℕ, ◌+◌, ◌*◌, ◌≤◌, ◌<◌}
use native.Mathlib.Numerals.{add-one}
use native.Mathlib.Omega.{arith}
use mathlib.Core.Bool.{true}
use mathlib.Core.List.{List}
use lib.ListN.{length, replicate, length-replicate}
use lib.Seq.{sets, length-sets}
use Rattle.meaning.specs.Octets.{octs}
use Rattle.meaning.specs.Records.{kinds, width_of, records}
use Rattle.meaning.specs.File.{file_count, file_body, file_rule}
use Rattle.meaning.specs.Site.{place_of, site_len}
use Rattle.meaning.specs.Loading.{with_body, empty_site, site_with, site_from, bridged, loaded}
use Rattle.meaning.proofs.Records.{records-whole}
use Rattle.meaning.proofs.Regions.{place-inside, fits, width-some}
use Rattle.meaning.proofs.Written.{with-length}
use Rattle.meaning.proofs.Files.{length-file, contents-limit, file-contents}
use Rattle.meaning.proofs.Bridges as B

-- the records of a kind fit its region, after any store
pub table-fits : (f m x xs b : List ℕ) (k i a : ℕ) → file_rule f ≡ true → length m ≡ site_len → k < kinds → x ≡ sets m i xs → b ≡ file_body f k → a ≡ place_of k
    → a + length b ≤ length x
table-fits f m x xs b k i a rule long h dx e d =
    rw (e, d, dx, length-sets m i xs, length-file f (file-contents f rule) k h)
    (omega (arith, place-inside k h, fits k (file_count f k) (contents-limit f (file-contents f rule) k h)))

pub table-put : (f m x y b : List ℕ) (t k n a : ℕ) → t ≡ k → file_rule f ≡ true → k < kinds → n ≡ file_count f k → x ≡ sets m (2 * t) (octs 2 n) → a ≡ place_of k → b ≡ file_body f k
    → y ≡ sets x a b → y ≡ with_body m k (file_body f k)
unfolding with_body
table-put f m x y b t k n a dt rule h dn dx da db e =
    let c : records (width_of k) (file_body f k) ≡ file_count f k =
    records-whole (width_of k) (file_count f k) (file_body f k) (width-some k h) (length-file f (file-contents f rule) k h)
    in e ∙ rw (dx, dt, da, db, c, dn)

-- the records of the kinds below k stand in m
pub record Standing (f : List ℕ) (k : ℕ) (m : List ℕ) : Type 0 where
  pub within : k ≤ kinds
  pub same : m ≡ site_with (file_body f) k
  pub long : length m ≡ site_len

pub standing-none : (f s m : List ℕ) → length s ≡ site_len → m ≡ replicate (length s) 0 → Standing f 0 m
unfolding site_with empty_site
standing-none f s m h e =
    record { within = omega arith; same = e ∙ ap (λ (n : ℕ). replicate n 0) h; long = ap length e ∙ length-replicate (length s) 0 ∙ h }

pub standing-more : (f m x : List ℕ) (k : ℕ) → Standing f k m → k < kinds → x ≡ with_body m k (file_body f k) → Standing f (k + 1) x
unfolding site_with
standing-more f m x k w h e =
    record {
      within = omega arith;
      same = rw (add-one, e, w.same);
      long = ap length e ∙ with-length m k (file_body f k) ∙ w.long;
    }

pub standing-end : (f m : List ℕ) (k : ℕ) → Standing f k m → kinds ≤ k → m ≡ site_from f
unfolding site_from
standing-end f m k w h = let e : k ≡ kinds = omega (arith, w.within) in rw e at w.same

-- ---- the whole
pub loads : (f m x : List ℕ) → file_rule f ≡ true → length m ≡ site_len → x ≡ site_from f → bridged 0 x ≡ loaded f m
loads f m x h l e = rw e (sym (B.load-done f m h l))
