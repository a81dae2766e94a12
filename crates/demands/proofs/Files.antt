-- Two files that are alike keep the rules together and load to sites that are alike: their tables of contents agree, every body but the keys' lies
-- before or after the keys, and each kind is written alike in both. Assumes nothing.
use mathlib.Core.Path.{◌≡◌, refl, sym, ap, ap₂, ◌∙◌}
use Prim.Native.Nat.{ℕ, zero, suc, ◌+◌, ◌*◌, ◌≤◌, ◌<◌}
use native.Mathlib.Decide.{dec_lt}
use native.Mathlib.Omega.{arith}
use mathlib.Core.Bool.{Bool, true, false, ◌&&◌}
use mathlib.Core.List.{List}
use lib.ListN.{length, get_or, take, drop}
use lib.Seq.{sets, length-sets, get_or-take, take-length, take_all}
use lib.Dec.{leb, eqb}
use Rattle.meaning.specs.Octets.{le_at, octs}
use Rattle.meaning.specs.Records.{keys, lookups, kinds, width_of, limit_of, start_by, records, store_rule}
use Rattle.meaning.specs.File.{entry_len, contents_len, file_count, file_place, start_of, entry_right, contents_right, file_body, file_tables, file_store, file_rule}
use Rattle.meaning.specs.Site.{place_of}
use Rattle.meaning.specs.Loading.{with_body, site_with, site_from}
use Rattle.meaning.proofs.Lists.{take-pre, drop-pre, drop_more}
use Rattle.meaning.proofs.Tests.{and-on}
use Rattle.meaning.proofs.Scan.{every-same}
use Rattle.meaning.proofs.Stores.{take-sets}
use Rattle.meaning.proofs.Numbers.{le_at-take, length-octs}
use Rattle.meaning.proofs.Records.{tables-same}
use Rattle.meaning.proofs.Regions.{place-past, place-apart, fits}
use Rattle.meaning.proofs.Files.{contents-limit, contents-past, contents-apart, length-file, file-contents, file-store}
use Rattle.meaning.proofs.Bridges.{from-rule}
use Rattle.demands.specs.Secrecy.{AlikeSites}
use Rattle.demands.specs.Loading.{file_keys_at, file_keys_len, AlikeFiles}
use Rattle.demands.proofs.Alike.{Outside, take-same, drop-past, store-outside, from-outside}

-- ---- one kind written in both
module _ (s t : List ℕ) (a : Outside s t) where
  header : (k n : ℕ) → k < kinds → Outside (sets s (2 * k) (octs 2 n)) (sets t (2 * k) (octs 2 n))
  header k n h =
      let l : 2 * k + length (octs 2 n) ≤ place_of lookups = omega (arith, length-octs 2 n, place-past lookups) in
      record {
        lengths = length-sets s (2 * k) (octs 2 n) ∙ a.lengths ∙ sym (length-sets t (2 * k) (octs 2 n));
        before = take-same (octs 2 n) s t (2 * k) (place_of keys) a.before;
        after = drop-past (octs 2 n) (octs 2 n) s t (2 * k) (place_of lookups) l l a.after;
      }

  -- any keys in the keys' region
  keys-outside : (b c : List ℕ) → length b ≤ width_of keys * limit_of keys → length c ≤ width_of keys * limit_of keys
      → Outside (sets s (place_of keys) b) (sets t (place_of keys) c)
  keys-outside b c h l =
      let g = place-apart keys lookups (omega arith) in
      record {
        lengths = length-sets s (place_of keys) b ∙ a.lengths ∙ sym (length-sets t (place_of keys) c);
        before = take-sets b s (place_of keys) (place_of keys) (omega arith) ∙ a.before ∙ sym (take-sets c t (place_of keys) (place_of keys) (omega arith));
        after = drop-past b c s t (place_of keys) (place_of lookups) (omega arith) (omega arith) a.after;
      }

with-outside : (s t : List ℕ) → Outside s t → (k : ℕ) (b : List ℕ) → k < kinds → (k ≡ keys → ⊥) → length b ≤ width_of k * limit_of k
    → Outside (with_body s k b) (with_body t k b)
unfolding with_body
with-outside s t a k b h d room =
    let e : place_of k + 0 ≡ place_of k = omega arith in
    rw e at (store-outside _ _ (header s t a k (records (width_of k) b) h) k 0 b d (omega arith))

with-keys-outside : (s t : List ℕ) → Outside s t → (b c : List ℕ) → length b ≡ length c → length b ≤ width_of keys * limit_of keys
    → Outside (with_body s keys b) (with_body t keys c)
unfolding with_body
with-keys-outside s t a b c l room =
    rw (← l) (keys-outside _ _ (header s t a keys (records (width_of keys) b) (omega arith)) b c room (omega arith))

-- ---- two files that are equal outside the keys
record Beside (f g : List ℕ) : Type 0 where
  lengths : length f ≡ length g
  before : take (file_place f keys) f ≡ take (file_place f keys) g
  after : drop (file_place f keys + width_of keys * file_count f keys) f ≡ drop (file_place f keys + width_of keys * file_count f keys) g

module _ (f g : List ℕ) (right : contents_right f ≡ true) (a : Beside f g) where
  alike-contents : take contents_len f ≡ take contents_len g
  alike-contents = take-pre (file_place f keys) f g a.before contents_len (contents-past f right keys (omega arith))

  number-same : (i : ℕ) → i + 2 ≤ contents_len → le_at 2 f i ≡ le_at 2 g i
  number-same i h =
      sym (le_at-take 2 f contents_len i h) ∙ ap (λ (r : List ℕ). le_at 2 r i) alike-contents ∙ le_at-take 2 g contents_len i h

  octet-same : (i : ℕ) → i < contents_len → get_or f i 0 ≡ get_or g i 0
  octet-same i h =
      sym (get_or-take contents_len f i 0 h) ∙ ap (λ (r : List ℕ). get_or r i 0) alike-contents ∙ get_or-take contents_len g i 0 h

  count-same : (k : ℕ) → k < kinds → file_count f k ≡ file_count g k
  unfolding file_count
  count-same k h = number-same (entry_len * k + 2) (omega arith)

  place-same : (k : ℕ) → k < kinds → file_place f k ≡ file_place g k
  unfolding file_place
  place-same k h = number-same (entry_len * k + 4) (omega arith)

  start-same : (k : ℕ) → k ≤ kinds → start_of f k ≡ start_of g k
  unfolding start_of start_by
  start-same zero h = refl
  start-same (suc k) h = ap₂ (λ (m n : ℕ). m + width_of k * n) (start-same k (omega arith)) (count-same k (omega arith))

  entry-same : (k : ℕ) → k < kinds → entry_right f k ≡ entry_right g k
  unfolding entry_right
  entry-same k h =
      rw (
        octet-same (entry_len * k) (omega arith),
        octet-same (entry_len * k + 1) (omega arith),
        count-same k h,
        place-same k h,
        start-same k (omega arith),
      )

  contents-same : contents_right f ≡ contents_right g
  unfolding contents_right
  contents-same =
      ap₂ (λ (x y : Bool). x && y) (ap (leb contents_len) a.lengths)
      (ap₂ (λ (x y : Bool). x && y) (every-same (entry_right f) (entry_right g) kinds entry-same) (ap₂ eqb a.lengths (start-same kinds (omega arith))))

  file-body : (k : ℕ) → k < kinds → (k ≡ keys → ⊥) → file_body f k ≡ file_body g k
  unfolding file_body
  file-body k h d = rw (← place-same k h, ← count-same k h) (by (dec_lt k keys))
    where
      by : Dec (k < keys)
          → take (width_of k * file_count f k) (drop (file_place f k) f) ≡ take (width_of k * file_count f k) (drop (file_place f k) g)
      by (yes l) =
          drop-pre (file_place f k) (width_of k * file_count f k) f g
          (take-pre (file_place f keys) f g a.before (file_place f k + width_of k * file_count f k) (contents-apart f right k keys l (omega arith)))
      by (no n) =
          ap (take (width_of k * file_count f k))
          (drop_more (file_place f keys + width_of keys * file_count f keys) (file_place f k) f g a.after (contents-apart f right keys k (omega arith) h))

  file-keys : length (file_body f keys) ≡ length (file_body g keys)
  file-keys =
      length-file f right keys (omega arith) ∙ ap (λ (n : ℕ). width_of keys * n) (count-same keys (omega arith))
      ∙ sym (length-file g (sym contents-same ∙ right) keys (omega arith))

  small : (k : ℕ) → k < kinds → length (file_body f k) ≤ width_of k * limit_of k
  small k h = omega (arith, length-file f right k h, fits k (file_count f k) (contents-limit f right k h))

  to-outside : (n : ℕ) → n ≤ kinds → Outside (site_with (file_body f) n) (site_with (file_body g) n)
  unfolding site_with
  to-outside zero h = record { lengths = refl; before = refl; after = refl }
  to-outside (suc n) h = by (to-outside n (omega arith)) (dec_lt n keys) (dec_lt keys n)
    where
      Next : ℕ → Type 0
      Next k = Outside (with_body (site_with (file_body f) k) k (file_body f k)) (with_body (site_with (file_body g) k) k (file_body g k))

      other : Outside (site_with (file_body f) n) (site_with (file_body g) n) → (n ≡ keys → ⊥) → Next n
      other w d = rw (← file-body n (omega arith) d) (with-outside _ _ w n (file_body f n) (omega arith) d (small n (omega arith)))

      by : Outside (site_with (file_body f) n) (site_with (file_body g) n) → Dec (n < keys) → Dec (keys < n) → Next n
      by w (yes l) z = other w (λ e. omega arith)
      by w (no l) (yes m) = other w (λ e. omega arith)
      by w (no l) (no m) =
          let e : n ≡ keys = omega arith in
          rw e (with-keys-outside _ _ (rw e at w) (file_body f keys) (file_body g keys) file-keys (small keys (omega arith)))

  stores-same : store_rule (file_store f) ≡ store_rule (file_store g)
  unfolding store_rule file_store file_tables
  stores-same = rw (file-keys, tables-same (file_body f) (file_body g) file-body)

-- ---- two alike files
module _ (f g : List ℕ) (rule : file_rule f ≡ true) (a : AlikeFiles f g) where
  beside : Beside f g
  unfolding file_keys_at file_keys_len
  beside = record { lengths = a.lengths; before = rw rule at a.before; after = rw rule at a.after }

  -- the second keeps the rules too
  pub files-rule : file_rule g ≡ true
  unfolding file_rule
  files-rule =
      and-on _ _ (sym (contents-same f g (file-contents f rule) beside) ∙ file-contents f rule)
      (sym (stores-same f g (file-contents f rule) beside) ∙ file-store f rule)

  from-both : Outside (site_from f) (site_from g)
  unfolding site_from
  from-both = to-outside f g (file-contents f rule) beside kinds (omega arith)

  -- and they load to alike sites
  pub from-alike : AlikeSites (site_from f) (site_from g)
  from-alike = from-outside (site_from f) (site_from g) (from-rule f rule) from-both

-- two alike files that break a rule are equal
pub files-broken : (f g : List ℕ) → file_rule f ≡ false → AlikeFiles f g → f ≡ g
unfolding file_keys_at
files-broken f g broken a =
    let e : take (length f) f ≡ take (length f) g = rw broken at a.before in
    let l : length g ≤ length f = omega (arith, a.lengths) in
    sym (take-length f) ∙ e ∙ take_all (length f) g l
