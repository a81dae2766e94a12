-- Loading, as statements: the bridge from a site file to a site carries demands 1 to 3 over. Assumes nothing: these are definitions.
-- file_keys_at, file_keys_len   where the key octets of a file stand
-- AlikeFiles                two files that are equal outside them
-- Loads                     one listed status, a refusal changes nothing, and a success has the file's store
-- LoadsAlike                alike files load to alike sites
-- SameRecords, FreeOctets   two sites that differ in free octets alone answer alike
use Rattle.std.specs.Prelude.{ℕ, ◌+◌, ◌*◌, ◌<◌, ◌≡◌, ◌≢◌, true, List, length, take, drop, eqb}
use Rattle.meaning.specs.Octets.{pick}
use Rattle.meaning.specs.Records.{keys, kinds, width_of}
use Rattle.meaning.specs.File.{file_count, file_place, file_store, file_rule}
use Rattle.meaning.specs.Site.{site_len, count_of, body, store_of, site_rule}
use Rattle.meaning.specs.Loading.{loaded}
use Rattle.meaning.specs.Receive.{received}
use Rattle.meaning.specs.Build.{built}
use Rattle.meaning.specs.declared.Request.{Request}
use Rattle.demands.specs.Secrecy.{AlikeSites}

-- ---- files
-- a file that breaks a rule has no key octets
unfoldable pub file_keys_at : List ℕ → ℕ
file_keys_at f = pick (file_rule f) (file_place f keys) (length f)

unfoldable pub file_keys_len : List ℕ → ℕ
file_keys_len f = pick (file_rule f) (width_of keys * file_count f keys) 0

pub record AlikeFiles (f g : List ℕ) : Type 0 where
  pub lengths : length f ≡ length g
  pub before : take (file_keys_at f) f ≡ take (file_keys_at f) g
  pub after : drop (file_keys_at f + file_keys_len f) f ≡ drop (file_keys_at f + file_keys_len f) g

-- ---- loading file f into s, of any content and length
pub record Loads (f s : List ℕ) : Type 0 where
  -- 1 where the file breaks a rule, then 2 where s has not a site's length, else 0
  pub listed : (loaded f s).status ≡ pick (file_rule f) (pick (eqb (length s) site_len) 0 2) 1
  pub unchanged : (loaded f s).status ≢ 0 → (loaded f s).site ≡ s
  pub ruled : (loaded f s).status ≡ 0 → site_rule (loaded f s).site ≡ true
  pub stored : (loaded f s).status ≡ 0 → store_of (loaded f s).site ≡ file_store f

unfoldable pub LoadsAlike : Type 0
LoadsAlike =
    (f g s t : List ℕ) → AlikeFiles f g → AlikeSites s t
    → ((loaded f s).status ≡ (loaded g t).status) × AlikeSites (loaded f s).site (loaded g t).site

-- ---- two sites of one length with the same counts and records, whatever stands in the header past the counts and in the regions past the records
pub record SameRecords (s t : List ℕ) : Type 0 where
  pub lengths : length s ≡ length t
  pub counts : (k : ℕ) → k < kinds → count_of s k ≡ count_of t k
  pub bodies : (k : ℕ) → k < kinds → body s k ≡ body t k

-- a frame f or a request q, with payloads a and p and output o, gets one answer and one output at both
pub record FreeOctets (s t : List ℕ) : Type 0 where
  pub stores : store_of s ≡ store_of t
  pub rules : site_rule s ≡ site_rule t
  pub receiving : (f o : List ℕ) → ((received s f o).answer ≡ (received t f o).answer) × ((received s f o).out ≡ (received t f o).out)
  pub building : (q : Request) (a p o : List ℕ) → ((built s q a p o).answer ≡ (built t q a p o).answer) × ((built s q a p o).out ≡ (built t q a p o).out)
