-- Loading: the only bridge from a file to a site. Assumes nothing: these are definitions.
-- with_body    one kind written: its count, and its records at the front of its region; all other octets stay
-- site_with    a site with given bodies, and zeros elsewhere
-- site_from    the site that a file makes
-- loaded      loading on the octets that a caller lends: a refusal changes nothing
-- site_of      loading into zeros
use Rattle.std.specs.Prelude.{ℕ, zero, suc, ◌*◌, List, length, replicate, eqb}
use Rattle.std.proofs.lemmas.List.Edits.{sets}
use Rattle.meaning.specs.Octets.{pick, octs}
use Rattle.meaning.specs.Status.{number}
use Rattle.meaning.specs.Records.{kinds, width_of, records}
use Rattle.meaning.specs.File.{file_body, file_rule}
use Rattle.meaning.specs.Site.{place_of, site_len}
use Rattle.meaning.specs.declared.Refusal.TheVariants.{Site, Room}

unfoldable pub with_body : List ℕ → ℕ → List ℕ → List ℕ
with_body s k b = sets (sets s (2 * k) (octs 2 (records (width_of k) b))) (place_of k) b

unfoldable pub empty_site : List ℕ
empty_site = replicate site_len 0

-- the bodies b of the kinds below n
unfoldable pub site_with : (ℕ → List ℕ) → ℕ → List ℕ
site_with b zero = empty_site
site_with b (suc k) = with_body (site_with b k) k (b k)

unfoldable pub site_from : List ℕ → List ℕ
site_from f = site_with (file_body f) kinds

-- what is lent, afterwards
pub record Loaded : Type 0 where
  pub status : ℕ
  pub site : List ℕ

abbrev pub bridged : ℕ → List ℕ → Loaded
bridged n s = record { status = n; site = s }

-- file f, site s: 1 where the file breaks a rule, 2 where s has not the length of a site
unfoldable pub loaded : List ℕ → List ℕ → Loaded
loaded f s =
    pick (file_rule f) (pick (eqb (length s) site_len) (bridged 0 (site_from f)) (bridged (number Room) s)) (bridged (number Site) s)

-- a buffer of zeros after loading; where the file breaks a rule it stays zeros, which are no site
unfoldable pub site_of : List ℕ → List ℕ
site_of f = (loaded f empty_site).site
