-- Lists of octets: a part of one, a store in one, and what a file loads to are lists of octets again. Each by its own steps. Assumes nothing.
use Prim.Native.Nat.{ℕ, zero, suc, ◌+◌, ◌*◌, ◌/◌, ◌<◌}
use native.Mathlib.Nat.{mod-lt}
use native.Mathlib.Omega.{arith}
use mathlib.Core.Bool.{true}
use mathlib.Core.Path.{◌≡◌}
use mathlib.Core.List.{List, [], ◌∷◌}
use lib.ListN.{take, drop, set, replicate}
use lib.Seq.{sets, get_or-drop}
use Rattle.meaning.specs.Octets.{octs}
use Rattle.meaning.specs.Records.{kinds, width_of, records}
use Rattle.meaning.specs.Site.{place_of, site_len}
use Rattle.meaning.specs.File.{file_count, file_place, file_body, file_rule}
use Rattle.meaning.specs.Loading.{with_body, empty_site, site_with, site_from, site_of}
use Rattle.meaning.proofs.Bridges.{site-of}
use Rattle.demands.specs.Round.{Octets}

-- ---- a part
pub take-octets : (n : ℕ) (s : List ℕ) → Octets s → Octets (take n s)
unfolding Octets
take-octets zero s h i = omega arith
take-octets (suc n) [] h i = omega arith
take-octets (suc n) (x ∷ s) h zero = h 0
take-octets (suc n) (x ∷ s) h (suc i) = take-octets n s (λ j. h (suc j)) i

pub drop-octets : (n : ℕ) (s : List ℕ) → Octets s → Octets (drop n s)
unfolding Octets
drop-octets n s h i = rw (get_or-drop n s i 0) (h (n + i))

-- ---- a store
set-octets : (s : List ℕ) (i x : ℕ) → Octets s → x < 256 → Octets (set s i x)
unfolding Octets
set-octets [] i x h l j = omega arith
set-octets (y ∷ s) zero x h l zero = l
set-octets (y ∷ s) zero x h l (suc j) = h (suc j)
set-octets (y ∷ s) (suc i) x h l zero = h 0
set-octets (y ∷ s) (suc i) x h l (suc j) = set-octets s i x (λ k. h (suc k)) l j

sets-octets : (xs s : List ℕ) (i : ℕ) → Octets s → Octets xs → Octets (sets s i xs)
unfolding Octets
sets-octets [] s i h l = h
sets-octets (x ∷ xs) s i h l = sets-octets xs (set s i x) (suc i) (set-octets s i x h (l 0)) (λ j. l (suc j))

octs-octets : (k n : ℕ) → Octets (octs k n)
unfolding Octets octs
octs-octets zero n i = omega arith
octs-octets (suc k) n zero = mod-lt n (omega arith)
octs-octets (suc k) n (suc i) = octs-octets k (n / 256) i

-- ---- a loaded file
zeros-octets : (n : ℕ) → Octets (replicate n 0)
unfolding Octets
zeros-octets zero i = omega arith
zeros-octets (suc n) zero = omega arith
zeros-octets (suc n) (suc i) = zeros-octets n i

module _ (f : List ℕ) (h : Octets f) where
  body-octets : (k : ℕ) → Octets (file_body f k)
  unfolding file_body
  body-octets k = take-octets (width_of k * file_count f k) (drop (file_place f k) f) (drop-octets (file_place f k) f h)

  with-octets : (n : ℕ) → Octets (site_with (file_body f) n)
  unfolding site_with with_body empty_site
  with-octets zero = zeros-octets site_len
  with-octets (suc n) =
      sets-octets (file_body f n) (sets (site_with (file_body f) n) (2 * n) (octs 2 (records (width_of n) (file_body f n)))) (place_of n)
      (sets-octets (octs 2 (records (width_of n) (file_body f n))) (site_with (file_body f) n) (2 * n) (with-octets n) (octs-octets 2 _)) (body-octets n)

  from-octets : Octets (site_from f)
  unfolding site_from
  from-octets = with-octets kinds

  pub site-octets : file_rule f ≡ true → Octets (site_of f)
  site-octets rule = rw (site-of f rule) from-octets
