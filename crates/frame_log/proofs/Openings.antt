-- How an input begins, from what is at hand of it; and the site that its file is loaded to.
-- Assumes nothing.
use mathlib.Core.Path.{◌≡◌, refl, sym, ap, ◌∙◌}
use mathlib.Core.Bool.{Bool, true, false}
use mathlib.Core.List.{List}
use Prim.Native.Nat.{ℕ, ◌+◌, ◌-◌, ◌≤◌, ◌<◌}
use native.Mathlib.Omega.{arith}
use lib.ListN.{length, replicate}
use lib.Dec.{ltb}
use borrow.Author.Tests.{ltb-true, ltb-false}
use Rattle.std.specs.Prelude.{Result, Ok, Err, is_ok}
use Rattle.std.proofs.Common.{lit<}
use Rattle.meaning.proofs.Scan.{pick-all}
use Rattle.meaning.specs.Octets.{le_at}
use Rattle.meaning.specs.File.{file_most, file_rule}
use Rattle.meaning.specs.Site.{site_len, site_rule}
use Rattle.meaning.specs.Status.{status, number}
use Rattle.meaning.specs.Loading.{empty_site, Loaded, bridged, loaded, site_of}
use Rattle.meaning.specs.declared.Refusal.{Refusal}
use Rattle.meaning.specs.declared.Refusal.TheVariants.{
  Site,
  Room,
  Length,
  Fcs,
  Malformed,
  Filtered,
  UnsupportedLegacy,
  UnsupportedSecurity,
  UnavailableSecurityLevel,
  ImproperSecurityLevel,
  UnavailableKey,
  ImproperKeyType,
  UnavailableDevice,
  CounterError,
  SecurityError,
  FrameTooLong,
  InvalidParameter,
}
use Rattle.meaning.proofs.Bridges.{empty-length, load-done, load-refused, no-site-of, site-of-rule}
use Rattle.frame_log.specs.Opening.{opening_of, opening_sized, Opened}
use Rattle.frame_log.specs.declared.opening.Fault.{Fault}
use Rattle.frame_log.specs.declared.opening.Fault.TheVariants.{Cut, Long}

-- ---- the ways it begins
pub data Begins (i : List ℕ) : Result ℕ Fault → Type 0 where
  short : length i < 2 → Begins i (Err Cut)
  some : 2 ≤ length i → le_at 2 i 0 ≤ file_most → length i - 2 < le_at 2 i 0 → Begins i (Err Cut)
  long : 2 ≤ length i → file_most < le_at 2 i 0 → Begins i (Err Long)
  full : 2 ≤ length i → le_at 2 i 0 ≤ file_most → le_at 2 i 0 ≤ length i - 2 → Begins i (Ok (le_at 2 i 0))

pub begins : (i : List ℕ) → Begins i (opening_of i)
unfolding opening_of opening_sized
begins i =
    pick-all (Begins i) (ltb (length i) 2) _ _ (λ e. short (ltb-true _ _ e))
    (λ e. pick-all (Begins i) (ltb file_most (le_at 2 i 0)) _ _ (λ f. long (ltb-false _ _ e) (ltb-true _ _ f))
    (λ f. pick-all (Begins i) (ltb (length i - 2) (le_at 2 i 0)) _ _ (λ h. some (ltb-false _ _ e) (ltb-false _ _ f) (ltb-true _ _ h))
    (λ h. full (ltb-false _ _ e) (ltb-false _ _ f) (ltb-false _ _ h))))

fits : {i : List ℕ} {r : Result ℕ Fault} (n : ℕ) → Begins i r → r ≡ Ok n → (n ≤ file_most) × (2 + n ≤ length i)
fits n (short h) e = absurd (let z : ◌≡◌ {A = ℕ} 0 1 = cc in omega arith)
fits n (some h l k) e = absurd (let z : ◌≡◌ {A = ℕ} 0 1 = cc in omega arith)
fits n (long h l) e = absurd (let z : ◌≡◌ {A = ℕ} 0 1 = cc in omega arith)
fits {i} n (full h l k) e = let q : le_at 2 i 0 ≡ n = cc in (omega arith, omega arith)

-- what a file's length says
pub file-fits : (i : List ℕ) (r : Result ℕ Fault) (n : ℕ) → r ≡ opening_of i → r ≡ Ok n → (n ≤ file_most) × (2 + n ≤ length i)
file-fits i r n p q = fits n (begins i) (sym p ∙ q)

-- ---- a refusal's number is not success's
above-0 : (r : Refusal) → 0 < number r
unfolding number
above-0 Site = lit< tt
above-0 Room = lit< tt
above-0 Length = lit< tt
above-0 Fcs = lit< tt
above-0 Malformed = lit< tt
above-0 Filtered = lit< tt
above-0 UnsupportedLegacy = lit< tt
above-0 UnsupportedSecurity = lit< tt
above-0 UnavailableSecurityLevel = lit< tt
above-0 ImproperSecurityLevel = lit< tt
above-0 UnavailableKey = lit< tt
above-0 ImproperKeyType = lit< tt
above-0 UnavailableDevice = lit< tt
above-0 CounterError = lit< tt
above-0 SecurityError = lit< tt
above-0 FrameTooLong = lit< tt
above-0 InvalidParameter = lit< tt

-- ---- loading into zeros; r is what `load` answers
module _ (f z s : List ℕ) (r : Result (Unit {0}) Refusal) (h : z ≡ empty_site) (e : bridged (status r) s ≡ loaded f z) where
  all : bridged (status r) s ≡ loaded f empty_site
  all = e ∙ ap (loaded f) h

  loaded-site : s ≡ site_of f
  unfolding site_of
  loaded-site = ap (λ (x : Loaded). x.site) all

  told : status r ≡ (loaded f empty_site).status
  told = ap (λ (x : Loaded). x.status) all

  loaded-rule : is_ok r ≡ site_rule s
  loaded-rule = told-by (file_rule f) refl r told ∙ sym (site-of-rule f) ∙ ap site_rule (sym loaded-site)
    where
      told-by : (c : Bool) → file_rule f ≡ c → (r : Result (Unit {0}) Refusal) → status r ≡ (loaded f empty_site).status → is_ok r ≡ file_rule f
      told-by true d (Ok x) q = sym d
      told-by true d (Err x) q = absurd (let l = rw (load-done f empty_site d empty-length) at q in omega (arith, above-0 x))
      told-by false d (Ok x) q = absurd (let l = rw (load-refused f empty_site d) at q in omega arith)
      told-by false d (Err x) q = sym d

  pub opened-by : Opened f (is_ok r) s
  opened-by = record { site = loaded-site; rule = loaded-rule }

-- what is not loaded leaves zeros
pub none-zeros : {f s : List ℕ} {ok : Bool} → Opened f ok s → ok ≡ false → s ≡ empty_site
none-zeros {f} p n = p.site ∙ no-site-of f (sym (site-of-rule f) ∙ ap site_rule (sym p.site) ∙ sym p.rule ∙ n)

pub zeros-are : replicate site_len 0 ≡ empty_site
unfolding empty_site
zeros-are = refl
