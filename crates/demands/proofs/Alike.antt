-- Two sites that are alike hold the rules together, stand for the same tables and counters, and are alike again where both raise one counter:
-- their headers agree, every region but the keys' lies before or after the keys' region, and so do all counters. Assumes nothing.
use mathlib.Core.Path.{◌≡◌, refl, sym, ap, ap₂, ◌∙◌}
use Prim.Native.Nat.{ℕ, suc, ◌+◌, ◌*◌, ◌-◌, ◌≤◌, ◌<◌}
use native.Mathlib.Decide.{dec_lt}
use native.Mathlib.Omega.{arith}
use mathlib.Core.Bool.{Bool, true, false, ◌&&◌}
use mathlib.Core.List.{List, [], ◌∷◌}
use lib.ListN.{length, take, drop, set}
use lib.Seq.{sets, length-sets, take-length, take_all, take-set-le, take-set-lt}
use Rattle.meaning.specs.Octets.{le_at, octs}
use Rattle.meaning.specs.Records.{settings, devices, keys, lookups, kinds, width_of, limit_of, start_by, Tables, store_rule}
use Rattle.meaning.specs.Site.{count_of, place_of, layout_right, body, site_rule, settings_of, tables_of, store_of}
use Rattle.meaning.specs.Receive.{raise, raised_in}
use Rattle.meaning.proofs.Lists.{take-pre, drop-pre, drop_more}
use Rattle.meaning.proofs.Stores.{drop-sets, drop-sets-add}
use Rattle.meaning.proofs.Numbers.{le_at-take, length-octs}
use Rattle.meaning.proofs.Records.{tables-same}
use Rattle.meaning.proofs.Regions.{place-past, place-apart, place-grows, fits}
use Rattle.meaning.proofs.Sites.{rule-layout, layout-same, layout-limit, layout-body, rule-limit}
use Rattle.demands.specs.Secrecy.{keys_at, keys_len, AlikeSites}

-- equal outside the keys' region
pub record Outside (s t : List ℕ) : Type 0 where
  pub lengths : length s ≡ length t
  pub before : take (place_of keys) s ≡ take (place_of keys) t
  pub after : drop (place_of lookups) s ≡ drop (place_of lookups) t

-- ---- the same stored in both
module _ {A : Type 0} where
  take-set-same : (s t : List A) (i j : ℕ) (x : A) → take j s ≡ take j t → take j (set s i x) ≡ take j (set t i x)
  take-set-same s t i j x e = by (dec_lt i j)
    where
      by : Dec (i < j) → take j (set s i x) ≡ take j (set t i x)
      by (yes l) = take-set-lt j s i x l ∙ ap (λ (r : List A). set r i x) e ∙ sym (take-set-lt j t i x l)
      by (no n) = take-set-le j s i x (omega arith) ∙ e ∙ sym (take-set-le j t i x (omega arith))

  pub take-same : (xs s t : List A) (i j : ℕ) → take j s ≡ take j t → take j (sets s i xs) ≡ take j (sets t i xs)
  take-same [] s t i j e = e
  take-same (x ∷ xs) s t i j e = take-same xs (set s i x) (set t i x) (suc i) j (take-set-same s t i j x e)

  -- past what is stored, or all of it past the place
  pub drop-past : (xs ys s t : List A) (i j : ℕ) → i + length xs ≤ j → i + length ys ≤ j → drop j s ≡ drop j t → drop j (sets s i xs) ≡ drop j (sets t i ys)
  drop-past xs ys s t i j h l e = drop-sets xs s i j h ∙ e ∙ sym (drop-sets ys t i j l)

  drop-same : (xs s t : List A) (i j : ℕ) → j ≤ i → drop j s ≡ drop j t → drop j (sets s i xs) ≡ drop j (sets t i xs)
  drop-same xs s t i j h e =
      let k : i ≡ j + (i - j) = omega arith in
      rw (k, drop-sets-add xs s (i - j) j, drop-sets-add xs t (i - j) j) (ap (λ (r : List A). sets r (i - j) xs) e)

-- ---- two alike sites
module _ (s t : List ℕ) (a : Outside s t) where
  outside-count : (k : ℕ) → k < kinds → count_of s k ≡ count_of t k
  unfolding count_of
  outside-count k h =
      sym (le_at-take 2 s (place_of keys) (2 * k) (omega (arith, place-past keys))) ∙ ap (λ (r : List ℕ). le_at 2 r (2 * k)) a.before
      ∙ le_at-take 2 t (place_of keys) (2 * k) (omega (arith, place-past keys))

  outside-layout : layout_right s ≡ layout_right t
  outside-layout = layout-same s t a.lengths outside-count

  module _ (layout : layout_right s ≡ true) where
    outside-body : (k : ℕ) → k < kinds → (k ≡ keys → ⊥) → body s k ≡ body t k
    unfolding body
    outside-body k h d = rw (← outside-count k h) (by (dec_lt k keys))
      where
        by : Dec (k < keys)
            → take (width_of k * count_of s k) (drop (place_of k) s) ≡ take (width_of k * count_of s k) (drop (place_of k) t)
        by (yes l) =
            drop-pre (place_of k) (width_of k * count_of s k) s t
            (take-pre (place_of keys) s t a.before (place_of k + width_of k * count_of s k)
            (omega (arith, place-apart k keys l, fits k (count_of s k) (layout-limit s layout k h))))
        by (no n) =
            let e : lookups + (k - lookups) ≡ k = omega arith in
            ap (take (width_of k * count_of s k)) (drop_more (place_of lookups) (place_of k) s t a.after (rw e at (place-grows lookups (k - lookups))))

    outside-tables : tables_of s ≡ tables_of t
    unfolding tables_of settings_of
    outside-tables = tables-same (body s) (body t) outside-body

    outside-counters : (store_of s).counters ≡ (store_of t).counters
    unfolding store_of
    outside-counters = rw (outside-body devices (omega arith) (λ e. omega arith))

    outside-own : (store_of s).own ≡ (store_of t).own
    unfolding store_of
    outside-own = rw (outside-body settings (omega arith) (λ e. omega arith))

-- the number of keys is not theirs
outside-keys : (s t : List ℕ) → Outside s t → layout_right s ≡ true → length (body s keys) ≡ length (body t keys)
outside-keys s t a layout =
    layout-body s layout keys (omega arith) ∙ ap (λ (n : ℕ). width_of keys * n) (outside-count s t a keys (omega arith))
    ∙ sym (layout-body t (sym (outside-layout s t a) ∙ layout) keys (omega arith))

outside-store : (s t : List ℕ) → Outside s t → layout_right s ≡ true → store_rule (store_of s) ≡ store_rule (store_of t)
unfolding store_rule store_of
outside-store s t a layout = rw (outside-tables s t a layout, outside-keys s t a layout)

-- also where a rule is broken
outside-rule : (s t : List ℕ) → Outside s t → site_rule s ≡ site_rule t
unfolding site_rule
outside-rule s t a = go (layout_right s) refl
  where
    go : (x : Bool) → layout_right s ≡ x → (layout_right s && store_rule (store_of s)) ≡ (layout_right t && store_rule (store_of t))
    go true e = ap₂ (λ (x y : Bool). x && y) (outside-layout s t a) (outside-store s t a e)
    go false e = rw (← outside-layout s t a, e)

-- ---- a store outside the keys' region
module _ (s t : List ℕ) (a : Outside s t) where
  -- any octets inside a region that is not the keys'
  pub store-outside : (k o : ℕ) (xs : List ℕ) → (k ≡ keys → ⊥) → o + length xs ≤ width_of k * limit_of k
      → Outside (sets s (place_of k + o) xs) (sets t (place_of k + o) xs)
  store-outside k o xs d room =
      record {
        lengths = length-sets s (place_of k + o) xs ∙ a.lengths ∙ sym (length-sets t (place_of k + o) xs);
        before = take-same xs s t (place_of k + o) (place_of keys) a.before;
        after = by (dec_lt k keys);
      }
    where
      by : Dec (k < keys) → drop (place_of lookups) (sets s (place_of k + o) xs) ≡ drop (place_of lookups) (sets t (place_of k + o) xs)
      by (yes l) =
          let h : place_of k + o + length xs ≤ place_of lookups = omega (arith, place-apart k lookups (omega arith)) in
          drop-past xs xs s t (place_of k + o) (place_of lookups) h h a.after
      by (no n) =
          let e : lookups + (k - lookups) ≡ k = omega arith in
          let g : place_of lookups ≤ place_of k = rw e at (place-grows lookups (k - lookups)) in
          drop-same xs s t (place_of k + o) (place_of lookups) (omega arith) a.after

-- ---- where the key octets stand
module _ (s : List ℕ) (rule : site_rule s ≡ true) where
  keys-at : keys_at s ≡ place_of keys
  unfolding keys_at
  keys-at = rw rule

  keys-len : keys_len s ≡ width_of keys * limit_of keys
  unfolding keys_len
  keys-len = rw rule

module _ (s : List ℕ) (broken : site_rule s ≡ false) where
  all-keyless : keys_at s ≡ length s
  unfolding keys_at
  all-keyless = rw broken

-- two alike sites that break a rule are equal
pub alike-broken : (s t : List ℕ) → site_rule s ≡ false → AlikeSites s t → s ≡ t
alike-broken s t broken a =
    let e : take (length s) s ≡ take (length s) t = rw (all-keyless s broken) at a.before in
    let l : length t ≤ length s = omega (arith, a.lengths) in
    sym (take-length s) ∙ e ∙ take_all (length s) t l

-- ---- two alike sites of which one holds the rules
past-keys : place_of keys + width_of keys * limit_of keys ≡ place_of lookups
unfolding place_of start_by
past-keys = refl

module _ (s t : List ℕ) (rule : site_rule s ≡ true) where
  to-outside : AlikeSites s t → Outside s t
  to-outside a =
      record {
        lengths = a.lengths;
        before = rw (keys-at s rule) at a.before;
        after = rw (keys-at s rule, keys-len s rule, past-keys) at a.after;
      }

  pub from-outside : Outside s t → AlikeSites s t
  from-outside a =
      record { lengths = a.lengths; before = rw (keys-at s rule) a.before; after = rw (keys-at s rule, keys-len s rule, past-keys) a.after }

module _ (s t : List ℕ) (rule : site_rule s ≡ true) (a : AlikeSites s t) where
  pub alike-rule : site_rule t ≡ true
  alike-rule = sym (outside-rule s t (to-outside s t rule a)) ∙ rule

  pub alike-tables : tables_of s ≡ tables_of t
  alike-tables = outside-tables s t (to-outside s t rule a) (rule-layout s rule)

  counters-same : (store_of s).counters ≡ (store_of t).counters
  counters-same = outside-counters s t (to-outside s t rule a) (rule-layout s rule)

  own-same : (store_of s).own ≡ (store_of t).own
  own-same = outside-own s t (to-outside s t rule a) (rule-layout s rule)

  settings-same : (store_of s).tables.settings ≡ (store_of t).tables.settings
  unfolding store_of
  settings-same = ap (λ (r : Tables). r.settings) alike-tables

-- ---- whether they hold the rules or not
pub alike-own : (s t : List ℕ) → AlikeSites s t → (store_of s).own ≡ (store_of t).own
alike-own s t a = by (site_rule s) refl
  where
    by : (c : Bool) → site_rule s ≡ c → (store_of s).own ≡ (store_of t).own
    by true e = own-same s t e a
    by false e = ap (λ (r : List ℕ). (store_of r).own) (alike-broken s t e a)

pub alike-settings : (s t : List ℕ) → AlikeSites s t → (store_of s).tables.settings ≡ (store_of t).tables.settings
alike-settings s t a = by (site_rule s) refl
  where
    by : (c : Bool) → site_rule s ≡ c → (store_of s).tables.settings ≡ (store_of t).tables.settings
    by true e = settings-same s t e a
    by false e = ap (λ (r : List ℕ). (store_of r).tables.settings) (alike-broken s t e a)

pub alike-counters : (s t : List ℕ) → AlikeSites s t → (store_of s).counters ≡ (store_of t).counters
alike-counters s t a = by (site_rule s) refl
  where
    by : (c : Bool) → site_rule s ≡ c → (store_of s).counters ≡ (store_of t).counters
    by true e = counters-same s t e a
    by false e = ap (λ (r : List ℕ). (store_of r).counters) (alike-broken s t e a)

-- it is the same which of the two is named first
pub alike-back : (s t : List ℕ) → AlikeSites s t → AlikeSites t s
alike-back s t a = by (site_rule s) refl
  where
    by : (c : Bool) → site_rule s ≡ c → AlikeSites t s
    by true e =
        let o = to-outside s t e a in
        from-outside t s (alike-rule s t e a) (record { lengths = sym o.lengths; before = sym o.before; after = sym o.after })
    by false e = rw (alike-broken s t e a) (record { lengths = refl; before = refl; after = refl })

-- ---- one counter raised in both
pub raised-alike : (s t : List ℕ) → site_rule s ≡ true → AlikeSites s t → (j d c : ℕ) → d < count_of s devices
    → site_rule (raised_in (raise j d c) s) ≡ true → AlikeSites (raised_in (raise j d c) s) (raised_in (raise j d c) t)
unfolding raised_in width_of
raised-alike s t rule a j d c there kept =
    from-outside _ _ kept
    (store-outside s t (to-outside s t rule a) devices (17 * d + 12) (octs 4 (suc c)) (λ e. omega arith)
    (omega (arith, length-octs 4 (suc c), rule-limit s rule devices (omega arith))))
