-- Kinds by their numbers, bodies by counts and places, and the rules of the decoded records by those of the octets.
-- Assumes nothing.
use mathlib.Core.Path.{◌≡◌, refl, sym, ap, ap₂, ◌∙◌}
use Prim.Native.Nat.{ℕ, ◌+◌, ◌*◌, ◌-◌, ◌≤◌, ◌<◌}
use native.Mathlib.Nat.{add-sub_cancel_left}
use native.Mathlib.Omega.{arith}
use borrow.Author.Tests.{not-false}
use mathlib.Core.Bool.{Bool, true, false, not, ◌&&◌}
use mathlib.Core.List.{List}
use lib.ListN.{length, get_or, take, drop, length-drop}
use lib.Seq.{length-take-le}
use Rattle.meaning.specs.Octets.{every, tab}
use Rattle.meaning.specs.Records.{settings, devices, levels, keys, lookups, usages, handles, kinds, width_of, records, own_at, store_rule, device_at, no_device, handle_at, tables_by, settings_right, device_right, level_right, lookup_right, usage_right, handle_right, clash, clashes, distinct, tables_rule}
use Rattle.meaning.proofs.Scan.{some-same}
use Rattle.meaning.proofs.Tabs.{length-tab, get_or-tab}
use Rattle.meaning.proofs.Records.{all-tab, records-whole}
use denote.Enum.Declared.{tag_of}
use Rattle.records.specs.contracts.Kind.{the_type}
use Rattle.records.specs.declared.Kind.{Kind}
use Rattle.records.specs.declared.Kind.TheVariants.{Settings, Devices, Levels, Keys, Lookups, Usages, Handles}
use Rattle.records.specs.Kinds.{number_of}
use Rattle.records.specs.Layouts.{body_by, holds_by}
use Rattle.records.specs.Rules.{clashes_at, distinct_at}

-- ---- kinds
-- a kind's number is one of the seven
pub kind-low : (k : Kind) → number_of k < kinds
kind-low Settings = omega arith
kind-low Devices = omega arith
kind-low Levels = omega arith
kind-low Keys = omega arith
kind-low Lookups = omega arith
kind-low Usages = omega arith
kind-low Handles = omega arith

-- ---- the decoded records, by the tests of the octets
clashes-at : (b : List ℕ) (n i : ℕ) → i < n → clashes (tab (device_at b) n) i ≡ clashes_at b i
unfolding clashes clashes_at
clashes-at b n i h =
    some-same (λ j. clash (get_or (tab (device_at b) n) i no_device) (get_or (tab (device_at b) n) j no_device)) (λ j. clash (device_at b i) (device_at b j)) i
    (λ j l. ap₂ clash (get_or-tab (device_at b) no_device n i h) (get_or-tab (device_at b) no_device n j (omega arith)))

distinct-at : (b : List ℕ) (n : ℕ) → distinct (tab (device_at b) n) ≡ distinct_at b n
unfolding distinct distinct_at
distinct-at b n =
    rw (length-tab (device_at b) n)
    (ap not (some-same (clashes (tab (device_at b) n)) (clashes_at b) n (clashes-at b n)))

-- settings t; bodies d, l, k, u, h; nk keys
abbrev pub tested : ℕ → List ℕ → List ℕ → List ℕ → List ℕ → List ℕ → List ℕ → Bool
tested nk t d l k u h =
    settings_right t
    && (every (λ i. device_right (device_at d i)) (records 17 d)
    && (every (level_right l) (records 5 l)
    && (every (lookup_right nk k) (records 22 k)
    && (every (usage_right nk u) (records 3 u)
    && (every (λ i. handle_right nk (records 17 d) (handle_at h i)) (records 2 h) && distinct_at d (records 17 d))))))

pub by-tests : (nk : ℕ) (t d l k u h : List ℕ) (x : Bool) → x ≡ tested nk t d l k u h → x ≡ tables_rule nk (tables_by t d l k u h)
unfolding tables_rule
by-tests nk t d l k u h x e =
    e
    ∙ rw (
      all-tab device_right (device_at d) (records 17 d),
      length-tab (device_at d) (records 17 d),
      all-tab (handle_right nk (records 17 d)) (handle_at h) (records 2 h),
      distinct-at d (records 17 d),
    )

-- what `as` gives of a kind
pub kind-tag : (k : Kind) → tag_of the_type k ≡ number_of k
kind-tag Settings = refl
kind-tag Devices = refl
kind-tag Levels = refl
kind-tag Keys = refl
kind-tag Lookups = refl
kind-tag Usages = refl
kind-tag Handles = refl

-- the size of a body, by a count that a callee reads
pub size-by : (w n m u : ℕ) → u ≡ w * n → n ≡ m → u ≡ w * m
size-by w n m u d e = d ∙ ap (λ k. w * k) e

-- ---- the whole rule of a file or a site: its shape, then its records; u is what the check of the shape says, b k the body of kind k
-- v is the check of the records; n is the count of the keys
pub whole-by : (shape : Bool) (b : ℕ → List ℕ) (u : Bool) → u ≡ shape → (v : Bool) (n : ℕ) (s t x l k q g : List ℕ) → not u ≡ false → length (b keys) ≡ 16 * n
    → v ≡ tables_rule n (tables_by t x l k q g) → s ≡ b settings → t ≡ take own_at s
    → x ≡ b devices → l ≡ b levels → k ≡ b lookups → q ≡ b usages → g ≡ b handles → v ≡ holds_by shape b
unfolding store_rule
whole-by shape b u d v n s t x l k q g h c e es et ex el ek eq eg =
    e ∙ rw (← d, not-false u h, records-whole 16 n (b keys) (omega arith) c, et, es, ex, el, ek, eq, eg)

-- ---- bodies: octets s; the count and place of each kind; h says that they are right
module _ (s : List ℕ) (count place : List ℕ → ℕ → ℕ) where
  pub part-is : (k a u : ℕ) → a ≡ place s k → u ≡ width_of k * count s k → take (a + u - a) (drop a s) ≡ body_by place count s k
  part-is k a u d e = rw (add-sub_cancel_left, d, e)

  pub body-length : (k : ℕ) → place s k + width_of k * count s k ≤ length s → length (body_by place count s k) ≡ width_of k * count s k
  body-length k h = length-take-le (width_of k * count s k) (drop (place s k) s) (omega (arith, length-drop (place s k) s))

  -- the settings reach past the own counter's place
  pub settings-cut : (b : List ℕ) → place s settings + width_of settings * count s settings ≤ length s → 1 ≤ count s settings
      → b ≡ body_by place count s settings → own_at ≡ length (take own_at b)
  unfolding width_of
  settings-cut b h w e = sym (length-take-le own_at b (omega (arith, ap length e, body-length settings h)))

  -- the same where the bodies are cut out of the octets
  pub whole-in : (shape : Bool) (u v : Bool) (n : ℕ) (t x l k q g : List ℕ) → u ≡ shape → u ≡ true → place s keys + width_of keys * count s keys ≤ length s
      → v ≡ tables_rule n (tables_by t x l k q g) → t ≡ take own_at (body_by place count s settings)
      → x ≡ body_by place count s devices → l ≡ body_by place count s levels → n ≡ count s keys
      → k ≡ body_by place count s lookups → q ≡ body_by place count s usages → g ≡ body_by place count s handles → v ≡ holds_by shape (body_by place count s)
  unfolding width_of
  whole-in shape u v n t x l k q g d h i e et ex el en ek eq eg =
      whole-by shape (body_by place count s) u d v n (body_by place count s settings) t x l k q g (ap not h) (rw en (body-length keys i)) e refl et ex el ek eq eg

pub refused : (shape u : Bool) (b : ℕ → List ℕ) → u ≡ shape → u ≡ false → u ≡ holds_by shape b
refused shape u b d h = h ∙ rw (← d, h)
