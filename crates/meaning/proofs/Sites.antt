-- What the rules of a site say of its octets: the counts, where each body lies, its records and their references. Assumes nothing.
use mathlib.Core.Path.{◌≡◌, ap, ap₂, ◌∙◌}
use Prim.Native.Nat.{ℕ, ◌+◌, ◌*◌, ◌≤◌, ◌<◌}
use native.Mathlib.Omega.{arith}
use mathlib.Core.Bool.{Bool, true, ◌&&◌}
use mathlib.Core.List.{List}
use lib.ListN.{length, get_or, drop, length-drop}
use lib.Seq.{length-take-le, take-take}
use lib.Dec.{eqb}
use borrow.Author.Tests.{eqb-true}
use Rattle.meaning.specs.Octets.{part, tab}
use Rattle.meaning.specs.Records.{settings, devices, keys, handles, kinds, width_of, limit_of, least_of, count_right, records, own_at, device_at, no_device, counter_at, handle_at, no_handle, Handle, store_rule}
use Rattle.meaning.specs.Site.{place_of, site_len, count_of, layout_right, body, settings_of, tables_of, store_of, site_rule}
use Rattle.meaning.specs.Steps.{key_of, handle_of}
use Rattle.meaning.proofs.Lists.{and_both}
use Rattle.meaning.proofs.Scan.{every-at, every-same}
use Rattle.meaning.proofs.Tabs.{length-tab, get_or-tab}
use Rattle.meaning.proofs.Records as R
use Rattle.meaning.proofs.Regions.{place-inside, fits, limit-small, width-some}

-- ---- the layout
module _ (s : List ℕ) (layout : layout_right s ≡ true) where
  pub layout-long : length s ≡ site_len
  unfolding layout_right
  layout-long = eqb-true (length s) site_len (and_both _ _ layout).0

  layout-count : (k : ℕ) → k < kinds → count_right k (count_of s k) ≡ true
  unfolding layout_right
  layout-count k h = every-at (λ j. count_right j (count_of s j)) kinds (and_both (eqb (length s) site_len) _ layout).1 k h

  pub layout-limit : (k : ℕ) → k < kinds → count_of s k ≤ limit_of k
  layout-limit k h = R.count-limit k (count_of s k) (layout-count k h)

  pub layout-one : count_of s settings ≡ 1
  unfolding limit_of least_of
  layout-one = omega (arith, R.count-least settings (count_of s settings) (layout-count settings (omega arith)), layout-limit settings (omega arith))

  pub layout-inside : (k : ℕ) → k < kinds → place_of k + width_of k * count_of s k ≤ length s
  layout-inside k h = omega (arith, layout-long, place-inside k h, fits k (count_of s k) (layout-limit k h))

  pub layout-body : (k : ℕ) → k < kinds → length (body s k) ≡ width_of k * count_of s k
  unfolding body
  layout-body k h =
      length-take-le (width_of k * count_of s k) (drop (place_of k) s) (omega (arith, layout-inside k h, length-drop (place_of k) s))

-- two sites of the same length and counts
pub layout-same : (s t : List ℕ) → length s ≡ length t → ((k : ℕ) → k < kinds → count_of s k ≡ count_of t k) → layout_right s ≡ layout_right t
unfolding layout_right
layout-same s t l e =
    ap₂ (λ (x y : Bool). x && y) (ap (λ (n : ℕ). eqb n site_len) l)
    (every-same (λ k. count_right k (count_of s k)) (λ k. count_right k (count_of t k)) kinds (λ k h. rw (e k h)))

-- ---- the rules
module _ (s : List ℕ) (rule : site_rule s ≡ true) where
  pub rule-layout : layout_right s ≡ true
  unfolding site_rule
  rule-layout = (and_both _ _ rule).0

  pub rule-store : store_rule (store_of s) ≡ true
  unfolding site_rule
  rule-store = (and_both (layout_right s) _ rule).1

  pub rule-long : length s ≡ site_len
  rule-long = layout-long s rule-layout

  pub rule-limit : (k : ℕ) → k < kinds → count_of s k ≤ limit_of k
  rule-limit = layout-limit s rule-layout

  pub rule-one : count_of s settings ≡ 1
  rule-one = layout-one s rule-layout

  pub rule-inside : (k : ℕ) → k < kinds → place_of k + width_of k * count_of s k ≤ length s
  rule-inside = layout-inside s rule-layout

  pub length-body : (k : ℕ) → k < kinds → length (body s k) ≡ width_of k * count_of s k
  length-body = layout-body s rule-layout

  -- a body has as many records as the header says
  pub records-is : (k : ℕ) → k < kinds → records (width_of k) (body s k) ≡ count_of s k
  records-is k h = R.records-whole (width_of k) (count_of s k) (body s k) (width-some k h) (length-body k h)

  pub rule-settings : settings_of s ≡ part (place_of settings) own_at s
  unfolding settings_of body width_of
  rule-settings = rw rule-one (take-take own_at 35 (drop (place_of settings) s) (omega arith))

  -- a place in a body is a machine number
  pub rule-few : (k : ℕ) → k < kinds → count_of s k < 65536
  rule-few k h = omega (arith, rule-limit k h, limit-small k h)

-- ---- the records of a site that keeps its rules
module _ (s : List ℕ) (rule : site_rule s ≡ true) where
  pub seventeen : records 17 (body s devices) ≡ count_of s devices
  unfolding width_of
  seventeen = records-is s rule devices (omega arith)

  pub sixteen : records 16 (body s keys) ≡ count_of s keys
  unfolding width_of
  sixteen = records-is s rule keys (omega arith)

  pub length-devices : length (tables_of s).devices ≡ count_of s devices
  unfolding tables_of
  length-devices = length-tab (device_at (body s devices)) _ ∙ seventeen

  pub device-of : (d : ℕ) → d < count_of s devices → get_or (tables_of s).devices d no_device ≡ device_at (body s devices) d
  unfolding tables_of
  device-of d h = get_or-tab (device_at (body s devices)) no_device (records 17 (body s devices)) d (omega (arith, seventeen))

  pub counter-of : (d : ℕ) → d < count_of s devices → get_or (store_of s).counters d 0 ≡ counter_at (body s devices) d
  unfolding store_of
  counter-of d h = get_or-tab (counter_at (body s devices)) 0 (records 17 (body s devices)) d (omega (arith, seventeen))

  -- key references exist
  pub rule-lookups : (i : ℕ) → i < records 22 (tables_of s).lookups → key_of (tables_of s).lookups i < count_of s keys
  unfolding store_rule store_of
  rule-lookups i h = rw sixteen at (R.lookups-in (records 16 (body s keys)) (tables_of s) (rule-store s rule) i h)

  -- device references exist
  pub rule-handles : (j : ℕ) → j < length (tables_of s).handles → handle_of (tables_of s).handles j < count_of s devices
  unfolding store_rule store_of
  rule-handles j h = rw length-devices at (R.handles-in (records 16 (body s keys)) (tables_of s) (rule-store s rule) j h)

-- ---- the bodies of handles and devices, as a callee gives them
handle-of : (hs : List ℕ) (j : ℕ) → j < records 2 hs → handle_of (tab (handle_at hs) (records 2 hs)) j ≡ get_or hs (2 * j + 1) 0
unfolding handle_of handle_at
handle-of hs j h = ap (λ (x : Handle). x.device) (get_or-tab (handle_at hs) no_handle (records 2 hs) j h)

-- a handle names a device
pub handles-in : (s hs ds : List ℕ) → site_rule s ≡ true → hs ≡ body s handles → ds ≡ body s devices
    → (j : ℕ) → j < records 2 hs → get_or hs (2 * j + 1) 0 < records 17 ds
unfolding tables_of
handles-in s hs ds rule a b j h =
    let i : j < records 2 (body s handles) = rw a at h in
    rw (a, b, seventeen s rule, ← handle-of (body s handles) j i)
    (rule-handles s rule j (omega (arith, length-tab (handle_at (body s handles)) (records 2 (body s handles)))))

-- and there are no more devices than the limit
pub devices-short : (s ds : List ℕ) → site_rule s ≡ true → ds ≡ body s devices → length ds ≤ width_of devices * limit_of devices
devices-short s ds rule e =
    rw (e, length-body s rule devices (omega arith)) (fits devices (count_of s devices) (rule-limit s rule devices (omega arith)))
