-- Laws of records: a body of whole records, a rule of every entry, and what the rules of the tables say of references. Assumes nothing.
use mathlib.Core.Path.{◌≡◌, refl, ap, ◌∙◌}
use Prim.Native.Nat.{ℕ, zero, suc, ◌*◌, ◌/◌, ◌≤◌, ◌<◌}
use native.Mathlib.Nat.{mul-div_cancel_left}
use native.Mathlib.Omega.{arith}
use mathlib.Core.Bool.{Bool, true, false, not, ◌&&◌}
use mathlib.Core.List.{List, [], ◌∷◌}
use lib.ListN.{length, get_or, take}
use lib.Dec.{leb, ltb}
use borrow.Author.Tests.{leb-true, ltb-true, le-leb}
use Rattle.meaning.specs.Octets.{pick, scan, every, tab, tab_from}
use Rattle.meaning.specs.Records.{settings, devices, levels, keys, lookups, usages, handles, kinds, own_at, devices_in, tables_in, least_of, limit_of, count_right, records, no_handle, Tables, settings_right, device_right, level_right, lookup_right, usage_right, handle_right, distinct, all_of, tables_rule}
use Rattle.meaning.specs.Steps.{key_of, handle_of}
use Rattle.meaning.proofs.Lists.{and_both}
use Rattle.meaning.proofs.Tests.{and-on}
use Rattle.meaning.proofs.Scan.{every-at}

-- a body of n records
pub records-whole : (w n : ℕ) (b : List ℕ) → 0 < w → length b ≡ w * n → records w b ≡ n
records-whole w n b h e = ap (λ (l : ℕ). l / w) e ∙ mul-div_cancel_left n h

-- ---- a count in its range
module _ (k n : ℕ) (right : count_right k n ≡ true) where
  pub count-least : least_of k ≤ n
  unfolding count_right
  count-least = leb-true (least_of k) n (and_both _ _ right).0

  pub count-limit : n ≤ limit_of k
  unfolding count_right
  count-limit = leb-true n (limit_of k) (and_both (leb (least_of k) n) _ right).1

pub count-in : (k n : ℕ) → least_of k ≤ n → n ≤ limit_of k → count_right k n ≡ true
unfolding count_right
count-in k n h l = and-on _ _ (le-leb _ _ h) (le-leb _ _ l)

-- ---- every entry
all_from : {A : Type 0} (p : A → Bool) (f : ℕ → A) (n i : ℕ) → all_of p (tab_from f n i) ≡ scan (λ k. not (p (f k))) (λ k. false) true n i
all_from p f zero i = refl
all_from p f (suc n) i = go (p (f i)) (all_from p f n (suc i))
  where
    go : (x : Bool) {y z : Bool} → y ≡ z → (x && y) ≡ pick (not x) false z
    go true e = e
    go false e = refl

pub all-tab : {A : Type 0} (p : A → Bool) (f : ℕ → A) (n : ℕ) → all_of p (tab f n) ≡ every (λ k. p (f k)) n
all-tab p f n = all_from p f n 0

all-at : {A : Type 0} (p : A → Bool) (d : A) (xs : List A) → all_of p xs ≡ true → (j : ℕ) → j < length xs → p (get_or xs j d) ≡ true
all-at p d [] h j l = absurd (omega arith)
all-at p d (x ∷ xs) h zero l = (and_both _ _ h).0
all-at p d (x ∷ xs) h (suc j) l = all-at p d xs (and_both (p x) _ h).1 j (omega arith)

-- ---- tables by equal bodies: settings t and bodies b, settings x and bodies c
pub tables-by : (t x : List ℕ) (b c : ℕ → List ℕ) → t ≡ x → devices_in (b devices) ≡ devices_in (c devices)
    → ((k : ℕ) → devices < k → k < kinds → (k ≡ keys → ⊥) → b k ≡ c k) → tables_in t b ≡ tables_in x c
tables-by t x b c e f g =
    rw (
      e,
      f,
      g levels (omega arith) (omega arith) (λ z. omega arith),
      g lookups (omega arith) (omega arith) (λ z. omega arith),
      g usages (omega arith) (omega arith) (λ z. omega arith),
      g handles (omega arith) (omega arith) (λ z. omega arith),
    )

-- the keys are not in them
pub tables-same : (b c : ℕ → List ℕ) → ((k : ℕ) → k < kinds → (k ≡ keys → ⊥) → b k ≡ c k)
    → tables_in (take own_at (b settings)) b ≡ tables_in (take own_at (c settings)) c
tables-same b c h =
    tables-by _ _ b c (ap (take own_at) (h settings (omega arith) (λ z. omega arith)))
    (ap devices_in (h devices (omega arith) (λ z. omega arith))) (λ k l m n. h k m n)

-- ---- references exist
module _ (nk : ℕ) (t : Tables) (rule : tables_rule nk t ≡ true) where
  -- from the test of the lookups on
  last-tests : (every (lookup_right nk t.lookups) (records 22 t.lookups)
      && (every (usage_right nk t.usages) (records 3 t.usages)
      && (all_of (handle_right nk (length t.devices)) t.handles && distinct t.devices))) ≡ true
  unfolding tables_rule
  last-tests =
      (and_both (every (level_right t.levels) (records 5 t.levels)) _
      (and_both (all_of device_right t.devices) _ (and_both (settings_right t.settings) _ rule).1).1).1

  pub lookups-in : (i : ℕ) → i < records 22 t.lookups → key_of t.lookups i < nk
  unfolding lookup_right key_of
  lookups-in i h = ltb-true _ nk (and_both _ _ (every-at (lookup_right nk t.lookups) _ (and_both _ _ last-tests).0 i h)).0

  pub handles-in : (j : ℕ) → j < length t.handles → handle_of t.handles j < length t.devices
  unfolding handle_right handle_of
  handles-in j h =
      let d = (and_both (every (lookup_right nk t.lookups) (records 22 t.lookups)) _ last-tests).1 in
      let e = (and_both (every (usage_right nk t.usages) (records 3 t.usages)) _ d).1 in
      let f = all-at (handle_right nk (length t.devices)) no_handle t.handles (and_both _ _ e).0 j h in
      ltb-true _ (length t.devices) (and_both (ltb (get_or t.handles j no_handle).key nk) _ f).1
