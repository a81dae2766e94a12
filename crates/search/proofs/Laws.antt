-- What `find` over numbers gives is `first`; the searches over devices and handles by their octets; the key lookup by the source compared;
-- a lookup record's test by its parts. Assumes nothing.
use Rattle.std.specs.Prelude.{Option, Some, None}
use Rattle.std.specs.declared.ops.Range.{Range}
use Rattle.std.specs.Fn.{CalledAt}
use Rattle.std.specs.Iterator.{FindsItem}
use Rattle.std.specs.List.{find, range_with_len}
use Rattle.std.proofs.lemmas.Iterator.{YieldsList-from_range}
use Rattle.std.proofs.lemmas.Iterator.Search.{find_from_yields_List}
use Rattle.std.proofs.iter.Yields.{nat_range_steps}
use Rattle.std.proofs.lemmas.Iterator.Adapters.{option_map_id}
use denote.Ref.{Bor}
use denote.Param.Members.{Mut}
use mathlib.Core.Path.{◌≡◌, refl, ap, sym, ◌∙◌}
use mathlib.Core.Bool.{Bool, true, false, ◌&&◌, cond}
use mathlib.Core.List.{List, ◌++◌}
use Prim.Native.Nat.{ℕ, zero, suc, ◌+◌, ◌*◌, ◌-◌, ◌≤◌, ◌<◌}
use native.Mathlib.Nat.{sub-zero}
use native.Mathlib.Numerals.{add-one}
use native.Mathlib.Omega.{arith}
use lib.ListN.{length, get_or, take, drop, length-append}
use lib.Seq.{sets, take_at, take-append-add}
use lib.Dec.{eqb}
use Rattle.meaning.specs.Octets.{pick, scan, first, octs, stands, tab}
use Rattle.meaning.specs.Frame.{address_len, key_source_len}
use Rattle.meaning.specs.Records.{records, device_at, default_key_source, no_device, Handle, handle_at, no_handle, handles_in}
use Rattle.meaning.specs.Steps.{is_peer, device_row, fits_lookup, peer_octets, key_source, key_row, handle_of, handle_row}
use Rattle.meaning.specs.declared.Address.{Address}
use Rattle.meaning.specs.declared.Device.{Device}
use Rattle.meaning.proofs.Lists.{length-take-most}
use Rattle.meaning.proofs.Lengths.{address-bound, key-source-bound}
use Rattle.meaning.proofs.Scan.{first-same, pick-all}
use Rattle.meaning.proofs.Tests.{and-on, and_left, and_right}
use Rattle.meaning.proofs.Tabs.{length-tab, get_or-tab}
use Rattle.meaning.proofs.Stores.{sets-append, sets-whole}
use Rattle.meaning.proofs.Numbers.{length-octs, octs-add}
use Rattle.meaning.proofs.Rows.{device-below, handle-below, source-below}
use Rattle.search.specs.Rows.{implicit_row, key_row_by, handle_row_by}

-- the first of n numbers from i on that passes a test, as a chain of the library says it and as the definitions do
find-scan : (p : ℕ → Bool) (n i : ℕ) → find p (range_with_len i n) ≡ scan p Some None n i
find-scan p zero i = refl
find-scan p (suc n) i = here (p i) (find-scan p n (i + 1))
  where
    here : (t : Bool) → find p (range_with_len (i + 1) n) ≡ scan p Some None n (i + 1)
        → cond t (Some i) (find p (range_with_len (i + 1) n)) ≡ pick t (Some i) (scan p Some None n (suc i))
    here true e = refl
    here false e = e ∙ ap (λ (j : ℕ). scan p Some None n j) (add-one i)

-- `find` over the numbers below n, by a closure that gives p of each and changes nothing
pub found-first : {F : Type 0} {g : Mut F (Bor ℕ × Unit {0}) Bool} (p : ℕ → Bool) (n : ℕ) (u : Range ℕ) (f : F) (r : Option ℕ)
    → FindsItem nat_range_steps g (record { start = 0; end = n }) f r u → ((x : ℕ) (b : Bool) (q : F) → CalledAt g f x b q → (q ≡ f) × (b ≡ p x)) → r ≡ first p Some None n
found-first p n u f r ran told = sym (option_map_id r) ∙ find_from_yields_List p u f r ran (YieldsList-from_range 0 n n refl (sub-zero n)) told ∙ find-scan p n 0

-- ---- the devices by their octets
pub device_row-tab : (b : List ℕ) (n : ℕ) (p : Address) → device_row (tab (device_at b) n) p ≡ first (λ d. is_peer p (device_at b d)) Some None n
unfolding device_row
device_row-tab b n p =
    rw (length-tab (device_at b) n)
    (first-same (λ d. is_peer p (get_or (tab (device_at b) n) d no_device)) (λ d. is_peer p (device_at b d)) Some None n
    (λ d l. ap (is_peer p) (get_or-tab (device_at b) no_device n d l)))

-- ---- the handles by their octets
handle-at : (b : List ℕ) (j : ℕ) → j < records 2 b → get_or (handles_in b) j no_handle ≡ handle_at b j
handle-at b j l = get_or-tab (handle_at b) no_handle (records 2 b) j l

pub handle-of : (b : List ℕ) (j : ℕ) → j < records 2 b → handle_of (handles_in b) j ≡ (handle_at b j).device
unfolding handle_of
handle-of b j l = ap (λ (x : Handle). x.device) (handle-at b j l)

pub handle_row-by : (b : List ℕ) (ds : List Device) (k : ℕ) (p : Address) → handle_row (handles_in b) ds k p ≡ handle_row_by b ds k p
unfolding handle_row handle_row_by handle_of handle_at
handle_row-by b ds k p =
    rw (length-tab (handle_at b) (records 2 b))
    (first-same
    (λ j. eqb (get_or (handles_in b) j no_handle).key k && is_peer p (get_or ds (get_or (handles_in b) j no_handle).device no_device))
    (λ j. eqb (get_or b (2 * j) 0) k && is_peer p (get_or ds (get_or b (2 * j + 1) 0) no_device))
    Some None (records 2 b)
    (λ j l. ap (λ (x : Handle). eqb x.key k && is_peer p (get_or ds x.device no_device)) (handle-at b j l)))

pub handle_row-tab : (b devices : List ℕ) (n k : ℕ) (p : Address) → ((j : ℕ) → j < records 2 b → get_or b (2 * j + 1) 0 < n)
    → handle_row (handles_in b) (tab (device_at devices) n) k p
    ≡ first (λ j. eqb (get_or b (2 * j) 0) k && is_peer p (device_at devices (handle_at b j).device)) Some None (records 2 b)
unfolding handle_row_by handle_at
handle_row-tab b devices n k p h =
    handle_row-by b (tab (device_at devices) n) k p
    ∙ first-same
    (λ j. eqb (get_or b (2 * j) 0) k && is_peer p (get_or (tab (device_at devices) n) (get_or b (2 * j + 1) 0) no_device))
    (λ j. eqb (get_or b (2 * j) 0) k && is_peer p (device_at devices (get_or b (2 * j + 1) 0)))
    Some None (records 2 b)
    (λ j l. ap (λ (d : Device). eqb (get_or b (2 * j) 0) k && is_peer p d) (get_or-tab (device_at devices) no_device n (get_or b (2 * j + 1) 0) (h j l)))

-- a handle found has its record there
pub handle-below-by : (b : List ℕ) (ds : List Device) (k : ℕ) (p : Address) (u : Option ℕ) (j : ℕ) → u ≡ handle_row (handles_in b) ds k p → u ≡ Some j → j < records 2 b
handle-below-by b ds k p u j e h = rw (length-tab (handle_at b) (records 2 b)) at (handle-below (handles_in b) ds k p u j e h)

-- a device found by its octets has its record there
pub device-below-tab : (b : List ℕ) (n : ℕ) (p : Address) (u : Option ℕ) (d : ℕ) → u ≡ device_row (tab (device_at b) n) p → u ≡ Some d → d < n
device-below-tab b n p u d e h = rw (length-tab (device_at b) n) at (device-below (tab (device_at b) n) p u d e h)

-- ---- keys
pub key_row-by : (b t : List ℕ) (mode index : ℕ) (given : List ℕ) (p : Address)
    → key_row b t mode index given p ≡ key_row_by b mode index (key_source t given mode) p
unfolding key_row key_row_by implicit_row
key_row-by b t mode index given p = refl

pub key-below : (b : List ℕ) (mode index : ℕ) (source : List ℕ) (p : Address) (u : Option ℕ) (i : ℕ) → u ≡ key_row_by b mode index source p → u ≡ Some i → i < records 22 b
unfolding key_row_by implicit_row
key-below = source-below

-- a key source compared has at most 8 octets
pub key_source-length : (t given : List ℕ) (mode : ℕ) → length (key_source t given mode) ≤ 8
unfolding key_source key_source_len default_key_source
key_source-length t given mode =
    pick-all (λ s. length s ≤ 8) (eqb mode 1) (default_key_source t) (take (key_source_len mode) given) (λ e. length-take-most 8 (drop 22 t))
    (λ e. omega (arith, length-take-most (key_source_len mode) given, key-source-bound mode))

-- what the peer's mode takes of its octets
take-octs : (k m n : ℕ) → k ≤ m → take k (octs m n) ≡ octs k n
take-octs k m n h =
    let e : k + (m - k) ≡ m = omega arith in
    ap (λ (j : ℕ). take k (octs j n)) (sym e) ∙ ap (take k) (octs-add k (m - k) n) ∙ take_at (octs k n) _ k (length-octs k n)

-- what is lent of the octets r of a peer, by the length n of its address
pub record Lent (r : List ℕ) (n : ℕ) (p : Address) : Type 0 where
  pub few : 2 + n ≤ 10
  pub room : 2 + n ≤ length r
  pub same : take (2 + n) r ≡ peer_octets p

pub lent : (r : List ℕ) (n : ℕ) (p : Address) → r ≡ octs 2 p.pan ++ octs 8 p.address → n ≡ address_len p.mode → Lent r n p
unfolding peer_octets address_len
lent r n p e d =
    let a : List ℕ = octs 2 p.pan in
    let b : List ℕ = octs 8 p.address in
    let l : length r ≡ 10 = ap length e ∙ omega (arith, length-append a b, length-octs 2 p.pan, length-octs 8 p.address) in
    let m : n ≤ 8 = omega (arith, address-bound p.mode) in
    record {
      few = omega arith;
      room = omega arith;
      same =
          ap (take (2 + n)) e
          ∙ ap (λ (j : ℕ). take (j + n) (a ++ b)) (sym (length-octs 2 p.pan))
          ∙ take-append-add a b n
          ∙ ap (λ (s : List ℕ). a ++ s) (take-octs n 8 p.address m ∙ ap (λ (k : ℕ). octs k p.address) d);
    }

-- two numbers stored side by side over everything
pub both-stored : (s t u : List ℕ) (a b : ℕ) → t ≡ sets s 0 (octs 2 a) → u ≡ sets t 2 (octs 8 b) → length s ≡ 10 → u ≡ octs 2 a ++ octs 8 b
both-stored s t u a b p q l =
    let e : 0 + length (octs 2 a) ≡ 2 = omega (arith, length-octs 2 a) in
    q ∙ ap (λ (r : List ℕ). sets r 2 (octs 8 b)) p
    ∙ ap (λ (n : ℕ). sets (sets s 0 (octs 2 a)) n (octs 8 b)) (sym e)
    ∙ sym (sets-append s 0 (octs 2 a) (octs 8 b))
    ∙ sets-whole (octs 2 a ++ octs 8 b) s (omega (arith, length-append (octs 2 a) (octs 8 b), length-octs 2 a, length-octs 8 b))

-- a lookup record's test, by what its head and the octets after it say
module _ (b : List ℕ) (mode at lead : ℕ) (wanted : List ℕ) (i : ℕ) (u : Bool) where
  abbrev Head : Type 0
  Head = u ≡ (eqb (get_or b (22 * i + 1) 0) mode && eqb (get_or b (22 * i + at) 0) lead)

  split : fits_lookup b mode at lead wanted i ≡ ((eqb (get_or b (22 * i + 1) 0) mode && eqb (get_or b (22 * i + at) 0) lead) && stands b (22 * i + at + 1) wanted)
  unfolding fits_lookup
  split = assoc (eqb (get_or b (22 * i + 1) 0) mode) (eqb (get_or b (22 * i + at) 0) lead) (stands b (22 * i + at + 1) wanted)
    where
      assoc : (x y z : Bool) → (x && (y && z)) ≡ ((x && y) && z)
      assoc true y z = refl
      assoc false y z = refl

  pub lookup-fits : Head → u ≡ true → stands b (22 * i + at + 1) wanted ≡ true → fits_lookup b mode at lead wanted i ≡ true
  lookup-fits d h k = split ∙ and-on _ _ (sym d ∙ h) k

  pub lookup-head-fails : Head → u ≡ false → fits_lookup b mode at lead wanted i ≡ false
  lookup-head-fails d h = split ∙ and_left _ _ (sym d ∙ h)

pub lookup-rest-fails : (b : List ℕ) (mode at lead : ℕ) (wanted : List ℕ) (i : ℕ) → stands b (22 * i + at + 1) wanted ≡ false → fits_lookup b mode at lead wanted i ≡ false
unfolding fits_lookup
lookup-rest-fails b mode at lead wanted i h = search and_right
