-- Laws of the records of a table: of the loop that decodes them, that there are 64, and that the first are the table's. Assumes nothing.
use mathlib.Core.Path.{◌≡◌, refl, ap, ◌∙◌}
use mathlib.Core.Bool.{Bool, true, false}
use mathlib.Core.List.{List}
use Prim.Native.Nat.{ℕ, ◌+◌, ◌/◌, ◌≤◌, ◌<◌}
use native.Mathlib.Omega.{arith}
use lib.ListN.{length, get_or, set, take, length-set}
use lib.Seq.{get_or-take, get_or-set_same, get_or-set_other, length-take-le}
use lib.Dec.{ltb, eqb}
use borrow.Author.Tests.{lt-ltb, le-ltb, ltb-true, ltb-false, eqb-true, eqb-false}
use Rattle.meaning.specs.Octets.{tab}
use Rattle.meaning.specs.Records.{records, device_at, no_device}
use Rattle.meaning.specs.declared.Device.{Device}
use Rattle.meaning.proofs.Tabs.{length-tab, get_or-tab, tab-of}
use Rattle.devices.specs.Devices.{record_of, devices_of, devices_lent}

pub length-devices : (s : List ℕ) → length (devices_of s) ≡ 64
unfolding devices_of
length-devices s = length-tab (record_of s (records 17 s)) 64

-- the table's own records
pub devices-are : (s : List ℕ) → length s ≤ 1088 → devices_lent s ≡ tab (device_at s) (records 17 s)
unfolding devices_lent devices_of
devices-are s h =
    let m : ℕ = records 17 s in
    let all : List Device = tab (record_of s m) 64 in
    tab-of (device_at s) no_device m (take m all) (length-take-le m all (omega (arith, length-tab (record_of s m) 64)))
    (λ j l. get_or-take m all j no_device l ∙ get_or-tab (record_of s m) no_device 64 j (omega arith) ∙ rw (lt-ltb j m l))

-- ---- the loop: the first i records are decoded
-- one record more tells the same of every other place
other : (s : List ℕ) (i j : ℕ) → (j ≡ i → ⊥) → record_of s i j ≡ record_of s (i + 1) j
other s i j h = go (ltb j i) refl
  where
    go : (t : Bool) → ltb j i ≡ t → record_of s i j ≡ record_of s (i + 1) j
    go true e = let l : j < i = ltb-true j i e in rw (e, lt-ltb j (i + 1) (omega arith))
    go false e = let l : i ≤ j = ltb-false j i e in rw (e, le-ltb j (i + 1) (omega (arith, h)))

stored : (s : List ℕ) (i : ℕ) (out : List Device) (d : Device) → i < 64 → out ≡ tab (record_of s i) 64 → d ≡ device_at s i → set out i d ≡ tab (record_of s (i + 1)) 64
stored s i out d l same e = tab-of (record_of s (i + 1)) no_device 64 (set out i d) (length-set out i d ∙ long) (λ j k. go j k (eqb j i) refl)
  where
    long : length out ≡ 64
    long = ap length same ∙ length-tab (record_of s i) 64

    go : (j : ℕ) → j < 64 → (t : Bool) → eqb j i ≡ t → get_or (set out i d) j no_device ≡ record_of s (i + 1) j
    go j k true q = rw (eqb-true j i q, lt-ltb i (i + 1) (omega arith)) (get_or-set_same out i d no_device (omega (arith, long)) ∙ e)
    go j k false q =
        get_or-set_other out i j d no_device (eqb-false j i q)
        ∙ ap (λ (x : List Device). get_or x j no_device) same
        ∙ get_or-tab (record_of s i) no_device 64 j k
        ∙ other s i j (eqb-false j i q)

pub record Decoding (s : List ℕ) (n i : ℕ) (out : List Device) : Type 0 where
  pub within : i ≤ n
  pub room : n ≤ 64
  pub same : out ≡ tab (record_of s i) 64
  pub long : length out ≡ 64

module _ {s : List ℕ} {n : ℕ} where
  pub one-more : {i : ℕ} {out : List Device} {d : Device} → Decoding s n i out → i < n → d ≡ device_at s i → Decoding s n (i + 1) (set out i d)
  one-more {i} {out} {d} w l e =
      let r : n ≤ 64 = w.room in
      record { within = omega arith; room = r; same = stored s i out d (omega arith) w.same e; long = length-set out i d ∙ w.long }

pub all-done : {s : List ℕ} {i : ℕ} {out : List Device} → Decoding s (length s / 17) i out → length s / 17 ≤ i → out ≡ devices_of s
unfolding devices_of
all-done {s} {i} w l = let b : i ≤ length s / 17 = w.within in let e : i ≡ length s / 17 = omega arith in rw e at w.same
