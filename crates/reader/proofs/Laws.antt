-- The fields that a reader reads one after the other are the meaning's. Assumes nothing.
-- A place past the end is as good as any other such place, since octets past the end read as 0: `Near`.
use mathlib.Core.Path.{◌≡◌, refl, ap, ap₂, sym, ◌∙◌}
use mathlib.Core.Bool.{Bool, true, false}
use mathlib.Core.List.{List}
use Prim.Native.Nat.{ℕ, zero, suc, ◌+◌, ◌-◌, ◌%◌, ◌≤◌, ◌<◌}
use native.Mathlib.Omega.{arith}
use lib.ListN.{length, get_or, get_or-eq_default}
use lib.Dec.{ltb, leb, eqb}
use borrow.Author.Tests.{leb-true, leb-false, ltb-true, le-leb, eqb-true}
use Rattle.meaning.specs.Octets.{pick, le_at}
use Rattle.meaning.specs.Frame.{absent, address_len, address_at}
use Rattle.meaning.specs.declared.Address.{Address}
use Rattle.meaning.proofs.Scan.{pick-all}
use Rattle.meaning.proofs.Numbers.{le_at-lt}
use Rattle.reader.specs.Fields.{number_at, place_after, field_at, raw_of, pan_len, widths_of, address_of, destination_span, fields_of}
use Rattle.reader.specs.declared.Widths.{Widths}
use Rattle.reader.specs.declared.Raw.{Raw}
use Rattle.reader.specs.declared.Fields.{Fields}

-- ---- reading past the end
pub le-past : (k : ℕ) (s : List ℕ) (at : ℕ) → length s ≤ at → le_at k s at ≡ 0
unfolding le_at
le-past zero s at h = refl
le-past (suc k) s at h = rw (get_or-eq_default s 0 h, le-past k s (suc at) (omega arith))

picked : (t u v : Bool) (a b c : ℕ) → a ≡ 0 → b ≡ 0 → c ≡ 0 → pick t a (pick u b (pick v c 0)) ≡ 0
picked true u v a b c ea eb ec = ea
picked false true v a b c ea eb ec = eb
picked false false true a b c ea eb ec = ec
picked false false false a b c ea eb ec = refl

pub number_past : (s : List ℕ) (at n : ℕ) → length s ≤ at → number_at s at n ≡ 0
unfolding number_at
number_past s at n h = picked (eqb n 2) (eqb n 8) (eqb n 1) _ _ _ (le-past 2 s at h) (le-past 8 s at h) (le-past 1 s at h)

-- two places where the same is read
data Near (s : List ℕ) : ℕ → ℕ → Type 0 where
  here : (p : ℕ) → Near s p p
  beyond : (p q : ℕ) → length s ≤ p → length s ≤ q → Near s p q

near-number : (s : List ℕ) (n : ℕ) {p q : ℕ} → Near s p q → number_at s p n ≡ number_at s q n
near-number s n (here p) = refl
near-number s n (beyond p q h k) = number_past s p n h ∙ sym (number_past s q n k)

near-after : (s : List ℕ) (n : ℕ) {p q : ℕ} → Near s p q → Near s (place_after (length s) p n) (q + n)
unfolding place_after
near-after s n (here p) =
    pick-all (λ (x : ℕ). Near s x (p + n)) (leb (length s) p) p (pick (ltb (length s - p) n) (length s) (p + n))
    (λ e. let l : length s ≤ p = leb-true (length s) p e in beyond p (p + n) l (omega arith))
    (λ e. let l : p < length s = leb-false (length s) p e in
    pick-all (λ (x : ℕ). Near s x (p + n)) (ltb (length s - p) n) (length s) (p + n)
    (λ d. let m : length s - p < n = ltb-true (length s - p) n d in beyond (length s) (p + n) (omega arith) (omega arith))
    (λ d. here (p + n)))
near-after s n (beyond p q h k) = rw (le-leb (length s) p h) (beyond p (q + n) h (omega arith))

-- ---- the number of an address
number-len : (s : List ℕ) (at m : ℕ) → number_at s at (address_len m) ≡ le_at (address_len m) s at
unfolding number_at address_len le_at
number-len s at m = go (eqb m 2) (eqb m 3)
  where
    go : (t u : Bool) → number_at s at (pick t 2 (pick u 8 0)) ≡ le_at (pick t 2 (pick u 8 0)) s at
    go true u = refl
    go false true = refl
    go false false = refl

address-is : (h : List ℕ) (m p a pan number : ℕ) → (eqb m 0 ≡ false → pan % 65536 ≡ le_at 2 h p) → (eqb m 0 ≡ false → number ≡ le_at (address_len m) h a) → address_of m pan number ≡ address_at h m p a
unfolding address_of address_at
address-is h m p a pan number e f = go (eqb m 0) e f
  where
    go : (t : Bool) → (t ≡ false → pan % 65536 ≡ le_at 2 h p) → (t ≡ false → number ≡ le_at (address_len m) h a)
        → pick t absent (record { mode = m; pan = pan % 65536; address = number }) ≡ pick t absent (record { mode = m; pan = le_at 2 h p; address = le_at (address_len m) h a })
    go true e f = refl
    go false e f = ap₂ (λ (x y : ℕ). record { mode = m; pan = x; address = y }) (e refl) (f refl)

-- ---- what was read is right
no-address : (m : ℕ) → m ≡ 0 → address_len m ≡ 0
unfolding address_len
no-address m e = rw e

-- the octets of a PAN and an address, and of a PAN where there is an address
spans : (m : ℕ) → pan_len m 0 + address_len m ≡ destination_span m
unfolding pan_len
spans m = pick-all (λ (x : ℕ). x + address_len m ≡ destination_span m) (eqb m 0) 0 2 (λ e. rw (e, no-address m (eqb-true m 0 e))) (λ e. rw e)

pan-two : (m c : ℕ) → eqb m 0 ≡ false → eqb c 1 ≡ false → pan_len m c ≡ 2
unfolding pan_len
pan-two m c e f = rw (e, f)

pan-none : (m c : ℕ) → eqb m 0 ≡ false → eqb c 1 ≡ true → pan_len m c ≡ 0
unfolding pan_len
pan-none m c e f = rw (e, f)

module _ (h : List ℕ) (small : (i : ℕ) → get_or h i 0 < 256) (d s c : ℕ) where
  abbrev next : ℕ → ℕ → ℕ
  next at n = place_after (length h) at n

  abbrev p₁ : ℕ
  p₁ = next 2 1

  abbrev p₂ : ℕ
  p₂ = next p₁ (pan_len d 0)

  abbrev p₃ : ℕ
  p₃ = next p₂ (address_len d)

  abbrev p₄ : ℕ
  p₄ = next p₃ (pan_len s c)

  n₁ : Near h p₁ 3
  n₁ = near-after h 1 (here 2)

  n₂ : Near h p₂ (3 + pan_len d 0)
  n₂ = near-after h (pan_len d 0) n₁

  n₃ : Near h p₃ (3 + destination_span d)
  n₃ = let e : 3 + pan_len d 0 + address_len d ≡ 3 + destination_span d = omega (arith, spans d) in rw e at (near-after h (address_len d) n₂)

  n₄ : Near h p₄ (3 + destination_span d + pan_len s c)
  n₄ = near-after h (pan_len s c) n₃

  pan-is : (at : ℕ) {p : ℕ} → Near h p at → number_at h p 2 % 65536 ≡ le_at 2 h at
  unfolding number_at
  pan-is at n = let e : le_at 2 h at % 65536 ≡ le_at 2 h at = omega (arith, le_at-lt h small 2 at) in ap (λ (x : ℕ). x % 65536) (near-number h 2 n) ∙ e

  address-at : (m : ℕ) {p : ℕ} (at : ℕ) → Near h p at → number_at h p (address_len m) ≡ le_at (address_len m) h at
  address-at m at n = near-number h (address_len m) n ∙ number-len h at m

  sequence-is : number_at h 2 1 % 256 ≡ get_or h 2 0
  unfolding number_at le_at
  sequence-is = omega (arith, small 2)

  destination-is : address_of d (number_at h p₁ 2) (number_at h p₂ (address_len d)) ≡ address_at h d 3 5
  destination-is =
      address-is h d 3 5 (number_at h p₁ 2) (number_at h p₂ (address_len d)) (λ e. pan-is 3 n₁)
      (λ e. address-at d 5 (let w : 3 + pan_len d 0 ≡ 5 = rw (pan-two d 0 e refl) in rw w at n₂))

  abbrev at₃ : ℕ
  at₃ = 3 + destination_span d

  source-is : (t : Bool) → eqb c 1 ≡ t → address_of s (pick t (number_at h p₁ 2) (number_at h p₃ (pan_len s c))) (number_at h p₄ (address_len s)) ≡ pick t (address_at h s 3 at₃) (address_at h s at₃ (5 + destination_span d))
  source-is true f =
      address-is h s 3 at₃ (number_at h p₁ 2) (number_at h p₄ (address_len s)) (λ e. pan-is 3 n₁)
      (λ e. address-at s at₃ (let w : at₃ + pan_len s c ≡ at₃ = omega (arith, pan-none s c e f) in rw w at n₄))
  source-is false f =
      address-is h s at₃ (5 + destination_span d) (number_at h p₃ (pan_len s c)) (number_at h p₄ (address_len s)) (λ e. rw (pan-two s c e f) (pan-is at₃ n₃))
      (λ e. address-at s (5 + destination_span d) (let w : at₃ + pan_len s c ≡ 5 + destination_span d = omega (arith, pan-two s c e f) in rw w at n₄))

  -- what is made of the fields that were read
  pub fields-are : (w : Widths) (r : Raw) (sequence pan : ℕ) (destination source : Address) → w ≡ widths_of d s c → r ≡ raw_of h w → sequence ≡ r.sequence.value % 256
      → destination ≡ address_of d r.pan.value r.destination.value → pan ≡ pick (eqb c 1) r.pan.value r.sourcepan.value → source ≡ address_of s pan r.source.value
      → ◌≡◌ {A = Fields} (record { sequence = sequence; destination = destination; source = source }) (fields_of h d s c)
  unfolding widths_of raw_of field_at fields_of
  fields-are w r sequence pan destination source ew er es ed ep eo = rw (es, ed, eo, ep, er, ew, sequence-is, destination-is, source-is (eqb c 1) refl)
