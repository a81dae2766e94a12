-- Laws of the FCS's register.
--     by-table     one octet more, by a table of 256
--     next-octet   the same as the code has it
--     rest         the octets from a place on
-- Assumes nothing.
use mathlib.Core.Path.{◌≡◌, refl, sym, ap, ap₂, ◌∙◌}
use mathlib.Core.Bool.{Bool}
use mathlib.Core.List.{List}
use Prim.Native.Nat.{ℕ, zero, suc, ◌+◌, ◌*◌, ◌/◌, ◌%◌, ◌^◌, ◌<◌, ◌≤◌}
use native.Mathlib.Nat.{mod-eq_of_lt, mul-one}
use native.Mathlib.Numerals.{add-one}
use native.Mathlib.Omega.{arith}
use lib.Bits.{bit_xor, bit_and, differ, xor_zero_r, xor_comm, xor_shifted, xor_mod, xor_lt, and_mask, mask_lt, shifted_half, shifted_even}
use lib.Dec.{eqb, eqb→eq}
use lib.ListN.{length, get_or, drop, drop_of_length-le}
use lib.Seq.{drop-cons}
use Rattle.meaning.specs.Octets.{pick}
use Rattle.meaning.specs.Fcs.{poly, shifted, fed, summed, IsTable}
use Rattle.meaning.proofs.Computed.{each, below, agree}
use Rattle.meaning.proofs.Xor.{xor_assoc, half, low, bit-lt}

-- (a ⊕ b) ⊕ (c ⊕ d) regrouped
xor-four : (a b c d : ℕ) → bit_xor (bit_xor a b) (bit_xor c d) ≡ bit_xor (bit_xor a c) (bit_xor b d)
xor-four a b c d =
    xor_assoc a b (bit_xor c d) ∙ ap (bit_xor a) (sym (xor_assoc b c d) ∙ ap (λ (k : ℕ). bit_xor k d) (xor_comm b c) ∙ xor_assoc c b d)
    ∙ sym (xor_assoc a c (bit_xor b d))

-- what is subtracted, at bits: by one test of the sixteen cases
abbrev taken : ℕ → ℕ → ℕ → ℕ → Bool
taken x y b d =
    eqb (pick (eqb (differ x y) (differ b d)) 0 poly) (bit_xor (pick (eqb x b) 0 poly) (pick (eqb y d) 0 poly))

taps : (x y b d : ℕ) → x < 2 → y < 2 → b < 2 → d < 2
    → pick (eqb (differ x y) (differ b d)) 0 poly ≡ bit_xor (pick (eqb x b) 0 poly) (pick (eqb y d) 0 poly)
taps x y b d p q r s =
    eqb→eq _ _
    (below (taken x y b) 2
    (below (λ b. each (taken x y b) 2) 2
    (below (λ y. each (λ b. each (taken x y b) 2) 2) 2
    (below (λ x. each (λ y. each (λ b. each (taken x y b) 2) 2) 2) 2 tt x p) y q) b r) d s)

shifted-xor : (r q b d : ℕ) → b < 2 → d < 2 → shifted (bit_xor r q) (differ b d) ≡ bit_xor (shifted r b) (shifted q d)
unfolding shifted
shifted-xor r q b d h k =
    ap₂ (λ (x y : ℕ). bit_xor x (pick (eqb y (differ b d)) 0 poly)) (half r q) (low r q)
    ∙ ap (bit_xor (bit_xor (r / 2) (q / 2))) (taps (r % 2) (q % 2) b d (bit-lt r) (bit-lt q) h k)
    ∙ xor-four (r / 2) (q / 2) (pick (eqb (r % 2) b) 0 poly) (pick (eqb (q % 2) d) 0 poly)

fed-xor : (n r q x y : ℕ) → fed n (bit_xor r q) (bit_xor x y) ≡ bit_xor (fed n r x) (fed n q y)
unfolding fed
fed-xor zero r q x y = refl
fed-xor (suc n) r q x y =
    ap₂ (fed n) (ap (shifted (bit_xor r q)) (low x y) ∙ shifted-xor r q (x % 2) (y % 2) (bit-lt x) (bit-lt y)) (half x y)
    ∙ fed-xor n (shifted r (x % 2)) (shifted q (y % 2)) (x / 2) (y / 2)

-- a register whose n low bits are zero is moved down
fed-high : (n h : ℕ) → fed n (h * 2 ^ n) 0 ≡ h
unfolding fed shifted
fed-high zero h = mul-one h
fed-high (suc n) h =
    ap (λ (k : ℕ). fed n k 0)
    (ap₂ (λ (x y : ℕ). bit_xor x (pick (eqb y 0) 0 poly)) (shifted_half h n) (shifted_even h n) ∙ xor_zero_r (h * 2 ^ n))
    ∙ fed-high n h

-- a register below 256 is as an octet fed
fed-low : (r : ℕ) → r < 256 → fed 8 r 0 ≡ fed 8 0 r
unfolding fed shifted
fed-low r h = agree (λ r. fed 8 r 0) (λ r. fed 8 0 r) 256 tt r h

-- an octet more, by a table
by-table : (t : List ℕ) (r x : ℕ) → IsTable t → x < 256 → bit_xor (r / 256) (get_or t (bit_xor (r % 256) x) 0) ≡ fed 8 r x
unfolding IsTable
by-table t r x rule h =
    let l : r % 256 < 256 = omega arith in
    let e : r ≡ bit_xor (r / 256 * 256) (r % 256) = (let z : r ≡ r / 256 * 256 + r % 256 = omega arith in z ∙ sym (xor_shifted (r / 256) 8 (r % 256) l)) in
    ap (bit_xor (r / 256))
    (rule (bit_xor (r % 256) x) (xor_lt 8 (r % 256) x l h) ∙ fed-xor 8 0 0 (r % 256) x ∙ ap (λ (k : ℕ). bit_xor k (fed 8 0 x)) (sym (fed-low (r % 256) l))
    ∙ sym (fed-xor 8 (r % 256) 0 0 x) ∙ ap (λ (k : ℕ). fed 8 k x) (xor_zero_r (r % 256)))
    ∙ ap (λ (k : ℕ). bit_xor k (fed 8 (r % 256) x)) (sym (fed-high 8 (r / 256)))
    ∙ sym (fed-xor 8 (r / 256 * 256) (r % 256) 0 x)
    ∙ ap (λ (k : ℕ). fed 8 k x) (sym e)

-- the same as the code has it
masked : (r x : ℕ) → x < 256 → bit_and (bit_xor r x) 255 ≡ bit_xor (r % 256) x
masked r x h = and_mask (bit_xor r x) 8 ∙ xor_mod r x 8 ∙ ap (bit_xor (r % 256)) (mod-eq_of_lt h)

pub masked-lt : (r x : ℕ) → bit_and (bit_xor r x) 255 < 256
masked-lt r x = mask_lt (bit_xor r x) 8

pub next-octet : (t : List ℕ) (r x : ℕ) → IsTable t → x < 256 → bit_xor (r / 256) (get_or t (bit_and (bit_xor r x) 255) 0) ≡ fed 8 r x
next-octet t r x rule h = ap (λ (k : ℕ). bit_xor (r / 256) (get_or t k 0)) (masked r x h) ∙ by-table t r x rule h

-- from a place on
pub rest : (s : List ℕ) (i : ℕ) (r v : ℕ) → i < length s → v ≡ fed 8 r (get_or s i 0) → summed r (drop i s) ≡ summed v (drop (i + 1) s)
unfolding summed
rest s i r v h e = rw (drop-cons s i 0 h, add-one, e)

pub none-left : (s : List ℕ) (i r : ℕ) → length s ≤ i → summed r (drop i s) ≡ r
unfolding summed
none-left s i r h = rw drop_of_length-le
