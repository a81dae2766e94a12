-- The step of a product: one bit of the multiplier.
-- Assumes nothing.
use mathlib.Core.Path.{◌≡◌, refl, sym, ap}
use Prim.Native.Nat.{ℕ, zero, suc, ◌*◌, ◌/◌, ◌%◌, ◌^◌, ◌<◌}
use native.Mathlib.Nat.{pow-suc}
use native.Mathlib.Omega.{arith}
use lib.Bits.{bit_xor, xor_zero_r}
use lib.Dec.{eqb}
use lib.Arith.{lt-one}
use borrow.Author.Tests.{eq-eqb, ne_eqb}
use Rattle.meaning.specs.Octets.{pick}
use Rattle.meaning.specs.Field.{xtime, product_bits, product}

-- a multiplier of n bits has the same product at one bit more
more : (n a b : ℕ) → b < 2 ^ n → product_bits (suc n) a b ≡ product_bits n a b
unfolding product_bits
more zero a b h = ap (λ (k : ℕ). bit_xor (pick (eqb (k % 2) 1) a 0) 0) (lt-one h)
more (suc n) a b h =
    ap (λ (k : ℕ). bit_xor (pick (eqb (b % 2) 1) a 0) k)
    (more n (xtime a) (b / 2) (let g : b < 2 ^ n * 2 = rw pow-suc at h in omega arith))

pub step : (a b : ℕ) → b < 256 → product a b ≡ bit_xor (pick (eqb (b % 2) 1) a 0) (product (xtime a) (b / 2))
unfolding product product_bits
step a b h = ap (λ (k : ℕ). bit_xor (pick (eqb (b % 2) 1) a 0) k) (sym (more 7 (xtime a) (b / 2) (omega arith)))

pub none : (a : ℕ) → product a 0 ≡ 0
unfolding product product_bits
none a = refl

pub odd : (a b r : ℕ) → b < 256 → b % 2 ≡ 1 → r ≡ product (xtime a) (b / 2) → bit_xor a r ≡ product a b
odd a b r h o e = rw (step a b h, eq-eqb (b % 2) 1 o, e)

pub even : (a b r : ℕ) → b < 256 → (b % 2 ≡ 1 → ⊥) → r ≡ product (xtime a) (b / 2) → r ≡ product a b
even a b r h o e = rw (step a b h, ne_eqb (b % 2) 1 o, e)

pub two : (a : ℕ) → product a 2 ≡ xtime a
unfolding product product_bits
two a = xor_zero_r (xtime a)

pub three : (a : ℕ) → product a 3 ≡ bit_xor a (xtime a)
unfolding product product_bits
three a = ap (bit_xor a) (xor_zero_r (xtime a))
