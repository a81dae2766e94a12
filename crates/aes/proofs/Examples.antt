-- Worked examples of FIPS 197, each computed from the definitions. Assumes nothing.
use mathlib.Core.Path.{◌≡◌, refl}
use mathlib.Core.List.{List, [], ◌∷◌}
use Prim.Native.Nat.{ℕ, suc, ◌*◌, ◌<◌}
use lib.ListN.{drop}
use Rattle.meaning.specs.Octets.{tab}
use Rattle.meaning.specs.Field.{xtime, product, product_bits}
use Rattle.meaning.specs.Sbox.{sbox, affine_bits, affine_bit, bit, inverse, square}
use Rattle.meaning.specs.Cipher.{
  cipher,
  cipher_with,
  rounds,
  expanded,
  key_octet,
  temp,
  power,
  sub_bytes,
  shift_rows,
  mix_columns,
  add_round_key,
}
use Rattle.meaning.proofs.Computed.{agree}

-- 4.2: {57} times {83} is {c1}
pub product-57-83 : product 0x57 0x83 ≡ 0xc1
unfolding product product_bits xtime
product-57-83 = refl

pub sbox-00 : sbox 0x00 ≡ 0x63
unfolding sbox affine_bits affine_bit bit inverse square product product_bits xtime
sbox-00 = refl

pub sbox-01 : sbox 0x01 ≡ 0x7c
unfolding sbox affine_bits affine_bit bit inverse square product product_bits xtime
sbox-01 = refl

-- 5.1.1: {53} goes to {ed}
pub sbox-53 : sbox 0x53 ≡ 0xed
unfolding sbox affine_bits affine_bit bit inverse square product product_bits xtime
sbox-53 = refl

-- `inverse` is the inverse: at each octet but 0 the product is 1
pub inverse-right : (x : ℕ) → x < 255 → product (suc x) (inverse (suc x)) ≡ 1
unfolding inverse square product product_bits xtime
inverse-right x h = agree (λ x. product (suc x) (inverse (suc x))) (λ x. 1) 255 tt x h

pub inverse-zero : inverse 0 ≡ 0
unfolding inverse square product product_bits xtime
inverse-zero = refl

-- the key of A.1 and B
abbrev pub key-a1 : List ℕ
key-a1 = 0x2b ∷ 0x7e ∷ 0x15 ∷ 0x16 ∷ 0x28 ∷ 0xae ∷ 0xd2 ∷ 0xa6 ∷ 0xab ∷ 0xf7 ∷ 0x15 ∷ 0x88 ∷ 0x09 ∷ 0xcf ∷ 0x4f ∷ 0x3c ∷ []

-- A.1: the words 4 to 7 of the expanded key
pub expanded-a1 : drop 16 (expanded key-a1 16)
    ≡ 0xa0 ∷ 0xfa ∷ 0xfe ∷ 0x17 ∷ 0x88 ∷ 0x54 ∷ 0x2c ∷ 0xb1 ∷ 0x23 ∷ 0xa3 ∷ 0x39 ∷ 0x39 ∷ 0x2a ∷ 0x6c ∷ 0x76 ∷ 0x05 ∷ []
unfolding expanded key_octet temp power sbox affine_bits affine_bit bit inverse square product product_bits xtime
expanded-a1 = refl

-- B: the block 3243f6a8885a308d313198a2e0370734 under the key of A.1
pub cipher-b : cipher key-a1
    (0x32 ∷ 0x43 ∷ 0xf6 ∷ 0xa8 ∷ 0x88 ∷ 0x5a ∷ 0x30 ∷ 0x8d ∷ 0x31 ∷ 0x31 ∷ 0x98 ∷ 0xa2 ∷ 0xe0 ∷ 0x37 ∷ 0x07 ∷ 0x34 ∷ [])
    ≡ 0x39 ∷ 0x25 ∷ 0x84 ∷ 0x1d ∷ 0x02 ∷ 0xdc ∷ 0x09 ∷ 0xfb ∷ 0xdc ∷ 0x11 ∷ 0x85 ∷ 0x97 ∷ 0x19 ∷ 0x6a ∷ 0x0b ∷ 0x32 ∷ []
unfolding cipher cipher_with rounds expanded key_octet temp power sub_bytes shift_rows mix_columns add_round_key sbox affine_bits affine_bit bit inverse square product product_bits xtime
cipher-b = refl

-- C.1: the block 00112233445566778899aabbccddeeff under the key 000102030405060708090a0b0c0d0e0f
pub cipher-c1 : cipher (tab (λ i. i) 16) (tab (λ i. 0x11 * i) 16)
    ≡ 0x69 ∷ 0xc4 ∷ 0xe0 ∷ 0xd8 ∷ 0x6a ∷ 0x7b ∷ 0x04 ∷ 0x30 ∷ 0xd8 ∷ 0xcd ∷ 0xb7 ∷ 0x80 ∷ 0x70 ∷ 0xb4 ∷ 0xc5 ∷ 0x5a ∷ []
unfolding cipher cipher_with rounds expanded key_octet temp power sub_bytes shift_rows mix_columns add_round_key sbox affine_bits affine_bit bit inverse square product product_bits xtime
cipher-c1 = refl
