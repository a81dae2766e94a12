-- Laws of words, octet by octet: exclusive or, masks, factors, joining, turning, doubling, and MixColumns on a column.
-- Assumes nothing.
use mathlib.Core.Path.{◌≡◌, refl, sym, ap, ap₂, ◌∙◌}
use mathlib.Core.List.{List, [], ◌∷◌}
use Prim.Native.Nat.{ℕ, zero, suc, ◌+◌, ◌*◌, ◌/◌, ◌%◌, ◌^◌, ◌<◌}
use native.Mathlib.Nat.{add-zero, add-mul, mul_right_comm, div-add-mod'}
use native.Mathlib.Omega.{arith}
use lib.Arith.{digits_div, digits_mod}
use Rattle.std.specs.Int.{rotate_right, w32}
use Rattle.std.specs.Int.Bits.{bit_or, or_shifted_r}
use lib.Bits.{bit_xor, bit_and, differ, xor_comm, xor_step, xor_lt, xor_shr, xor_mod, and_shr, and_mod, and_mask}
use lib.Dec.{eqb, eqb→eq}
use lib.ListN.{get_or}
use Rattle.meaning.specs.Octets.{octs}
use Rattle.meaning.specs.Field.{xtime}
use Rattle.meaning.specs.Cipher.{mixed}
use Rattle.meaning.proofs.Numbers.{length-octs, octs-lt}
use Rattle.meaning.proofs.Tabs.{tab-of, get_or-tab}
use Rattle.meaning.proofs.Computed.{each, below, agree}
use Rattle.meaning.proofs.Xor.{xor_assoc}
use Rattle.aes.specs.Words.{turned, doubled, mix_column}
use Rattle.aes.proofs.Products.{two, three}

-- octet i of a word
abbrev row : ℕ → ℕ → ℕ
row i x = get_or (octs 4 x) i 0

-- ---- numbers of k octets
-- an operation that goes bit by bit goes octet by octet
module _ (op : ℕ → ℕ → ℕ) (none : op 0 0 ≡ 0) (shr : (x y k : ℕ) → op x y / 2 ^ k ≡ op (x / 2 ^ k) (y / 2 ^ k))
    (low : (x y k : ℕ) → op x y % 2 ^ k ≡ op (x % 2 ^ k) (y % 2 ^ k)) where
  octet-op : (k i x y : ℕ) → get_or (octs k (op x y)) i 0 ≡ op (get_or (octs k x) i 0) (get_or (octs k y) i 0)
  unfolding octs
  octet-op zero i x y = sym none
  octet-op (suc k) zero x y = low x y 8
  octet-op (suc k) (suc i) x y = ap (λ (z : ℕ). get_or (octs k z) i 0) (shr x y 8) ∙ octet-op k i (x / 256) (y / 256)

pub octet-xor : (k i x y : ℕ) → get_or (octs k (bit_xor x y)) i 0 ≡ bit_xor (get_or (octs k x) i 0) (get_or (octs k y) i 0)
octet-xor = octet-op bit_xor refl xor_shr xor_mod

pub octet-and : (k i x y : ℕ) → get_or (octs k (bit_and x y)) i 0 ≡ bit_and (get_or (octs k x) i 0) (get_or (octs k y) i 0)
octet-and = octet-op bit_and refl and_shr and_mod

-- a factor whose product with each octet is an octet
times-parts : (x m : ℕ) → x * m ≡ x / 256 * m * 256 + x % 256 * m
times-parts x m =
    ap (λ (z : ℕ). z * m) (sym (div-add-mod' x 256)) ∙ add-mul (x / 256 * 256) (x % 256) m
    ∙ ap (λ (z : ℕ). z + x % 256 * m) (mul_right_comm (x / 256) 256 m)

pub octet-times : (m k i x : ℕ) → ((j : ℕ) → j < k → get_or (octs k x) j 0 * m < 256) → i < k
    → get_or (octs k (x * m)) i 0 ≡ get_or (octs k x) i 0 * m
unfolding octs
octet-times m zero i x small h = absurd (omega arith)
octet-times m (suc k) zero x small h = ap (λ (z : ℕ). z % 256) (times-parts x m) ∙ digits_mod (x / 256 * m) (small 0 (omega arith))
octet-times m (suc k) (suc i) x small h =
    ap (λ (z : ℕ). get_or (octs k z) i 0)
    (ap (λ (z : ℕ). z / 256) (times-parts x m) ∙ digits_div (x / 256 * m) (small 0 (omega arith)))
    ∙ octet-times m k i (x / 256) (λ j l. small (suc j) (omega arith)) (omega arith)

-- ---- four octets joined, and turned by one place
pub four : {x0 x1 x2 x3 y0 y1 y2 y3 : ℕ} → x0 ≡ y0 → x1 ≡ y1 → x2 ≡ y2 → x3 ≡ y3
    → x0 ∷ x1 ∷ x2 ∷ x3 ∷ [] ≡ y0 ∷ y1 ∷ y2 ∷ y3 ∷ []
four p q r s = cons p (cons q (cons r (cons s refl)))
  where
    cons : {x y : ℕ} {s t : List ℕ} → x ≡ y → s ≡ t → x ∷ s ≡ y ∷ t
    cons p q = ap₂ (λ (a : ℕ) (l : List ℕ). a ∷ l) p q

pub joined : (a b c d : ℕ) → a < 256 → b < 256 → c < 256 → d < 256
    → octs 4 (a + 256 * b + 65536 * c + 16777216 * d) ≡ a ∷ b ∷ c ∷ d ∷ []
unfolding octs
joined a b c d ha hb hc hd =
    let x : ℕ = a + 256 * b + 65536 * c + 16777216 * d in
    let p : x / 256 ≡ b + 256 * c + 65536 * d = omega arith in
    let q : x / 256 / 256 ≡ c + 256 * d = omega arith in
    let r : x / 256 / 256 / 256 ≡ d = omega arith in
    four (omega arith) (omega arith) (omega arith) (omega arith)

pub turn-word : (x : ℕ) → x < 4294967296 → octs 4 (x / 256 + 16777216 * (x % 256)) ≡ turned (octs 4 x)
unfolding octs turned
turn-word x h =
    let e : x / 256 + 16777216 * (x % 256)
    ≡ x / 256 % 256 + 256 * (x / 256 / 256 % 256) + 65536 * (x / 256 / 256 / 256 % 256) + 16777216 * (x % 256) = omega arith in
    ap (octs 4) e
    ∙ joined (x / 256 % 256) (x / 256 / 256 % 256) (x / 256 / 256 / 256 % 256) (x % 256) (omega arith) (omega arith) (omega arith) (omega arith)

pub rotated : (x : ℕ) → x < 4294967296 → rotate_right w32 x 8 ≡ x / 256 + 16777216 * (x % 256)
rotated x h =
    let e : x * 16777216 % 4294967296 ≡ x % 256 * 16777216 = omega arith in
    ap (bit_or (x / 256)) e ∙ or_shifted_r (x % 256) 24 (x / 256) (omega arith) ∙ omega arith

-- ---- each octet times {02}
low-bits : (i x : ℕ) → i < 4 → row i (bit_and x 0x7f7f7f7f) ≡ row i x % 128
unfolding octs
low-bits i x h =
    octet-and 4 i x 0x7f7f7f7f ∙ ap (bit_and (row i x)) (agree (λ i. row i 0x7f7f7f7f) (λ i. 127) 4 tt i h) ∙ and_mask (row i x) 7

shifted-bit : (k i x : ℕ) → get_or (octs k (x / 128)) i 0 % 2 ≡ get_or (octs k x) i 0 / 128
unfolding octs
shifted-bit zero i x = refl
shifted-bit (suc k) zero x = omega arith
shifted-bit (suc k) (suc i) x =
    let e : x / 128 / 256 ≡ x / 256 / 128 = omega arith in
    ap (λ (z : ℕ). get_or (octs k z) i 0 % 2) e ∙ shifted-bit k i (x / 256)

top-bits : (i x : ℕ) → i < 4 → row i (bit_and (x / 128) 0x01010101) ≡ row i x / 128
unfolding octs
top-bits i x h =
    octet-and 4 i (x / 128) 0x01010101 ∙ ap (bit_and (row i (x / 128))) (agree (λ i. row i 0x01010101) (λ i. 1) 4 tt i h)
    ∙ and_mask (row i (x / 128)) 1 ∙ shifted-bit 4 i x

-- the same of an octet, with no test
by-bits : (a : ℕ) → a < 256 → bit_xor (a % 128 * 2) (a / 128 * 27) ≡ xtime a
unfolding xtime
by-bits a h = agree (λ a. bit_xor (a % 128 * 2) (a / 128 * 27)) xtime 256 tt a h

doubled-octet : (i x : ℕ) → i < 4 → row i (bit_xor (bit_and x 0x7f7f7f7f * 2) (bit_and (x / 128) 0x01010101 * 27)) ≡ xtime (row i x)
doubled-octet i x h =
    let l : ℕ = bit_and x 0x7f7f7f7f in
    let t : ℕ = bit_and (x / 128) 0x01010101 in
    octet-xor 4 i (l * 2) (t * 27)
    ∙ ap₂ bit_xor
    (octet-times 2 4 i l (λ j k. omega (arith, low-bits j x k)) h ∙ ap (λ (z : ℕ). z * 2) (low-bits i x h))
    (octet-times 27 4 i t (λ j k. omega (arith, top-bits j x k, octs-lt 4 x j)) h ∙ ap (λ (z : ℕ). z * 27) (top-bits i x h))
    ∙ by-bits (row i x) (octs-lt 4 x i)

pub double-word : (x : ℕ) → octs 4 (bit_xor (bit_and x 0x7f7f7f7f * 2) (bit_and (x / 128) 0x01010101 * 27)) ≡ doubled (octs 4 x)
unfolding doubled
double-word x =
    let y : ℕ = bit_xor (bit_and x 0x7f7f7f7f * 2) (bit_and (x / 128) 0x01010101 * 27) in
    tab-of (λ i. xtime (row i x)) 0 4 (octs 4 y) (length-octs 4 y) (λ i h. doubled-octet i x h)

-- ---- times {02} is linear
xor-left : (a b c : ℕ) → bit_xor a (bit_xor b c) ≡ bit_xor b (bit_xor a c)
xor-left a b c = sym (xor_assoc a b c) ∙ ap (λ (z : ℕ). bit_xor z c) (xor_comm a b) ∙ xor_assoc b a c

twice-xor : (p q : ℕ) → bit_xor p q * 2 ≡ bit_xor (p * 2) (q * 2)
twice-xor p q =
    let e : p * 2 / 2 ≡ p = omega arith in
    let f : q * 2 / 2 ≡ q = omega arith in
    let g : p * 2 % 2 ≡ 0 = omega arith in
    let h : q * 2 % 2 ≡ 0 = omega arith in
    sym (xor_step (p * 2) (q * 2) ∙ ap₂ (λ (x y : ℕ). x * 2 + y) (ap₂ bit_xor e f) (ap₂ differ g h) ∙ add-zero (bit_xor p q * 2))

-- by a test of the four cases
reduced-xor : (p q : ℕ) → p < 2 → q < 2 → bit_xor p q * 27 ≡ bit_xor (p * 27) (q * 27)
reduced-xor p q h k =
    eqb→eq _ _
    (below (λ q. eqb (bit_xor p q * 27) (bit_xor (p * 27) (q * 27))) 2
    (below (λ p. each (λ q. eqb (bit_xor p q * 27) (bit_xor (p * 27) (q * 27))) 2) 2 tt p h) q k)

pub xtime-xor : (a b : ℕ) → a < 256 → b < 256 → xtime (bit_xor a b) ≡ bit_xor (xtime a) (xtime b)
xtime-xor a b h k =
    sym (by-bits (bit_xor a b) (xor_lt 8 a b h k))
    ∙ ap₂ bit_xor
    (ap (λ (z : ℕ). z * 2) (xor_mod a b 7) ∙ twice-xor (a % 128) (b % 128))
    (ap (λ (z : ℕ). z * 27) (xor_shr a b 7) ∙ reduced-xor (a / 128) (b / 128) (omega arith) (omega arith))
    ∙ regrouped (a % 128 * 2) (b % 128 * 2) (a / 128 * 27) (b / 128 * 27)
    ∙ ap₂ bit_xor (by-bits a h) (by-bits b k)
  where
    regrouped : (a b c d : ℕ) → bit_xor (bit_xor a b) (bit_xor c d) ≡ bit_xor (bit_xor a c) (bit_xor b d)
    regrouped a b c d = simp (xor_assoc, xor-left)

-- ---- a column times the matrix
row-turned : (x t i : ℕ) → octs 4 t ≡ turned (octs 4 x) → i < 4 → row i t ≡ row ((i + 1) % 4) x
unfolding turned
row-turned x t i e h = ap (λ (l : List ℕ). get_or l i 0) e ∙ get_or-tab (λ r. row ((r + 1) % 4) x) 0 4 i h

row-doubled : (x y i : ℕ) → octs 4 y ≡ doubled (octs 4 x) → i < 4 → row i y ≡ xtime (row i x)
unfolding doubled
row-doubled x y i e h = ap (λ (l : List ℕ). get_or l i 0) e ∙ get_or-tab (λ r. xtime (row r x)) 0 4 i h

-- a row, where a + b is doubled first
mixed-row : (a b c d : ℕ) → a < 256 → b < 256 → bit_xor (bit_xor (xtime (bit_xor a b)) b) (bit_xor c d) ≡ mixed a b c d
mixed-row a b c d h k = rw (xtime-xor a b h k, two a, three b) (simp (xor_assoc, xor_comm, xor-left))

-- t is x turned; of their sum, y is the double, and v what two turns make
module _ (x t y u v : ℕ) (et : octs 4 t ≡ turned (octs 4 x)) (ey : octs 4 y ≡ doubled (octs 4 (bit_xor x t)))
    (eu : octs 4 u ≡ turned (octs 4 (bit_xor x t))) (ev : octs 4 v ≡ turned (octs 4 u)) where
  -- octet r of the column
  abbrev mixed_row : ℕ → ℕ
  mixed_row r = mixed (row r x) (row ((r + 1) % 4) x) (row ((r + 2) % 4) x) (row ((r + 3) % 4) x)

  sum-row : (i : ℕ) → i < 4 → row i (bit_xor x t) ≡ bit_xor (row i x) (row ((i + 1) % 4) x)
  sum-row i h = octet-xor 4 i x t ∙ ap (bit_xor (row i x)) (row-turned x t i et h)

  mixed-octet : (i : ℕ) → i < 4 → row i (bit_xor (bit_xor y t) v) ≡ mixed_row i
  mixed-octet i h =
      let j : ℕ = (i + 1) % 4 in
      let k : ℕ = (j + 1) % 4 in
      let p : k ≡ (i + 2) % 4 = agree (λ i. ((i + 1) % 4 + 1) % 4) (λ i. (i + 2) % 4) 4 tt i h in
      let q : (k + 1) % 4 ≡ (i + 3) % 4 = agree (λ i. (((i + 1) % 4 + 1) % 4 + 1) % 4) (λ i. (i + 3) % 4) 4 tt i h in
      octet-xor 4 i (bit_xor y t) v
      ∙ ap₂ bit_xor
      (octet-xor 4 i y t
      ∙ ap₂ bit_xor (row-doubled (bit_xor x t) y i ey h ∙ ap xtime (sum-row i h)) (row-turned x t i et h))
      (row-turned u v i ev h ∙ row-turned (bit_xor x t) u j eu (omega arith) ∙ sum-row k (omega arith)
      ∙ ap₂ (λ (m n : ℕ). bit_xor (row m x) (row n x)) p q)
      ∙ mixed-row (row i x) (row j x) (row ((i + 2) % 4) x) (row ((i + 3) % 4) x) (octs-lt 4 x i) (octs-lt 4 x j)

  pub mix_word : octs 4 (bit_xor (bit_xor y t) v) ≡ mix_column (octs 4 x)
  unfolding mix_column
  mix_word = tab-of mixed_row 0 4 (octs 4 (bit_xor (bit_xor y t) v)) (length-octs 4 (bit_xor (bit_xor y t) v)) mixed-octet
