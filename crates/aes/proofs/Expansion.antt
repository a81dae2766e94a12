-- The key expansion: a buffer grows by the words of a round key, and its front is the expanded key, octet by octet. Assumes nothing.
use mathlib.Core.Path.{◌≡◌, refl, sym, ap, ap₂, ◌∙◌}
use mathlib.Core.List.{List, [], ◌∷◌, ◌++◌}
use Prim.Native.Nat.{ℕ, zero, suc, ◌+◌, ◌-◌, ◌*◌, ◌/◌, ◌%◌, ◌<◌, ◌≤◌}
use native.Mathlib.Numerals.{add-one}
use native.Mathlib.Omega.{arith}
use lib.Bits.{bit_xor}
use lib.ListN.{length, get_or, take, set, length-set}
use lib.Seq.{take-suc-set, take_all, get_or-take}
use borrow.Author.Tests.{lt-ltb, le-ltb, eq-eqb, ne_eqb}
use Rattle.meaning.specs.Sbox.{sbox}
use Rattle.meaning.specs.Cipher.{power, temp, key_octet, expanded}
use Rattle.aes.specs.Schedule.{more, grown, scheduled}

-- the three cases of an octet
module _ (w : List ℕ) (i : ℕ) where
  first : {x r : ℕ} → i % 16 < 4 → i % 16 ≡ 0 → x ≡ sbox (get_or w (4 * (i / 4 - 1) + (i % 4 + 1) % 4) 0) → r ≡ power (i / 16 - 1)
      → bit_xor (get_or w (i - 16) 0) (bit_xor x r) ≡ key_octet w i
  unfolding key_octet temp
  first h z e p = rw (lt-ltb _ _ h, eq-eqb _ _ z, e, p)

  middle : {x : ℕ} → i % 16 < 4 → (i % 16 ≡ 0 → ⊥) → x ≡ sbox (get_or w (4 * (i / 4 - 1) + (i % 4 + 1) % 4) 0)
      → bit_xor (get_or w (i - 16) 0) x ≡ key_octet w i
  unfolding key_octet temp
  middle h z e = rw (lt-ltb _ _ h, ne_eqb _ _ z, e)

  last : 4 ≤ i % 16 → bit_xor (get_or w (i - 16) 0) (get_or w (i - 4) 0) ≡ key_octet w i
  unfolding key_octet temp
  last h = rw (le-ltb _ _ h)

  -- an octet depends on those before it alone
  before : 16 ≤ i → key_octet (take i w) i ≡ key_octet w i
  unfolding key_octet temp
  before h =
      rw (get_or-take i w (i - 16) 0 (omega arith), get_or-take i w (i - 4) 0 (omega arith), get_or-take i w (4 * (i / 4 - 1) + (i % 4 + 1) % 4) 0 (omega arith))

expand-more : (key w : List ℕ) (i v : ℕ) → 16 ≤ i → i < length w → take i w ≡ expanded key (i - 16) → v ≡ key_octet w i
    → take (i + 1) (set w i v) ≡ expanded key (i + 1 - 16)
unfolding expanded
expand-more key w i v l h e q =
    let n : i + 1 - 16 ≡ suc (i - 16) = omega arith in
    let m : i ≡ 16 + (i - 16) = omega arith in
    let o : v ≡ key_octet (expanded key (i - 16)) (16 + (i - 16)) = q ∙ sym (before w i l) ∙ ap₂ key_octet e m in
    ap (λ (k : ℕ). take k (set w i v)) (add-one i) ∙ take-suc-set w i v h ∙ ap₂ (λ (l : List ℕ) (x : ℕ). l ++ (x ∷ [])) e o
    ∙ sym (ap (expanded key) n)

-- ---- a buffer that grows
grow-more : (w v : List ℕ) (i m x : ℕ) → v ≡ grown w i m → x ≡ key_octet v (i + m) → set v (i + m) x ≡ grown w i (suc m)
unfolding grown more
grow-more w v i m x e q = rw (q, e)

pub grown-add : (w : List ℕ) (i m k : ℕ) → grown (grown w i m) (i + m) k ≡ grown w i (m + k)
unfolding grown
grown-add w i m zero = let z : m + 0 ≡ m = omega arith in rw z
grown-add w i m (suc k) =
    let z : m + suc k ≡ suc (m + k) = omega arith in
    let y : i + m + k ≡ i + (m + k) = omega arith in rw (z, grown-add w i m k, y)

-- the first word: w has the octets before place at, and x0 .. x3 are what the S-box gives
module _ (w : List ℕ) (n x0 x1 x2 x3 r : ℕ) where
  abbrev at : ℕ
  at = 16 * n + 16

  abbrev w1 : List ℕ
  w1 = set w at (bit_xor (get_or w (at - 16) 0) (bit_xor x0 r))

  abbrev w2 : List ℕ
  w2 = set w1 (at + 1) (bit_xor (get_or w1 (at - 15) 0) x1)

  abbrev w3 : List ℕ
  w3 = set w2 (at + 2) (bit_xor (get_or w2 (at - 14) 0) x2)

  abbrev w4 : List ℕ
  w4 = set w3 (at + 3) (bit_xor (get_or w3 (at - 13) 0) x3)

  by-first : x0 ≡ sbox (get_or w (at - 3) 0) → r ≡ power n → w1 ≡ grown w at 1
  unfolding grown
  by-first e p =
      let z : at + 0 ≡ at = omega arith in
      let a : at - 3 ≡ 4 * (at / 4 - 1) + (at % 4 + 1) % 4 = omega arith in
      let b : n ≡ at / 16 - 1 = omega arith in
      let q : bit_xor (get_or w (at - 16) 0) (bit_xor x0 r) ≡ key_octet w at =
      first w at (omega arith) (omega arith) (e ∙ ap (λ (k : ℕ). sbox (get_or w k 0)) a) (p ∙ ap power b)
      in
      ap (λ (k : ℕ). set w k (bit_xor (get_or w (at - 16) 0) (bit_xor x0 r))) (sym z) ∙ grow-more w w at 0 _ refl (q ∙ ap (key_octet w) (sym z))

  -- one of the other three
  by-next : (v : List ℕ) (m p q x : ℕ) → 0 < m → m < 4 → p ≡ at + m - 16 → q ≡ 4 * ((at + m) / 4 - 1) + ((at + m) % 4 + 1) % 4
      → v ≡ grown w at m → x ≡ sbox (get_or v q 0) → set v (at + m) (bit_xor (get_or v p 0) x) ≡ grown w at (suc m)
  by-next v m p q x h k a b e f =
      grow-more w v at m _ e
      (ap (λ (o : ℕ). bit_xor (get_or v o 0) x) a ∙ middle v (at + m) (omega arith) (λ z. omega arith) (f ∙ ap (λ (o : ℕ). sbox (get_or v o 0)) b))

  pub first_made : x0 ≡ sbox (get_or w (at - 3) 0) → r ≡ power n → x1 ≡ sbox (get_or w1 (at - 2) 0) → x2 ≡ sbox (get_or w2 (at - 1) 0)
      → x3 ≡ sbox (get_or w3 (at - 4) 0) → w4 ≡ grown w at 4
  first_made e p f g h =
      by-next w3 3 (at - 13) (at - 4) x3 (omega arith) (omega arith) (omega arith) (omega arith)
      (by-next w2 2 (at - 14) (at - 1) x2 (omega arith) (omega arith) (omega arith) (omega arith)
      (by-next w1 1 (at - 15) (at - 2) x1 (omega arith) (omega arith) (omega arith) (omega arith) (by-first e p) f) g) h

-- an octet of the other words
pub other-made : (w v : List ℕ) (n j : ℕ) → j < 12 → v ≡ grown w (16 * n + 20) j
    → set v (16 * n + 20 + j) (bit_xor (get_or v (16 * n + 20 + j - 16) 0) (get_or v (16 * n + 20 + j - 4) 0)) ≡ grown w (16 * n + 20) (j + 1)
other-made w v n j h e =
    grow-more w v (16 * n + 20) j _ e (last v (16 * n + 20 + j) (omega arith)) ∙ ap (grown w (16 * n + 20)) (sym (add-one j))

-- ---- round n + 1: w has grown from b by n round keys
pub round-made : (b w v u : List ℕ) (n : ℕ) → w ≡ grown b 16 (16 * n) → v ≡ grown w (16 * n + 16) 4 → u ≡ grown v (16 * n + 20) 12
    → u ≡ grown b 16 (16 * (n + 1))
round-made b w v u n e f g =
    let x : 16 * n + 16 ≡ 16 + 16 * n = omega arith in
    let y : 16 * n + 20 ≡ 16 + (16 * n + 4) = omega arith in
    let z : 16 * n + 4 + 12 ≡ 16 * (n + 1) = omega arith in
    let h : v ≡ grown b 16 (16 * n + 4) = f ∙ ap₂ (λ (l : List ℕ) (k : ℕ). grown l k 4) e x ∙ grown-add b 16 (16 * n) 4 in
    g ∙ ap₂ (λ (l : List ℕ) (k : ℕ). grown l k 12) h y ∙ grown-add b 16 (16 * n + 4) 12 ∙ ap (grown b 16) z

-- ---- the front of what has grown is the expanded key
length-grown : (w : List ℕ) (i m : ℕ) → length (grown w i m) ≡ length w
unfolding grown more
length-grown w i zero = refl
length-grown w i (suc m) = length-set (grown w i m) (i + m) _ ∙ length-grown w i m

grown-front : (key b : List ℕ) (m : ℕ) → take 16 b ≡ key → 16 + m ≤ length b → take (16 + m) (grown b 16 m) ≡ expanded key m
unfolding grown more expanded
grown-front key b zero e h = e
grown-front key b (suc m) e h =
    let o : m ≡ 16 + m - 16 = omega arith in
    let f : take (16 + m) (grown b 16 m) ≡ expanded key (16 + m - 16) = grown-front key b m e (omega arith) ∙ ap (expanded key) o in
    let p : 16 + suc m ≡ 16 + m + 1 = omega arith in
    let q : 16 + m + 1 - 16 ≡ suc m = omega arith in
    ap (λ (k : ℕ). take k (more (grown b 16 m) (16 + m))) p
    ∙ expand-more key (grown b 16 m) (16 + m) _ (omega arith) (omega (arith, length-grown b 16 m)) f refl
    ∙ ap (expanded key) q

pub grown-whole : (key b w : List ℕ) (n : ℕ) → take 16 b ≡ key → length b ≡ 176 → n ≡ 10 → w ≡ grown b 16 (16 * n) → w ≡ scheduled key
unfolding scheduled
grown-whole key b w n e h k g =
    g ∙ ap (λ (m : ℕ). grown b 16 (16 * m)) k
    ∙ sym (take_all 176 (grown b 16 160) (omega (arith, length-grown b 16 160)))
    ∙ grown-front key b 160 e (omega arith)
