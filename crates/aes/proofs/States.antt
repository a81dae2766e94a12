-- Steps of a round on four words are steps on the state of their octets. Assumes nothing.
use mathlib.Core.Path.{◌≡◌, refl, sym, ap, ap₂, ◌∙◌}
use mathlib.Core.List.{List, [], ◌∷◌, ◌++◌}
use Prim.Native.Nat.{ℕ, ◌+◌, ◌*◌, ◌/◌, ◌%◌}
use native.Mathlib.Omega.{arith}
use lib.Bits.{bit_xor}
use lib.ListN.{length, get_or, take, drop}
use lib.Seq.{sets, take-add, take_all, drop-drop}
use Rattle.meaning.specs.Octets.{octs, part, tab}
use Rattle.meaning.specs.Sbox.{sbox}
use Rattle.meaning.specs.Cipher.{sub_bytes, shift_rows, mix_columns, add_round_key, round_key}
use Rattle.meaning.proofs.Numbers.{length-octs}
use Rattle.meaning.proofs.Tabs.{tab-of}
use Rattle.aes.specs.Words.{sub_column, mix_column}
use Rattle.aes.proofs.Words.{four, octet-xor}

-- the octets of four words
abbrev pub octets : ℕ → ℕ → ℕ → ℕ → List ℕ
octets a b c d = octs 4 a ++ (octs 4 b ++ (octs 4 c ++ octs 4 d))

columns : {p q r s p' q' r' s' : List ℕ} → p ≡ p' → q ≡ q' → r ≡ r' → s ≡ s' → p ++ (q ++ (r ++ s)) ≡ p' ++ (q' ++ (r' ++ s'))
columns e f g h = ap₂ ◌++◌ e (ap₂ ◌++◌ f (ap₂ ◌++◌ g h))

-- ---- words in a list
part-more : (s : List ℕ) (at m n k : ℕ) → at + m ≡ k → part at (m + n) s ≡ part at m s ++ part k n s
part-more s at m n k e =
    take-add m n (drop at s) ∙ ap (λ (l : List ℕ). take m (drop at s) ++ take n l) (drop-drop m at s ∙ ap (λ (j : ℕ). drop j s) e)

four-words : (s : List ℕ) (at a b c d : ℕ) → octs 4 a ≡ part at 4 s → octs 4 b ≡ part (at + 4) 4 s → octs 4 c ≡ part (at + 8) 4 s
    → octs 4 d ≡ part (at + 12) 4 s → octets a b c d ≡ part at 16 s
four-words s at a b c d e f g h =
    columns e f g h
    ∙ sym
    (part-more s at 4 12 (at + 4) refl
    ∙ ap (λ (l : List ℕ). part at 4 s ++ l)
    (part-more s (at + 4) 4 8 (at + 8) (omega arith)
    ∙ ap (λ (l : List ℕ). part (at + 4) 4 s ++ l) (part-more s (at + 8) 4 4 (at + 12) (omega arith))))

pub loaded : (s : List ℕ) (a b c d : ℕ) → length s ≡ 16 → octs 4 a ≡ part 0 4 s → octs 4 b ≡ part 4 4 s → octs 4 c ≡ part 8 4 s
    → octs 4 d ≡ part 12 4 s → octets a b c d ≡ s
loaded s a b c d l e f g h = four-words s 0 a b c d e f g h ∙ take_all 16 s (omega arith)

pub stored : (a b c d : ℕ) {p q r s : List ℕ} → p ≡ sets (tab (λ i. 0) 16) 0 (octs 4 a) → q ≡ sets p 4 (octs 4 b) → r ≡ sets q 8 (octs 4 c)
    → s ≡ sets r 12 (octs 4 d) → s ≡ octets a b c d
unfolding octs
stored a b c d e f g h = rw (h, g, f, e)

-- ---- the steps
pub subbed : (a b c d x : ℕ) {p q r s : ℕ} → octs 4 x ≡ p ∷ q ∷ r ∷ s ∷ [] → p ≡ sbox (a % 256) → q ≡ sbox (b / 256 % 256)
    → r ≡ sbox (c / 65536 % 256) → s ≡ sbox (d / 16777216 % 256) → octs 4 x ≡ sub_column a b c d
unfolding octs sub_column
subbed a b c d x e p q r s =
    let f : c / 65536 % 256 ≡ c / 256 / 256 % 256 = omega arith in
    let g : d / 16777216 % 256 ≡ d / 256 / 256 / 256 % 256 = omega arith in
    e ∙ four p q (r ∙ ap sbox f) (s ∙ ap sbox g)

pub sub_shifted : (a b c d e f g h : ℕ) → octs 4 e ≡ sub_column a b c d → octs 4 f ≡ sub_column b c d a → octs 4 g ≡ sub_column c d a b
    → octs 4 h ≡ sub_column d a b c → octets e f g h ≡ shift_rows (sub_bytes (octets a b c d))
unfolding octs sub_column shift_rows sub_bytes
sub_shifted a b c d e f g h p q r s = columns p q r s

pub mixed_columns : (a b c d e f g h : ℕ) → octs 4 e ≡ mix_column (octs 4 a) → octs 4 f ≡ mix_column (octs 4 b) → octs 4 g ≡ mix_column (octs 4 c)
    → octs 4 h ≡ mix_column (octs 4 d) → octets e f g h ≡ mix_columns (octets a b c d)
unfolding octs mix_column mix_columns
mixed_columns a b c d e f g h p q r s = columns p q r s

octs-xor : (x y : ℕ) → octs 4 (bit_xor x y) ≡ tab (λ i. bit_xor (get_or (octs 4 x) i 0) (get_or (octs 4 y) i 0)) 4
octs-xor x y =
    tab-of (λ i. bit_xor (get_or (octs 4 x) i 0) (get_or (octs 4 y) i 0)) 0 4 (octs 4 (bit_xor x y)) (length-octs 4 (bit_xor x y))
    (λ i h. octet-xor 4 i x y)

added : (a b c d e f g h : ℕ) → octets (bit_xor a e) (bit_xor b f) (bit_xor c g) (bit_xor d h) ≡ add_round_key (octets a b c d) (octets e f g h)
unfolding octs add_round_key
added a b c d e f g h = columns (octs-xor a e) (octs-xor b f) (octs-xor c g) (octs-xor d h)

pub key_added : (w : List ℕ) (n a b c d e f g h : ℕ) → octs 4 e ≡ part (16 * n) 4 w → octs 4 f ≡ part (16 * n + 4) 4 w
    → octs 4 g ≡ part (16 * n + 8) 4 w → octs 4 h ≡ part (16 * n + 12) 4 w
    → octets (bit_xor a e) (bit_xor b f) (bit_xor c g) (bit_xor d h) ≡ add_round_key (octets a b c d) (round_key w n)
key_added w n a b c d e f g h p q r s = added a b c d e f g h ∙ ap (add_round_key (octets a b c d)) (four-words w (16 * n) e f g h p q r s)
