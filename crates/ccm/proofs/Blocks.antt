-- Lists of octets added to each other, and put together to a block. Assumes nothing.
--     add-more, add-all       one octet after the other
--     add-front, add-after    a part of a list, and what stands after it
--     add-zeros, add-swapped  zeros change nothing; of two lists of one length either comes first
--     block-put               a nonce and a number behind the flags
use Rattle.std.proofs.Common.{◌≡◌, refl, sym, ap, ap₂, ℕ, zero, suc, ◌+◌, ◌<◌, ◌≤◌, List, [], ◌∷◌, ◌++◌, length, get_or, take, drop, arith, add-one}
use Prim.Native.Nat.{min}
use mathlib.Core.List.{append-nil}
use lib.Bits.{bit_xor, xor_comm}
use lib.ListN.{set, replicate, take-append-drop}
use lib.Seq.{take_at, drop_at}
use Rattle.meaning.specs.Ccm.{xor_by}
use Rattle.meaning.proofs.Ccm.{xor_by-zeros}

pub add-none : (q : List ℕ) → xor_by q [] ≡ q
unfolding xor_by
add-none [] = refl
add-none (x ∷ q) = refl

add-next : (q k : List ℕ) (i : ℕ) → i < length q → i < length k
    → set (xor_by q (take i k)) i (bit_xor (get_or (xor_by q (take i k)) i 0) (get_or k i 0)) ≡ xor_by q (take (suc i) k)
unfolding xor_by
add-next [] k i h l = absurd (omega arith)
add-next (x ∷ q) [] i h l = absurd (omega arith)
add-next (x ∷ q) (y ∷ k) zero h l = ap (λ (r : List ℕ). bit_xor x y ∷ r) (sym (add-none q))
add-next (x ∷ q) (y ∷ k) (suc i) h l = ap (λ (r : List ℕ). bit_xor x y ∷ r) (add-next q k i (omega arith) (omega arith))

pub add-more : (q k s : List ℕ) (i : ℕ) → s ≡ xor_by q (take i k) → i < length q → i < length k
    → set s i (bit_xor (get_or s i 0) (get_or k i 0)) ≡ xor_by q (take (i + 1) k)
add-more q k s i e h l = rw (e, add-one) (add-next q k i h l)

pub add-all : (q k : List ℕ) (i : ℕ) → min (length q) (length k) ≤ i → xor_by q (take i k) ≡ xor_by q k
unfolding xor_by
add-all [] k i h = refl
add-all (x ∷ q) [] zero h = refl
add-all (x ∷ q) [] (suc i) h = refl
add-all (x ∷ q) (y ∷ k) zero h = absurd (omega arith)
add-all (x ∷ q) (y ∷ k) (suc i) h = ap (λ (r : List ℕ). bit_xor x y ∷ r) (add-all q k i (omega arith))

pub add-front : (n : ℕ) (q k : List ℕ) → min (length q) (length k) ≤ n → xor_by (take n q) k ++ drop n q ≡ xor_by q k
unfolding xor_by
add-front zero [] k h = refl
add-front zero (x ∷ q) [] h = refl
add-front zero (x ∷ q) (y ∷ k) h = absurd (omega arith)
add-front (suc n) [] k h = refl
add-front (suc n) (x ∷ q) [] h = ap (λ (r : List ℕ). x ∷ r) (take-append-drop n q)
add-front (suc n) (x ∷ q) (y ∷ k) h = ap (λ (r : List ℕ). bit_xor x y ∷ r) (add-front n q k (omega arith))

pub add-after : (q a b : List ℕ) → length a ≤ length q
    → take (length a) (xor_by q a) ++ xor_by (drop (length a) (xor_by q a)) b ≡ xor_by q (a ++ b)
unfolding xor_by
add-after q [] b h = ap (λ (r : List ℕ). xor_by r b) (add-none q)
add-after [] (y ∷ a) b h = absurd (omega arith)
add-after (x ∷ q) (y ∷ a) b h = ap (λ (r : List ℕ). bit_xor x y ∷ r) (add-after q a b (omega arith))

pub add-zeros : (q k : List ℕ) (n : ℕ) → xor_by q (k ++ replicate n 0) ≡ xor_by q k
unfolding xor_by
add-zeros [] k n = refl
add-zeros (x ∷ q) [] n = xor_by-zeros (x ∷ q) n
add-zeros (x ∷ q) (y ∷ k) n = ap (λ (r : List ℕ). bit_xor x y ∷ r) (add-zeros q k n)

pub add-swapped : (q k : List ℕ) → length q ≡ length k → xor_by q k ≡ xor_by k q
unfolding xor_by
add-swapped [] [] h = refl
add-swapped [] (y ∷ k) h = absurd (omega arith)
add-swapped (x ∷ q) [] h = absurd (omega arith)
add-swapped (x ∷ q) (y ∷ k) h = ap₂ (λ (z : ℕ) (r : List ℕ). z ∷ r) (xor_comm x y) (add-swapped q k (omega arith))

-- ---- a block put together
pub block-put : (f : ℕ) (nonce s a b : List ℕ) → length nonce ≡ 13 → a ≡ nonce → b ≡ s
    → take 13 (a ++ (f ∷ f ∷ [])) ++ (b ++ drop 2 (drop 13 (a ++ (f ∷ f ∷ [])))) ≡ nonce ++ s
block-put f nonce s a b l e g =
    rw (e, g, take_at nonce (f ∷ f ∷ []) 13 l, drop_at nonce (f ∷ f ∷ []) 13 l, append-nil s)
