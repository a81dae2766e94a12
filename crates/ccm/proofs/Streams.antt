-- The key stream, block by block: what a turn of the loop adds. Assumes nothing.
use Rattle.std.proofs.Common.{◌≡◌, refl, sym, ap, ◌∙◌, ℕ, zero, suc, ◌+◌, ◌-◌, ◌*◌, ◌/◌, ◌≤◌, List, ◌++◌, length, take, drop, arith, append_assoc, add-one}
use Prim.Native.Nat.{min}
use mathlib.Core.List.{append-nil}
use lib.ListN.{length-append, length-drop}
use Rattle.meaning.specs.Ccm.{counter_block, stream, crypt, xor_by}
use Rattle.meaning.proofs.Ccm.{length-xor_by}
use Rattle.ccm.proofs.Blocks.{add-none, add-front, add-after}

module _ (E : List ℕ → List ℕ) (nonce : List ℕ) where
  -- a block more, behind the others
  stream-more : (n j : ℕ) → stream E nonce (suc n) j ≡ stream E nonce n j ++ E (counter_block nonce (j + n))
  unfolding stream
  stream-more zero j = let z : j + 0 ≡ j = omega arith in rw (append-nil (E (counter_block nonce j)), z)
  stream-more (suc n) j =
      let z : j + suc n ≡ suc j + n = omega arith in
      ap (λ (s : List ℕ). E (counter_block nonce j) ++ s) (stream-more n (suc j))
      ∙ sym (append_assoc (E (counter_block nonce j)) (stream E nonce n (suc j)) (E (counter_block nonce (suc j + n))))
      ∙ ap (λ (k : ℕ). E (counter_block nonce j) ++ stream E nonce n (suc j) ++ E (counter_block nonce k)) (sym z)

  pub crypt-none : (q : List ℕ) → q ≡ xor_by q (stream E nonce 0 1)
  unfolding stream
  crypt-none q = sym (add-none q)

  module _ (E-16 : (b : List ℕ) → length (E b) ≡ 16) where
    length-stream : (n j : ℕ) → length (stream E nonce n j) ≡ 16 * n
    unfolding stream
    length-stream zero j = refl
    length-stream (suc n) j =
        let r = length-stream n (suc j) in
        length-append (E (counter_block nonce j)) (stream E nonce n (suc j)) ∙ omega (arith, E-16 (counter_block nonce j))

    -- i blocks are done, and the next runs to e
    pub crypt-more : (q m key r : List ℕ) (i e : ℕ) → 16 * i ≤ length q → e ≡ min (length q) (16 * i + 16) → m ≡ xor_by q (stream E nonce i 1)
        → key ≡ E (counter_block nonce (i + 1)) → r ≡ xor_by (take (e - 16 * i) (drop (16 * i) m)) key
        → take (16 * i) m ++ (r ++ drop (e - 16 * i) (drop (16 * i) m)) ≡ xor_by q (stream E nonce (i + 1) 1)
    crypt-more q m key r i e h ee em ek er =
        let n : ℕ = 16 * i in
        let a : List ℕ = stream E nonce i 1 in
        let la : length a ≡ n = length-stream i 1 in
        let lk : length key ≡ 16 = ap length ek ∙ E-16 (counter_block nonce (i + 1)) in
        let lm : length m ≡ length q = ap length em ∙ length-xor_by q a in
        let front : r ++ drop (e - n) (drop n m) ≡ xor_by (drop n m) key =
        ap (λ (s : List ℕ). s ++ drop (e - n) (drop n m)) er ∙ add-front (e - n) (drop n m) key (omega (arith, length-drop n m)) in
        let z : 1 + i ≡ i + 1 = omega arith in
        let more : stream E nonce (i + 1) 1 ≡ a ++ key =
        ap (λ (k : ℕ). stream E nonce k 1) (add-one i) ∙ stream-more i 1 ∙ ap (λ (s : List ℕ). a ++ s) (ap (λ (k : ℕ). E (counter_block nonce k)) z ∙ sym ek) in
        ap (λ (s : List ℕ). take n m ++ s) front
        ∙ ap (λ (s : List ℕ). take n s ++ xor_by (drop n s) key) em
        ∙ ap (λ (k : ℕ). take k (xor_by q a) ++ xor_by (drop k (xor_by q a)) key) (sym la)
        ∙ add-after q a key (omega arith)
        ∙ ap (xor_by q) (sym more)

    pub crypt-all : (q m : List ℕ) (i : ℕ) → i ≡ (length q + 15) / 16 → m ≡ xor_by q (stream E nonce i 1) → m ≡ crypt E nonce q
    unfolding crypt
    crypt-all q m i h e = e ∙ ap (λ (k : ℕ). xor_by q (stream E nonce k 1)) h
