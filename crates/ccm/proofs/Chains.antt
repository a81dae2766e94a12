-- The chain over a list that is padded in thought only: for the loop that goes through it block by block, and for the tag that joins three of them.
-- Assumes nothing.
use Rattle.std.proofs.Common.{◌≡◌, refl, sym, ap, ap₂, ◌∙◌, true, false, ℕ, suc, ◌+◌, ◌-◌, ◌*◌, ◌/◌, ◌%◌, ◌<◌, ◌≤◌, List, [], ◌∷◌, ◌++◌, length, take, drop, arith, append_assoc}
use Prim.Native.Nat.{min}
use native.Mathlib.Decide.{dec_le}
use mathlib.Core.List.{append-nil}
use lib.Dec.{eqb}
use borrow.Rule.Slice.PartMut.{put_mid}
use lib.ListN.{replicate, length-take, length-drop, length-append, length-replicate, take-append-drop}
use lib.Seq.{take_all, take_at, drop_at}
use Rattle.meaning.specs.Ccm.{xor_by, size16, padded, first_block, counter_block, data_blocks, blocks_of, chain, mac_of}
use Rattle.meaning.proofs.Scan.{pick-all}
use Rattle.meaning.proofs.Ccm.{xor_by-zeros, length-padded, chain-append}
use Rattle.ccm.specs.Tags.{chain_over, chain_data, whole_tag}
use Rattle.ccm.proofs.Blocks.{add-front, add-after, add-zeros, add-swapped}

nothing : (s : List ℕ) → length s ≡ 0 → s ≡ []
nothing [] h = refl
nothing (x ∷ s) h = absurd (omega arith)

-- of a list that goes on with r after a whole block
padded-more : (b r : List ℕ) → length b ≡ 16 → padded (b ++ r) ≡ b ++ padded r
unfolding padded
padded-more b r h =
    let e : length (b ++ r) % 16 ≡ length r % 16 = omega (arith, length-append b r) in
    rw (e, append_assoc b r (replicate ((16 - length r % 16) % 16) 0))

module _ (E : List ℕ → List ℕ) where
  pub chain-none : (x u : List ℕ) → length u ≡ 0 → x ≡ chain_over E x u
  unfolding chain_over padded chain
  chain-none x u h = rw (nothing u h)

  -- a whole block
  block-whole : (x b r : List ℕ) → length x ≡ 16 → length b ≡ 16 → chain_over E x (b ++ r) ≡ chain_over E (E (xor_by x b)) r
  unfolding chain_over chain
  block-whole x b r l h =
      let p : List ℕ = padded r in
      let n : length (b ++ p) / 16 ≡ suc (length p / 16) = omega (arith, length-append b p) in
      ap (λ (s : List ℕ). chain E x (length s / 16) s) (padded-more b r h)
      ∙ ap (λ (k : ℕ). chain E x k (b ++ p)) n
      ∙ ap₂ (λ (t d : List ℕ). chain E (E (xor_by t x)) (length p / 16) d) (take_at b p 16 h) (drop_at b p 16 h)
      ∙ ap (λ (t : List ℕ). chain E (E t) (length p / 16) p) (add-swapped b x (h ∙ sym l))

  -- the last block, which zeros make whole
  block-last : (x b : List ℕ) → length x ≡ 16 → 0 < length b → length b < 16 → chain_over E x b ≡ E (xor_by x b)
  unfolding chain_over chain padded
  block-last x b l o h =
      let k : ℕ = (16 - length b % 16) % 16 in
      let lp : length (b ++ replicate k 0) ≡ 16 = simp (length-append, length-replicate) (omega arith) in
      let n : length (b ++ replicate k 0) / 16 ≡ 1 = omega arith in
      ap (λ (m : ℕ). chain E x m (b ++ replicate k 0)) n
      ∙ ap E
      (ap (λ (p : List ℕ). xor_by p x) (take_all 16 (b ++ replicate k 0) (omega arith))
      ∙ add-swapped (b ++ replicate k 0) x (lp ∙ sym l)
      ∙ add-zeros x b k)

  -- a block b comes off the front of u, and r is left
  pub chain-more : (x u b r : List ℕ) → length x ≡ 16 → u ≡ b ++ r → length b ≡ min 16 (length u) → 0 < length u
      → chain_over E x u ≡ chain_over E (E (xor_by x b)) r
  chain-more x u b r l e h o = go (dec_le 16 (length u))
    where
      go : Dec (16 ≤ length u) → chain_over E x u ≡ chain_over E (E (xor_by x b)) r
      go (yes z) = ap (chain_over E x) e ∙ block-whole x b r l (omega arith)
      go (no z) =
          let lu : length u ≡ length b + length r = ap length e ∙ length-append b r in
          let ub : u ≡ b = e ∙ ap (λ (s : List ℕ). b ++ s) (nothing r (omega arith)) ∙ append-nil b in
          ap (chain_over E x) ub ∙ block-last x b l (omega arith) (omega arith) ∙ chain-none (E (xor_by x b)) r (omega arith)

module _ (E : List ℕ → List ℕ) (x u : List ℕ) where
  -- the data's blocks, where there are any
  pub data-none : eqb (length u) 0 ≡ true → x ≡ chain_data E x u
  unfolding chain_data data_blocks chain
  data-none h = rw h

  data-some : eqb (length u) 0 ≡ false → chain_over E x (size16 (length u) ++ u) ≡ chain_data E x u
  unfolding chain_data data_blocks chain_over
  data-some h = rw h

  -- the first block has the length and n octets; a and b are what was added to the two parts of x
  pub data-led : (n : ℕ) {s a b f r : List ℕ} → length x ≡ 16 → eqb (length u) 0 ≡ false → n ≡ min (length u) 14 → s ≡ size16 (length u)
      → a ≡ xor_by (take 2 x) s → b ≡ xor_by (take 14 (drop 2 (a ++ drop 2 x))) (take n u) → f ≡ E (put_mid 2 14 (a ++ drop 2 x) b)
      → r ≡ chain_over E f (take (length u - n) (drop n u)) → r ≡ chain_data E x u
  unfolding size16
  data-led n {s} {a} {b} {f} {r} l o en es ea eb ef er =
      let z : List ℕ = size16 (length u) in
      let whole : a ++ drop 2 x ≡ xor_by x z = ap (λ (y : List ℕ). y ++ drop 2 x) (ea ∙ ap (xor_by (take 2 x)) es) ∙ add-front 2 x z (omega arith) in
      let y : List ℕ = drop 2 (a ++ drop 2 x) in
      let back : b ++ drop 14 y ≡ xor_by y (take n u) =
      ap (λ (p : List ℕ). p ++ drop 14 y) eb ∙ add-front 14 y (take n u) (omega (arith, length-take n u)) in
      let sum : put_mid 2 14 (a ++ drop 2 x) b ≡ xor_by x (z ++ take n u) =
      ap (λ (p : List ℕ). take 2 (a ++ drop 2 x) ++ p) back
      ∙ ap (λ (y : List ℕ). take 2 y ++ xor_by (drop 2 y) (take n u)) whole
      ∙ add-after x z (take n u) (omega arith) in
      let split : z ++ u ≡ z ++ take n u ++ drop n u =
      ap (λ (y : List ℕ). z ++ y) (sym (take-append-drop n u)) ∙ sym (append_assoc z (take n u) (drop n u)) in
      er
      ∙ ap₂ (chain_over E) (ef ∙ ap E sum) (take_all (length u - n) (drop n u) (omega (arith, length-drop n u)))
      ∙ sym (chain-more E x (z ++ u) (z ++ take n u) (drop n u) l split (omega (arith, length-take n u)) (omega arith))
      ∙ data-some o

-- whole blocks
Whole : List ℕ → Type 0
Whole b = length b ≡ 16 * (length b / 16)

whole-padded : (u : List ℕ) → Whole (padded u)
unfolding Whole
whole-padded u = omega (arith, length-padded u)

whole-data : (a : List ℕ) → Whole (data_blocks a)
unfolding data_blocks Whole
whole-data a = pick-all Whole (eqb (length a) 0) [] (padded (size16 (length a) ++ a)) (λ e. refl) (λ e. whole-padded _)

module _ (E : List ℕ → List ℕ) (nonce : List ℕ) (m : ℕ) (a q : List ℕ) (thirteen : length nonce ≡ 13) where
  zeros : List ℕ
  zeros = replicate 16 0

  front : List ℕ
  front = first_block nonce m (length a) (length q)

  front-long : length front ≡ 16
  unfolding front first_block size16
  front-long = ap suc (length-append nonce _ ∙ rw thirteen)

  -- the first block, from zeros
  front-chain : chain E zeros 1 front ≡ E front
  unfolding chain zeros
  front-chain = ap E (ap (λ (b : List ℕ). xor_by b zeros) (take_all 16 front (omega (arith, front-long))) ∙ xor_by-zeros front 16)

  -- the chain over all blocks, in its three parts
  mac-parts : mac_of E (blocks_of nonce m a q) ≡ chain_over E (chain_data E (E front) a) q
  unfolding mac_of blocks_of chain_over chain_data zeros front Whole
  mac-parts =
      let D : List ℕ = data_blocks a in
      let Q : List ℕ = padded q in
      let n : length (front ++ (D ++ Q)) / 16 ≡ 1 + (length D / 16 + length Q / 16) =
      simp length-append (omega (arith, front-long, whole-data a, whole-padded q)) in
      ap (λ (k : ℕ). chain E zeros k (front ++ (D ++ Q))) n
      ∙ chain-append E 1 (length D / 16 + length Q / 16) zeros front (D ++ Q) front-long
      ∙ ap (λ (y : List ℕ). chain E y (length D / 16 + length Q / 16) (D ++ Q)) front-chain
      ∙ chain-append E (length D / 16) (length Q / 16) (E front) D Q (whole-data a)

  pub tag-parts : {f x y z b k r : List ℕ} → f ≡ first_block nonce m (length a) (length q) → x ≡ E f → y ≡ chain_data E x a → z ≡ chain_over E y q
      → b ≡ counter_block nonce 0 → k ≡ E b → r ≡ xor_by z k → r ≡ whole_tag E nonce m a q
  unfolding whole_tag front
  tag-parts {f} {x} {y} {z} {b} {k} {r} ef ex ey ez eb ek er =
      let e : z ≡ mac_of E (blocks_of nonce m a q) = rw (ez, ey, ex, ef) (sym mac-parts) in
      er ∙ ap₂ xor_by e (ek ∙ ap E eb)
