-- The parts of a frame by what a writer's methods store. Assumes nothing.
use mathlib.Core.Path.{◌≡◌, ap, ◌∙◌}
use mathlib.Core.List.{List, [], ◌∷◌, ◌++◌}
use Prim.Native.Nat.{ℕ, ◌+◌, ◌*◌, ◌%◌}
use native.Mathlib.Omega.{arith}
use lib.ListN.{take}
use borrow.Author.Tests.{eq-eqb, ne_eqb}
use Rattle.meaning.specs.Octets.{octs}
use Rattle.meaning.specs.Frame.{address_len, key_source_len}
use Rattle.meaning.specs.Build.{first_octet, second_octet, address_octets, placed_octets, source_octets, head_octets, key_id_octets, aux_octets}
use Rattle.meaning.specs.Fcs.{sum, fcs}
use Rattle.meaning.specs.declared.Address.{Address}
use Rattle.meaning.specs.declared.Header.{Header}
use Rattle.meaning.specs.declared.Request.{Request}
use Rattle.meaning.proofs.Numbers.{octs-mod, length-octs}
use Rattle.meaning.proofs.Lists.{length-take-most}
use Rattle.meaning.proofs.Lengths.{key-source-bound}
use Rattle.octets.specs.declared.writer.Writer.{Writer}
use Rattle.octets.specs.Writing.{Put}
use Rattle.octets.proofs.Writing.{put-none, put-two, put-less}
use Rattle.builder.proofs.Sizes.{head-bound, aux-same}

-- ---- addresses
module _ (w w' : Writer) (a : Address) where
  pub address-short : a.mode ≡ 2 → Put w (octs 2 (a.address % 65536)) w' → Put w (address_octets a) w'
  unfolding address_octets address_len
  address-short h p = rw (eq-eqb a.mode 2 h) (rw (octs-mod 2 a.address) at p)

  pub address-extended : a.mode ≡ 3 → Put w (octs 8 a.address) w' → Put w (address_octets a) w'
  unfolding address_octets address_len
  address-extended h p = rw (ne_eqb a.mode 2 (λ z. omega (arith, z, h)), eq-eqb a.mode 3 h) p

  pub placed-some : (w₁ : Writer) → (a.mode ≡ 0 → ⊥) → Put w (octs 2 a.pan) w₁ → Put w₁ (address_octets a) w' → Put w (placed_octets a) w'
  unfolding placed_octets
  placed-some w₁ h p r = rw (ne_eqb a.mode 0 h) (put-two p r)

module _ (w : Writer) (a : Address) where
  pub address-none : (a.mode ≡ 2 → ⊥) → (a.mode ≡ 3 → ⊥) → Put w (address_octets a) w
  unfolding address_octets address_len octs
  address-none n m = rw (ne_eqb a.mode 2 n, ne_eqb a.mode 3 m) (put-none w)

  pub placed-none : a.mode ≡ 0 → Put w (placed_octets a) w
  unfolding placed_octets
  placed-none h = rw (eq-eqb a.mode 0 h) (put-none w)

-- ---- the header
module _ (w w' : Writer) (h : Header) where
  pub source-short : h.compression ≡ 1 → Put w (address_octets h.source) w' → Put w (source_octets h) w'
  unfolding source_octets
  source-short c p = rw (eq-eqb h.compression 1 c) p

  pub source-whole : (h.compression ≡ 1 → ⊥) → Put w (placed_octets h.source) w' → Put w (source_octets h) w'
  unfolding source_octets
  source-whole c p = rw (ne_eqb h.compression 1 c) p

pub head-put : {w w₁ w₂ w₃ w₄ w₅ : Writer} (h : Header) {x y : ℕ} → x ≡ first_octet h → y ≡ second_octet h
    → Put w (x ∷ []) w₁ → Put w₁ (y ∷ []) w₂ → Put w₂ (h.sequence ∷ []) w₃ → Put w₃ (placed_octets h.destination) w₄
    → Put w₄ (source_octets h) w₅ → Put w (head_octets h) w₅
unfolding head_octets
head-put h ex ey a b c p q = rw (← ex, ← ey) (put-two a (put-two b (put-two c (put-two p q))))

-- ---- the security header
module _ (w : Writer) (q : Request) where
  pub key-id-none : q.keymode ≡ 0 → Put w (key_id_octets q) w
  unfolding key_id_octets
  key-id-none h = rw (eq-eqb q.keymode 0 h) (put-none w)

  pub key-id-some : {n : ℕ} {w₁ w₂ : Writer} → (q.keymode ≡ 0 → ⊥) → n ≡ key_source_len q.keymode
      → Put w (take n q.keysource) w₁ → Put w₁ (q.keyindex ∷ []) w₂ → Put w (key_id_octets q) w₂
  unfolding key_id_octets
  key-id-some h e a b = rw (ne_eqb q.keymode 0 h, ← e) (put-two a b)

  pub aux-none : (c : ℕ) → q.level ≡ 0 → Put w (aux_octets q c) w
  unfolding aux_octets
  aux-none c h = rw (eq-eqb q.level 0 h) (put-none w)

  pub aux-some : (c : ℕ) {w₁ w₂ w₃ : Writer} → (q.level ≡ 0 → ⊥) → Put w ((q.level + 8 * q.keymode) ∷ []) w₁ → Put w₁ (octs 4 c) w₂
      → Put w₂ (key_id_octets q) w₃ → Put w (aux_octets q c) w₃
  unfolding aux_octets
  aux-some c h a e p = rw (ne_eqb q.level 0 h) (put-two a (put-two e p))

-- ---- what is open to all
pub open-put : {w w₁ w₂ w₃ : Writer} {x y o : List ℕ} → Put w x w₁ → Put w₁ y w₂ → Put w₂ o w₃ → Put w (x ++ (y ++ o)) w₃
open-put a b c = put-two a (put-two b c)

-- ---- the FCS
pub fcs-put : (w w' : Writer) (s : ℕ) (f : List ℕ) → f ≡ take w.at w.out.now → s ≡ sum f → Put w (octs 2 s) w' → Put w (fcs (take w.at w.out.now)) w'
unfolding fcs
fcs-put w w' s f a b p = rw (b ∙ ap sum a) at p

-- what the writing functions themselves name: a part that is not there, and the room that is left
pub ruleset placed = (placed-none, put-less, length-octs)

pub ruleset key_ids = (key-id-none, put-less, length-take-most, key-source-bound)

pub ruleset opens = (head-bound, aux-same, put-less)
