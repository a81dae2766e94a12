-- Stores that touch are one store; so a packed answer is stored part by part. Assumes nothing.
use Rattle.std.proofs.Common.{◌≡◌, refl, ap, sym, ◌∙◌, List, [], ◌∷◌, ◌++◌, ℕ, ◌+◌, length, replicate, arith}
use Rattle.std.proofs.lemmas.List.Edits.{sets}
use Rattle.meaning.specs.Octets.{octs}
use Rattle.meaning.specs.Status.{number}
use Rattle.meaning.specs.Receive.{Received, refusal}
use Rattle.meaning.specs.declared.Refusal.{Refusal}
use Rattle.meaning.specs.declared.Address.{Address}
use Rattle.meaning.specs.declared.Header.{Header}
use Rattle.meaning.proofs.Numbers.{length-octs}
use Rattle.meaning.proofs.Stores.{sets-append}
use Rattle.export.specs.Packed.{address_packed, fields_packed, header_packed, rest_packed, packed}

-- x from place a on, then y from place b on, where x ends
pub touching : (s t u : List ℕ) (a b : ℕ) (x y : List ℕ) → a + length x ≡ b → t ≡ sets s a x → u ≡ sets t b y → u ≡ sets s a (x ++ y)
touching s t u a b x y e p q =
    q ∙ ap (λ (l : List ℕ). sets l b y) p ∙ ap (λ (k : ℕ). sets (sets s a x) k y) (sym e) ∙ sym (sets-append s a x y)

-- two octets of a number, then the rest
pair : (s t u : List ℕ) (a b v : ℕ) (y : List ℕ) → a + 2 ≡ b → t ≡ sets s a (octs 2 v) → u ≡ sets t b y → u ≡ sets s a (octs 2 v ++ y)
pair s t u a b v y e p q = touching s t u a b (octs 2 v) y (omega (arith, length-octs 2 v)) p q

pub address-stored : (s t u w : List ℕ) (at : ℕ) (a : Address)
    → t ≡ sets s at (a.mode ∷ []) → u ≡ sets t (at + 1) (octs 2 a.pan) → w ≡ sets u (at + 3) (octs 8 a.address)
    → w ≡ sets s at (address_packed a)
unfolding address_packed
address-stored s t u w at a p q r =
    touching s t w at (at + 1) (a.mode ∷ []) (octs 2 a.pan ++ octs 8 a.address) (omega arith) p
    (pair t u w (at + 1) (at + 3) a.pan (octs 8 a.address) (omega arith) q r)

length-address : (a : Address) → length (address_packed a) ≡ 11
unfolding address_packed octs
length-address a = refl

pub header-stored : (s t u w : List ℕ) (h : Header)
    → t ≡ sets s 1 (fields_packed h) → u ≡ sets t 8 (address_packed h.destination) → w ≡ sets u 19 (address_packed h.source)
    → w ≡ sets s 1 (header_packed h)
unfolding header_packed fields_packed
header-stored s t u w h p q r =
    touching s t w 1 8 (fields_packed h) (address_packed h.destination ++ address_packed h.source) refl p
    (touching t u w 8 19 (address_packed h.destination) (address_packed h.source) (omega (arith, length-address h.destination)) q r)

length-header : (h : Header) → length (header_packed h) ≡ 29
unfolding header_packed fields_packed address_packed octs
length-header h = refl

pub rest-stored : (s t v w x y z : List ℕ) (r : Received)
    → t ≡ sets s 30 (r.level ∷ r.keymode ∷ [])
    → v ≡ sets t 32 (octs 2 r.device)
    → w ≡ sets v 34 (octs 2 r.private)
    → x ≡ sets w 36 (octs 2 r.start)
    → y ≡ sets x 38 (octs 2 r.len)
    → z ≡ sets y 40 (octs 8 0)
    → z ≡ sets s 30 (rest_packed r)
unfolding rest_packed
rest-stored s t v w x y z r a c d e f g =
    let e₁ : List ℕ = octs 2 r.len ++ octs 8 0 in
    let e₂ : List ℕ = octs 2 r.start ++ e₁ in
    let e₃ : List ℕ = octs 2 r.private ++ e₂ in
    let e₄ : List ℕ = octs 2 r.device ++ e₃ in
    touching s t z 30 32 (r.level ∷ r.keymode ∷ []) e₄ refl a
    (pair t v z 32 34 r.device e₃ refl c
    (pair v w z 34 36 r.private e₂ refl d
    (pair w x z 36 38 r.start e₁ refl e (pair x y z 38 40 r.len (octs 8 0) refl f g))))

pub answer-stored : (s t u w : List ℕ) (r : Received)
    → t ≡ sets s 0 (r.status ∷ []) → u ≡ sets t 1 (header_packed r.header) → w ≡ sets u 30 (rest_packed r)
    → w ≡ sets s 0 (packed r)
unfolding packed
answer-stored s t u w r p q e =
    touching s t w 0 1 (r.status ∷ []) (header_packed r.header ++ rest_packed r) refl p
    (touching t u w 1 30 (header_packed r.header) (rest_packed r) (omega (arith, length-header r.header)) q e)

-- a refusal: its number and zeros
pub refused : (r : Refusal) → number r ∷ replicate 47 0 ≡ packed (refusal r)
unfolding packed header_packed fields_packed address_packed rest_packed octs refusal
refused r = refl

pub ruleset stored = (address-stored, header-stored, rest-stored, answer-stored, refused)
