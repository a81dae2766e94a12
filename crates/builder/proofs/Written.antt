-- Whole frames: what was put in front is read back, sealed in place and summed. Assumes nothing.
use mathlib.Core.Path.{◌≡◌, refl, sym, ap, ap₂, ◌∙◌}
use mathlib.Core.List.{List, [], ◌++◌, append_assoc}
use Prim.Native.Nat.{ℕ, ◌+◌, ◌-◌, ◌≤◌}
use native.Mathlib.Omega.{arith}
use lib.ListN.{length, take, drop, length-append, length-drop}
use lib.Seq.{sets, sets-eq, length-sets, take-take, take_at, drop_at, length-take-le}
use borrow.Author.Tests.{eq-eqb}
use Rattle.std.proofs.lemmas.List.{take-append-drop}
use Rattle.meaning.specs.Frame.{tag_len}
use Rattle.meaning.specs.Fcs.{fcs}
use Rattle.meaning.specs.Cipher.{cipher}
use Rattle.meaning.specs.Ccm.{Sealed, sealed}
use Rattle.meaning.specs.Build.{head_octets, aux_octets, with_fcs, plain_body}
use Rattle.meaning.specs.declared.Header.{Header}
use Rattle.meaning.specs.declared.Request.{Request}
use Rattle.meaning.proofs.Stores.{take-sets, drop-sets, sets-beside, take-beside}
use Rattle.meaning.proofs.Sums.{length-fcs}
use Rattle.meaning.proofs.Ccm.{length-cipher-text, length-tag}
use Rattle.aes.specs.Schedule.{cipher_by}
use Rattle.aes.proofs.Laws.{length-by, length-cipher}
use Rattle.ccm.specs.Tags.{Sealing}
use Rattle.octets.specs.declared.writer.Writer.{Writer}
use Rattle.octets.specs.Writing.{Room, Over, Put}
use Rattle.octets.proofs.Writing.{put-two, put-long}
use Rattle.builder.specs.Stored.{Laid, Ready, closed, secured_by}
use Rattle.builder.proofs.Sizes.{aux-same}

-- ---- room
pub roomy : {d e : List ℕ} → length d ≡ 127 → e ≡ d → 127 ≤ length e
roomy h q = rw q (omega (arith, h))

-- where the private payload begins, with all that comes after it
pub open-ends : (h : Header) (q : Request) (c : ℕ) (o p : List ℕ) (at : ℕ) → Ready h q o p → at ≡ 0 + length (head_octets h ++ (aux_octets q c ++ o))
    → at + length p + tag_len q.level + 2 ≤ 127
open-ends h q c o p at r e =
    omega (arith, r.fits, aux-same q c 0, length-append (head_octets h) (aux_octets q c ++ o), length-append (aux_octets q c) o)

-- after what is open to all, and after the private payload, there is room for all that comes
module _ (h : Header) (q : Request) (c : ℕ) (o p : List ℕ) {w w₁ : Writer} (r : Ready h q o p) (z : w.at ≡ 0) (n : 127 ≤ length w.out.now)
    (a : Put w (head_octets h ++ (aux_octets q c ++ o)) w₁) where
  end : w₁.at + length p + tag_len q.level + 2 ≤ 127
  end = open-ends h q c o p w₁.at r (omega (arith, a.next, z))

  pub open-room : Room w₁ (length p)
  open-room = omega (arith, put-long a, end, n)

  pub private-end : {w₂ : Writer} → Put w₁ p w₂ → (w₁.at ≤ w₂.at) × (w₂.at + tag_len q.level + 2 ≤ 127)
  private-end b = (omega (arith, b.next), omega (arith, b.next, end))

  pub private-room : {w₂ : Writer} (m : ℕ) → Put w₁ p w₂ → m ≤ tag_len q.level + 2 → Room w₂ m
  private-room m b l = omega (arith, l, b.next, put-long b, put-long a, end, n)

-- ---- what stands in front
pub take_put : {w w₁ : Writer} {x : List ℕ} → w.at ≡ 0 → Put w x w₁ → length x ≤ length w.out.now → take w₁.at w₁.out.now ≡ x
take_put {w} {w₁} {x} z p h =
    let e : w₁.at ≡ length x = omega (arith, p.next, z) in
    ap₂ (λ (m : ℕ) (l : List ℕ). take m l) e (p.same ∙ ap (λ (n : ℕ). sets w.out.now n x) z ∙ sets-beside x w.out.now h) ∙ take-beside x w.out.now

-- the FCS after it
pub with-fcs : {w w₁ w₂ : Writer} {x : List ℕ} → w.at ≡ 0 → Put w x w₁ → length x ≤ length w.out.now → Put w₁ (fcs (take w₁.at w₁.out.now)) w₂
    → Put w (with_fcs x) w₂
unfolding with_fcs
with-fcs z p h q = put-two p (rw (take_put z p h) at q)

-- in a buffer that held d and holds d' when its writer is done
pub laid : {w w' : Writer} {xs d : List ℕ} (d' : List ℕ) → w.out.now ≡ d → w.at ≡ 0 → Put w xs w' → d' ≡ w'.out.now → Laid d xs w'.at d'
laid {w} {w'} {xs} {d} d' o z p e = record { next = omega (arith, p.next, z); same = e ∙ p.same ∙ ap₂ (λ (n : ℕ) (l : List ℕ). sets l n xs) z o }

-- ---- without security
no-aux : (q : Request) (c : ℕ) → q.level ≡ 0 → aux_octets q c ≡ []
unfolding aux_octets
no-aux q c h = rw (eq-eqb q.level 0 h)

pub plain-put : (h : Header) (q : Request) (o p : List ℕ) {w w₁ w₂ w₃ : Writer} → q.level ≡ 0 → Ready h q o p → w.at ≡ 0 → 127 ≤ length w.out.now
    → Put w (head_octets h ++ (aux_octets q 0 ++ o)) w₁ → Put w₁ p w₂ → Put w₂ (fcs (take w₂.at w₂.out.now)) w₃
    → Put w (with_fcs (plain_body (head_octets h) o p)) w₃
unfolding plain_body
plain-put h q o p {w} l r z n a b f =
    let e : (head_octets h ++ (aux_octets q 0 ++ o)) ++ p ≡ head_octets h ++ (o ++ p) = rw (no-aux q 0 l) (append_assoc (head_octets h) o p) in
    with-fcs z (rw e at (put-two a b))
    (omega (arith, n, r.fits, length-append (head_octets h) (o ++ p), length-append o p)) f

pub plain-long : (h : Header) (q : Request) (o p : List ℕ) → Ready h q o p → length (with_fcs (plain_body (head_octets h) o p)) ≤ 127
unfolding with_fcs plain_body
plain-long h q o p w =
    let b : List ℕ = head_octets h ++ (o ++ p) in
    omega (arith, w.fits, length-append b (fcs b), length-fcs b, length-append (head_octets h) (o ++ p), length-append o p)

-- ---- sealed
-- a run over another that is not longer
sets-over : (x y d : List ℕ) (a : ℕ) → length x ≤ length y → a + length y ≤ length d → sets (sets d a x) a y ≡ sets d a y
sets-over x y d a h l =
    sets-eq y (sets d a x) a (omega (arith, length-sets d a x))
    ∙ ap₂ (λ (u v : List ℕ). (u ++ y) ++ v) (take-sets x d a a (omega arith)) (drop-sets x d a (a + length y) (omega arith))
    ∙ sym (sets-eq y d a l)

module _ (E : List ℕ → List ℕ) (E-16 : (b : List ℕ) → length (E b) ≡ 16) (nonce : List ℕ) (l : ℕ) where
  length-closed : (a q : List ℕ) → length (closed (sealed E nonce l a q)) ≡ length q + tag_len l
  unfolding closed
  length-closed a q =
      length-append (sealed E nonce l a q).cipher (sealed E nonce l a q).tag
      ∙ ap₂ (λ (u v : ℕ). u + v) (length-cipher-text E nonce l a q) (length-tag E E-16 nonce l a q)

  length-secured : (a p : List ℕ) → length (with_fcs (secured_by E nonce l a p)) ≡ length a + (length p + tag_len l) + 2
  unfolding with_fcs secured_by
  length-secured a p =
      let b : List ℕ = a ++ closed (sealed E nonce l a p) in
      omega (arith, length-append b (fcs b), length-fcs b, length-append a (closed (sealed E nonce l a p)), length-closed a p)

  -- where the tag ends
  ends : {w w₁ : Writer} (start : ℕ) (a : List ℕ) → start ≤ w.at → w.at ≤ length w.out.now
      → Over w start (closed (sealed E nonce l a (drop start (take w.at w.out.now)))) w₁ → w₁.at ≡ w.at + tag_len l
  ends {w} start a h k p =
      omega (arith, p.next, length-closed a (drop start (take w.at w.out.now)), length-drop start (take w.at w.out.now), length-take-le w.at w.out.now k)

  secured-by : (a p : List ℕ) {w w₁ w₂ w₃ w₄ : Writer} → w.at ≡ 0 → length a + length p + tag_len l ≤ length w.out.now
      → Put w a w₁ → Put w₁ p w₂ → Over w₂ w₁.at (closed (sealed E nonce l (take w₁.at w₂.out.now) (drop w₁.at (take w₂.at w₂.out.now)))) w₃
      → Put w₃ (fcs (take w₃.at w₃.out.now)) w₄ → Put w (with_fcs (secured_by E nonce l a p)) w₄
  unfolding secured_by
  secured-by a p {w} {w₁} {w₂} {w₃} {w₄} z h pa pb pc pd =
      let both = put-two pa pb in
      let f : take w₂.at w₂.out.now ≡ a ++ p = take_put z both (omega (arith, length-append a p)) in
      let la : length a ≡ w₁.at = omega (arith, z, pa.next) in
      let ln : w₁.at ≤ w₂.at = omega (arith, pb.next) in
      let ta : take w₁.at w₂.out.now ≡ a = sym (take-take w₁.at w₂.at w₂.out.now ln) ∙ ap (take w₁.at) f ∙ take_at a p w₁.at la in
      let td : drop w₁.at (take w₂.at w₂.out.now) ≡ p = ap (drop w₁.at) f ∙ drop_at a p w₁.at la in
      let c : List ℕ = closed (sealed E nonce l a p) in
      let lc : length c ≡ length p + tag_len l = length-closed a p in
      let ld = put-long pa in
      let e : closed (sealed E nonce l (take w₁.at w₂.out.now) (drop w₁.at (take w₂.at w₂.out.now))) ≡ c = ap₂ (λ (u v : List ℕ). closed (sealed E nonce l u v)) ta td in
      let s : Over w₂ w₁.at c w₃ = rw e at pc in
      let t : Put w₁ c w₃ =
      record {
        next = s.next;
        same = s.same ∙ ap (λ (x : List ℕ). sets x w₁.at c) pb.same ∙ sets-over p c w₁.out.now w₁.at (omega arith) (omega arith);
        out = s.out ∙ pb.out;
      } in
      with-fcs z (put-two pa t) (omega (arith, length-append a c)) pd

-- the same by an expanded key
module _ (k nonce : List ℕ) (l : ℕ) where
  pub sealed-room : {w w₁ : Writer} (start : ℕ) → start ≤ w.at → Room w (tag_len l + 2)
      → Over w start (closed (sealed (cipher_by k) nonce l (take start w.out.now) (drop start (take w.at w.out.now)))) w₁
      → Room w₁ 2
  sealed-room {w} start h r p =
      omega (arith, r, ends (cipher_by k) (length-by k) nonce l start (take start w.out.now) h (omega (arith, r)) p, put-long p)

  -- what was written is sealed in place, and its tag put after it
  pub sealed-put : (start : ℕ) (w v w' : Writer) (tag : List ℕ) (m : ℕ) → start ≤ w.at → w.at ≤ length w.out.now
      → Sealing (cipher_by k) nonce l start (take w.at w.out.now) (take w.at v.out.now) tag → drop w.at v.out.now ≡ drop w.at w.out.now
      → m ≡ tag_len l → v.at ≡ w.at → v.out.ghost_name ≡ w.out.ghost_name → Put v (take m tag) w'
      → Over w start (closed (sealed (cipher_by k) nonce l (take start w.out.now) (drop start (take w.at w.out.now)))) w'
  unfolding closed
  sealed-put start w v w' tag m h b s e g va vr p = put-two first (rw t at p)
    where
      d : List ℕ
      d = w.out.now

      n : ℕ
      n = w.at

      front : take start (take n d) ≡ take start d
      front = take-take start n d h

      is : Sealed
      is = sealed (cipher_by k) nonce l (take start d) (drop start (take n d))

      said : sealed (cipher_by k) nonce l (take start (take n d)) (drop start (take n d)) ≡ is
      said = ap (λ (a : List ℕ). sealed (cipher_by k) nonce l a (drop start (take n d))) front

      t : take m tag ≡ is.tag
      t = ap (λ (j : ℕ). take j tag) g ∙ s.tag ∙ ap (λ (z : Sealed). z.tag) said

      long : length is.cipher ≡ n - start
      long =
          length-cipher-text (cipher_by k) nonce l (take start d) (drop start (take n d))
          ∙ length-drop start (take n d)
          ∙ ap (λ (j : ℕ). j - start) (length-take-le n d b)

      ending : n ≡ start + length is.cipher
      ending = omega (arith, long)

      first : Over w start is.cipher v
      first =
          record {
            next = va ∙ ending;
            same =
                sym (take-append-drop n v.out.now) ∙ ap₂ (λ (x y : List ℕ). x ++ y) (s.frame ∙ ap₂ (λ (x : List ℕ) (z : Sealed). x ++ z.cipher) front said) e
                ∙ ap (λ (j : ℕ). (take start d ++ is.cipher) ++ drop j d) ending
                ∙ sym (sets-eq is.cipher d start (omega (arith, ending)));
            out = vr;
          }

  pub secured-put : (h : Header) (q : Request) (c : ℕ) (o p : List ℕ) {w w₁ w₂ w₃ w₄ : Writer} → q.level ≡ l → Ready h q o p → w.at ≡ 0 → 127 ≤ length w.out.now
      → Put w (head_octets h ++ (aux_octets q c ++ o)) w₁ → Put w₁ p w₂
      → Over w₂ w₁.at (closed (sealed (cipher_by k) nonce l (take w₁.at w₂.out.now) (drop w₁.at (take w₂.at w₂.out.now)))) w₃
      → Put w₃ (fcs (take w₃.at w₃.out.now)) w₄
      → Put w (with_fcs (secured_by (cipher_by k) nonce l (head_octets h ++ (aux_octets q c ++ o)) p)) w₄
  secured-put h q c o p {w₁ = w₁} e r z n pa pb pc pd =
      let b : w₁.at + length p + tag_len q.level + 2 ≤ 127 = open-ends h q c o p w₁.at r (omega (arith, pa.next, z)) in
      secured-by (cipher_by k) (length-by k) nonce l (head_octets h ++ (aux_octets q c ++ o)) p z
      (rw (← e) (omega (arith, pa.next, z, n))) pa pb pc pd

pub secured-long : (key nonce : List ℕ) (h : Header) (q : Request) (c : ℕ) (o p : List ℕ) → Ready h q o p
    → length (with_fcs (secured_by (cipher key) nonce q.level (head_octets h ++ (aux_octets q c ++ o)) p)) ≤ 127
secured-long key nonce h q c o p w =
    let a : List ℕ = head_octets h ++ (aux_octets q c ++ o) in
    omega (arith, open-ends h q c o p (0 + length a) w refl, length-secured (cipher key) (length-cipher key) nonce q.level a p)
