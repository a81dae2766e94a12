-- By level: what is enciphered and what is authenticated; a frame sealed in place, and a body opened into a scratch buffer. One proof for all levels.
-- Assumes nothing.
use mathlib.Core.Path.{◌≡◌, refl, sym, ap, ap₂, ◌∙◌}
use mathlib.Core.Bool.{Bool, true, false}
use mathlib.Core.List.{List, [], ◌++◌, append-nil}
use Prim.Native.Nat.{ℕ, ◌+◌, ◌-◌, ◌≤◌}
use native.Mathlib.Omega.{arith}
use lib.ListN.{length, take, drop, length-drop, take-append-drop}
use lib.Seq.{sets, take_all, take-take, take-add, take_at, drop-length, length-take-le}
use borrow.Rule.Slice.PartMut.{put_mid, Post-is}
use Rattle.meaning.specs.Octets.{pick, part, beside, same}
use Rattle.meaning.specs.Frame.{tag_len, enciphers}
use Rattle.meaning.specs.Ccm.{tag_of, crypt, sealed_by, sealed, unsealed_by, unsealed}
use Rattle.meaning.proofs.Stores.{sets-beside, take-beside, drop-beside}
use Rattle.meaning.proofs.Ccm.{length-crypt}
use Rattle.ccm.specs.Tags.{whole_tag, crypt_by, tag_by, Sealing, Opening}

-- as many as are taken
pub taken : (n : ℕ) (s : List ℕ) → n ≤ length s → n ≡ length (take n s)
taken n s h = sym (length-take-le n s h)

-- all that is left is taken
pub rest : (n : ℕ) (s : List ℕ) → take (length s - n) (drop n s) ≡ drop n s
rest n s = take_all (length s - n) (drop n s) (omega (arith, length-drop n s))

module _ (E : List ℕ → List ℕ) (nonce : List ℕ) (l : ℕ) where
  length-by-level : (q : List ℕ) → length (crypt_by E nonce l q) ≡ length q
  unfolding crypt_by
  length-by-level q = go (enciphers l)
    where
      go : (t : Bool) → length (pick t (crypt E nonce q) q) ≡ length q
      go true = length-crypt E nonce q
      go false = refl

  -- ---- sealing
  module _ (n : ℕ) (f : List ℕ) where
    cipher-is : crypt_by E nonce l (drop n f) ≡ (sealed E nonce l (take n f) (drop n f)).cipher
    unfolding crypt_by sealed sealed_by
    cipher-is = go (enciphers l)
      where
        go : (t : Bool) → pick t (crypt E nonce (drop n f)) (drop n f) ≡ (sealed_by E t nonce (tag_len l) (take n f) (drop n f)).cipher
        go true = refl
        go false = refl

    tag-is : take (tag_len l) (tag_by E nonce l f n (drop n f)) ≡ (sealed E nonce l (take n f) (drop n f)).tag
    unfolding tag_by sealed sealed_by tag_of whole_tag
    tag-is = go (enciphers l)
      where
        go : (t : Bool)
            → take (tag_len l) (pick t (whole_tag E nonce (tag_len l) (take n f) (drop n f)) (whole_tag E nonce (tag_len l) f []))
            ≡ (sealed_by E t nonce (tag_len l) (take n f) (drop n f)).tag
        go true = refl
        go false = ap (λ (s : List ℕ). take (tag_len l) (whole_tag E nonce (tag_len l) s [])) (sym (take-append-drop n f))

    pub sealing : (y r : List ℕ) → n ≤ length f → y ≡ crypt_by E nonce l (take (length f - n) (drop n f))
        → r ≡ tag_by E nonce l f n (take (length f - n) (drop n f)) → Sealing E nonce l n f (put_mid n (length f - n) f y) r
    sealing y r h ey et =
        let er : r ≡ tag_by E nonce l f n (drop n f) = et ∙ ap (tag_by E nonce l f n) (rest n f) in
        let e : y ≡ (sealed E nonce l (take n f) (drop n f)).cipher = ey ∙ ap (crypt_by E nonce l) (rest n f) ∙ cipher-is in
        record {
          frame =
              ap (λ (z : List ℕ). take n f ++ (y ++ z)) (Post-is n (length f) f h ∙ drop-length f)
              ∙ ap (λ (z : List ℕ). take n f ++ z) (append-nil y ∙ e);
          tag = ap (take (tag_len l)) er ∙ tag-is;
          whole = er;
        }

  -- ---- opening
  module _ (b : List ℕ) (n p : ℕ) where
    q : List ℕ
    q = part n p b

    t : List ℕ
    t = drop (n + p) b

    text-is : crypt_by E nonce l q ≡ (unsealed E nonce l (take n b) q t).text
    unfolding crypt_by unsealed unsealed_by
    text-is = go (enciphers l)
      where
        go : (c : Bool) → pick c (crypt E nonce q) q ≡ (unsealed_by E c nonce (tag_len l) (take n b) q t).text
        go true = refl
        go false = refl

    right_is : same t (take (tag_len l) (tag_by E nonce l (take (n + p) b) n (crypt_by E nonce l q))) ≡ (unsealed E nonce l (take n b) q t).right
    unfolding tag_by crypt_by unsealed unsealed_by tag_of whole_tag q
    right_is = go (enciphers l)
      where
        go : (c : Bool)
            → same t (take (tag_len l) (pick c (whole_tag E nonce (tag_len l) (take n (take (n + p) b)) (pick c (crypt E nonce q) q)) (whole_tag E nonce (tag_len l) (take (n + p) b) [])))
            ≡ (unsealed_by E c nonce (tag_len l) (take n b) q t).right
        go true = ap (λ (a : List ℕ). same t (take (tag_len l) (whole_tag E nonce (tag_len l) a (crypt E nonce q)))) (take-take n (n + p) b (omega arith))
        go false = ap (λ (a : List ℕ). same t (take (tag_len l) (whole_tag E nonce (tag_len l) a []))) (take-add n p b)

    pub opening : (scratch s y sum : List ℕ) (m : ℕ) (r : Bool) → n + p ≤ length b → p ≤ length scratch
        → s ≡ sets scratch 0 (take (n + p - n) (drop n b)) → y ≡ crypt_by E nonce l (take p s)
        → sum ≡ tag_by E nonce l (take (n + p) b) n (take p (y ++ drop p s)) → m ≡ tag_len l
        → r ≡ same (take (length b - (n + p)) (drop (n + p) b)) (take m sum) → Opening E nonce l b n p scratch (y ++ drop p s) r
    unfolding q t beside
    opening scratch s y sum m r hb hs es ey eu em er =
        let k : n + p - n ≡ p = omega arith in
        let lq : length q ≡ p = length-take-le p (drop n b) (omega (arith, length-drop n b)) in
        let x : List ℕ = crypt_by E nonce l q in
        let lx : length x ≡ p = length-by-level q ∙ lq in
        let e : s ≡ beside q scratch = es ∙ ap (λ (j : ℕ). sets scratch 0 (take j (drop n b))) k ∙ sets-beside q scratch (omega arith) in
        let front : take p s ≡ q = ap₂ (λ (j : ℕ) (z : List ℕ). take j z) (sym lq) e ∙ take-beside q scratch in
        let back : drop p s ≡ drop p scratch = ap₂ (λ (j : ℕ) (z : List ℕ). drop j z) (sym lq) e ∙ drop-beside q scratch ∙ ap (λ (j : ℕ). drop j scratch) lq in
        let yx : y ≡ x = ey ∙ ap (crypt_by E nonce l) front in
        let exit : y ++ drop p s ≡ beside x scratch = ap₂ (λ (u v : List ℕ). u ++ v) yx (back ∙ ap (λ (j : ℕ). drop j scratch) (sym lx)) in
        let text : take p (y ++ drop p s) ≡ x = take_at y (drop p s) p (ap length yx ∙ lx) ∙ yx in
        record {
          right =
              er
              ∙ ap₂ same (rest (n + p) b)
              (ap₂ (λ (j : ℕ) (z : List ℕ). take j z) em (eu ∙ ap (λ (z : List ℕ). tag_by E nonce l (take (n + p) b) n z) text))
              ∙ right_is;
          text = exit ∙ ap (λ (z : List ℕ). beside z scratch) text-is;
        }
