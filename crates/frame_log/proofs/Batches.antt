-- The frames at hand, answered one after the other: what is to be printed is the text so far, and then what is to be printed of the rest.
-- Assumes nothing.
use mathlib.Core.Path.{◌≡◌, refl, sym, ap, ap₂, ◌∙◌}
use mathlib.Core.Bool.{Bool, true, false}
use mathlib.Core.List.{List, [], ◌∷◌, ◌++◌, append_assoc}
use Prim.Native.Nat.{ℕ, suc, ◌+◌, ◌-◌, ◌≤◌, ◌<◌}
use native.Mathlib.Numerals.{add-one}
use native.Mathlib.Omega.{arith}
use lib.Dec.{leb, ltb}
use lib.ListN.{length, take, drop, length-append, length-drop}
use lib.Seq.{take_all, take-append-le, drop-append-le, drop-drop}
use borrow.Author.Tests.{leb-true, ltb-true, lt-ltb, le-leb}
use Rattle.std.specs.Bool.{then_some}
use Rattle.std.specs.Prelude.{Option, None, Some}
use Rattle.meaning.specs.Site.{site_rule}
use Rattle.meaning.specs.Receive.{received}
use Rattle.meaning.proofs.Scan.{pick-all}
use Rattle.meaning.proofs.Kept.{received-keeps}
use Rattle.lines.specs.Text.{line_of}
use Rattle.lines.specs.Log.{printed_from}
use Rattle.lines.proofs.Puts.{taken as put-taken, long}
use Rattle.lines.proofs.Log.{printed-frame}
use Rattle.frame_log.specs.Buffers.{whole_len, next_len, Stepped, Batched}

-- ---- the frame that is answered next
-- n octets behind a length octet, with room for the line and a number left
pub record Frame (number room : ℕ) (h : List ℕ) (n : ℕ) : Type 0 where
  pub numbered : number < 18446744073709551615
  pub roomy : 80 ≤ room
  pub rest : List ℕ
  pub is : h ≡ n ∷ rest
  pub whole : n ≤ length rest

data Next (number room : ℕ) (h : List ℕ) : Option ℕ → Type 0 where
  none : Next number room h None
  some : {n : ℕ} → Frame number room h n → Next number room h (Some n)

whole : (number room : ℕ) (h : List ℕ) → number < 18446744073709551615 → 80 ≤ room → Next number room h (whole_len h)
unfolding whole_len
whole number room [] p q = none
whole number room (n ∷ l) p q = by (leb n (length l)) refl
  where
    by : (t : Bool) → leb n (length l) ≡ t → Next number room (n ∷ l) (then_some t n)
    by true e = some (record { numbered = p; roomy = q; rest = l; is = refl; whole = leb-true _ _ e })
    by false e = none

next : (number room : ℕ) (h : List ℕ) → Next number room h (next_len number room h)
unfolding next_len
next number room h =
    pick-all (Next number room h) (ltb number 18446744073709551615) _ _
    (λ e. pick-all (Next number room h) (leb 80 room) _ _ (λ f. whole number room h (ltb-true _ _ e) (leb-true _ _ f)) (λ f. none)) (λ e. none)

next-frame : {number room n : ℕ} {h : List ℕ} → Some n ≡ next_len number room h → Frame number room h n
next-frame {number} {room} {n} {h} e = by (next number room h) e
  where
    by : {r : Option ℕ} → Next number room h r → Some n ≡ r → Frame number room h n
    by none e = absurd (let z : ◌≡◌ {A = ℕ} 0 1 = cc in omega arith)
    by (some {n = m} f) e = let q : m ≡ n = cc in rw (← q) f

-- with room and number left, there is none only where no frame at hand is whole
next-none : (number room : ℕ) (h : List ℕ) → number < 18446744073709551615 → 80 ≤ room → next_len number room h ≡ whole_len h
unfolding next_len
next-none number room h n r = rw (lt-ltb number 18446744073709551615 n, le-leb 80 room r)

-- ---- a batch on its way
pub record Going (s₀ o₀ : List ℕ) (first : ℕ) (h t₀ s o t : List ℕ) (number taken used : ℕ) : Type 0 where
  pub fit : taken ≤ length h
  pub room : used ≤ length t
  pub count : first ≤ number
  pub counted : 0 < taken → (first < number) × (first < 18446744073709551615)
  pub none-yet : taken ≡ 0 → (number ≡ first) × (used ≡ 0)
  pub goes : (z : List ℕ) → printed_from first s₀ o₀ (h ++ z) ≡ take used t ++ printed_from number s o (drop taken h ++ z)
  pub rule : site_rule s ≡ site_rule s₀
  pub text-long : length t ≡ length t₀
  pub paced : number ≤ first + taken

-- a frame's line, and the rest
frame-goes : (k : ℕ) (s o h : List ℕ) (n : ℕ) (l : List ℕ) → h ≡ n ∷ l → n ≤ length l → (z : List ℕ)
    → printed_from k s o (h ++ z)
    ≡ line_of k (received s (take n l) o).answer.status (received s (take n l) o).answer.private
    ++ printed_from (suc k) (received s (take n l) o).site (received s (take n l) o).out (drop n l ++ z)
frame-goes k s o h n l e w z =
    ap (λ (x : List ℕ). printed_from k s o (x ++ z)) e
    ∙ printed-frame k s o n (l ++ z) (omega (arith, length-append l z))
    ∙ ap₂
    (λ (x y : List ℕ).
    line_of k (received s x o).answer.status (received s x o).answer.private
    ++ printed_from (suc k) (received s x o).site (received s x o).out y)
    (take-append-le n l z w) (drop-append-le n l z w)

-- the octets behind the next frame's length
behind : (h : List ℕ) (taken n : ℕ) (l : List ℕ) → drop taken h ≡ n ∷ l → drop (taken + 1) h ≡ l
behind h taken n l e = sym (drop-drop 1 taken h) ∙ ap (drop 1) e

-- the octets behind those taken, as the code has them
rest : (h : List ℕ) (taken : ℕ) → take (length h - taken) (drop taken h) ≡ drop taken h
rest h taken = take_all (length h - taken) (drop taken h) (omega (arith, length-drop taken h))

pub frame-at : (number room n : ℕ) (h : List ℕ) (taken : ℕ) → Some n ≡ next_len number room (take (length h - taken) (drop taken h))
    → Frame number room (drop taken h) n × (taken + 1 + n ≤ length h)
frame-at number room n h taken e =
    let f : Frame number room (drop taken h) n = next-frame (rw (rest h taken) at e) in
    (f, omega (arith, f.whole, ap length f.is, length-drop taken h))

pub frame-none : (number room : ℕ) (h : List ℕ) (taken : ℕ) → None ≡ next_len number room (take (length h - taken) (drop taken h))
    → next_len number room (drop taken h) ≡ None
frame-none number room h taken e = sym (rw (rest h taken) at e)

module _ (s₀ o₀ : List ℕ) (first : ℕ) (h t₀ s o t : List ℕ) (number taken used : ℕ) (g : Going s₀ o₀ first h t₀ s o t number taken used) where
  pub going-more : (n : ℕ) → Frame number (length t - used) (drop taken h) n → (f s' o' t' : List ℕ) (r : ℕ) → f ≡ take n (drop (taken + 1) h)
      → Stepped s f o number t used s' o' t' r → Going s₀ o₀ first h t₀ s' o' t' (number + 1) (taken + 1 + n) r
  going-more n w f s' o' t' r q p =
      let l : List ℕ = w.rest in
      let b = behind h taken n l w.is in
      let c : f ≡ take n l = q ∙ ap (take n) b in
      let d : drop n l ≡ drop (taken + 1 + n) h = ap (drop n) (sym b) ∙ drop-drop n (taken + 1) h in
      let k = received-keeps s f o in
      record {
        fit = omega (arith, w.whole, ap length w.is, length-drop taken h);
        room = omega (arith, p.put.next, p.put.room, long p.put);
        count = omega (arith, g.count);
        counted = λ z. (omega (arith, g.count), omega (arith, g.count, w.numbered));
        none-yet = λ z. absurd (omega arith);
        goes =
            λ z. g.goes z
            ∙ ap (λ (x : List ℕ). take used t ++ x)
            (frame-goes number s o (drop taken h) n l w.is w.whole z
            ∙ ap₂ (λ (x y : List ℕ). line_of number (received s x o).answer.status (received s x o).answer.private ++ printed_from (suc number) (received s x o).site (received s x o).out (y ++ z)) (sym c) d)
            ∙ sym (append_assoc (take used t) _ _)
            ∙ ap₂ (λ (x y : List ℕ). x ++ y) (sym (put-taken p.put)) (rw (add-one number, p.site, p.out) refl);
        rule = ap site_rule p.site ∙ k.site-rule ∙ g.rule;
        text-long = long p.put ∙ g.text-long;
        paced = omega (arith, g.paced);
      }

  pub going-end : next_len number (length t - used) (drop taken h) ≡ None
      → Batched s₀ o₀ first h t₀ s o t used (record { number = number; taken = taken })
  going-end q =
      record {
        fit = g.fit;
        room = g.room;
        counted = g.counted;
        goes = g.goes;
        done = λ z m n.
            let y = g.none-yet z in
            let i : next_len number (length t - used) h ≡ None = rw z at q in
            sym (next-none number (length t - used) h (omega arith) (omega (arith, g.text-long))) ∙ i;
        rule = g.rule;
      }
