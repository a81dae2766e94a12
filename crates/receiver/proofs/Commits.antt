-- The answer and what is written, at what the callees found. Assumes nothing.
use Rattle.std.specs.Prelude.{Ok, Err}
use mathlib.Core.Path.{◌≡◌, refl, sym, ap, ◌∙◌}
use mathlib.Core.Bool.{Bool, true, false, not}
use mathlib.Core.List.{List, [], ◌++◌, append_assoc}
use Prim.Native.Nat.{ℕ, suc, ◌+◌, ◌≤◌, ◌<◌}
use native.Mathlib.Numerals.{add-one}
use native.Mathlib.Omega.{arith}
use mir.Syntax.{w64}
use mir.Val.{Fits as Fits64}
use lib.ListN.{length, take, drop, length-take, length-drop, length-append}
use lib.Seq.{sets}
use lib.Dec.{leb, eqb}
use borrow.Author.Tests.{le-leb, lt-leb, ne_eqb, eq-eqb}
use Rattle.meaning.specs.Octets.{part, beside}
use Rattle.meaning.specs.Ccm.{Opened}
use Rattle.meaning.specs.Fcs.{inner}
use Rattle.meaning.specs.Frame.{level_of, counter_of, tag_len, cuts_of, view, open_end, private_len}
use Rattle.meaning.specs.Records.{Tables, devices, keys, limit_of, counter_at, key_at, device_at}
use Rattle.meaning.specs.Site.{count_of, body, site_rule, store_of, tables_of}
use Rattle.meaning.specs.Receive.{Judged, Received, answer_of, refusal, report, Raise, raise, stored, raised_in, timely, private_of, opened, tagged, admit, settle, judged, Verdict, refuse, accept, verdict, Outcome, outcome, write, received_valid}
use Rattle.meaning.specs.Room.{Fits}
use Rattle.meaning.specs.declared.Accepted.{Accepted}
use Rattle.meaning.specs.declared.Refusal.{Refusal}
use Rattle.meaning.specs.declared.Refusal.TheVariants.{Room, CounterError, SecurityError}
use Rattle.meaning.specs.declared.Passed.{Passed}
use Rattle.meaning.specs.declared.Passed.TheVariants.{Plain, Secure}
use Rattle.meaning.proofs.Tests.{and_right}
use Rattle.meaning.proofs.Stores.{sets-beside, take-beside}
use Rattle.meaning.proofs.Ccm.{length-text}
use Rattle.meaning.proofs.Sites.{rule-limit, rule-lookups, rule-handles, device-of, counter-of}
use Rattle.meaning.proofs.Ways.{plain_fits, secure-fits}
use Rattle.std.proofs.lemmas.List.{take-append-drop, drop-append-le}
use Rattle.std.specs.Array.{IsFirstChunk}
use Rattle.aes.specs.Schedule.{scheduled, cipher_by}
use Rattle.receiver.specs.Parts.{Plainly, OpenedWith, nonce_in, committed, settled}
use Rattle.receiver.proofs.Bodies.{view-cuts, private-is, private-room}
use Rattle.receiver.proofs.Openings.{Unsecured, by-key}

-- ---- without security
pub by-plain : (b o p : List ℕ) (r : Received) (o' : List ℕ) → length b ≤ 125 → length o ≡ 127 → level_of (view b).aux ≡ 0
    → p ≡ private_of (view b) b → o' ≡ sets o 0 p → r ≡ report (view b) (level_of (view b).aux) 0 → Plainly b o r o'
by-plain b o p r o' short room z q w a =
    record {
      answer = a ∙ ap (λ (l : ℕ). report (view b) l 0) z;
      out = w ∙ sets-beside p o (let k = private-room b o p short room q in omega arith) ∙ ap (λ (x : List ℕ). beside x o) q;
    }

-- ---- what is written
pub device-fits : (s : List ℕ) (d : ℕ) → site_rule s ≡ true → d < count_of s devices → Fits64 w64 (d + 1)
unfolding limit_of
device-fits s d rule h = omega (arith, rule-limit s rule devices (omega arith))

private-of : (b : List ℕ) (a : Accepted) (l device : ℕ) → answer_of (Ok a) ≡ report (view b) l device → a.private ≡ private_len (view b)
unfolding report
private-of b a l device p = ap (λ (r : Received). r.private) p

pub private-short : (b o x y : List ℕ) (a : Accepted) (l device : ℕ) → length b ≤ 125 → length o ≡ 127
    → answer_of (Ok a) ≡ report (view b) l device → y ≡ part 0 a.private x → 0 + length y ≤ length o
private-short b o x y a l device short room p q =
    let n : a.private ≡ private_len (view b) = private-of b a l device p in
    rw (q, room) (simp length-take (omega (arith, n, private-is b)))

pub by-commit : (s b o x y : List ℕ) (d c : ℕ) (a : Accepted) (device : ℕ) (s' o' : List ℕ) → length b ≤ 125 → length o ≡ 127 → device ≡ d + 1
    → answer_of (Ok a) ≡ report (view b) (level_of (view b).aux) device → y ≡ part 0 a.private x
    → o' ≡ sets o 0 y → s' ≡ raised_in (raise 0 d c) s → outcome (answer_of (Ok a)) s' o' ≡ committed s b o x d c
unfolding committed
by-commit s b o x y d c a device s' o' short room i p q w t =
    let n : a.private ≡ private_len (view b) = private-of b a _ device p in
    let out : o' ≡ beside (take (private_len (view b)) x) o =
    w ∙ sets-beside y o (let z = private-short b o x y a _ device short room p q in omega arith) ∙ ap (λ (r : List ℕ). beside r o) (rw (← n) q) in
    let answer : answer_of (Ok a) ≡ report (view b) (level_of (view b).aux) (suc d) = p ∙ ap (report (view b) (level_of (view b).aux)) (i ∙ add-one d) in
    rw (answer, t, out)

-- ---- 14 and 15
-- the counter last seen is refused, and one below the stored
counter-last : (n c : ℕ) → c ≡ 0xffff_ffff → timely n c ≡ false
unfolding timely
counter-last n c e = rw (eq-eqb c 0xffff_ffff e)

counter-low : (n c : ℕ) → c < n → timely n c ≡ false
unfolding timely
counter-low n c h = let l : leb n c ≡ false = lt-leb n c h in and_right (not (eqb c 0xffff_ffff)) (leb n c) l

counter-right : (n c : ℕ) → (c ≡ 0xffff_ffff → ⊥) → n ≤ c → timely n c ≡ true
unfolding timely
counter-right n c g h = let l : leb n c ≡ true = le-leb n c h in rw (ne_eqb c 0xffff_ffff g, l)

any-handle : (s o p : List ℕ) (right : Bool) (a : Received) (j d c : ℕ) → write s o (tagged right p a (raise 0 d c)) ≡ write s o (tagged right p a (raise j d c))
unfolding write tagged raised_in
any-handle s o p true a j d c = refl
any-handle s o p false a j d c = refl

-- t is the view that counter, key and address are read from
module _ (s t o b : List ℕ) (k j d c n : ℕ) (rule : site_rule s ≡ true) (h : d < count_of s devices) (g : c ≡ counter_of (view b).aux)
    (same : t ≡ s) (m : n ≡ counter_at (body t devices) d) where
  -- the store's counter is that of the device's record
  timely-is : timely (stored (store_of s).counters j d) (counter_of (view b).aux) ≡ timely n c
  unfolding stored
  timely-is = rw (counter-of s rule d h, m, same, g)

  late : timely n c ≡ false → outcome (refusal CounterError) s o ≡ settled s b o (Ok (Secure k j d))
  unfolding settled settle admit write
  late l = rw (timely-is, l)

  pub low-counter : c < n → outcome (refusal CounterError) s o ≡ settled s b o (Ok (Secure k j d))
  low-counter l = late (counter-low n c l)

  module _ (key w nonce x x' : List ℕ) (ext : ℕ) (right : Bool) (u : (c ≡ 0xffff_ffff → ⊥)) (v : n ≤ c)
      (a : key ≡ key_at (body t keys) k) (q : w ≡ scheduled key) (i : ext ≡ (device_at (body t devices) d).extended) (r : nonce ≡ nonce_in b ext)
      (y : OpenedWith (cipher_by w) nonce b x right x') where
    -- what the store's key and address open
    abbrev text : List ℕ
    text = (opened (key_at (body s keys) k) (device_at (body s devices) d).extended (view b) b).text

    z : Unsecured (key_at (body s keys) k) (device_at (body s devices) d).extended b x right x'
    z = rw (← same, ← a, ← i) (by-key b key ext w nonce x x' right q r y)

    settled-is : write s o (tagged right text (report (view b) (level_of (view b).aux) (suc d)) (raise 0 d c)) ≡ settled s b o (Ok (Secure k j d))
    unfolding settled settle admit store_of
    settled-is =
        any-handle s o text right (report (view b) (level_of (view b).aux) (suc d)) j d c
        ∙ rw (timely-is, counter-right n c u v, device-of s rule d h, ← g, z.verdict)

    pub is-wrong : right ≡ false → outcome (refusal SecurityError) s o ≡ settled s b o (Ok (Secure k j d))
    unfolding tagged write
    is-wrong l = let p = settled-is in rw l at p

    text-long : open_end (cuts_of b) + tag_len (level_of (view b).aux) ≤ length b → length text ≡ private_len (view b)
    unfolding opened private_of
    text-long whole =
        length-text _ _ _ _ _ _ ∙ simp (length-take, length-drop) (rw (private-is b, view-cuts b) (omega arith))

    pub is-right : (out : Outcome) → open_end (cuts_of b) + tag_len (level_of (view b).aux) ≤ length b → right ≡ true → out ≡ committed s b o x' d c → out ≡ settled s b o (Ok (Secure k j d))
    unfolding tagged write committed
    is-right out whole l p =
        let long : take (private_len (view b)) x' ≡ text = rw (z.text, ← text-long whole) (take-beside _ x) in
        let q = settled-is in
        p ∙ rw long (rw l at q)

pub last-counter : (s o b : List ℕ) (k j d c : ℕ) → site_rule s ≡ true → d < count_of s devices → c ≡ counter_of (view b).aux
    → c ≡ 0xffff_ffff → outcome (refusal CounterError) s o ≡ settled s b o (Ok (Secure k j d))
last-counter s o b k j d c rule h g t = late s s o b k j d c (counter_at (body s devices) d) rule h g refl refl (counter-last _ c t)

-- ---- the whole
-- 2
pub no-room : (s f o : List ℕ) → length o < 127 → outcome (refusal Room) s o ≡ received_valid s f o
unfolding received_valid verdict write
no-room s f o h = rw (lt-leb 127 (length o) h)

-- the judgment on a view is that on its site
pub judged-by : (s t f : List ℕ) (v : Judged) → t ≡ s → v ≡ judged (tables_of t) f → v ≡ judged (tables_of s) f
judged-by s t f v same d = rw same at d

store-tables : (s : List ℕ) → (store_of s).tables ≡ tables_of s
unfolding store_of
store-tables s = refl

-- what is lent as the first 127 octets
pub front-whole : (o w : List ℕ) → IsFirstChunk o w 127 → o ≡ w ++ drop 127 o
front-whole o w e = rw e.same (sym (take-append-drop 127 o))

pub front-room : (o w : List ℕ) → IsFirstChunk o w 127 → length w ≡ 127
front-room o w e = rw e.same (simp length-take (omega (arith, e.enough)))

-- ---- the output is its front w of 127 octets and the rest r: what stands in front of the first stands in front of both
beside-front : (q w r : List ℕ) → length q ≤ length w → beside q w ++ r ≡ beside q (w ++ r)
unfolding beside
beside-front q w r h = append_assoc q (drop (length q) w) r ∙ ap (λ (x : List ℕ). q ++ x) (sym (drop-append-le (length q) w r h))

-- the text that a verdict writes
abbrev text-of : Verdict → List ℕ
text-of (refuse r) = []
text-of (accept a q r) = q

abbrev widened : List ℕ → Outcome → Outcome
widened r z = outcome z.answer z.site (z.out ++ r)

written : (s w r : List ℕ) (v : Verdict) → length (text-of v) ≤ length w → widened r (write s w v) ≡ write s (w ++ r) v
unfolding write
written s w r (refuse x) h = refl
written s w r (accept a q x) h = rw (beside-front q w r h)

tagged-short : (t : Bool) (q : List ℕ) (a : Received) (x : Raise) (n : ℕ) → length q ≤ n → length (text-of (tagged t q a x)) ≤ n
unfolding tagged
tagged-short true q a x n h = h
tagged-short false q a x n h = omega arith

admit-short : (t : Bool) (w : Opened) (a : Received) (x : Raise) (n : ℕ) → length w.text ≤ n → length (text-of (admit t w a x)) ≤ n
unfolding admit
admit-short true w a x n h = tagged-short w.right w.text a x n h
admit-short false w a x n h = omega arith

private-most : (b : List ℕ) → length b ≤ 125 → length (private_of (view b) b) ≤ 127
unfolding private_of
private-most b short = simp (length-take, length-drop) (omega arith)

opened-most : (k : List ℕ) (e : ℕ) (b : List ℕ) → length b ≤ 125 → length (opened k e (view b) b).text ≤ 127
unfolding opened
opened-most k e b short = rw (length-text _ _ _ _ _ _) (private-most b short)

settled-front : (s w r b : List ℕ) (k j d : ℕ) → length b ≤ 125 → length w ≡ 127
    → widened r (settled s b w (Ok (Secure k j d))) ≡ settled s b (w ++ r) (Ok (Secure k j d))
unfolding settled settle
settled-front s w r b k j d short room =
    written s w r _ (rw room (admit-short _ _ _ _ 127 (opened-most _ _ b short)))

room-in : (o w r : List ℕ) → o ≡ w ++ r → length w ≡ 127 → 127 ≤ length o
room-in o w r whole room = rw (whole, length-append w r, room) (omega arith)

module _ (s f o w r : List ℕ) (v : Judged) (whole : o ≡ w ++ r) (room : length w ≡ 127) (d : v ≡ judged (tables_of s) f) where
  roomy : leb 127 (length o) ≡ true
  roomy = le-leb 127 (length o) (room-in o w r whole room)

  pub on-refused : (x : Refusal) → v ≡ Err x → outcome (refusal x) s (w ++ r) ≡ received_valid s f o
  unfolding received_valid verdict settle write
  on-refused x e = rw (roomy, store-tables s, ← d, e, whole)

  -- b is the frame without its FCS
  module _ (p : Passed) (q : v ≡ Ok p) (b : List ℕ) (h : b ≡ inner f) (short : length b ≤ 125) where
    pub on-plain : (a : Received) (o' : List ℕ) → p ≡ Plain → Plainly b w a o' → outcome a s (o' ++ r) ≡ received_valid s f o
    unfolding received_valid verdict settle write raised_in
    on-plain a o' e z =
        let front : o' ++ r ≡ beside (private_of (view b) b) o =
        rw z.out (beside-front (private_of (view b) b) w r (rw room (private-most b short)) ∙ ap (beside (private_of (view b) b)) (sym whole)) in
        rw (front, z.answer, roomy, store-tables s, ← d, q, e, h)

    pub on-secure : (k j i : ℕ) (z : Outcome) → p ≡ Secure k j i → z ≡ settled s b w (Ok (Secure k j i)) → widened r z ≡ received_valid s f o
    unfolding received_valid verdict settled
    on-secure k j i z e t =
        ap (widened r) t ∙ settled-front s w r b k j i short room ∙ rw (roomy, store-tables s, ← d, q, e, h, whole)

-- what is known of a frame that passed: its parts fit it; and what of one without security, and of a secured one
pub passed-fits : (t : Tables) (f : List ℕ) (p : Passed) → judged t f ≡ Ok p → Fits f
passed-fits t f Plain e = (plain_fits t f e).0
passed-fits t f (Secure k j i) e = (secure-fits t f k j i e).0

module _ (s f : List ℕ) (v : Judged) (p : Passed) (rule : site_rule s ≡ true) (d : v ≡ judged (tables_of s) f) (q : v ≡ Ok p) where
  pub plain-in : p ≡ Plain → level_of (view (inner f)).aux ≡ 0
  plain-in e = (plain_fits (tables_of s) f (rw (← d, q, e))).1

  -- the key and the device stand in their tables
  pub secured-in : (k j i : ℕ) → p ≡ Secure k j i → (k < count_of s keys) × (i < count_of s devices)
  secured-in k j i e =
      let w = secure-fits (tables_of s) f k j i (rw (← d, q, e)) in
      let x = w.1 in
      (rw x.key (rule-lookups s rule x.row x.row_below), rw x.device (rule-handles s rule j x.handle-below))
