-- What a decision says of the request, and building by the decision: the frame it lays, the counter it raises. Assumes nothing.
use Rattle.std.specs.Prelude.{Option, Some, None, Result, Ok, Err, is_some}
use mathlib.Core.Path.{◌≡◌, refl, sym, ap, ap₂, ◌∙◌}
use mathlib.Core.Bool.{Bool, true, false, ◌||◌}
use mathlib.Core.List.{List, ◌++◌, append_assoc}
use Prim.Native.Nat.{ℕ, ◌≤◌, ◌<◌}
use native.Mathlib.Omega.{arith}
use lib.ListN.{length, take, drop}
use lib.Seq.{sets}
use lib.Dec.{eqb, ltb, leb}
use borrow.Author.Tests.{leb-true, eqb-true, eqb-false}
use Rattle.std.proofs.lemmas.Bool.{lt-ltb, le-ltb}
use Rattle.std.proofs.lemmas.List.{take-append-drop}
use Rattle.meaning.specs.Octets.{pick, beside}
use Rattle.meaning.specs.Records.{keys, lookups, records, extended_address, security_on, key_at}
use Rattle.meaning.specs.Site.{count_of, body, site_rule, settings_of, tables_of, store_of}
use Rattle.meaning.specs.Steps.{peer_of, key_row, key_of}
use Rattle.meaning.specs.Cipher.{cipher}
use Rattle.meaning.specs.Ccm.{nonce_of, sealed}
use Rattle.meaning.specs.Build.{fitted, header_by, head_octets, aux_octets, request_right, Made, refuse, frame, with_fcs, sealing, secured_body, plain_body, frame_len, secured, on_lookup, on_counter, made, Built, built_of, construction, own_raised, laid, built_valid, built}
use Rattle.meaning.specs.declared.Refusal.{Refusal}
use Rattle.meaning.specs.declared.Refusal.TheVariants.{Site, Room, UnsupportedSecurity, CounterError, FrameTooLong, InvalidParameter}
use Rattle.meaning.specs.declared.Header.{Header}
use Rattle.meaning.specs.declared.Request.{Request}
use Rattle.aes.specs.Schedule.{scheduled, cipher_by}
use Rattle.aes.proofs.Laws.{same-cipher}
use Rattle.meaning.proofs.Lists.{and_both}
use Rattle.meaning.proofs.Scan.{pick-all}
use Rattle.meaning.proofs.Stores.{sets-beside, take-sets-lt, drop-sets}
use Rattle.meaning.proofs.Sites.{rule-lookups}
use Rattle.meaning.proofs.Rows.{key-below}
use Rattle.builder.specs.declared.order.Order.{Order}
use Rattle.builder.specs.Decided.{keyed, chosen, decided, under, decided_at, body_by}
use Rattle.builder.specs.Stored.{Laid, Ready, closed, secured_by}
use Rattle.builder.proofs.Headers.{fields-are, small-by}
use Rattle.builder.proofs.Written.{plain-long, secured-long}

-- ---- what a decision says
module _ (t b : List ℕ) (c : ℕ) (q : Request) (o p : List ℕ) where
  -- the tests that a frame has passed
  pub record Passed : Type 0 where
    pub right : request_right t q o p ≡ true
    pub short : frame_len t q o p ≤ 127

  data Way : Result (Option ℕ) Refusal → Type 0 where
    way-refused : {r : Refusal} → Way (Err r)
    way-plain : Passed → q.level ≡ 0 → Way (Ok None)
    way-keyed : (i : ℕ) → Passed → (c ≡ 0xffff_ffff → ⊥) → i < records 22 b → Way (Ok (Some (key_of b i)))

  found-way : Passed → (c ≡ 0xffff_ffff → ⊥) → (u : Option ℕ) → key_row b t q.keymode q.keyindex q.keysource (peer_of t (fitted q.destination)) ≡ u
      → Way (under (keyed b u))
  unfolding keyed under
  found-way w n None e = way-refused
  found-way w n (Some i) e = way-keyed i w n (key-below b t q.keymode q.keyindex q.keysource (peer_of t (fitted q.destination)) _ i refl e)

  chosen-way : Passed → Way (under (chosen t b c q))
  unfolding chosen under
  chosen-way w =
      pick-all (λ (r : Result ℕ Refusal). Way (under r)) (eqb c 0xffff_ffff) _ _ (λ e. way-refused) (λ e. found-way w (eqb-false c 0xffff_ffff e) _ refl)

  decided-way : Way (decided t b c q o p)
  unfolding decided
  decided-way =
      pick-all Way (request_right t q o p) _ _ (λ r.
      pick-all Way (eqb q.level 0 || security_on t) _ _ (λ s.
      pick-all Way (leb (frame_len t q o p) 127) _ _ (λ f.
      let w : Passed = record { right = r; short = leb-true (frame_len t q o p) 127 f } in
      pick-all Way (eqb q.level 0) _ _ (λ z. way-plain w (eqb-true q.level 0 z)) (λ z. chosen-way w))
      (λ e. way-refused)) (λ e. way-refused)) (λ e. way-refused)

  came : {u : Result (Option ℕ) Refusal} {v : Option ℕ} → Way u → u ≡ Ok v → Passed
  came way-refused e = absurd (let z : ◌≡◌ {A = ℕ} 0 1 = cc in omega arith)
  came (way-plain w l) e = w
  came (way-keyed i w n h) e = w

  came-plain : {u : Result (Option ℕ) Refusal} → Way u → u ≡ Ok None → q.level ≡ 0
  came-plain way-refused e = absurd (let z : ◌≡◌ {A = ℕ} 0 1 = cc in omega arith)
  came-plain (way-plain w l) e = l
  came-plain (way-keyed i w n h) e = absurd (let z : ◌≡◌ {A = ℕ} 0 1 = cc in omega arith)

  record Row (k : ℕ) : Type 0 where
    low : c ≡ 0xffff_ffff → ⊥
    row : ℕ
    inside : row < records 22 b
    key : key_of b row ≡ k

  came-keyed : {u : Result (Option ℕ) Refusal} (k : ℕ) → Way u → u ≡ Ok (Some k) → Row k
  came-keyed k way-refused e = absurd (let z : ◌≡◌ {A = ℕ} 0 1 = cc in omega arith)
  came-keyed k (way-plain w l) e = absurd (let z : ◌≡◌ {A = ℕ} 0 1 = cc in omega arith)
  came-keyed k (way-keyed i w n h) e = record { low = n; row = i; inside = h; key = cc }

  -- so the frame has room
  ready-by : Passed → Ready (header_by t q) q o p
  unfolding request_right frame_len
  ready-by w =
      let f = fields-are q (and_both _ _ w.right).0 in
      record { small = small-by t q f; level = f.level; mode = f.mode; fits = w.short }

module _ (s : List ℕ) (q : Request) (o p : List ℕ) where
  way : Way (settings_of s) (body s lookups) (store_of s).own q o p (decided_at s q o p)
  unfolding decided_at
  way = decided-way (settings_of s) (body s lookups) (store_of s).own q o p

  passed : {v : Option ℕ} → decided_at s q o p ≡ Ok v → Passed (settings_of s) (body s lookups) (store_of s).own q o p
  passed e = came (settings_of s) (body s lookups) (store_of s).own q o p way e

  pub ready : {v : Option ℕ} → decided_at s q o p ≡ Ok v → Ready (header_by (settings_of s) q) q o p
  ready e = ready-by (settings_of s) (body s lookups) (store_of s).own q o p (passed e)

  pub plain-level : decided_at s q o p ≡ Ok None → q.level ≡ 0
  plain-level e = came-plain (settings_of s) (body s lookups) (store_of s).own q o p way e

  row : (k : ℕ) → decided_at s q o p ≡ Ok (Some k) → Row (settings_of s) (body s lookups) (store_of s).own q o p k
  row k e = came-keyed (settings_of s) (body s lookups) (store_of s).own q o p k way e

  -- the key stands in the site
  pub key-inside : (k : ℕ) → site_rule s ≡ true → decided_at s q o p ≡ Ok (Some k) → k < count_of s keys
  unfolding tables_of
  key-inside k rule e =
      let w = row k e in
      rw w.key at (rule-lookups s rule w.row w.inside)

  -- the own counter can rise
  pub own_below : (v : Option ℕ) (n : ℕ) → n ≡ (store_of s).own → n < 4294967296 → decided_at s q o p ≡ Ok v → is_some v ≡ true
      → (store_of s).own < 4294967295
  own_below None n e l d h = absurd (let z : ◌≡◌ {A = ℕ} 0 1 = cc in omega arith)
  own_below (Some k) n e l d h =
      let low : (store_of s).own ≡ 4294967295 → ⊥ = (row k d).low in
      omega (arith, low, e, l)

-- by the tables that callees found
pub decided-by : (s t b : List ℕ) (n : ℕ) (q : Request) (o p : List ℕ) (u : Result (Option ℕ) Refusal) → t ≡ settings_of s → b ≡ body s lookups → n ≡ (store_of s).own
    → u ≡ decided t b n q o p → u ≡ decided_at s q o p
unfolding decided_at
decided-by s t b n q o p u ht hb hn e = e ∙ rw (ht, hb, hn)

-- of the header that a callee made from the settings u
pub ready_by : (s u : List ℕ) (q : Request) (o p : List ℕ) → u ≡ settings_of s → Ready (header_by (settings_of s) q) q o p → Ready (header_by u q) q o p
ready_by s u q o p a w = rw a w

-- ---- the frame under a key
body_is : (key : List ℕ) (e c l : ℕ) (h x o p : List ℕ) → secured_by (cipher key) (nonce_of e c l) l (h ++ (x ++ o)) p ≡ secured_body key e c l h x o p
unfolding secured_by secured_body sealing closed
body_is key e c l h x o p =
    let z = sealed (cipher key) (nonce_of e c l) l (h ++ (x ++ o)) p in
    append_assoc h (x ++ o) (z.cipher ++ z.tag) ∙ ap (λ (r : List ℕ). h ++ r) (append_assoc x o (z.cipher ++ z.tag))

module _ (s : List ℕ) (q : Request) (o p : List ℕ) where
  keyed-is : (k : ℕ)
      → secured_by (cipher (key_at (body s keys) k)) (nonce_of (extended_address (settings_of s)) (store_of s).own q.level) q.level
      (head_octets (header_by (settings_of s) q) ++ (aux_octets q (store_of s).own ++ o)) p
      ≡ body_by s q o p (Some k)
  unfolding body_by
  keyed-is k = body_is (key_at (body s keys) k) (extended_address (settings_of s)) (store_of s).own q.level (head_octets (header_by (settings_of s) q)) (aux_octets q (store_of s).own) o p

  pub body-long : (v : Option ℕ) → Ready (header_by (settings_of s) q) q o p → length (with_fcs (body_by s q o p v)) ≤ 127
  unfolding body_by
  body-long None w = plain-long (header_by (settings_of s) q) q o p w
  body-long (Some k) w =
      let x : ℕ = extended_address (settings_of s) in
      rw (keyed-is k) at (secured-long (key_at (body s keys) k) (nonce_of x (store_of s).own q.level) (header_by (settings_of s) q) q (store_of s).own o p w)

-- by what a draft has: header h, order r
module _ (s : List ℕ) (r : Order) where
  pub plain-as : (u : List ℕ) (h : Header) (r' : Order) (v : Option ℕ) {d d' : List ℕ} {n : ℕ} → u ≡ settings_of s → h ≡ header_by u r.q → r' ≡ r → v ≡ None
      → Laid d (with_fcs (plain_body (head_octets h) r'.opens.now r'.private.now)) n d' → Laid d (with_fcs (body_by s r.q r.opens.now r.private.now v)) n d'
  unfolding body_by
  plain-as u h r' v hu hh hr hv w = rw hv (rw (hh, hu, hr) at w)

  pub keyed-as : (u : List ℕ) (h : Header) (r' : Order) (v : Option ℕ) (k : ℕ) (key w nonce : List ℕ) (c e : ℕ) {d d' : List ℕ} {n : ℕ} → u ≡ settings_of s
      → h ≡ header_by u r.q → r' ≡ r → v ≡ Some k → c ≡ (store_of s).own → key ≡ key_at (body s keys) k → w ≡ scheduled key → nonce ≡ nonce_of e c r.q.level → e ≡ extended_address u
      → Laid d (with_fcs (secured_by (cipher_by w) nonce r.q.level (head_octets h ++ (aux_octets r'.q c ++ r'.opens.now)) r'.private.now)) n d'
      → Laid d (with_fcs (body_by s r.q r.opens.now r.private.now v)) n d'
  keyed-as u h r' v k key w nonce c e hu hh hr hv hc hk hw hn he l = rw hv (rw z at l)
    where
      z : secured_by (cipher_by w) nonce r.q.level (head_octets h ++ (aux_octets r'.q c ++ r'.opens.now)) r'.private.now ≡ body_by s r.q r.opens.now r.private.now (Some k)
      z = rw (hw, same-cipher key, hn, he, hh, hr, hu, hc, hk) (keyed-is s r.q r.opens.now r.private.now k)

-- ---- the frame that is laid
unfoldable pub result : List ℕ → Request → List ℕ → List ℕ → Result (Option ℕ) Refusal → Made
result s q o p (Err r) = refuse r
result s q o p (Ok v) = frame (with_fcs (body_by s q o p v)) (is_some v)

-- a function of a chain of tests
over : (f : Result (Option ℕ) Refusal → Made) (t₁ t₂ t₃ t₄ t₅ : Bool) (b d e h : Result (Option ℕ) Refusal) (c g : Result ℕ Refusal)
    → pick t₁ (pick t₂ (pick t₃ (pick t₄ (f b) (pick t₅ (f (under c)) (f (under g)))) (f d)) (f e)) (f h)
    ≡ f (pick t₁ (pick t₂ (pick t₃ (pick t₄ b (under (pick t₅ c g))) d) e) h)
over f false t₂ t₃ t₄ t₅ b d e h c g = refl
over f true false t₃ t₄ t₅ b d e h c g = refl
over f true true false t₄ t₅ b d e h c g = refl
over f true true true true t₅ b d e h c g = refl
over f true true true false true b d e h c g = refl
over f true true true false false b d e h c g = refl

module _ (s : List ℕ) (q : Request) (o p : List ℕ) where
  found-is : (u : Option ℕ) → on_lookup (store_of s) q o p u ≡ result s q o p (under (keyed (body s lookups) u))
  unfolding on_lookup secured keyed under result body_by store_of tables_of
  found-is None = refl
  found-is (Some i) = refl

  pub made-is : (room : ℕ) → made (store_of s) q o p room ≡ pick (ltb room 127) (refuse Room) (result s q o p (decided_at s q o p))
  unfolding made on_counter decided_at decided chosen under body_by store_of tables_of result
  made-is room =
      let t : List ℕ = settings_of s in
      let u : Option ℕ = key_row (body s lookups) t q.keymode q.keyindex q.keysource (peer_of t (fitted q.destination)) in
      ap (pick (ltb room 127) (refuse Room))
      (ap (λ (z : Made). pick (request_right t q o p)
      (pick (eqb q.level 0 || security_on t)
      (pick (leb (frame_len t q o p) 127)
      (pick (eqb q.level 0) (result s q o p (Ok None)) (pick (eqb (store_of s).own 0xffff_ffff) (refuse CounterError) z))
      (refuse FrameTooLong))
      (refuse UnsupportedSecurity))
      (refuse InvalidParameter)) (found-is u)
      ∙ over (result s q o p) (request_right t q o p) (eqb q.level 0 || security_on t) (leb (frame_len t q o p) 127) (eqb q.level 0)
      (eqb (store_of s).own 0xffff_ffff) (Ok None) (Err FrameTooLong) (Err UnsupportedSecurity) (Err InvalidParameter)
      (Err CounterError) (keyed (body s lookups) u))

  -- without room
  pub narrow : (out : List ℕ) → length out < 127 → construction (built_of (Err Room)) s out ≡ built_valid s q o p out
  unfolding built_valid laid
  narrow out h = ap (laid s out) (sym (made-is (length out) ∙ ap (λ (b : Bool). pick b (refuse Room) (result s q o p (decided_at s q o p))) (lt-ltb (length out) 127 h)))

  laid-is : (out : List ℕ) (u v : Result (Option ℕ) Refusal) → 127 ≤ length out → u ≡ decided_at s q o p → u ≡ v → laid s out (result s q o p v) ≡ built_valid s q o p out
  unfolding built_valid
  laid-is out u v n e h =
      ap (laid s out)
      (sym (made-is (length out) ∙ ap (λ (b : Bool). pick b (refuse Room) (result s q o p (decided_at s q o p))) (le-ltb (length out) 127 n) ∙ ap (result s q o p) (sym e ∙ h)))

  pub refused-by : (out front : List ℕ) (u : Result (Option ℕ) Refusal) (r : Refusal) (z : Result ℕ Refusal) → 127 ≤ length out → front ≡ take 127 out → u ≡ decided_at s q o p → u ≡ Err r → z ≡ Err r
      → construction (built_of z) s (front ++ drop 127 out) ≡ built_valid s q o p out
  unfolding laid result
  refused-by out front u r z n w e h d =
      ap₂ (λ (x : Result ℕ Refusal) (y : List ℕ). construction (built_of x) s y) d (ap (λ (x : List ℕ). x ++ drop 127 out) w ∙ take-append-drop 127 out) ∙ laid-is out u (Err r) n e h

  -- octets put in front of the part cut off, and the length of the frame
  put-beside : (f out front d : List ℕ) (n : ℕ) → length f ≤ 127 → 127 ≤ length out → front ≡ take 127 out → Laid front f n d
      → (n ≡ length f) × (d ++ drop 127 out ≡ beside f out)
  put-beside f out front d n h m e w = (
    w.next,
    ap₂ (λ (x y : List ℕ). x ++ y) (w.same ∙ ap (λ (x : List ℕ). sets x 0 f) e ∙ sym (take-sets-lt f out 0 127 (omega (arith, h)))) (sym (drop-sets f out 0 127 (omega (arith, h))))
        ∙ take-append-drop 127 (sets out 0 f) ∙ sets-beside f out (omega (arith, h, m)),
  )

  pub laid-by : (out front d s' : List ℕ) (u : Result (Option ℕ) Refusal) (v : Option ℕ) (n : ℕ) (up : Bool) → 127 ≤ length out → front ≡ take 127 out → u ≡ decided_at s q o p → u ≡ Ok v
      → Laid front (with_fcs (body_by s q o p v)) n d → up ≡ is_some v → s' ≡ own_raised up s
      → construction (built_of (Ok n)) s' (d ++ drop 127 out) ≡ built_valid s q o p out
  unfolding laid result
  laid-by out front d s' u v n up m f e h w r g =
      let b = put-beside _ out front d n (body-long s q o p v (ready s q o p (sym e ∙ h))) m f w in
      ap (λ (x : List ℕ). construction (record { status = 0; len = n }) x (d ++ drop 127 out)) (g ∙ ap (λ (x : Bool). own_raised x s) r)
      ∙ ap₂ (λ (m : ℕ) (x : List ℕ). construction (record { status = 0; len = m }) (own_raised (is_some v) s) x) b.0 b.1
      ∙ laid-is out u (Ok v) m e h

-- ---- the site broken
pub broken : (s : List ℕ) (q : Request) (o p out : List ℕ) (u : Bool) → u ≡ site_rule s → u ≡ false
    → construction (built_of (Err Site)) s out ≡ built s q o p out
unfolding built laid
broken s q o p out u e h = rw (sym e ∙ h)

-- s₁ the octets that the site was made of, s' those that it has afterwards, s₂ what is lent then
pub valid : (s s₁ s' s₂ : List ℕ) (q : Request) (o p out out' : List ℕ) (u : Bool) (z : Built) → u ≡ site_rule s → u ≡ true → s₁ ≡ s → s₂ ≡ s'
    → construction z s' out' ≡ built_valid s₁ q o p out → construction z s₂ out' ≡ built s q o p out
unfolding built
valid s s₁ s' s₂ q o p out out' u z e h a b d =
    rw (sym e ∙ h) (ap (λ (x : List ℕ). construction z x out') b ∙ d ∙ ap (λ (x : List ℕ). built_valid x q o p out) a)
