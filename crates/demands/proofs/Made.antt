-- A build that succeeds: what its checks have found, and its frame: by going back through the checks, of which each could have refused. Assumes nothing.
use Rattle.std.specs.Prelude.{Option, Some, None}
use mathlib.Core.Path.{◌≡◌, refl, ap, ◌∙◌}
use mathlib.Core.Logic.{◌≢◌}
use Prim.Native.Nat.{ℕ, ◌≤◌}
use native.Mathlib.Omega.{arith}
use mathlib.Core.Bool.{Bool, true, false, ◌||◌}
use mathlib.Core.List.{List}
use lib.ListN.{length, take, drop}
use lib.Seq.{take_at}
use lib.Dec.{eqb, leb, ltb}
use borrow.Author.Tests.{eqb-true, eqb-false, leb-true}
use Rattle.meaning.specs.Octets.{pick, beside}
use Rattle.meaning.specs.Status.{number}
use Rattle.meaning.specs.Records.{extended_address, security_on, Store}
use Rattle.meaning.specs.Site.{site_rule, store_of}
use Rattle.meaning.specs.Steps.{peer_of, key_row}
use Rattle.meaning.specs.Build.{
  fitted,
  header_by,
  head_octets,
  aux_octets,
  request_right,
  Made,
  refuse,
  frame,
  with_fcs,
  secured_body,
  plain_body,
  frame_len,
  secured,
  on_lookup,
  on_counter,
  made,
  laid,
  built_valid,
  built,
}
use Rattle.meaning.specs.declared.Refusal.{Refusal}
use Rattle.meaning.specs.declared.Refusal.TheVariants.{
  Site,
  Room,
  Length,
  Fcs,
  Malformed,
  Filtered,
  UnsupportedLegacy,
  UnsupportedSecurity,
  UnavailableSecurityLevel,
  ImproperSecurityLevel,
  UnavailableKey,
  ImproperKeyType,
  UnavailableDevice,
  CounterError,
  SecurityError,
  FrameTooLong,
  InvalidParameter,
}
use Rattle.meaning.specs.declared.Request.{Request}
use Rattle.demands.proofs.Auxes.{aux-none}
use Rattle.demands.proofs.Parts.{body_sent, plain-body, secured-body}
use Rattle.demands.specs.Round.{key_in, key_sent, frame_sent}

-- ---- the checks, read back
refuse-frame : {A : Type 0} {r : Refusal} {f : List ℕ} {u : Bool} → refuse r ≡ frame f u → A
refuse-frame e = absurd (let z : ◌≡◌ {A = ℕ} 0 1 = cc in omega arith)

passed : (c : Bool) (m : Made) (r : Refusal) (f : List ℕ) (u : Bool) → pick c m (refuse r) ≡ frame f u → (c ≡ true) × (m ≡ frame f u)
passed true m r f u e = (refl, e)
passed false m r f u e = refuse-frame e

unbarred : (c : Bool) (r : Refusal) (m : Made) (f : List ℕ) (u : Bool) → pick c (refuse r) m ≡ frame f u → (c ≡ false) × (m ≡ frame f u)
unbarred true r m f u e = refuse-frame e
unbarred false r m f u e = (refl, e)

pub record Making (σ : Store) (q : Request) (o p f : List ℕ) : Type 0 where
  pub right : request_right σ.tables.settings q o p ≡ true
  pub fits : frame_len σ.tables.settings q o p ≤ 127
  -- a secured frame does not carry the last counter
  pub fresh : q.level ≢ 0 → σ.own ≢ 0xffff_ffff
  pub is : f ≡ with_fcs (body_sent σ q o p)

number-0 : (r : Refusal) → number r ≢ 0
unfolding number
number-0 Site e = omega arith
number-0 Room e = omega arith
number-0 Length e = omega arith
number-0 Fcs e = omega arith
number-0 Malformed e = omega arith
number-0 Filtered e = omega arith
number-0 UnsupportedLegacy e = omega arith
number-0 UnsupportedSecurity e = omega arith
number-0 UnavailableSecurityLevel e = omega arith
number-0 ImproperSecurityLevel e = omega arith
number-0 UnavailableKey e = omega arith
number-0 ImproperKeyType e = omega arith
number-0 UnavailableDevice e = omega arith
number-0 CounterError e = omega arith
number-0 SecurityError e = omega arith
number-0 FrameTooLong e = omega arith
number-0 InvalidParameter e = omega arith

module _ (σ : Store) (q : Request) (o p : List ℕ) (f : List ℕ) (u : Bool) where
  -- the secured frame under key octets k
  abbrev under : List ℕ → List ℕ
  under k =
      with_fcs
      (secured_body k (extended_address σ.tables.settings) σ.own q.level (head_octets (header_by σ.tables.settings q))
      (aux_octets q σ.own) o p)

  on-lookup : (w : Option ℕ) → on_lookup σ q o p w ≡ frame f u → f ≡ under (key_in σ w)
  unfolding on_lookup secured key_in
  on-lookup None e = refuse-frame e
  on-lookup (Some i) e = cc

  making : (room : ℕ) → made σ q o p room ≡ frame f u → Making σ q o p f
  unfolding made on_counter key_sent
  making room e =
      record { right = b.0; fits = leb-true (frame_len t q o p) 127 d.0; fresh = (go (eqb q.level 0) refl d.1).0; is = (go (eqb q.level 0) refl d.1).1 }
    where
      t : List ℕ
      t = σ.tables.settings

      row : Option ℕ
      row = key_row σ.tables.lookups t q.keymode q.keyindex q.keysource (peer_of t (fitted q.destination))

      way : Made
      way = pick (eqb q.level 0) (frame (with_fcs (plain_body (head_octets (header_by t q)) o p)) false) (on_counter σ q o p)

      long : Made
      long = pick (leb (frame_len t q o p) 127) way (refuse FrameTooLong)

      secure : Made
      secure = pick (eqb q.level 0 || security_on t) long (refuse UnsupportedSecurity)

      a : (ltb room 127 ≡ false) × (pick (request_right t q o p) secure (refuse InvalidParameter) ≡ frame f u)
      a = unbarred (ltb room 127) Room (pick (request_right t q o p) secure (refuse InvalidParameter)) f u e

      b : (request_right t q o p ≡ true) × (secure ≡ frame f u)
      b = passed (request_right t q o p) secure InvalidParameter f u a.1

      c : ((eqb q.level 0 || security_on t) ≡ true) × (long ≡ frame f u)
      c = passed (eqb q.level 0 || security_on t) long UnsupportedSecurity f u b.1

      d : (leb (frame_len t q o p) 127 ≡ true) × (way ≡ frame f u)
      d = passed (leb (frame_len t q o p) 127) way FrameTooLong f u c.1

      counted : q.level ≢ 0 → pick (eqb σ.own 0xffff_ffff) (refuse CounterError) (on_lookup σ q o p row) ≡ frame f u
          → (q.level ≢ 0 → σ.own ≢ 0xffff_ffff) × (f ≡ with_fcs (body_sent σ q o p))
      counted n z =
          let g = unbarred (eqb σ.own 0xffff_ffff) CounterError (on_lookup σ q o p row) f u z in
          (λ l. eqb-false σ.own 0xffff_ffff g.0, on-lookup row g.1 ∙ ap with_fcs (secured-body σ q o p n))

      plain : q.level ≡ 0 → frame (with_fcs (plain_body (head_octets (header_by t q)) o p)) false ≡ frame f u
          → (q.level ≢ 0 → σ.own ≢ 0xffff_ffff) × (f ≡ with_fcs (body_sent σ q o p))
      plain z w =
          let g : f ≡ with_fcs (plain_body (head_octets (header_by t q)) o p) = cc in
          (λ n. absurd (n z), g ∙ ap with_fcs (plain-body σ q o p z (aux-none q σ.own z)))

      go : (l : Bool) → eqb q.level 0 ≡ l → pick l (frame (with_fcs (plain_body (head_octets (header_by t q)) o p)) false) (on_counter σ q o p) ≡ frame f u
          → (q.level ≢ 0 → σ.own ≢ 0xffff_ffff) × (f ≡ with_fcs (body_sent σ q o p))
      go true l z = plain (eqb-true q.level 0 l) z
      go false l z = counted (eqb-false q.level 0 l) z

-- a build that answers 0
module _ (s : List ℕ) (q : Request) (o p out : List ℕ) where
  valid : (m : Made) → made (store_of s) q o p (length out) ≡ m → (laid s out m).answer.status ≡ 0
      → Making (store_of s) q o p (take (laid s out m).answer.len (laid s out m).out)
  unfolding laid beside
  valid (refuse r) w e = absurd (number-0 r e)
  valid (frame f u) w e = rw (take_at f (drop (length f) out) (length f) refl) (making (store_of s) q o p f u (length out) w)

  pub sent : (built s q o p out).answer.status ≡ 0 → Making (store_of s) q o p (frame_sent s q o p out)
  unfolding built built_valid frame_sent laid
  sent = go (site_rule s)
    where
      go : (t : Bool) → (pick t (built_valid s q o p out) (laid s out (refuse Site))).answer.status ≡ 0
          → Making (store_of s) q o p (take (pick t (built_valid s q o p out) (laid s out (refuse Site))).answer.len (pick t (built_valid s q o p out) (laid s out (refuse Site))).out)
      go false e = absurd (number-0 Site e)
      go true e = valid (made (store_of s) q o p (length out)) refl e
