-- The verdict on a built frame that is admitted: its report, its private payload, its counter. Unsealing opens what was sealed. Assumes nothing.
use Rattle.std.specs.Prelude.{Ok}
use mathlib.Core.Path.{◌≡◌, refl, sym, ap, ◌∙◌}
use mathlib.Core.Logic.{◌≢◌}
use Prim.Native.Nat.{ℕ, suc, ◌^◌, ◌≤◌, ◌<◌}
use mathlib.Core.Bool.{true}
use mathlib.Core.List.{List, ◌++◌}
use lib.ListN.{get_or}
use borrow.Author.Tests.{eqb-true, ne_eqb, le-leb}
use Rattle.meaning.specs.Frame.{level_of, counter_of, View}
use Rattle.meaning.specs.Records.{extended_address, Tables, Store, key_at, no_device}
use Rattle.meaning.specs.Cipher.{cipher}
use Rattle.meaning.specs.Ccm.{nonce_of, Sealed}
use Rattle.meaning.specs.Receive.{Judged, report, stored, timely, accept, opened, tagged, admit, settle, verdict}
use Rattle.meaning.specs.Build.{header_by, head_octets, aux_octets, with_fcs, sealing}
use Rattle.meaning.specs.declared.Passed.TheVariants.{Plain, Secure}
use Rattle.meaning.specs.declared.Request.{Request}
use Rattle.meaning.proofs.Ccm.{opens-again}
use Rattle.meaning.proofs.Ways.{Comes, to-plain, on-check, on-split, weaken, came-plain, came-secure, security-known}
use Rattle.demands.specs.Round.{Octets, Ranged, key_sent, admission, Agreed, plainly, securely, device_of, raise_of, report_of}
use Rattle.demands.proofs.Asked.{Asked, asked}
use Rattle.demands.proofs.Formed.{bare-level}
use Rattle.demands.proofs.Auxes.{mode-read, counter-read}
use Rattle.demands.proofs.Parts.{sealed_sent, body_sent}
use Rattle.demands.proofs.Made.{Making}
use Rattle.demands.proofs.Frames as F
use Rattle.demands.proofs.Places as P

timely-is : (n c : ℕ) → n ≤ c → c ≢ 0xffff_ffff → timely n c ≡ true
unfolding timely
timely-is n c h k = rw (ne_eqb c 0xffff_ffff k, le-leb n c h)

module _ (σ : Store) (q : Request) (o p f : List ℕ) (r : Ranged q) (ot : Octets σ.tables.settings) (small : σ.own < 256 ^ 4) (m : Making σ q o p f) where
  abbrev b : List ℕ
  b = body_sent σ q o p

  a : Asked σ.tables.settings q o p
  a = asked σ.tables.settings q o p m.right

  abbrev v : View
  v = F.shown σ q o p r ot a m.fits

  abbrev x : List ℕ
  x = aux_octets q σ.own

  level-is : level_of x ≡ q.level
  level-is = F.level-is σ q o p r ot a m.fits

  -- admitted without security it has level 0, and with security another
  level-known : (g : Tables) → Comes (q.level ≡ 0) (λ k j d. q.level ≢ 0) (admission g (header_by σ.tables.settings q) x o)
  unfolding admission header_by
  level-known g =
      on-check _ _ _ _ _
      (λ c. on-split _ _ _ _ _ (λ k. to-plain (bare-level σ.tables.settings q o p r ot a (eqb-true q.kind 2 k)))
      (λ k. weaken (λ z. sym level-is ∙ z) (λ i j d w n. w.level (level-is ∙ n)) (security-known g _ x o)))

  counter-is : q.level ≢ 0 → counter_of x ≡ σ.own
  counter-is n = counter-read q σ.own r.keysource a.level a.keymode n small

  -- what stands for the private payload
  plain-is : q.level ≡ 0 → (sealed_sent σ q o p).cipher ≡ p
  unfolding sealed_sent
  plain-is e = rw e

  abbrev front : List ℕ
  front = head_octets (header_by σ.tables.settings q) ++ (x ++ o)

  sealed-is : q.level ≢ 0 → sealed_sent σ q o p ≡ sealing (key_sent σ q) (extended_address σ.tables.settings) σ.own q.level front p
  unfolding sealed_sent
  sealed-is n = rw (ne_eqb q.level 0 n)

  opened-is : q.level ≢ 0 → opened (key_sent σ q) (extended_address σ.tables.settings) v b ≡ record { right = true; text = p }
  unfolding opened F.shown sealing
  opened-is n =
      rw (
        P.front-is σ q o p r ot a m.fits,
        P.cipher-is σ q o p r ot a m.fits,
        P.tag-is σ q o p r ot a m.fits,
        counter-is n,
        level-is,
        ap (λ (y : Sealed). y.cipher) (sealed-is n),
        ap (λ (y : Sealed). y.tag) (sealed-is n),
      )
      (opens-again (cipher (key_sent σ q)) (nonce_of (extended_address σ.tables.settings) σ.own q.level) q.level front p)

  -- ---- the report
  plain-report : q.level ≡ 0 → report v 0 0 ≡ report_of σ q o p (Ok Plain)
  unfolding report report_of device_of F.shown
  plain-report e = rw (F.private-is σ q o p r ot a m.fits, e)

  secure-report : (k j d : ℕ) → q.level ≢ 0 → report v (level_of x) (suc d) ≡ report_of σ q o p (Ok (Secure k j d))
  unfolding report report_of device_of F.shown
  secure-report k j d n =
      rw (F.private-is σ q o p r ot a m.fits, level-is, ne_eqb q.level 0 n, mode-read q σ.own r.keysource a.level a.keymode n)

  -- ---- the verdict
  settle-is : (τ : Store) {g : Judged} → Comes (q.level ≡ 0) (λ k j d. q.level ≢ 0) g → Agreed σ τ q g
      → settle τ v b g ≡ accept (report_of σ q o p g) p (raise_of σ.own g)
  unfolding settle admit tagged raise_of F.shown
  settle-is τ y plainly =
      let e : q.level ≡ 0 = came-plain y refl in
      rw (P.cipher-is σ q o p r ot a m.fits, plain-is e, plain-report e)
  settle-is τ y (securely {k} {j} {d} w) =
      let n : q.level ≢ 0 = came-secure y refl in
      let key : key_at τ.keys k ≡ key_sent σ q = w.key in
      let extended : (get_or τ.tables.devices d no_device).extended ≡ extended_address σ.tables.settings = w.extended in
      let counter : stored τ.counters j d ≤ σ.own = w.counter in
      rw (key, extended, opened-is n, counter-is n, timely-is (stored τ.counters j d) σ.own counter (m.fresh n), secure-report k j d n)

  pub verdict-is : (τ : Store) (room : ℕ) (g : Judged) → 127 ≤ room → admission τ.tables (header_by σ.tables.settings q) x o ≡ g → Agreed σ τ q g
      → verdict τ room (with_fcs b) ≡ accept (report_of σ q o p g) p (raise_of σ.own g)
  unfolding verdict
  verdict-is τ room g k e z =
      rw (le-leb 127 room k, F.inner-with b, F.view-is σ q o p r ot a m.fits, F.judged-is σ q o p r ot a m.fits τ.tables, e)
      (settle-is τ (rw e at (level-known τ.tables)) z)
