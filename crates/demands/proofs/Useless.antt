-- No useless receiver meets demand 2: each is told from `received` by a frame whose outcome is computed, and an accepted frame's private length
-- and counter are its own, by all ways to an acceptance. Assumes nothing.
use Rattle.std.specs.Prelude.{Ok, Err}
use mathlib.Core.Path.{◌≡◌, refl, sym, ap, ◌∙◌}
use mathlib.Core.Logic.{◌≢◌}
use Prim.Native.Nat.{ℕ, suc}
use native.Mathlib.Omega.{arith}
use mathlib.Core.Bool.{Bool, true, false}
use mathlib.Core.List.{List, [], ◌∷◌}
use lib.ListN.{length, get_or}
use lib.Dec.{leb}
use Rattle.meaning.specs.Octets.{pick}
use Rattle.meaning.specs.Frame.{counter_of, View, view, private_len}
use Rattle.meaning.specs.Fcs.{inner}
use Rattle.meaning.specs.Ccm.{Opened}
use Rattle.meaning.specs.Records.{Store}
use Rattle.meaning.specs.Site.{site_rule, store_of}
use Rattle.meaning.specs.Receive.{
  Received,
  Judged,
  judged,
  refusal,
  report,
  Raise,
  keep,
  raise,
  raised_in,
  Verdict,
  refuse,
  accept,
  tagged,
  admit,
  settle,
  verdict,
  Outcome,
  outcome,
  write,
  received_valid,
  received,
}
use Rattle.meaning.specs.declared.Refusal.TheVariants.{Room, Site}
use Rattle.meaning.specs.declared.Refusal.{Refusal}
use Rattle.meaning.specs.declared.Passed.TheVariants.{Plain, Secure}
use Rattle.demands.specs.Useless.{Receiver, Promised, RefusesAll, OneSuccess, WritesNothing, Repeats, TrueLength, TrueCounter}
use Rattle.demands.proofs.Refusals.{listed}
use Rattle.demands.proofs.Computing.{read, computed, received-by}
use Rattle.demands.proofs.Pairs.{file_a, site_a, rule-A, empty, plain, strange, took, plain-A, strange-A}

-- ---- by a frame
abbrev first : List ℕ
first = plain (1 ∷ 2 ∷ 3 ∷ [])

accepts : (received site_a first empty).answer.status ≡ 0
unfolding computed
accepts = ap (λ (x : Outcome). x.answer.status) plain-A

pub no-refuser : (R : Receiver) → Promised R → RefusesAll R → ⊥
no-refuser R h u = u site_a first empty (ap (λ (x : Outcome). x.answer.status) (h site_a first empty) ∙ accepts)

-- two accepted frames with answers that differ
shorter-A : received site_a (plain []) empty ≡ took site_a (plain []) empty 0 0 [] keep
unfolding read computed
shorter-A = received-by file_a rule-A (plain []) empty _ refl

shorter : (received site_a (plain []) empty).answer.status ≡ 0
unfolding computed
shorter = ap (λ (x : Outcome). x.answer.status) shorter-A

lengths : ((received site_a first empty).answer.private ≡ 3) × ((received site_a (plain []) empty).answer.private ≡ 0)
unfolding computed
lengths = (ap (λ (x : Outcome). x.answer.private) plain-A, ap (λ (x : Outcome). x.answer.private) shorter-A)

pub no-one-success : (R : Receiver) → Promised R → OneSuccess R → ⊥
no-one-success R h u =
    let x = h site_a first empty in
    let y = h site_a (plain []) empty in
    let p = u.1 site_a first empty (ap (λ (z : Outcome). z.answer.status) x ∙ accepts) in
    let q = u.1 site_a (plain []) empty (ap (λ (z : Outcome). z.answer.status) y ∙ shorter) in
    let e : ◌≡◌ {A = ℕ} 3 0 = sym lengths.0 ∙ sym (ap (λ (z : Outcome). z.answer.private) x) ∙ ap (λ (a : Received). a.private) (p ∙ sym q)
    ∙ ap (λ (z : Outcome). z.answer.private) y ∙ lengths.1 in
    omega arith

written : get_or (received site_a first empty).out 0 0 ≡ 1
unfolding computed
written = ap (λ (x : Outcome). get_or x.out 0 0) plain-A

pub no-silent : (R : Receiver) → Promised R → WritesNothing R → ⊥
no-silent R h u =
    let e : ◌≡◌ {A = ℕ} 1 0 = sym written ∙ ap (λ (x : Outcome). get_or x.out 0 0) (sym (h site_a first empty)) ∙ ap (λ (l : List ℕ). get_or l 0 0) (u site_a first empty) in
    omega arith

-- the second frame is dropped by the filter
then-drops : (received (received site_a first empty).site strange (received site_a first empty).out).answer.status ≡ 6
unfolding computed
then-drops = rw plain-A (ap (λ (x : Outcome). x.answer.status) strange-A)

pub no-repeater : (R : Receiver) → Promised R → Repeats R → ⊥
no-repeater R h u =
    let e : (received (received site_a first empty).site strange (received site_a first empty).out).answer.status ≡ (received site_a first empty).answer.status =
    rw (← h site_a first empty, ← h (R site_a first empty).site strange (R site_a first empty).out) (u site_a first strange empty) in
    let z : ◌≡◌ {A = ℕ} 6 0 = sym then-drops ∙ e ∙ accepts in
    omega arith

-- ---- by all ways to an acceptance
abbrev Counts : View → Received → Raise → Type 0
Counts v a keep = a.level ≡ 0
Counts v a (raise j d c) = (a.device ≡ suc d) × (c ≡ counter_of v.aux)

abbrev Own : View → Verdict → Type 0
Own v (refuse r) = Unit {0}
Own v (accept a p r) = (a.private ≡ private_len v) × Counts v a r

own-tagged : (v : View) (c : Bool) (q : List ℕ) (l j d : ℕ) → Own v (tagged c q (report v l (suc d)) (raise j d (counter_of v.aux)))
unfolding tagged report
own-tagged v true q l j d = (refl, (refl, refl))
own-tagged v false q l j d = tt

own-admit : (v : View) (c : Bool) (w : Opened) (l j d : ℕ) → Own v (admit c w (report v l (suc d)) (raise j d (counter_of v.aux)))
unfolding admit
own-admit v true w l j d = own-tagged v w.right w.text l j d
own-admit v false w l j d = tt

own-settle : (σ : Store) (v : View) (b : List ℕ) (u : Judged) → Own v (settle σ v b u)
unfolding settle report
own-settle σ v b (Err r) = tt
own-settle σ v b (Ok Plain) = (refl, refl)
own-settle σ v b (Ok (Secure k j d)) = own-admit v _ _ _ j d

own-verdict : (σ : Store) (room : ℕ) (f : List ℕ) → Own (view (inner f)) (verdict σ room f)
unfolding verdict
own-verdict σ room f = by (leb 127 room)
  where
    by : (c : Bool) → Own (view (inner f)) (pick c (settle σ (view (inner f)) (inner f) (judged σ.tables f)) (refuse Room))
    by true = own-settle σ (view (inner f)) (inner f) _
    by false = tt

-- of what is written, where the status is 0
abbrev Fair : List ℕ → View → Outcome → Type 0
Fair s v x =
    x.answer.status ≡ 0
    → (x.answer.private ≡ private_len v)
    × (x.answer.level ≢ 0 → (j d : ℕ) × (x.answer.device ≡ suc d) × (x.site ≡ raised_in (raise j d (counter_of v.aux)) s))

fair-refusal : (s o : List ℕ) (v : View) (r : Refusal) → Fair s v (outcome (refusal r) s o)
unfolding refusal
fair-refusal s o v r e = absurd (omega (arith, listed r))

fair-written : (s o : List ℕ) (v : View) (u : Verdict) → Own v u → Fair s v (write s o u)
unfolding write
fair-written s o v (refuse r) w = fair-refusal s o v r
fair-written s o v (accept a p keep) w = λ e. (w.0, λ n. absurd (n w.1))
fair-written s o v (accept a p (raise j d c)) w =
    λ e. (w.0, λ n. (j, d, w.1.0, ap (λ (k : ℕ). raised_in (raise j d k) s) w.1.1))

fair : (s f o : List ℕ) → Fair s (view (inner f)) (received s f o)
unfolding received received_valid
fair s f o = by (site_rule s)
  where
    by : (c : Bool) → Fair s (view (inner f)) (pick c (write s o (verdict (store_of s) (length o) f)) (outcome (refusal Site) s o))
    by true = fair-written s o (view (inner f)) _ (own-verdict (store_of s) (length o) f)
    by false = fair-refusal s o (view (inner f)) Site

pub true-length : (R : Receiver) → Promised R → TrueLength R
true-length R h s f o = rw (h s f o) (λ e. (fair s f o e).0)

pub true-counter : (R : Receiver) → Promised R → TrueCounter R
true-counter R h s f o = rw (h s f o) (λ e n. (fair s f o e).1 n)
