-- Demand 1, on the meaning: receiving and building give one listed status, and a refusal changes nothing lent. One place writes in each. Assumes nothing.
use Rattle.std.specs.Prelude.{Ok, Err}
use mathlib.Core.Path.{◌≡◌, refl}
use mathlib.Core.Logic.{◌⊎◌, inl, inr, ◌≢◌}
use Prim.Native.Nat.{ℕ, suc, ◌≤◌}
use native.Mathlib.Omega.{arith}
use mathlib.Core.Bool.{Bool, true, false}
use mathlib.Core.List.{List}
use lib.ListN.{length}
use lib.Dec.{leb}
use Rattle.meaning.specs.Octets.{pick}
use Rattle.meaning.specs.Status.{number}
use Rattle.meaning.specs.Ccm.{Opened}
use Rattle.meaning.specs.Frame.{View, view}
use Rattle.meaning.specs.Fcs.{inner}
use Rattle.meaning.specs.Records.{Store}
use Rattle.meaning.specs.Site.{site_rule, store_of}
use Rattle.meaning.specs.Receive.{
  Judged,
  judged,
  refusal,
  report,
  Raise,
  Verdict,
  refuse,
  accept,
  tagged,
  admit,
  settle,
  verdict,
  Outcome,
  outcome,
  write,
  received_valid,
  received,
}
use Rattle.meaning.specs.Build as build
use Rattle.meaning.specs.Build.{Construction, construction, laid, built_valid, built}
use Rattle.meaning.specs.declared.Refusal.{Refusal}
use Rattle.meaning.specs.declared.Refusal.TheVariants.{
  Site,
  Room,
  Length,
  Fcs,
  Malformed,
  Filtered,
  UnsupportedLegacy,
  UnsupportedSecurity,
  UnavailableSecurityLevel,
  ImproperSecurityLevel,
  UnavailableKey,
  ImproperKeyType,
  UnavailableDevice,
  CounterError,
  SecurityError,
  FrameTooLong,
  InvalidParameter,
}
use Rattle.meaning.specs.declared.Passed.TheVariants.{Plain, Secure}
use Rattle.meaning.specs.declared.Request.{Request}

-- the numbers of refusals are 1 to 17
pub listed : (r : Refusal) → (1 ≤ number r) × (number r ≤ 17)
unfolding number
listed r =
    elim r as (λ v. (1 ≤ number v) × (number v ≤ 17)) [
      | Site ↦ omega arith
      | Room ↦ omega arith
      | Length ↦ omega arith
      | Fcs ↦ omega arith
      | Malformed ↦ omega arith
      | Filtered ↦ omega arith
      | UnsupportedLegacy ↦ omega arith
      | UnsupportedSecurity ↦ omega arith
      | UnavailableSecurityLevel ↦ omega arith
      | ImproperSecurityLevel ↦ omega arith
      | UnavailableKey ↦ omega arith
      | ImproperKeyType ↦ omega arith
      | UnavailableDevice ↦ omega arith
      | CounterError ↦ omega arith
      | SecurityError ↦ omega arith
      | FrameTooLong ↦ omega arith
      | InvalidParameter ↦ omega arith
    ]

-- ---- receiving
-- a success, or a refusal that leaves site and output as they were and says zero elsewhere
data Ends (s o : List ℕ) : Outcome → Type 0 where
  well : {x : Outcome} → x.answer.status ≡ 0 → Ends s o x
  refused : (r : Refusal) → Ends s o (outcome (refusal r) s o)

-- a verdict that accepts reports a success
abbrev Sound : Verdict → Type 0
Sound (refuse r) = Unit {0}
Sound (accept a p r) = a.status ≡ 0

sound-tagged : (c : Bool) (q : List ℕ) (v : View) (l d : ℕ) (r : Raise) → Sound (tagged c q (report v l d) r)
unfolding tagged report
sound-tagged true q v l d r = refl
sound-tagged false q v l d r = tt

sound-admit : (c : Bool) (w : Opened) (v : View) (l d : ℕ) (r : Raise) → Sound (admit c w (report v l d) r)
unfolding admit
sound-admit true w v l d r = sound-tagged w.right w.text v l d r
sound-admit false w v l d r = tt

sound-settle : (σ : Store) (v : View) (b : List ℕ) (u : Judged) → Sound (settle σ v b u)
unfolding settle report
sound-settle σ v b (Err r) = tt
sound-settle σ v b (Ok Plain) = refl
sound-settle σ v b (Ok (Secure k j d)) = sound-admit _ _ v _ (suc d) _

sound-verdict : (σ : Store) (room : ℕ) (f : List ℕ) → Sound (verdict σ room f)
unfolding verdict
sound-verdict σ room f = by (leb 127 room)
  where
    by : (c : Bool) → Sound (pick c (settle σ (view (inner f)) (inner f) (judged σ.tables f)) (refuse Room))
    by true = sound-settle σ (view (inner f)) (inner f) _
    by false = tt

written : (s o : List ℕ) (v : Verdict) → Sound v → Ends s o (write s o v)
unfolding write
written s o (refuse r) h = refused r
written s o (accept a p r) h = well h

receiving-ends : (s f o : List ℕ) → Ends s o (received s f o)
unfolding received received_valid
receiving-ends s f o = by (site_rule s)
  where
    by : (c : Bool) → Ends s o (pick c (write s o (verdict (store_of s) (length o) f)) (outcome (refusal Site) s o))
    by true = written s o _ (sound-verdict (store_of s) (length o) f)
    by false = refused Site

as-refusal : (s o : List ℕ) (x : Outcome) → Ends s o x → x.answer.status ≢ 0 → (r : Refusal) × (x ≡ outcome (refusal r) s o)
as-refusal s o x (well e) n = absurd (n e)
as-refusal s o x (refused r) n = (r, refl)

pub refusal-changes-nothing : (s f o : List ℕ) → (received s f o).answer.status ≢ 0
    → (r : Refusal) × (received s f o ≡ outcome (refusal r) s o)
refusal-changes-nothing s f o n = as-refusal s o (received s f o) (receiving-ends s f o) n

status-of : (s o : List ℕ) (x : Outcome) → Ends s o x → (x.answer.status ≡ 0) ⊎ ((r : Refusal) × (x.answer.status ≡ number r))
unfolding refusal
status-of s o x (well e) = inl e
status-of s o x (refused r) = inr (r, refl)

pub one-listed-status : (s f o : List ℕ)
    → ((received s f o).answer.status ≡ 0) ⊎ ((r : Refusal) × ((received s f o).answer.status ≡ number r))
one-listed-status s f o = status-of s o (received s f o) (receiving-ends s f o)

pub status-at-most-17 : (s f o : List ℕ) → (received s f o).answer.status ≤ 17
status-at-most-17 s f o =
    elim (one-listed-status s f o) [ inl e ↦ omega arith | inr w ↦ omega (arith, w.1, listed w.0) ]

-- ---- building
data Finishes (s out : List ℕ) : Construction → Type 0 where
  done : {x : Construction} → x.answer.status ≡ 0 → Finishes s out x
  declined : (r : Refusal) → Finishes s out (construction (record { status = number r; len = 0 }) s out)

placed : (s out : List ℕ) (m : build.Made) → Finishes s out (laid s out m)
unfolding laid
placed s out (build.refuse r) = declined r
placed s out (build.frame f up) = done refl

building-finishes : (s : List ℕ) (q : Request) (o p out : List ℕ) → Finishes s out (built s q o p out)
unfolding built built_valid
building-finishes s q o p out = by (site_rule s)
  where
    by : (c : Bool) → Finishes s out (pick c (laid s out (build.made (store_of s) q o p (length out))) (laid s out (build.refuse Site)))
    by true = placed s out _
    by false = placed s out (build.refuse Site)

as-declined : (s out : List ℕ) (x : Construction) → Finishes s out x → x.answer.status ≢ 0
    → (r : Refusal) × (x ≡ construction (record { status = number r; len = 0 }) s out)
as-declined s out x (done e) n = absurd (n e)
as-declined s out x (declined r) n = (r, refl)

pub refused-building-changes-nothing : (s : List ℕ) (q : Request) (o p out : List ℕ) → (built s q o p out).answer.status ≢ 0
    → (r : Refusal) × (built s q o p out ≡ construction (record { status = number r; len = 0 }) s out)
refused-building-changes-nothing s q o p out n = as-declined s out (built s q o p out) (building-finishes s q o p out) n
