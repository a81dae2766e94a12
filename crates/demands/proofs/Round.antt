-- Demand 2's round trip: a frame that was built comes back, for every level, key mode, address form and length at once. Its parts are read back as
-- they were laid, and unsealing opens what was sealed. Assumes nothing.
use mathlib.Core.Path.{◌≡◌, ap, ◌∙◌}
use Prim.Native.Nat.{ℕ, ◌+◌, ◌*◌, ◌^◌, ◌<◌}
use native.Mathlib.Omega.{arith}
use mathlib.Core.List.{List}
use lib.ListN.{length, drop}
use Rattle.meaning.specs.Octets.{beside}
use Rattle.meaning.specs.Records.{settings, width_of, own_at, own_counter}
use Rattle.meaning.specs.Site.{count_of, place_of, body, settings_of, tables_of, store_of}
use Rattle.meaning.specs.Receive.{Judged, judged, raised_in, outcome, write, received_valid, received}
use Rattle.meaning.specs.Build.{header_by, aux_octets}
use Rattle.meaning.specs.declared.Request.{Request}
use Rattle.meaning.proofs.Numbers.{le_at-lt}
use Rattle.demands.specs.Round.{Octets, Sent, frame_sent, admission, Well-formed, Taken, raise_of, report_of, Comes-back}
use Rattle.demands.proofs.Octets.{take-octets, drop-octets}
use Rattle.demands.proofs.Asked.{Asked, asked}
use Rattle.demands.proofs.Parts.{body_sent}
use Rattle.demands.proofs.Made.{Making, sent}
use Rattle.demands.proofs.Frames.{length-with, size-least, size-most, judged-is}
use Rattle.demands.proofs.Places.{opens-is}
use Rattle.demands.proofs.Verdict.{verdict-is}

-- ---- octets
body-octets : (s : List ℕ) (k : ℕ) → Octets s → Octets (body s k)
unfolding body
body-octets s k h = take-octets (width_of k * count_of s k) (drop (place_of k) s) (drop-octets (place_of k) s h)

pub settings-octets : (s : List ℕ) → Octets s → Octets (store_of s).tables.settings
unfolding store_of tables_of settings_of
settings-octets s h = take-octets own_at (body s settings) (body-octets s settings h)

own-small : (s : List ℕ) → Octets s → (store_of s).own < 256 ^ 4
unfolding store_of own_counter Octets
own-small s h = le_at-lt (body s settings) (body-octets s settings h) 4 own_at

-- ---- the theorems
module _ (s : List ℕ) (q : Request) (o p out : List ℕ) (z : Sent s q o p out) where
  m : Making (store_of s) q o p (frame_sent s q o p out)
  m = sent s q o p out z.success

  ot : Octets (store_of s).tables.settings
  ot = settings-octets s z.octets

  right : Asked (store_of s).tables.settings q o p
  right = asked (store_of s).tables.settings q o p m.right

  long : length (frame_sent s q o p out) ≡ length (body_sent (store_of s) q o p) + 2
  long = ap length m.is ∙ length-with (body_sent (store_of s) q o p)

  pub well-formed : Well-formed s q o p out
  unfolding store_of tables_of
  well-formed =
      record {
        least = omega (arith, long, size-least (store_of s) q o p z.ranged ot right m.fits);
        most = omega (arith, long, size-most (store_of s) q o p z.ranged ot right m.fits);
        decided = λ t. ap (judged t) m.is ∙ judged-is (store_of s) q o p z.ranged ot right m.fits t;
      }

  module _ (r out' : List ℕ) (g : Judged) (t : Taken s q o r out' g) where
    admitted-is : admission (store_of r).tables (header_by (store_of s).tables.settings q) (aux_octets q (store_of s).own) o ≡ g
    unfolding store_of tables_of
    admitted-is = t.admitted

    whole : received r (frame_sent s q o p out) out'
        ≡ outcome (report_of (store_of s) q o p g) (raised_in (raise_of (store_of s).own g) r) (beside p out')
    unfolding received received_valid write
    whole =
        rw (
          t.site,
          m.is,
          verdict-is (store_of s) q o p (frame_sent s q o p out) z.ranged ot (own-small s z.octets) m (store_of r) (length out') g
              t.room admitted-is t.agreed,
        )

    pub comes-back : Comes-back s q o p out r out' g
    unfolding report_of
    comes-back =
        record { whole = whole; opens = rw m.is (opens-is (store_of s) q o p z.ranged ot right m.fits) }
