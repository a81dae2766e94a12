-- Free octets are free: two sites with the same counts and records have one rule and one store, and all answers follow from those. Assumes nothing.
use mathlib.Core.Path.{◌≡◌, refl, ap, ap₂}
use Prim.Native.Nat.{ℕ}
use native.Mathlib.Omega.{arith}
use mathlib.Core.Bool.{Bool, true, false, ◌&&◌}
use mathlib.Core.List.{List}
use lib.ListN.{length}
use Rattle.meaning.specs.Octets.{pick}
use Rattle.meaning.specs.Records.{settings, devices, keys, store_rule}
use Rattle.meaning.specs.Site.{body, settings_of, tables_of, store_of, site_rule}
use Rattle.meaning.specs.Receive.{Verdict, refuse, accept, verdict, Outcome, outcome, refusal, write, received_valid, received}
use Rattle.meaning.specs.Build.{Made, refuse as refuse', frame, Construction, laid, made, built_valid, built}
use Rattle.meaning.specs.declared.Refusal.TheVariants.{Site}
use Rattle.meaning.specs.declared.Request.{Request}
use Rattle.meaning.proofs.Records.{tables-same}
use Rattle.meaning.proofs.Sites.{layout-same}
use Rattle.demands.specs.Loading.{SameRecords, FreeOctets}

abbrev Same : Outcome → Outcome → Type 0
Same x y = (x.answer ≡ y.answer) × (x.out ≡ y.out)

abbrev Same' : Construction → Construction → Type 0
Same' x y = (x.answer ≡ y.answer) × (x.out ≡ y.out)

module _ (s t : List ℕ) where
  same-write : (o : List ℕ) (v : Verdict) → Same (write s o v) (write t o v)
  unfolding write
  same-write o (refuse r) = (refl, refl)
  same-write o (accept a p r) = (refl, refl)

  same-laid : (o : List ℕ) (m : Made) → Same' (laid s o m) (laid t o m)
  unfolding laid
  same-laid o (refuse' r) = (refl, refl)
  same-laid o (frame f up) = (refl, refl)

  module _ (w : SameRecords s t) where
    same-tables : tables_of s ≡ tables_of t
    unfolding tables_of settings_of
    same-tables = tables-same (body s) (body t) (λ k h n. w.bodies k h)

    same-store : store_of s ≡ store_of t
    unfolding store_of
    same-store =
        rw (same-tables, w.bodies settings (omega arith), w.bodies devices (omega arith), w.bodies keys (omega arith))

    same-rule : site_rule s ≡ site_rule t
    unfolding site_rule
    same-rule = ap₂ (λ (x y : Bool). x && y) (layout-same s t w.lengths w.counts) (ap store_rule same-store)

    same-received : (f o : List ℕ) → Same (received s f o) (received t f o)
    unfolding received received_valid
    same-received f o = rw (same-rule, same-store) (by (site_rule t))
      where
        by : (c : Bool)
            → Same (pick c (write s o (verdict (store_of t) (length o) f)) (outcome (refusal Site) s o))
            (pick c (write t o (verdict (store_of t) (length o) f)) (outcome (refusal Site) t o))
        by true = same-write o (verdict (store_of t) (length o) f)
        by false = (refl, refl)

    same-built : (q : Request) (a p o : List ℕ) → Same' (built s q a p o) (built t q a p o)
    unfolding built built_valid
    same-built q a p o = rw (same-rule, same-store) (by (site_rule t))
      where
        by : (c : Bool)
            → Same' (pick c (laid s o (made (store_of t) q a p (length o))) (laid s o (refuse' Site)))
            (pick c (laid t o (made (store_of t) q a p (length o))) (laid t o (refuse' Site)))
        by true = same-laid o (made (store_of t) q a p (length o))
        by false = same-laid o (refuse' Site)

    pub free-octets : FreeOctets s t
    free-octets = record { stores = same-store; rules = same-rule; receiving = same-received; building = same-built }
