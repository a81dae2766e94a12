-- The header that a right request asks for can be written, and receiving finds it well formed: by the address modes that the rules leave. Assumes nothing.
use mathlib.Core.Path.{◌≡◌, refl}
use Prim.Native.Nat.{ℕ, ◌%◌, ◌^◌, ◌≤◌, ◌<◌}
use native.Mathlib.Omega.{arith}
use mathlib.Core.Bool.{Bool, true, false, ◌&&◌, ◌||◌, not}
use mathlib.Core.List.{List}
use lib.ListN.{length}
use lib.Dec.{eqb, leb}
use borrow.Author.Tests.{eqb-true, eqb-false, le-leb, not-true}
use Rattle.meaning.specs.Octets.{pick}
use Rattle.meaning.specs.Frame.{absent, address_len, modes_right, compression_right, shape_right, head_right}
use Rattle.meaning.specs.Records.{pan_id, short_address, extended_address}
use Rattle.meaning.specs.Build.{bit, fitted, own_address, compresses, header_by, head_octets}
use Rattle.meaning.specs.declared.Address.{Address}
use Rattle.meaning.specs.declared.Cuts.{Cuts}
use Rattle.meaning.specs.declared.Header.{Header}
use Rattle.meaning.specs.declared.Request.{Request}
use Rattle.meaning.proofs.Lists.{and_both}
use Rattle.meaning.proofs.Numbers.{le_at-lt}
use Rattle.demands.specs.Round.{Octets, Ranged}
use Rattle.demands.proofs.Addresses.{Carried}
use Rattle.demands.proofs.Heads.{Written, head-bare}
use Rattle.demands.proofs.Asked.{Mode, none, short, long, not-one, Asked}

-- ---- its addresses
carried-absent : Carried absent
unfolding address_len
carried-absent = record { none = λ e. refl; mode = omega arith; pan = omega arith; address = omega arith }

carried-short : (p a : ℕ) → p < 256 ^ 2 → a < 256 ^ 2 → Carried (record { mode = 2; pan = p; address = a })
unfolding address_len
carried-short p a hp ha = record { none = λ e. absurd (omega arith); mode = omega arith; pan = hp; address = ha }

carried-long : (p a : ℕ) → p < 256 ^ 2 → a < 256 ^ 8 → Carried (record { mode = 3; pan = p; address = a })
unfolding address_len
carried-long p a hp ha = record { none = λ e. absurd (omega arith); mode = omega arith; pan = hp; address = ha }

carried-fitted : {m : ℕ} (p a : ℕ) → p < 256 ^ 2 → a < 256 ^ 8 → Mode m → Carried (fitted (record { mode = m; pan = p; address = a }))
unfolding fitted
carried-fitted p a hp ha none = carried-absent
carried-fitted p a hp ha short = carried-short p (a % 65536) hp (omega arith)
carried-fitted p a hp ha long = carried-long p a hp ha

fitted-mode : {m : ℕ} (p a : ℕ) → Mode m → (fitted (record { mode = m; pan = p; address = a })).mode ≡ m
unfolding fitted
fitted-mode p a none = refl
fitted-mode p a short = refl
fitted-mode p a long = refl

carried-own : (t : List ℕ) {m : ℕ} → Octets t → Mode m → Carried (own_address t m)
unfolding own_address Octets pan_id short_address extended_address
carried-own t h none = carried-absent
carried-own t h short = carried-short _ _ (le_at-lt t h 2 0) (le_at-lt t h 2 2)
carried-own t h long = carried-long _ _ (le_at-lt t h 2 0) (le_at-lt t h 8 4)

own-mode : (t : List ℕ) {m : ℕ} → Mode m → (own_address t m).mode ≡ m
unfolding own_address
own-mode t none = refl
own-mode t short = refl
own-mode t long = refl

-- ---- its header
bit-lt : (b : Bool) → bit b < 2
bit-lt true = omega arith
bit-lt false = omega arith

bit-on : (b : Bool) → bit b ≡ 1 → b ≡ true
bit-on true e = refl
bit-on false e = absurd (omega arith)

bit-off : (b : Bool) → bit (not b) ≡ 0 → b ≡ true
bit-off true e = refl
bit-off false e = absurd (omega arith)

-- the shape of an acknowledgment asks for its size, any other shape not
shape-any : (h : Header) (n : ℕ) → (h.kind ≡ 2 → n ≡ 3) → shape_right h 3 ≡ true → shape_right h n ≡ true
unfolding shape_right
shape-any h n e s = go (eqb h.kind 2) refl s
  where
    go : (t : Bool) → eqb h.kind 2 ≡ t
        → pick (eqb h.kind 0) (eqb h.destination.mode 0 && not (eqb h.source.mode 0))
        (pick t (eqb h.destination.mode 0 && (eqb h.source.mode 0 && (eqb h.security 0 && eqb 3 3)))
        (pick (leb h.kind 3) (not (eqb h.destination.mode 0) || not (eqb h.source.mode 0)) true)) ≡ true
        → pick (eqb h.kind 0) (eqb h.destination.mode 0 && not (eqb h.source.mode 0))
        (pick t (eqb h.destination.mode 0 && (eqb h.source.mode 0 && (eqb h.security 0 && eqb n 3)))
        (pick (leb h.kind 3) (not (eqb h.destination.mode 0) || not (eqb h.source.mode 0)) true)) ≡ true
    go true k z = rw (e (eqb-true h.kind 2 k)) z
    go false k z = z

shape-bare : (h : Header) → h.kind ≡ 2 → shape_right h 3 ≡ true → (h.destination.mode ≡ 0) × (h.source.mode ≡ 0) × (h.security ≡ 0)
unfolding shape_right
shape-bare h e s =
    let a = and_both (eqb h.destination.mode 0) (eqb h.source.mode 0 && (eqb h.security 0 && eqb 3 3)) (rw e at s) in
    let b = and_both (eqb h.source.mode 0) (eqb h.security 0 && eqb 3 3) a.1 in
    let c = and_both (eqb h.security 0) (eqb 3 3) b.1 in
    (eqb-true h.destination.mode 0 a.0, eqb-true h.source.mode 0 b.0, eqb-true h.security 0 c.0)

-- compression: both addresses stand and the PANs agree
both : (d s : Address) → compresses d s ≡ true → (not (eqb d.mode 0) ≡ true) × (not (eqb s.mode 0) ≡ true) × (d.pan ≡ s.pan)
unfolding compresses
both d s e =
    let a = and_both (not (eqb d.mode 0)) (not (eqb s.mode 0) && eqb d.pan s.pan) e in
    let b = and_both (not (eqb s.mode 0)) (eqb d.pan s.pan) a.1 in
    (a.0, b.0, eqb-true d.pan s.pan b.1)

module _ (t : List ℕ) (q : Request) (o p : List ℕ) (r : Ranged q) (ot : Octets t) (a : Asked t q o p) where
  -- it can be written
  pub written : Written (header_by t q)
  unfolding header_by
  written = record {
    kind = omega arith;
    security = bit-lt (not (eqb q.level 0));
    pending = bit-lt q.pending;
    request = bit-lt q.request;
    compression = bit-lt (compresses (fitted q.destination) (own_address t q.srcmode));
    version = omega arith;
    destination = carried-fitted q.destination.pan q.destination.address r.pan r.address a.destination;
    source = carried-own t ot a.source;
    shared = λ e.
        let b = both (fitted q.destination) (own_address t q.srcmode) (bit-on _ e) in
        (eqb-false _ _ (not-true _ b.0), b.2);
  }

  by-kind : (n : ℕ) → (q.kind ≡ 2 → n ≡ 3) → (header_by t q).kind ≡ 2 → n ≡ 3
  unfolding header_by
  by-kind n e = e

  modes-right : modes_right (header_by t q) ≡ true
  unfolding modes_right header_by
  modes-right =
      rw (fitted-mode q.destination.pan q.destination.address a.destination, own-mode t a.source, not-one a.destination, not-one a.source)

  compression-right : compression_right (header_by t q) ≡ true
  unfolding compression_right header_by
  compression-right = go (compresses (fitted q.destination) (own_address t q.srcmode)) refl
    where
      go : (c : Bool) → compresses (fitted q.destination) (own_address t q.srcmode) ≡ c
          → (eqb (bit c) 0 || (not (eqb (fitted q.destination).mode 0) && not (eqb (own_address t q.srcmode).mode 0))) ≡ true
      go false e = refl
      go true e = let b = both (fitted q.destination) (own_address t q.srcmode) e in rw (b.0, b.1)

  -- well formed at a size n
  pub head-right : (c : Cuts) (n : ℕ) → c.head ≤ n → (q.kind ≡ 2 → n ≡ 3) → head_right c (header_by t q) n ≡ true
  unfolding head_right
  head-right c n l e = rw (le-leb c.head n l, modes-right, compression-right) (shape-any (header_by t q) n (by-kind n e) a.shape)

  -- an acknowledgment has no level, and its header 3 octets
  pub bare-level : q.kind ≡ 2 → q.level ≡ 0
  unfolding header_by
  bare-level e = eqb-true q.level 0 (bit-off (eqb q.level 0) (shape-bare (header_by t q) e a.shape).2)

  pub bare-head : q.kind ≡ 2 → length (head_octets (header_by t q)) ≡ 3
  unfolding header_by
  bare-head e =
      let b = shape-bare (header_by t q) e a.shape in
      head-bare (header_by t q) written b.0 b.1
