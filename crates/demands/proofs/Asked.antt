-- What the rules of status 17 say of a request that keeps them: the joined tests, taken apart one by one. Assumes nothing.
use mathlib.Core.Path.{◌≡◌, refl}
use Prim.Native.Nat.{ℕ, ◌≤◌}
use native.Mathlib.Omega.{arith}
use mathlib.Core.Bool.{Bool, true, false, ◌&&◌, ◌||◌, not}
use mathlib.Core.List.{List}
use lib.ListN.{length}
use lib.Dec.{eqb, leb}
use borrow.Author.Tests.{eqb-true, eq-eqb, leb-true}
use Rattle.meaning.specs.Frame.{open_m, shape_right, pending_right}
use Rattle.meaning.specs.Build.{header_by, mode_right, fields_right, source_right, payloads_right, request_right}
use Rattle.meaning.specs.declared.Request.{Request}
use Rattle.meaning.proofs.Lists.{and_both}

-- ---- address modes
pub data Mode : ℕ → Type 0 where
  none : Mode 0
  short : Mode 2
  long : Mode 3

mode-is : (m : ℕ) → mode_right m ≡ true → Mode m
unfolding mode_right
mode-is m e = go (eqb m 0) refl (eqb m 2) refl (eqb m 3) refl e
  where
    go : (a : Bool) → eqb m 0 ≡ a → (b : Bool) → eqb m 2 ≡ b → (c : Bool) → eqb m 3 ≡ c → (a || (b || c)) ≡ true → Mode m
    go true ea b eb c ec h = rw (eqb-true m 0 ea) none
    go false ea true eb c ec h = rw (eqb-true m 2 eb) short
    go false ea false eb true ec h = rw (eqb-true m 3 ec) long
    go false ea false eb false ec h = absurd (let z : ◌≡◌ {A = ℕ} 0 1 = cc in omega arith)

pub not-one : {m : ℕ} → Mode m → not (eqb m 1) ≡ true
not-one none = refl
not-one short = refl
not-one long = refl

-- ---- what the rules say
pub record Asked (t : List ℕ) (q : Request) (o p : List ℕ) : Type 0 where
  pub kind : q.kind ≤ 3
  pub version : q.version ≤ 1
  pub level : q.level ≤ 7
  pub keymode : q.keymode ≤ 3
  pub legacy : not (eqb q.version 0 && not (eqb q.level 0)) ≡ true
  pub destination : Mode q.destination.mode
  pub source : Mode q.srcmode
  pub shape : shape_right (header_by t q) 3 ≡ true
  pub opens : open_m q.kind o ≡ length o
  pub pending : pending_right q.kind o ≡ true
  pub silent : q.kind ≡ 2 → length p ≡ 0

or_right : (a b : Bool) → (not a || b) ≡ true → a ≡ true → b ≡ true
or_right true b e h = e
or_right false b e h = absurd (let z : ◌≡◌ {A = ℕ} 0 1 = cc in omega arith)

pub asked : (t : List ℕ) (q : Request) (o p : List ℕ) → request_right t q o p ≡ true → Asked t q o p
unfolding request_right fields_right payloads_right
asked t q o p e =
    let modes : Bool = mode_right q.destination.mode && mode_right q.srcmode in
    let modern : Bool = not (eqb q.version 0 && not (eqb q.level 0)) in
    let silence : Bool = pending_right q.kind o && (not (eqb q.kind 2) || eqb (length p) 0) in
    let shaped : Bool = shape_right (header_by t q) 3 && payloads_right q.kind o p in
    let a = and_both (fields_right q) (source_right t q.srcmode && shaped) e in
    let b = and_both (source_right t q.srcmode) shaped a.1 in
    let c = and_both (shape_right (header_by t q) 3) (payloads_right q.kind o p) b.1 in
    let f = and_both (leb q.kind 3) (leb q.version 1 && (leb q.level 7 && (leb q.keymode 3 && (modern && modes)))) a.0 in
    let g = and_both (leb q.version 1) (leb q.level 7 && (leb q.keymode 3 && (modern && modes))) f.1 in
    let h = and_both (leb q.level 7) (leb q.keymode 3 && (modern && modes)) g.1 in
    let i = and_both (leb q.keymode 3) (modern && modes) h.1 in
    let j = and_both modern modes i.1 in
    let k = and_both (mode_right q.destination.mode) (mode_right q.srcmode) j.1 in
    let l = and_both (eqb (open_m q.kind o) (length o)) silence c.1 in
    let m = and_both (pending_right q.kind o) (not (eqb q.kind 2) || eqb (length p) 0) l.1 in
    record {
      kind = leb-true q.kind 3 f.0;
      version = leb-true q.version 1 g.0;
      level = leb-true q.level 7 h.0;
      keymode = leb-true q.keymode 3 i.0;
      legacy = j.0;
      destination = mode-is q.destination.mode k.0;
      source = mode-is q.srcmode k.1;
      shape = c.0;
      opens = eqb-true (open_m q.kind o) (length o) l.0;
      pending = m.0;
      silent = λ z. eqb-true (length p) 0 (or_right (eqb q.kind 2) (eqb (length p) 0) m.1 (eq-eqb q.kind 2 z));
    }
