-- The fields of the header that a request asks for are in range where the request's are. Assumes nothing.
use mathlib.Core.Path.{◌≡◌, refl, sym}
use mathlib.Core.Bool.{Bool, true, false, ◌&&◌, ◌||◌, not}
use mathlib.Core.List.{List}
use Prim.Native.Nat.{ℕ, ◌≤◌}
use native.Mathlib.Omega.{arith}
use lib.Dec.{eqb}
use borrow.Author.Tests.{leb-true}
use Rattle.meaning.specs.Frame.{absent}
use Rattle.meaning.specs.Build.{bit, fitted, own_address, compresses, header_by, mode_right, fields_right}
use Rattle.meaning.specs.declared.Address.{Address}
use Rattle.meaning.specs.declared.Request.{Request}
use Rattle.meaning.proofs.Lists.{and_both}
use Rattle.meaning.proofs.Same.{eqb-true}
use Rattle.meaning.proofs.Scan.{pick-all}
use Rattle.builder.specs.Stored.{Small}

bit-le : (b : Bool) → bit b ≤ 1
bit-le true = omega arith
bit-le false = omega arith

mode-le : (m : ℕ) → mode_right m ≡ true → m ≤ 3
unfolding mode_right
mode-le m h = go (eqb m 0) refl (eqb m 2) refl h
  where
    go : (a : Bool) → eqb m 0 ≡ a → (b : Bool) → eqb m 2 ≡ b → (a || (b || eqb m 3)) ≡ true → m ≤ 3
    go true ea b eb e = omega (arith, eqb-true m 0 ea)
    go false ea true eb e = omega (arith, eqb-true m 2 eb)
    go false ea false eb e = omega (arith, eqb-true m 3 e)

fitted-mode : (a : Address) → (fitted a).mode ≡ a.mode
unfolding fitted
fitted-mode a =
    pick-all (λ (r : Address). r.mode ≡ a.mode) (eqb a.mode 0) absent _ (λ e. sym (eqb-true a.mode 0 e))
    (λ e. pick-all (λ (r : Address). r.mode ≡ a.mode) (eqb a.mode 2) _ a (λ e. sym (eqb-true a.mode 2 e)) (λ e. refl))

own-mode : (t : List ℕ) (m : ℕ) → (own_address t m).mode ≡ m
unfolding own_address
own-mode t m =
    pick-all (λ (r : Address). r.mode ≡ m) (eqb m 0) absent _ (λ e. sym (eqb-true m 0 e))
    (λ e. pick-all (λ (r : Address). r.mode ≡ m) (eqb m 2) _ _ (λ e. sym (eqb-true m 2 e)) (λ e. refl))

-- what the tests of the fields say
pub record Fields (q : Request) : Type 0 where
  pub kind : q.kind ≤ 3
  pub version : q.version ≤ 1
  pub level : q.level ≤ 7
  pub mode : q.keymode ≤ 3
  pub to : q.destination.mode ≤ 3
  pub from : q.srcmode ≤ 3

pub fields-are : (q : Request) → fields_right q ≡ true → Fields q
unfolding fields_right
fields-are q h =
    let a = and_both _ _ h in
    let b = and_both _ _ a.1 in
    let c = and_both _ _ b.1 in
    let d = and_both _ _ c.1 in
    let e = and_both (not (eqb q.version 0 && not (eqb q.level 0))) _ d.1 in
    let f = and_both _ _ e.1 in
    record {
      kind = leb-true _ 3 a.0;
      version = leb-true _ 1 b.0;
      level = leb-true _ 7 c.0;
      mode = leb-true _ 3 d.0;
      to = mode-le _ f.0;
      from = mode-le _ f.1;
    }

pub small-by : (t : List ℕ) (q : Request) → Fields q → Small (header_by t q)
unfolding header_by
small-by t q f =
    record {
      kind = f.kind;
      security = bit-le (not (eqb q.level 0));
      pending = bit-le q.pending;
      request = bit-le q.request;
      compression = bit-le (compresses (fitted q.destination) (own_address t q.srcmode));
      version = f.version;
      to = rw (fitted-mode q.destination) f.to;
      from = rw (own-mode t q.srcmode) f.from;
    }
