-- `Table::right` meets its contract: the last two octets as a number are compared with the sum; fewer than two octets are never right. Assumes nothing.
use mathlib.Core.Path.{◌≡◌, sym, ap₂, ◌∙◌}
use Prim.Native.Nat.{ℕ, ◌-◌, ◌<◌, ◌≤◌}
use mathlib.Core.List.{List}
use native.Mathlib.Omega.{arith}
use lib.Dec.{eqb}
use lib.ListN.{length, get_or, take}
use Rattle.meaning.specs.Octets.{le_at}
use Rattle.meaning.specs.Fcs.{sum, inner, fcs_right}
use Rattle.meaning.proofs.Sums.{right-number, right-short}
use Rattle.fcs.proofs.entries.Table.right.Goals as goal

by-number : (f : List ℕ) → ((i : ℕ) → get_or f i 0 < 256) → 2 ≤ length f → (n s : ℕ) → n ≡ le_at 2 f (length f - 2) → s ≡ sum (take (length f - 2) f)
    → eqb n s ≡ fcs_right f
unfolding inner
by-number f small h n s p q = ap₂ eqb p q ∙ right-number f small h

pub returns-then-f-lt2 : goal.returns-then-f-lt2
returns-then-f-lt2 c = sym (right-short _ c.if-f-lt2.true)

pub returns : goal.returns
returns c = by-number _ (λ i. omega (arith, c.type_inv.f i)) c.if-f-lt2.false _ _ c.number.ensures c.sum.ensures
