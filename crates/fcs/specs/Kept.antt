-- What a `Table` keeps beside its entries is one fact: there is at most one proof of it. Assumes nothing.
use Rattle.std.specs.Prelude.{List, ℕ}
use Rattle.std.proofs.Props.{props}
use Rattle.meaning.specs.Fcs.{IsTable}

pub IsTable-prop : (t : List ℕ) → IsProp (IsTable t)
unfolding IsTable
IsTable-prop t = Prim.hlevel props
