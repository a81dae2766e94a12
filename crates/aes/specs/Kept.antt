-- What an `Sbox` keeps beside its table is one fact: there is at most one proof of it. Assumes nothing.
use Rattle.std.specs.Prelude.{List, ℕ}
use Rattle.std.proofs.Props.{props}
use Rattle.meaning.specs.Sbox.{IsSbox}

pub IsSbox-prop : (t : List ℕ) → IsProp (IsSbox t)
unfolding IsSbox
IsSbox-prop t = Prim.hlevel props
