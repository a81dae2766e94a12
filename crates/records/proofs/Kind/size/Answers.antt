-- `records::Kind::size` meets its contract: an octet times two octets fits. Assumes nothing.
use Rattle.std.proofs.Common.{arith, ◌≤◌}
use native.Mathlib.Nat.{mul-le-mul}
use Rattle.meaning.proofs.Regions.{width-small}
use Rattle.records.proofs.Laws.{kind-low}
use Rattle.records.proofs.Kind.size.Goals as goal

pub overflow_cast-result : goal.overflow_cast-result
overflow_cast-result c = omega (arith, c.width.ensures, width-small _ (kind-low c.args.self))

pub overflow_mul-result : goal.overflow_mul-result
overflow_mul-result c = let a : c.width.result ≤ 255 = omega (arith, c.width.ensures, width-small _ (kind-low c.args.self)) in
    let b : c.args.n ≤ 65535 = omega arith in
    omega (arith, mul-le-mul a b)
