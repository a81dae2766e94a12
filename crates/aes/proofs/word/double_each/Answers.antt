-- `aes::double_each` meets its contract: the masks keep each octet's product an octet. Assumes nothing.
use Prim.Native.Nat.{◌/◌}
use native.Mathlib.Omega.{arith}
use lib.Bits.{and_le_r}
use Rattle.aes.proofs.Words.{double-word}
use Rattle.aes.proofs.word.double_each.Goals as goal

pub overflow_mul-result : goal.overflow_mul-result
overflow_mul-result c = omega (arith, and_le_r c.args.x 0x7f7f7f7f)

pub overflow_mul-result-2 : goal.overflow_mul-result-2
overflow_mul-result-2 c = omega (arith, and_le_r (c.args.x / 128) 0x01010101)

pub returns : goal.returns
returns c = double-word c.args.x
