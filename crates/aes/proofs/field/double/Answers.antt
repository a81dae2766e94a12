-- `aes::double` meets its contract: a test of all 256 octets. Assumes nothing.
use Prim.Native.Nat.{◌*◌, ◌/◌, ◌%◌}
use lib.Bits.{bit_xor}
use Rattle.meaning.specs.Field.{xtime}
use Rattle.meaning.proofs.Computed.{agree}
use Rattle.aes.proofs.field.double.Goals as goal

pub returns : goal.returns
unfolding xtime
returns c = agree (λ a. bit_xor (a * 2 % 256) (a / 128 * 27)) xtime 256 tt c.args.a c.ranges.a.fits
