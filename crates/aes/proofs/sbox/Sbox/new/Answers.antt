-- `Sbox::new` makes what its type keeps: each entry of the constants is tested. Assumes nothing.
use Rattle.std.proofs.Common.{refl}
use Rattle.meaning.specs.Field.{xtime, product, product_bits}
use Rattle.meaning.specs.Sbox.{sbox, affine_bits, affine_bit, bit, inverse, square}
use Rattle.aes.proofs.Entries.{rule}
use Rattle.aes.proofs.sbox.Sbox.new.Goals as goal

pub invariant_of-result : goal.invariant_of-result
unfolding sbox affine_bits affine_bit bit inverse square product product_bits xtime
invariant_of-result c = record { is_sbox = rule _ refl tt }
