-- `aes::sbox_table` meets its contract: each entry is tested. Assumes nothing.
use Rattle.std.proofs.Common.{refl}
use Rattle.meaning.specs.Field.{xtime, product, product_bits}
use Rattle.meaning.specs.Sbox.{sbox, affine_bits, affine_bit, bit, inverse, square}
use Rattle.aes.proofs.Entries.{rule}
use Rattle.aes.proofs.sbox.sbox_table.Goals as goal

pub returns : goal.returns
unfolding sbox affine_bits affine_bit bit inverse square product product_bits xtime
returns c = rule _ refl tt
