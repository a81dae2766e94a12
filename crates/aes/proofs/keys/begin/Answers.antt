-- `aes::keys::begin` meets its contract: what is copied to the front is the key. Assumes nothing.
use Rattle.std.proofs.Common.{◌∙◌, arith}
use lib.Seq.{take_at}
use Rattle.aes.proofs.keys.begin.Goals as goal

pub returns : goal.returns
returns c = take_at _ _ 16 (omega arith) ∙ c.copy_from_slice.ensures.after
