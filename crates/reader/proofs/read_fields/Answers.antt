-- `read_fields` meets its contract: what the reader read one after the other is what the meaning reads.
use mathlib.Core.Path.{refl}
use native.Mathlib.Omega.{arith}
use Rattle.reader.proofs.Laws.{fields-are}
use Rattle.reader.proofs.read_fields.Goals as goal

pub returns : goal.returns
returns c = fields-are _ (λ i. omega (arith, c.type_inv.head i)) _ _ _ _ _ _ _ _ _ c.widths_of.ensures
    c.read_raw-raw.ensures refl c.address_of.ensures c.origin.ensures c.address_of-2.ensures
