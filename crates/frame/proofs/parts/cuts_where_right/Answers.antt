-- `cuts_where_right` meets its contract: by the cuts and the header that were read. Assumes nothing.
use mathlib.Core.Path.{ap, ◌∙◌}
use native.Mathlib.Omega.{arith}
use Rattle.meaning.proofs.Lengths.{bounded}
use Rattle.meaning.specs.Frame.{header_of}
use Rattle.frame.proofs.ByCuts.{some-by, none-by}
use Rattle.frame.proofs.parts.cuts_where_right.Goals as goal

pub overflow_add-c : goal.overflow_add-c
overflow_add-c c = omega (arith, bounded _ _ c.cuts-c.ensures)

pub returns-then-right : goal.returns-then-right
returns-then-right c =
    some-by c.args.body.now c.cuts-c.result c.read_header-h.result _ c.cuts-c.ensures (c.read_header-h.ensures ∙ ap header_of c.part_of.ensures)
    (grind arith) c.if-right.true

pub returns-else-right : goal.returns-else-right
returns-else-right c =
    none-by c.args.body.now c.cuts-c.result c.read_header-h.result _ c.cuts-c.ensures (c.read_header-h.ensures ∙ ap header_of c.part_of.ensures)
    (grind arith) c.if-right.false
