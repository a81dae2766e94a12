-- `Table::sum` meets its contract: each turn feeds the octet at the loop's place.
-- Assumes nothing.
use Rattle.std.proofs.Common.{refl, sym, ◌∙◌, arith}
use Rattle.meaning.specs.Fcs.{sum}
use Rattle.fcs.proofs.Laws.{rest, none-left}
use Rattle.fcs.proofs.entries.Table.sum.Goals as goal

pub loop-x-init : goal.loop-x-init
unfolding sum
loop-x-init c = refl

pub loop-x-preserved : goal.loop-x-preserved
loop-x-preserved c = let at = c.loop-x in
    sym (rest c.args.s.now at.x-index at.r c.next-r.result (omega arith) c.next-r.ensures) ∙ at.invariant

pub returns : goal.returns
returns c = let at = c.loop-x in
    sym (none-left c.args.s.now at.x-index at.r (omega arith)) ∙ at.invariant
