-- `ccm::add` meets its contract: after i turns the first i octets of the other are added. Assumes nothing.
use Rattle.std.proofs.Common.{sym, ◌∙◌, arith}
use Rattle.ccm.proofs.Blocks.{add-none, add-more, add-all}
use Rattle.ccm.proofs.mac.add.Goals as goal

pub loop-i-init : goal.loop-i-init
loop-i-init c = sym (add-none c.args.sum.now)

pub loop-i-preserved : goal.loop-i-preserved
loop-i-preserved c = add-more c.args.sum.now c.args.other.now c.loop-i.sum c.loop-i.i c.loop-i.invariant (omega arith) (omega arith)

pub returns : goal.returns
returns c = c.loop-i.invariant ∙ add-all c.args.sum.now c.args.other.now c.loop-i.i (omega arith)
