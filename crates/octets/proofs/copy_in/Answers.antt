-- `copy_in` meets its contract: after j turns the first j octets are stored. Assumes nothing.
use Rattle.std.proofs.Common.{refl, ap, ◌∙◌, arith}
use Rattle.std.proofs.lemmas.List.Edits.{sets}
use lib.Seq.{take_all}
use Rattle.octets.proofs.Parts.{copied-more}
use Rattle.octets.proofs.copy_in.Goals as goal

pub loop-j-init : goal.loop-j-init
loop-j-init c = refl

pub loop-j-preserved : goal.loop-j-preserved
loop-j-preserved c = rw c.loop-j.invariant (copied-more c.args.dst.now c.args.src.now c.args.at c.loop-j.j (omega arith))

pub returns : goal.returns
returns c = c.loop-j.invariant ∙ ap (sets c.args.dst.now c.args.at) (take_all c.loop-j.j c.args.src.now (omega arith))
