-- `load::fill` meets its contract: the records of the kinds before this one stand, and zeros elsewhere. Assumes nothing.
use Rattle.std.proofs.Common.{rules, ◌∙◌, ap}
use Rattle.meaning.specs.File.{file_body}
use Rattle.meaning.specs.Loading.{with_body}
use Rattle.records.proofs.Chains.{nth-kind}
use Rattle.load.proofs.Loads.{standing-none, standing-more, standing-end}
use Rattle.load.proofs.fill.Goals as goal

pub loop-kind-init : goal.loop-kind-init
loop-kind-init c = standing-none _ _ _ c.requires (c.fill.ensures.after (λ y h. search rules))

pub loop-kind-preserved : goal.loop-kind-preserved
loop-kind-preserved c =
    standing-more _ _ _ _ c.loop-kind.invariant c.loop-kind-test.true
    (c.put_table.ensures ∙ ap (λ k. with_body c.loop-kind.site k (file_body c.args.file.octets.now k)) (nth-kind c.loop-kind.kind-index c.loop-kind-test.true))

pub returns : goal.returns
returns c = standing-end _ _ _ c.loop-kind.invariant c.loop-kind-test.false
