-- `records::clashes` meets its contract: the chain asks of each device before. Assumes nothing.
use Rattle.std.proofs.Common.{rules, refl, ◌∙◌}
use Rattle.meaning.specs.Records.{device_at, clash}
use Rattle.records.proofs.Chains.{some-any}
use Rattle.records.specs.Rules.{clashes_at}
use Rattle.records.proofs.clashes.clashes.Goals as goal

pub returns : goal.returns
unfolding clashes_at
returns c =
    some-any _ _ _ (λ j. clash c.device_at-device.result (device_at c.args.b.now j)) _ refl c.any.ensures.ran (λ x q k. search rules) (λ x q k. search rules)
    ∙ rw c.device_at-device.ensures refl
