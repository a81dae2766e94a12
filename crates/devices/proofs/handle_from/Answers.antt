-- `handle_from` meets its contract: the chain gives the first handle of the key from a number on, and its device. Assumes nothing.
use Rattle.std.proofs.Common.{rules, ◌∙◌}
use Rattle.meaning.specs.Records.{handle_at}
use Rattle.devices.specs.Devices.{handle_from, is_handle, trial}
use Rattle.devices.proofs.Steps.{found-from, mapped}
use Rattle.devices.proofs.handle_from.Goals as goal

pub returns : goal.returns
unfolding handle_from handle_at
returns c =
    let hs = c.args.handles.now in
    mapped (trial hs) _ _ _ c.map.ensures.cases (λ x y q. search rules)
    ∙ found-from (is_handle hs c.args.key) (trial hs) _ _ _ _ _ c.find.ensures.ran (λ x b q k. search rules)
