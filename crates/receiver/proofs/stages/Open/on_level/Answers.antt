-- 9: the level record found lies in its table. Assumes nothing.
use Rattle.receiver.proofs.Checks.{level_in, found}
use Rattle.receiver.proofs.stages.Open.on_level.Goals as goal

pub on_policy-requires : goal.on_policy-requires
on_policy-requires c =
    let f = found _ _ _ c.ok_or.ensures.ok_part c.in_ok-i.was in
    search (level_in, f) depth 9
