-- Level 0 with override, at what the device search found. Assumes nothing.
use Rattle.std.proofs.Common.{arith}
use Rattle.std.proofs.lemmas.Result.{err_from_is_err_and}
use Rattle.search.proofs.Laws.{device-below-tab}
use Rattle.meaning.specs.Receive.{check, on_exempt}
use Rattle.meaning.specs.Site.{tables_of}
use Rattle.receiver.proofs.Checks.{found, missed, none-tried, one-tried, device-found}
use Rattle.receiver.proofs.stages.Open.on_exempt.Goals as goal

pub returns-in_err-d : goal.returns-in_err-d
unfolding on_exempt tables_of
returns-in_err-d c =
    let p = err_from_is_err_and c.from_residual.result c.from_residual.ensures.1 in
    let q = missed _ _ _ _ c.ok_or.ensures.value c.ok_or.ensures.ok_part c.in_err-d.was in
    rw (p.1, p.2, q.1) (grind (arith, none-tried, q.0))

pub device_at-device-requires : goal.device_at-device-requires
device_at-device-requires c =
    let f = found _ _ _ c.ok_or.ensures.ok_part c.in_ok-d.was in
    search (device-below-tab, f)

pub returns-then-device-ne1 : goal.returns-then-device-ne1
unfolding check on_exempt tables_of
returns-then-device-ne1 c = grind (arith, found, one-tried, device-found)

pub returns : goal.returns
unfolding check on_exempt tables_of
returns c = grind (arith, found, one-tried, device-found)
