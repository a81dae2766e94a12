-- 13, at what the handle search found. Assumes nothing.
use Rattle.std.proofs.Common.{arith}
use Rattle.std.proofs.lemmas.Result.{err_from_is_err_and}
use Rattle.search.proofs.Laws.{handle-below-by}
use Rattle.meaning.specs.Receive.{on_device}
use Rattle.meaning.specs.Site.{tables_of}
use Rattle.meaning.proofs.Sites.{handles-in}
use Rattle.receiver.proofs.Checks.{found, missed, none-tried, one-tried, handle-found}
use Rattle.receiver.proofs.stages.Open.on_device.Goals as goal

pub handle_row-found-requires : goal.handle_row-found-requires
handle_row-found-requires c = search handles-in

pub returns-in_err-handle : goal.returns-in_err-handle
unfolding on_device tables_of
returns-in_err-handle c =
    let p = err_from_is_err_and c.from_residual.result c.from_residual.ensures.1 in
    let q = missed _ _ _ _ c.ok_or.ensures.value c.ok_or.ensures.ok_part c.in_err-handle.was in
    rw (p.1, p.2, q.1) (grind (arith, none-tried, q.0))

pub device_of-requires : goal.device_of-requires
device_of-requires c =
    let f = found _ _ _ c.ok_or.ensures.ok_part c.in_ok-handle.was in
    search (handle-below-by, f)

pub returns : goal.returns
unfolding on_device tables_of
returns c = grind (arith, found, one-tried, handle-found)
