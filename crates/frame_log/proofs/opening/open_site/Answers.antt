-- `frame_log::open_site` meets its contract, by what `load` ensures of zeros. Assumes nothing.
use Rattle.frame_log.proofs.Openings.{opened-by}
use Rattle.frame_log.proofs.opening.open_site.Goals as goal

pub returns : goal.returns
returns c = rw c.is_ok.ensures.value (opened-by _ _ _ _ c.requires c.load.ensures)
