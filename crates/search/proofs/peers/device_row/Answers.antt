-- `search::device_row` meets its contract: the chain gives the first record that is the peer's. Assumes nothing.
use Rattle.std.proofs.Common.{rules}
use Rattle.search.proofs.Laws.{found-first, device_row-tab}
use Rattle.search.proofs.peers.device_row.Goals as goal

pub returns : goal.returns
returns c = rw device_row-tab (found-first _ _ _ _ _ c.find.ensures.ran (λ x b q k. search rules))
