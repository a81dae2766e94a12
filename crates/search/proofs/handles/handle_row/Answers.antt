-- `search::handle_row` meets its contract: the chain gives the first handle of the key whose device is the peer. Assumes nothing.
use Rattle.std.proofs.Common.{rules}
use Rattle.std.proofs.iter.Serving.{serving}
use Rattle.meaning.specs.Records.{handle_at}
use Rattle.search.proofs.Laws.{found-first, handle_row-tab}
use Rattle.search.proofs.handles.handle_row.Goals as goal

pub find-requires-clause-callable : goal.find-requires-clause-callable
unfolding handle_at
find-requires-clause-callable c = grind serving

pub returns : goal.returns
returns c = rw (handle_row-tab _ _ _ _ _ c.requires) (found-first _ _ _ _ _ c.find.ensures.ran (λ x b q k. search rules))
