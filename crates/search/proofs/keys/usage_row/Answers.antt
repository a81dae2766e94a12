-- `search::usage_row` meets its contract: the chain gives the first record of the key that fits. Assumes nothing.
use Rattle.std.proofs.Common.{rules}
use Rattle.meaning.specs.Steps.{usage_row}
use Rattle.search.proofs.Laws.{found-first}
use Rattle.search.proofs.keys.usage_row.Goals as goal

pub returns : goal.returns
unfolding usage_row
returns c = found-first _ _ _ _ _ c.find.ensures.ran (λ x b q k. search rules)
