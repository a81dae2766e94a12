-- `builder::put::put_source` meets its contract, by the compression. Assumes nothing.
use Rattle.builder.proofs.Puts.{source-short, source-whole}
use Rattle.builder.proofs.put.put_source.Goals as goal

pub returns-then-h-eq1 : goal.returns-then-h-eq1
returns-then-h-eq1 c = search source-short

pub returns-else-h-eq1 : goal.returns-else-h-eq1
returns-else-h-eq1 c = search source-whole
