-- `builder::put::put_placed` meets its contract, by the mode. Assumes nothing.
use Rattle.builder.proofs.Puts.{placed-some}
use Rattle.builder.proofs.put.put_placed.Goals as goal

pub returns-then-a-ne0 : goal.returns-then-a-ne0
returns-then-a-ne0 c = search placed-some
