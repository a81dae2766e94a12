-- `records::tables_right` meets its contract: the tests of the octets are the rules of the decoded records. Assumes nothing.
use Rattle.std.proofs.Common.{arith}
use Rattle.std.proofs.lemmas.Grind.{common_steps}
use Rattle.records.proofs.Laws.{by-tests}
use Rattle.records.proofs.layouts.Bodies.tables_right.Goals as goal

pub returns-then-handles_right : goal.returns-then-handles_right
returns-then-handles_right c = by-tests _ _ _ _ _ _ _ _ (grind (arith, common_steps))

pub returns-else-handles_right : goal.returns-else-handles_right
returns-else-handles_right c = by-tests _ _ _ _ _ _ _ _ (grind (arith, common_steps))
