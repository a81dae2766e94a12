-- `Table::next` meets its contract: one octet more, by the law of the table. Assumes nothing.
use native.Mathlib.Omega.{arith}
use Rattle.fcs.proofs.Laws.{next-octet, masked-lt}
use Rattle.fcs.proofs.entries.Table.next.Goals as goal

pub overflow_cast-result-2 : goal.overflow_cast-result-2
overflow_cast-result-2 c = omega (arith, masked-lt c.args.r c.args.x)

pub bounds-self-r : goal.bounds-self-r
bounds-self-r c = masked-lt c.args.r c.args.x

pub returns : goal.returns
returns c = next-octet c.args.self.now.entries c.args.r c.args.x c.args.self.now.is_table c.ranges.x.fits
