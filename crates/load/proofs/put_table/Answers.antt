-- `load::put_table` meets its contract: a count and a body are stored. Assumes nothing.
use Rattle.std.proofs.Common.{arith}
use Rattle.meaning.proofs.Regions.{header-inside}
use Rattle.records.proofs.Laws.{kind-low, kind-tag}
use Rattle.load.proofs.Loads.{table-fits, table-put}
use Rattle.load.proofs.put_table.Goals as goal

pub put-requires : goal.put-requires
put-requires c = omega (arith, header-inside, kind-tag c.args.kind, kind-low c.args.kind)

pub copy_in-requires : goal.copy_in-requires
copy_in-requires c = search (table-fits, kind-low)

pub returns : goal.returns
returns c = search (table-put, kind-low, kind-tag)
