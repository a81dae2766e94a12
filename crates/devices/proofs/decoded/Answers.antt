-- `decoded` meets its contract. The loop's invariant: the records passed are the table's, the rest are empty.
use Rattle.devices.proofs.Table.{one-more, all-done}
use Rattle.devices.proofs.decoded.Goals as goal

pub loop-i-preserved : goal.loop-i-preserved
loop-i-preserved c = search one-more

pub returns : goal.returns
returns c = search all-done
