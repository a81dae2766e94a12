-- `decoded` meets its contract. The loop's invariant: the records passed are the table's, the rest are empty.
use Rattle.devices.proofs.Table.{Decoding}
use Rattle.devices.proofs.decoded.Given as goal

abbrev pub invariant-loop-i : goal.invariant-loop-i
invariant-loop-i l = Decoding l.table l.i-end l.i l.out
