-- `devices::find` meets its contract: the next trial is sound, and each turn leaves less to try. Assumes nothing.
use Rattle.devices.proofs.Steps.{Sound, left}
use Rattle.devices.proofs.find.Given as goal

abbrev pub invariant-loop-next : goal.invariant-loop-next
invariant-loop-next l = Sound l.devices l.handles l.s l.next

abbrev pub decreases-loop-next : goal.decreases-loop-next
decreases-loop-next l = left l.devices l.handles l.s l.next
