-- `devices::find` meets its contract: what a trial means is in `Steps.antt`. Assumes nothing.
use Rattle.std.proofs.Common.{sym, ◌∙◌}
use Rattle.devices.proofs.Steps.{start-sound, next-sound, next-less}
use Rattle.devices.proofs.find.Goals as goal

pub loop-next-init : goal.loop-next-init
loop-next-init c = rw c.handle_from-next.ensures (start-sound c.args.devices.now c.args.handles.now c.args.s)

pub loop-next-smaller : goal.loop-next-smaller
loop-next-smaller c = rw c.handle_from-next-in-Some.ensures (next-less c.args.devices.now c.args.handles.now c.args.s c.loop-next.invariant c.in-Some.is)

pub loop-next-preserved : goal.loop-next-preserved
loop-next-preserved c =
    rw c.handle_from-next-in-Some.ensures (next-sound c.args.devices.now c.args.handles.now c.args.s c.loop-next.invariant c.in-Some.is
    (rw (← c.device_at.ensures) (sym c.is_peer.ensures ∙ c.if-is_peer.false)))
