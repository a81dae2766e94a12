-- `Window::refill` meets its contract: what was read stands behind what was at hand. Assumes nothing.
use Rattle.std.proofs.Common.{◌-◌, arith}
use Rattle.frame_log.proofs.Hands.{length-held}
use Rattle.frame_log.proofs.Filling.{read-behind}
use Rattle.frame_log.proofs.window.Window.refill.Goals as goal

pub returns-clause-octets : goal.returns-clause-octets
returns-clause-octets g c =
    let l = c.args.self.now in
    rw (length-held l) (read-behind _ _ (l.have - l.at) _ _ c.copy_within.new.self c.read_full.new.buf (omega (arith, c.copy_within.ensures.len, l.places.1)) c.in_ok-got.ensures.fit c.in_ok-got.ensures.octets)
