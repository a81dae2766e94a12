-- `Window::skip` meets its contract: what begins later lacks the first octets. Assumes nothing.
use Rattle.frame_log.proofs.Hands.{drop-hand}
use Rattle.frame_log.proofs.window.Window.skip.Goals as goal

pub returns-clause-hand : goal.returns-clause-hand
returns-clause-hand c = let w = c.args.self.now in drop-hand w.buf.now w.at w.have c.args.n w.places.1 c.requires
