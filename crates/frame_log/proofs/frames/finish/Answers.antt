-- `frame_log::finish` meets its contract: by whether octets are left. Assumes nothing.
use mathlib.Core.Path.{refl, ◌∙◌}
use native.Mathlib.Omega.{arith}
use Rattle.lines.proofs.Puts.{taken, long}
use Rattle.frame_log.proofs.Endings.{ending-none, ending-cut}
use Rattle.frame_log.proofs.frames.finish.Goals as goal

pub returns-then-not-is_empty : goal.returns-then-not-is_empty
returns-then-not-is_empty c =
    let p = c.cut.ensures.put in
    record {
      same_reference = c.cut.ensures.same_reference;
      ended = record { text = rw c.requires.0 at (taken p) ∙ ending-cut c.args.hand.now c.if-not-is_empty.ensures; room = omega (arith, p.next, p.room, long p) };
    }

pub returns-else-not-is_empty : goal.returns-else-not-is_empty
returns-else-not-is_empty c = rw c.requires.0 record { same_reference = refl; ended = record { text = ending-none c.args.hand.now c.if-not-is_empty.ensures; room = omega arith } }
