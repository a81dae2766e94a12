-- `frame_log::print_log` prints what is to be printed of what is read first and of what is left. Assumes nothing.
use Rattle.std.proofs.Common.{arith, ap, refl, length}
use Rattle.std.proofs.lemmas.Result.{on_ok_weaker}
use Rattle.frame_log.proofs.Whole.{prints-read}
use Rattle.frame_log.proofs.print_log.Goals as goal

pub returns : goal.returns
returns g c =
    let m = c.in_ok-have.ensures in
    let w = c.new.ensures in
    on_ok_weaker c.start.result (prints-read _ _ _ _ _ _ _ _ _ (rw (← w.hand) at m.octets) (λ y. refl) (omega arith))
    (c.start.ensures (λ q. m.end (omega (arith, q, ap length w.octets, w.places.1))) (omega (arith, ap length w.octets, c.read_full.auto.buf)))
