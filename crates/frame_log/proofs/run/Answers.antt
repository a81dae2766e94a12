-- `frame_log::run` prints what is to be printed of the octets at hand and of those left. Assumes nothing.
use Rattle.std.proofs.Common.{arith, ◌≤◌, ap, ◌∙◌, length}
use Rattle.std.proofs.lemmas.Result.{on_ok_weaker}
use Rattle.frame_log.proofs.Rounds.{round-read, round-wrote, round-ended}
use Rattle.frame_log.proofs.run.Goals as goal

pub loop-text-preserved : goal.loop-text-preserved
loop-text-preserved g c =
    let l = c.loop-text.invariant in
    let m = c.in_ok-fill.ensures in
    let b = c.batch-b.ensures in
    let s = c.skip.ensures in
    record {
      long = ap length s.octets ∙ m.long ∙ l.long;
      end = λ h q. m.end (l.end h) (omega (arith, q, s.have, ap length s.octets));
      goes =
          rw s.hand
          (round-wrote _ _ _ _ _ _ _ _ _ _ _ _ _ _ (rw c.hand.ensures at b.batched) _ _ _ (round-read _ _ _ _ _ _ _ _ _ _ _ _ l.goes m.fed m.octets)
          (rw c.written.ensures at c.in_ok-write_all.ensures.bytes) b.paced);
    }

pub returns-then-b-eq0 : goal.returns-then-b-eq0
returns-then-b-eq0 g c = λ end long.
    let l = c.loop-text.invariant in
    let m = c.in_ok-fill.ensures in
    let b = c.batch-b.ensures in
    let room : 80 ≤ length c.new-lines.result.out.now = omega (arith, ap length c.new-lines.ensures.octets) in
    on_ok_weaker c.write_all-then-b-eq0.result
    (round-ended _ _ _ _ _ _ _ _ _ _ _ _ _ _ (rw c.hand.ensures at b.batched) _ _ _ (round-read _ _ _ _ _ _ _ _ _ _ _ _ l.goes m.fed m.octets)
    (rw c.written.ensures at c.in_ok-write_all.ensures.bytes)
    c.if-b-eq0.true room _ _ (rw c.hand-then-b-eq0.ensures at c.finish.ensures.ended) c.fill.new.self.buf.now c.fill.new.self.have (m.end (l.end end)) m.enough
    (omega (arith, l.long, m.long)) (rw c.hand.ensures at b.short) _ (omega arith) _)
    (rw c.written-then-b-eq0.ensures at c.write_all-then-b-eq0.ensures.bytes)
