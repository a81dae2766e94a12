-- `frame_log::run` ends: each batch that answers a frame leaves a larger number for the next. The loop's invariant has what is left to be printed.
use Rattle.std.proofs.Common.{◌≡◌, ◌+◌, ◌-◌, ◌^◌, length}
use Rattle.reading.specs.Full.{HoldsEnd}
use Rattle.frame_log.specs.Buffers.{kept}
use Rattle.frame_log.specs.Hand.{held}
use Rattle.frame_log.proofs.Whole.{Along}
use Rattle.frame_log.proofs.Rounds.{left}
use Rattle.frame_log.proofs.run.Given as goal

abbrev pub invariant-loop-text : goal.invariant-loop-text
invariant-loop-text g l = record {
  long : length l.window.buf.now ≡ length l.initial.window.buf.now;
  end : HoldsEnd l.initial.window.buf.now l.initial.window.have (g.R.Read.remaining l.initial.input) → HoldsEnd l.window.buf.now l.window.have (g.R.Read.remaining l.input);
  goes : Along (left 1 (kept l.initial.gate.site) l.initial.gate.out (held l.initial.window)) (left l.number (kept l.gate.site) l.gate.out (held l.window))
      (l.number + length (held l.window)) (1 + length (held l.initial.window))
      (g.R.Read.remaining l.initial.input) (g.R.Read.remaining l.input) (g.W.Write.contents l.initial.output) (g.W.Write.contents l.output);
}

abbrev pub decreases-loop-text : goal.decreases-loop-text
decreases-loop-text g l = 2 ^ 64 - l.number
