-- `records::each` meets its contract: where the closure answers p, each number before i passes. Assumes nothing.
use Rattle.std.proofs.Common.{ap, not}
use Rattle.meaning.proofs.Scan.{every-fails, every-more}
use Rattle.records.proofs.rules.each.Goals as goal

pub returns-then-not-right : goal.returns-then-not-right
returns-then-not-right g c = λ p h. let l = c.loop-i-test.true in
    every-fails p _ _ _ (h _ _ l c.right.ensures) (c.loop-i.invariant p h) l (ap not c.if-not-right.true)

pub loop-i-preserved : goal.loop-i-preserved
loop-i-preserved g c = λ p h. let l = c.loop-i-test.true in
    every-more p _ _ _ (h _ _ l c.right.ensures) (c.loop-i.invariant p h) l (ap not c.if-not-right.false)
