-- `put_decimal` meets its contract: before the twentieth turn one digit is left, and those stored are put. Assumes nothing.
use Rattle.std.proofs.Common.{◌≡◌, refl, ◌+◌, ◌-◌, ◌≤◌, arith}
use Rattle.lines.proofs.Numbers.{spelled-none, spelled-past, spelled-more, spelled-last}
use Rattle.lines.proofs.put_decimal.Goals as goal

pub loop-k-init : goal.loop-k-init
loop-k-init c = record { same = refl; turns = omega arith; spelled = spelled-none c.args.n _ refl c.ranges.n.fits }

pub loop-k-preserved : goal.loop-k-preserved
loop-k-preserved c =
    let l = c.loop-k in
    let s = l.invariant.spelled in
    let more : 10 ≤ l.left = omega (arith, c.if-left-lt10.false) in
    let next : 19 - (l.k + 1) ≡ 19 - l.k - 1 = omega arith in
    record {
      same = l.invariant.same;
      turns = omega (arith, spelled-past _ _ _ _ s more);
      spelled = rw next (spelled-more _ _ _ _ _ s more c.digit-in-loop-k.ensures);
    }

pub all-requires : goal.all-requires
all-requires c =
    let l = c.loop-k in
    rw (spelled-last _ _ _ _ _ l.invariant.spelled c.if-left-lt10.true c.digit.ensures, l.invariant.same) c.requires

pub returns-then-left-lt10 : goal.returns-then-left-lt10
returns-then-left-lt10 c =
    let l = c.loop-k in
    rw (spelled-last _ _ _ _ _ l.invariant.spelled c.if-left-lt10.true c.digit.ensures, l.invariant.same) at c.all.ensures
