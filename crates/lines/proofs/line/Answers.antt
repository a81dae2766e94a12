-- `line` meets its contract: its six runs of octets, each put where the one before ends. Assumes nothing.
use native.Mathlib.Omega.{arith}
use Rattle.lines.specs.Text.{line_of}
use Rattle.octets.proofs.Writing.{put-two, put-less}
use Rattle.lines.proofs.Numbers.{at-most-20}
use Rattle.lines.proofs.Puts.{by}
use Rattle.lines.proofs.line.Goals as goal

pub put_decimal-requires : goal.put_decimal-requires
put_decimal-requires c = omega (arith, at-most-20 c.args.number c.ranges.number.fits)

pub octet-requires : goal.octet-requires
octet-requires c = omega (arith, at-most-20 c.args.number c.ranges.number.fits, put-less c.put_decimal.ensures)

pub all-requires : goal.all-requires
all-requires c = omega (arith, at-most-20 c.args.number c.ranges.number.fits, put-less c.put_decimal.ensures, put-less c.octet.ensures)

pub octet-requires-2 : goal.octet-requires-2
octet-requires-2 c = omega (arith, at-most-20 c.args.number c.ranges.number.fits, put-less c.put_decimal.ensures, put-less c.octet.ensures, put-less c.all.ensures)

pub put_decimal-requires-2 : goal.put_decimal-requires-2
put_decimal-requires-2 c = omega (arith, at-most-20 c.args.number c.ranges.number.fits, at-most-20 c.args.octets c.ranges.octets.fits, put-less c.put_decimal.ensures, put-less c.octet.ensures, put-less c.all.ensures, put-less c.octet-2.ensures)

pub octet-requires-3 : goal.octet-requires-3
octet-requires-3 c = omega (arith, at-most-20 c.args.number c.ranges.number.fits, at-most-20 c.args.octets c.ranges.octets.fits, put-less c.put_decimal.ensures, put-less c.octet.ensures, put-less c.all.ensures, put-less c.octet-2.ensures, put-less c.put_decimal-2.ensures)

pub returns-clause-put : goal.returns-clause-put
unfolding line_of
returns-clause-put c =
    by
    (put-two c.put_decimal.ensures
    (put-two c.octet.ensures
    (put-two (rw c.name.ensures.text at c.all.ensures) (put-two c.octet-2.ensures (put-two c.put_decimal-2.ensures c.octet-3.ensures)))))
