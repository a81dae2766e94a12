-- `read_full` meets its contract: each read stands behind those before. Assumes nothing.
use Rattle.std.proofs.Common.{◌≤◌, arith, le_refl, length}
use borrow.Rule.Slice.PartMut.{mid_len, same_len_mid}
use Rattle.reading.proofs.Filling.{read-more}
use Rattle.reading.proofs.read_full.Goals as goal

pub loop-done-preserved : goal.loop-done-preserved
loop-done-preserved g c =
    let l = c.loop-done in
    let n : c.in_ok-n.n ≤ length c.read.new.buf = c.in_ok-n.ensures.bound.0 in
    record {
      fit = omega (arith, same_len_mid l.done _ l.buf c.read.new.buf c.read.auto.buf, c.read.auto.buf, mid_len l.done (length l.buf) l.buf (le_refl (length l.buf)));
      octets = read-more _ _ _ _ _ _ l.buf c.read.new.buf l.invariant.fit n l.invariant.octets c.in_ok-n.ensures.bytes.0;
    }
