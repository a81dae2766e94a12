-- `builder::frames::Draft::put_head` meets its contract: one field after the other. Assumes nothing.
use native.Mathlib.Omega.{arith}
use Rattle.builder.proofs.Sizes.{placed-bound}
use Rattle.octets.proofs.Writing.{room-after}
use Rattle.builder.proofs.Puts.{head-put}
use Rattle.builder.proofs.frames.Draft.put_head.Goals as goal

pub put_source-requires : goal.put_source-requires
put_source-requires c = let a = room-after _ 22 c.octet.ensures c.requires (omega arith) in
    let b = room-after _ 21 c.octet-2.ensures a (omega arith) in
    let d = room-after _ 20 c.octet-3.ensures b (omega arith) in
    room-after _ _ c.put_placed.ensures d (omega (arith, placed-bound c.args.self.now.header.destination))

pub returns : goal.returns
returns c = head-put _ c.first_octet.ensures c.second_octet.ensures c.octet.ensures c.octet-2.ensures c.octet-3.ensures
    c.put_placed.ensures c.put_source.ensures
