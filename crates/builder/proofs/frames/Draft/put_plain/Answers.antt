-- `builder::frames::Draft::put_plain` meets its contract: the open part, the private payload, the FCS. Assumes nothing.
use borrow.Author.Rules.{rules}
use native.Mathlib.Omega.{arith}
use Rattle.builder.proofs.Written.{roomy, open-room, private-room, plain-put, laid}
use Rattle.builder.proofs.frames.Draft.put_plain.Goals as goal

pub all-requires : goal.all-requires
all-requires c = open-room _ _ _ _ _ c.args.self.now.ready c.new-w.ensures.at (roomy c.told-out c.new-w.ensures.octets) c.put_open.ensures

pub put_fcs-requires : goal.put_fcs-requires
put_fcs-requires c = private-room _ _ _ _ _ c.args.self.now.ready c.new-w.ensures.at (roomy c.told-out c.new-w.ensures.octets) c.put_open.ensures _ c.all.ensures (omega arith)

pub returns : goal.returns
returns c = laid _ c.new-w.ensures.octets c.new-w.ensures.at (plain-put _ _ _ _ c.requires c.args.self.now.ready c.new-w.ensures.at (roomy c.told-out c.new-w.ensures.octets) c.put_open.ensures c.all.ensures c.put_fcs.ensures)
    (search rules)
