-- `builder::frames::Draft::put_secured` meets its contract: the open part and the private payload, then sealed, then the FCS. Assumes nothing.
use mathlib.Core.Path.{sym, ap}
use borrow.Author.Rules.{rules}
use Prim.Native.Nat.{◌+◌}
use native.Mathlib.Omega.{arith}
use Rattle.meaning.specs.Frame.{tag_len}
use Rattle.builder.proofs.Written.{roomy, open-room, private-room, private-end, sealed-room, secured-put, laid}
use Rattle.builder.proofs.frames.Draft.put_secured.Goals as goal

pub all-requires : goal.all-requires
all-requires c = open-room _ _ _ _ _ c.args.self.now.ready c.new-w.ensures.at (roomy c.told-out c.new-w.ensures.octets) c.put_open.ensures

pub seal-requires-clause-start : goal.seal-requires-clause-start
seal-requires-clause-start c = let e = private-end _ _ _ _ _ c.args.self.now.ready c.new-w.ensures.at (roomy c.told-out c.new-w.ensures.octets) c.put_open.ensures c.all.ensures in
    (e.0, omega (arith, e.1))

pub seal-requires-clause-room : goal.seal-requires-clause-room
seal-requires-clause-room c = private-room _ _ _ _ _ c.args.self.now.ready c.new-w.ensures.at (roomy c.told-out c.new-w.ensures.octets) c.put_open.ensures _ c.all.ensures (omega (arith, ap tag_len c.requires))

pub put_fcs-requires : goal.put_fcs-requires
put_fcs-requires c = let e = private-end _ _ _ _ _ c.args.self.now.ready c.new-w.ensures.at (roomy c.told-out c.new-w.ensures.octets) c.put_open.ensures c.all.ensures in
    let r = private-room _ _ _ _ _ c.args.self.now.ready c.new-w.ensures.at (roomy c.told-out c.new-w.ensures.octets) c.put_open.ensures (tag_len c.args.keyed.now.level.0 + 2) c.all.ensures (omega (arith, ap tag_len c.requires)) in
    sealed-room c.args.keyed.now.cipher.now.schedule c.args.keyed.now.nonce c.args.keyed.now.level.0 c.put_open.new.w.at e.0 r c.seal.ensures

pub returns : goal.returns
returns c = laid _ c.new-w.ensures.octets c.new-w.ensures.at (secured-put _ _ _ _ _ _ _ _ (sym c.requires) c.args.self.now.ready c.new-w.ensures.at (roomy c.told-out c.new-w.ensures.octets) c.put_open.ensures c.all.ensures c.seal.ensures c.put_fcs.ensures)
    (search rules)
