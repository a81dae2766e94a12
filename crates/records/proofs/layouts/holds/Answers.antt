-- `records::holds` meets its contract: the layout first, then the records of its bodies. Assumes nothing.
use Rattle.std.proofs.Common.{arith, ◌∙◌, sym}
use Rattle.meaning.specs.Records.{keys}
use Rattle.records.proofs.Laws.{whole-in, refused}
use Rattle.records.specs.Layouts.{body_by}
use Rattle.records.proofs.layouts.holds.Goals as goal

pub returns-then-right : goal.returns-then-right
returns-then-right g c =
    let b = c.all_bodies.ensures in
    whole-in c.args.octets.now g.L.Layout.count g.L.Layout.place _ _ _ _ _ _ _ _ _ _ c.right.ensures c.if-right.true
    (g.met.L.Layout.inside _ keys (sym c.right.ensures ∙ c.if-right.true) (omega arith)) c.tables_right.ensures b.settings b.devices b.levels b.keys b.lookups b.usages b.handles

pub returns-else-right : goal.returns-else-right
returns-else-right g c = refused _ _ (body_by g.L.Layout.place g.L.Layout.count c.args.octets.now) c.right.ensures c.if-right.false
