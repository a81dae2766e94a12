-- `records::all_bodies` meets its contract: the settings reach past the own counter's place. Assumes nothing.
use Rattle.std.proofs.Common.{arith}
use Rattle.meaning.specs.Records.{settings}
use Rattle.records.proofs.Laws.{settings-cut}
use Rattle.records.proofs.layouts.all_bodies.Goals as goal

pub slice_bounds-result-end : goal.slice_bounds-result-end
slice_bounds-result-end g c =
    let m = g.met.L.Layout in
    settings-cut c.args.octets.now g.L.Layout.count g.L.Layout.place _ (m.inside _ settings c.requires (omega arith)) (m.settled _ c.requires) c.body.ensures
