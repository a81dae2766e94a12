-- `records::body` meets its contract, by the two numbers that it reads. Assumes nothing.
use Rattle.std.proofs.Common.{arith}
use Rattle.records.specs.Kinds.{number_of}
use Rattle.records.proofs.Laws.{kind-low, part-is, size-by}
use Rattle.records.proofs.layouts.body.Goals as goal

pub overflow_add-end : goal.overflow_add-end
overflow_add-end g c = omega (arith, c.place-start.ensures, size-by _ _ _ _ c.size.ensures c.count.ensures, g.met.L.Layout.inside c.args.octets.now (number_of c.args.kind) c.requires (kind-low c.args.kind))

pub slice_bounds-result-end : goal.slice_bounds-result-end
slice_bounds-result-end g c = omega (arith, c.place-start.ensures, size-by _ _ _ _ c.size.ensures c.count.ensures, g.met.L.Layout.inside c.args.octets.now (number_of c.args.kind) c.requires (kind-low c.args.kind))

pub returns : goal.returns
returns g c = part-is _ g.L.Layout.count g.L.Layout.place _ _ _ c.place-start.ensures (size-by _ _ _ _ c.size.ensures c.count.ensures)
