-- `search::implicit_row` meets its contract: the octets lent are the peer's. Assumes nothing.
use mathlib.Core.Path.{ap, sym, ◌∙◌}
use native.Mathlib.Omega.{arith}
use lib.Seq.{length-take-le}
use Rattle.meaning.specs.Steps.{lookup_row}
use Rattle.meaning.proofs.Tests.{off-eq}
use Rattle.search.specs.Rows.{implicit_row}
use Rattle.search.proofs.Laws.{lent}
use Rattle.search.proofs.keys.implicit_row.Goals as goal

pub overflow_add-n : goal.overflow_add-n
overflow_add-n c = omega (arith, (lent _ _ _ c.peer_octets-octets.ensures c.address_len-n.ensures).few)

pub slice_bounds-octets-end : goal.slice_bounds-octets-end
slice_bounds-octets-end c = omega (arith, (lent _ _ _ c.peer_octets-octets.ensures c.address_len-n.ensures).room)

pub slice_bounds-lookup_row-end : goal.slice_bounds-lookup_row-end
slice_bounds-lookup_row-end c = sym (length-take-le _ _ (omega (arith, (lent _ _ _ c.peer_octets-octets.ensures c.address_len-n.ensures).room)))

pub returns : goal.returns
unfolding implicit_row
returns c = off-eq _ _ _ _ _ c.if-mode-eq0.false (c.lookup_row.ensures ∙ ap (lookup_row _ 0 11 _) (lent _ _ _ c.peer_octets-octets.ensures c.address_len-n.ensures).same)
