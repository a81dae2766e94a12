-- `find_in` meets its contract: the records lent are the table's, and the handles' octets its handles. Assumes nothing.
use Rattle.std.specs.Prelude.{Option}
use mathlib.Core.Path.{◌≡◌, sym, ap, ◌∙◌}
use mathlib.Core.List.{List}
use Prim.Native.Nat.{ℕ, ◌≤◌}
use lib.ListN.{length}
use Rattle.meaning.specs.Records.{devices_in, handles_in}
use Rattle.meaning.specs.Steps.{handle_row}
use Rattle.meaning.specs.declared.Address.{Address}
use Rattle.meaning.specs.declared.Device.{Device}
use Rattle.search.specs.Rows.{handle_row_by}
use Rattle.search.proofs.Laws.{handle_row-by}
use Rattle.devices.specs.Devices.{devices_lent}
use Rattle.devices.proofs.Table.{devices-are}
use Rattle.devices.proofs.find_in.Goals as goal

by-octets : (hs s : List ℕ) (key : ℕ) (p : Address) (u : Option ℕ) → length s ≤ 1088 → u ≡ handle_row_by hs (devices_lent s) key p → u ≡ handle_row (handles_in hs) (devices_in s) key p
by-octets hs s key p u h e =
    e ∙ ap (λ (ds : List Device). handle_row_by hs ds key p) (devices-are s h) ∙ sym (handle_row-by hs (devices_in s) key p)

pub returns : goal.returns
returns c = by-octets _ _ _ _ _ c.requires.0 c.find_lent.ensures
