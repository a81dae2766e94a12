-- The open payload of a received frame. Assumes nothing: these are definitions.
-- divided       status 5 does not refuse a frame without its FCS
-- cuts_in        the cuts of a frame with its FCS; none where it cannot be divided
-- open_payload   the open payload of a frame with its FCS; empty where the frame cannot be divided
use Rattle.std.specs.Prelude.{ℕ, Bool, ◌&&◌, List, [], length, ltb, Option, Some, None}
use Rattle.meaning.specs.Octets.{pick}
use Rattle.meaning.specs.Frame.{view, cuts_of, head_right, bodied}
use Rattle.meaning.specs.Fcs.{inner}
use Rattle.meaning.specs.declared.Cuts.{Cuts}

unfoldable pub divided : List ℕ → Bool
divided b = head_right (view b).cuts (view b).header (view b).size && bodied (view b)

unfoldable pub cuts_in : List ℕ → Option Cuts
cuts_in f =
    pick (ltb (length f) 5) None (pick (ltb 127 (length f)) None (pick (divided (inner f)) (Some (cuts_of (inner f))) None))

unfoldable pub open_payload : List ℕ → List ℕ
open_payload f =
    pick (ltb (length f) 5) [] (pick (ltb 127 (length f)) [] (pick (divided (inner f)) (view (inner f)).opens []))
