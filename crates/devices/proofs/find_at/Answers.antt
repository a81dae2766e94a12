-- `find_at` meets its contract: a site that keeps its rules meets what `find_in` asks, and its bodies are its tables. Assumes nothing.
use Rattle.std.specs.Prelude.{Option, None}
use mathlib.Core.Path.{◌≡◌, ◌∙◌}
use mathlib.Core.Bool.{Bool, true, false}
use mathlib.Core.List.{List}
use Prim.Native.Nat.{ℕ}
use Rattle.meaning.specs.Records.{devices, handles, width_of, limit_of, devices_in, handles_in}
use Rattle.meaning.specs.Site.{body, site_rule, tables_of}
use Rattle.meaning.specs.Steps.{handle_row}
use Rattle.meaning.specs.declared.Address.{Address}
use Rattle.meaning.proofs.Sites.{handles-in, devices-short}
use Rattle.devices.specs.Devices.{found_at}
use Rattle.devices.proofs.find_at.Goals as goal

-- v is the view of the site s
on-site : (s v hs ds : List ℕ) (key : ℕ) (p : Address) (r : Option ℕ) → site_rule v ≡ true → v ≡ s → hs ≡ body v handles → ds ≡ body v devices
    → r ≡ handle_row (handles_in hs) (devices_in ds) key p → r ≡ found_at s key p
unfolding found_at tables_of
on-site s v hs ds key p r rule same a b g = rw (← same) (g ∙ rw (a, b, rule))

off-site : (s : List ℕ) (key : ℕ) (p : Address) (u : Bool) → u ≡ site_rule s → u ≡ false → None ≡ found_at s key p
unfolding found_at
off-site s key p u d e = rw (← d, e)

pub find_in-requires : goal.find_in-requires
unfolding width_of limit_of
find_in-requires c = (search devices-short, search handles-in)

pub returns-then-site_holds : goal.returns-then-site_holds
returns-then-site_holds c = search on-site

pub returns-else-site_holds : goal.returns-else-site_holds
returns-else-site_holds c = search off-site
