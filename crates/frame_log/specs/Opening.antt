-- How an input begins, and what its site file is loaded to. Assumes nothing: these are definitions.
use Rattle.std.specs.Prelude.{List, ℕ, ◌-◌, Bool, ltb, length, ◌≡◌, Result, Ok, Err}
use Rattle.meaning.specs.Octets.{pick, le_at}
use Rattle.meaning.specs.File.{file_most}
use Rattle.meaning.specs.Site.{site_rule}
use Rattle.meaning.specs.Loading.{site_of}
use Rattle.frame_log.specs.declared.opening.Fault.{Fault}
use Rattle.frame_log.specs.declared.opening.Fault.TheVariants.{Cut, Long}

-- of an input whose first two octets say n
unfoldable pub opening_sized : ℕ → List ℕ → Result ℕ Fault
opening_sized n i = pick (ltb file_most n) (Err Long) (pick (ltb (length i - 2) n) (Err Cut) (Ok n))

unfoldable pub opening_of : List ℕ → Result ℕ Fault
opening_of i = pick (ltb (length i) 2) (Err Cut) (opening_sized (le_at 2 i 0) i)

-- after file f was loaded: whether it keeps its rules, and the site
pub record Opened (f : List ℕ) (ok : Bool) (s : List ℕ) : Type 0 where
  pub site : s ≡ site_of f
  pub rule : ok ≡ site_rule s
