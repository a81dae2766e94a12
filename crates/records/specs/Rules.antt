-- The rules of records as the code tests them, in octets. Assumes nothing: these are definitions.
-- clashes_at      a device of a body has a clash with one before it
-- distinct_at     no two of the first n devices of a body clash
use Rattle.std.specs.Prelude.{ℕ, Bool, not, List}
use Rattle.meaning.specs.Octets.{some}
use Rattle.meaning.specs.Records.{device_at, clash}

unfoldable pub clashes_at : List ℕ → ℕ → Bool
clashes_at b i = some (λ j. clash (device_at b i) (device_at b j)) i

unfoldable pub distinct_at : List ℕ → ℕ → Bool
distinct_at b n = not (some (clashes_at b) n)
