-- What a buffer holds of an input whose octets are known. Assumes nothing: this is a definition.
-- HoldsEnd   a buffer that is not full holds the end of the input
use Rattle.std.specs.Prelude.{List, ℕ, ◌<◌, length}
use Rattle.std.specs.declared.option.Option.{Option}
use Rattle.std.specs.Io.KnownBytes.{IsAtEnd}

abbrev pub HoldsEnd : List ℕ → ℕ → Option (List ℕ) → Type 0
HoldsEnd b have left = have < length b → IsAtEnd left
