-- What is promised of the whole input and output, where the octets that a reader has left and those that a writer holds are known.
-- Assumes nothing: this is a definition.
-- Prints   the writer gets what is to be printed of the octets left
use Rattle.std.specs.Prelude.{List, ℕ, ◌+◌, ◌^◌, ◌<◌, length, IfSome}
use Rattle.std.specs.declared.option.Option.{Option}
use Rattle.std.specs.Io.KnownBytes.{Appends}

-- text l of the octets l left, of which there are, with n more, fewer than 2^64
abbrev pub Prints : (List ℕ → List ℕ) → ℕ → Option (List ℕ) → Option (List ℕ) → Option (List ℕ) → Type 0
Prints text n left old new = IfSome left (λ l. n + length l < 2 ^ 64 → Appends old new (text l))
