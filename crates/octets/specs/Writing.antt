-- What a writer's methods ask and promise. Assumes nothing: these are definitions.
-- Room   n octets stand in the buffer from the writer's place on
-- Over   octets are stored from a place on, and the writer's place is after them; all other octets stay
-- Put    the same from the writer's place on
use Rattle.std.specs.Prelude.{◌≡◌, List, ℕ, ◌+◌, ◌≤◌, length}
use Rattle.std.proofs.lemmas.List.Edits.{sets}
use Rattle.octets.specs.declared.writer.Writer.{Writer}

abbrev pub Room : Writer → ℕ → Type 0
Room w n = w.at + n ≤ length w.out.now

pub record Over (w : Writer) (at : ℕ) (xs : List ℕ) (w' : Writer) : Type 0 where
  pub next : w'.at ≡ at + length xs
  pub same : w'.out.now ≡ sets w.out.now at xs
  pub out : w'.out.ghost_name ≡ w.out.ghost_name

abbrev pub Put : Writer → List ℕ → Writer → Type 0
Put w xs w' = Over w w.at xs w'
