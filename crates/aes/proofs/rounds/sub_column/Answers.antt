-- `aes::sub_column` meets its contract: four octets, each by what `sub` ensures. Assumes nothing.
use Rattle.std.proofs.Common.{ap, ◌∙◌, List, ℕ, get_or}
use Rattle.meaning.specs.Sbox.{sbox}
use Rattle.aes.proofs.States.{subbed}
use Rattle.aes.proofs.rounds.sub_column.Goals as goal

pub returns : goal.returns
returns c = let a = c.args in
    let at = λ (i : ℕ) (s : List ℕ). sbox (get_or s i 0) in
    subbed a.a a.b a.c a.d _ c.join.ensures
    (c.sub.ensures ∙ ap (at 0) c.to_le_bytes.ensures)
    (c.sub-2.ensures ∙ ap (at 1) c.to_le_bytes-2.ensures)
    (c.sub-3.ensures ∙ ap (at 2) c.to_le_bytes-3.ensures)
    (c.sub-4.ensures ∙ ap (at 3) c.to_le_bytes-4.ensures)
