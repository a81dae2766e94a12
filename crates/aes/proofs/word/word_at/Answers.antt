-- `aes::word_at` meets its contract: a number's octets are those it was read from. Assumes nothing.
use mathlib.Core.Path.{ap, ◌∙◌}
use native.Mathlib.Omega.{arith}
use Rattle.meaning.specs.Octets.{octs}
use Rattle.meaning.proofs.Numbers.{octs-le_at}
use Rattle.aes.proofs.word.word_at.Goals as goal

pub returns : goal.returns
returns c = let a = c.args in
    ap (octs 4) c.whole.ensures ∙ octs-le_at a.s.now (λ i. omega (arith, c.type_inv.s i)) 4 a.at (omega arith)
