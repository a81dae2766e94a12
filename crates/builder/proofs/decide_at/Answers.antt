-- `builder::decide_at` meets its contract: a key is chosen only where the own counter is not at its end. Assumes nothing.
use mathlib.Core.Path.{sym, ◌∙◌}
use Rattle.builder.proofs.Ends.{decided-by, own_below}
use Rattle.builder.proofs.decide_at.Goals as goal

pub returns-clause-own_below : goal.returns-clause-own_below
returns-clause-own_below c = let d = decided-by _ _ _ _ _ _ _ _ c.settings.ensures c.table.ensures c.own_counter.ensures c.decide.ensures in
    λ key h up. own_below _ _ _ _ key _ c.own_counter.ensures c.own_counter.type_inv (sym d ∙ h) up
