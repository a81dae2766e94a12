-- `builder::build_valid` meets its contract: what is decided is what is laid, in front of the output. Assumes nothing.
use mathlib.Core.Path.{refl, sym, ◌∙◌}
use borrow.Author.Rules.{rules}
use Rattle.meaning.specs.Build.{own_raised}
use Rattle.builder.proofs.Ends.{narrow, refused-by, laid-by}
use Rattle.builder.proofs.build_valid.Goals as goal

pub returns-in_default-clause-built : goal.returns-in_default-clause-built
returns-in_default-clause-built c = rw (← c.view-view.ensures) (narrow _ _ _ _ _ c.in_default.ensures.cases)

pub returns-in_err-key-clause-built : goal.returns-in_err-key-clause-built
returns-in_err-key-clause-built c = rw (← c.view-view.ensures) (refused-by _ _ _ _ _ _ _ _ _ c.in-Some.ensures.cases.enough c.in-Some.ensures.cases.same c.decide_at.ensures.decided c.in_err-key.was (search rules))

pub returns-then-is_some-clause-built : goal.returns-then-is_some-clause-built
returns-then-is_some-clause-built c = rw (← c.view-view.ensures) (laid-by _ _ _ _ _ _ _ _ _ _ _ _ c.in-Some.ensures.cases.enough c.in-Some.ensures.cases.same c.decide_at.ensures.decided c.in_ok-key.was c.lay-n.ensures
    (sym c.if-is_some.true ∙ c.is_some.ensures) (rw (← c.view-view.ensures) at c.raise_own.ensures.octets))

pub returns-else-is_some-clause-built : goal.returns-else-is_some-clause-built
unfolding own_raised
returns-else-is_some-clause-built c = rw (← c.view-view.ensures) (laid-by _ _ _ _ _ _ _ _ _ _ _ _ c.in-Some.ensures.cases.enough c.in-Some.ensures.cases.same c.decide_at.ensures.decided c.in_ok-key.was c.lay-n.ensures
    (sym c.if-is_some.false ∙ c.is_some.ensures) refl)
