-- `receive_all` meets its contract: each turn of the loop receives one frame, and the loop ends where none is left or one is cut. Assumes nothing.
use Rattle.std.proofs.Common.{refl, ◌∙◌}
use Rattle.export.proofs.Turns.{run-none, run-end, run-cut, run-more}
use Rattle.export.proofs.many.receive_all.Goals as goal

pub loop-n-init : goal.loop-n-init
loop-n-init c = record { same_reference = refl; run = run-none _ _ _ }

pub loop-n-preserved : goal.loop-n-preserved
loop-n-preserved c =
    let one = c.in-Some.ensures.cases in
    let parts = c.in-Some-split_at_checked.ensures.cases in
    let told = c.receive_valid-answer.ensures in
    record {
      same_reference = told.same_reference ∙ c.loop-n.invariant.same_reference;
      run =
          run-more _ _ _ _ _ _ _ c.loop-n.invariant.run _ _ _ one.0 c.from.ensures _ _ _ _ _ _ _ parts.0 parts.1 parts.2 told.outcome
          c.is_ok.ensures.value c.from-accepted.ensures;
    }

pub returns-in_default-split_at_checked-clause-octets :
    goal.returns-in_default-split_at_checked-clause-octets
returns-in_default-split_at_checked-clause-octets c =
    run-cut _ _ _ _ _ _ _ c.loop-n.invariant.run _ _ _ c.in-Some.ensures.cases.0 c.from.ensures c.in_default-split_at_checked.ensures.cases

pub returns-in_default-clause-octets : goal.returns-in_default-clause-octets
returns-in_default-clause-octets c = run-end _ _ _ _ _ _ _ c.loop-n.invariant.run c.in_default.ensures.cases
