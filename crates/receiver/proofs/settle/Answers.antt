-- 14: a counter that is spent or low; 15: by the tag's verdict, the refusal or the committed frame. Assumes nothing.
use Rattle.receiver.proofs.Commits.{last-counter, low-counter, is-wrong, is-right}
use Rattle.receiver.proofs.settle.Goals as goal
use Rattle.receiver.proofs.settle.Goals.{then-counter-via-then-counter, then-counter-via-else-counter+then-counter-device_counter}

pub returns-then-counter-clause-outcome : goal.returns-then-counter-clause-outcome
returns-then-counter-clause-outcome c =
    elim c.then-counter.branch [
      | then-counter-via-then-counter w ↦ search last-counter depth 12
      | then-counter-via-else-counter+then-counter-device_counter w ↦ search low-counter depth 12
    ]

pub returns-then-not-right : goal.returns-then-not-right
returns-then-not-right c = search is-wrong depth 24

pub returns : goal.returns
returns c = search is-right depth 24
