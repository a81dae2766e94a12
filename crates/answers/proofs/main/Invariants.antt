-- `main` lends `turn` a site within its buffer. Assumes nothing.
use Rattle.std.proofs.Common.{◌≤◌}
use Rattle.answers.proofs.main.Given as goal

abbrev pub invariant-loop : goal.invariant-loop
invariant-loop l = l.len ≤ 4096
