-- `main` is safe: each turn counts a record at most once, and there are 10,000 turns. Assumes nothing.
use Rattle.std.proofs.Common.{◌+◌, ◌≤◌}
use Rattle.vectors.proofs.main.Given as goal

abbrev pub invariant-loop : goal.invariant-loop
invariant-loop l = l.held + l.differed ≤ l.counter
