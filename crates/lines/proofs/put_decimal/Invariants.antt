-- `put_decimal` meets its contract: the number's digits are those of what is left and then those stored; the writer waits. Assumes nothing.
use Rattle.std.proofs.Common.{◌≡◌, ◌-◌, ◌≤◌}
use Rattle.lines.proofs.Numbers.{Spelled}
use Rattle.lines.proofs.put_decimal.Given as goal

abbrev pub invariant-loop-k : goal.invariant-loop-k
invariant-loop-k l = record {
  same : l.w ≡ l.initial.w;
  turns : l.k ≤ 19;
  spelled : Spelled l.n l.digits (19 - l.k) l.left;
}
