-- `records::each` meets its contract: where the closure answers p, each number before i passes. Assumes nothing.
use Rattle.std.proofs.Common.{ℕ, Bool, ◌≡◌, ◌<◌}
use Rattle.meaning.proofs.Scan.{Kept}
use Rattle.records.proofs.rules.each.Given as goal

abbrev pub invariant-loop-i : goal.invariant-loop-i
invariant-loop-i g l = (p : ℕ → Bool) → ((i : ℕ) (r : Bool) → i < l.n → goal.F-post g l.right i r → r ≡ p i) → Kept p l.n l.i
