-- `records::distinct` meets its contract: the chain asks the definition's question of each device. Assumes nothing.
use Rattle.std.proofs.Common.{rules, ap, not, refl}
use Rattle.records.proofs.Chains.{some-any}
use Rattle.records.specs.Rules.{clashes_at, distinct_at}
use Rattle.records.proofs.clashes.distinct.Goals as goal

pub returns : goal.returns
unfolding distinct_at
returns c = ap not (some-any _ _ _ (clashes_at c.args.b.now) c.args.n refl c.any.ensures.ran (λ x q k. search rules) (λ x q k. search rules))
