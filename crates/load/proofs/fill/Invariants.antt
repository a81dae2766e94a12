-- `load::fill` meets its contract: the records of the kinds before this one stand, and zeros elsewhere. Assumes nothing.
use Rattle.load.proofs.Loads.{Standing}
use Rattle.load.proofs.fill.Given as goal

abbrev pub invariant-loop-kind : goal.invariant-loop-kind
invariant-loop-kind l = Standing l.file.octets.now l.kind-index l.site
