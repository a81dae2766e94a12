-- A frame that fits: its parts and its tag end in it, and it is short. Assumes nothing.
use borrow.Author.Rules.{rules}
use Rattle.receiver.proofs.Bodies.{fits-body, inner-short}
use Rattle.receiver.proofs.division.Divided.new.Goals as goal

pub invariant_of-result : goal.invariant_of-result
invariant_of-result c = record { cut = search rules; whole = search fits-body; short = search inner-short }
