-- `builder::put::put_fcs` meets its contract: the sum of what stands before it. Assumes nothing.
use Rattle.builder.proofs.Puts.{fcs-put}
use Rattle.builder.proofs.put.put_fcs.Goals as goal

pub returns : goal.returns
returns c = fcs-put _ _ _ _ c.written.ensures c.sum-sum.ensures c.word.ensures
