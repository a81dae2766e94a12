-- `wirdhalef_build` meets its contract: its number tells status and length of one answer. Assumes nothing.
use Rattle.std.proofs.Common.{arith}
use Rattle.export.proofs.Sizes.{len-low}
use Rattle.export.proofs.Whole.{built-is}
use Rattle.export.proofs.wirdhalef_build.Goals as goal

pub overflow_cast-result : goal.overflow_cast-result
overflow_cast-result c = omega (arith, len-low _ _ _ _ _ _ _ _ _ c.build-built.ensures c.unwrap_or.ensures)

pub overflow_mul-result : goal.overflow_mul-result
overflow_mul-result c = omega (arith, len-low _ _ _ _ _ _ _ _ _ c.build-built.ensures c.unwrap_or.ensures)

pub overflow_add-result : goal.overflow_add-result
overflow_add-result c = omega (arith, len-low _ _ _ _ _ _ _ _ _ c.build-built.ensures c.unwrap_or.ensures)

pub returns : goal.returns
returns c = rw c.from.ensures (built-is _ _ _ _ _ _ _ _ _ _ _ c.request_from-q.ensures c.build-built.ensures c.status_of.ensures c.unwrap_or.ensures)
