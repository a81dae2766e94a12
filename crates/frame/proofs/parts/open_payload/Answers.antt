-- `open_payload` meets its contract: by the cuts that were found. Assumes nothing.
use mathlib.Core.Path.{◌∙◌}
use native.Mathlib.Omega.{arith}
use Rattle.frame.proofs.ByCuts.{cut-some, cut-none}
use Rattle.frame.proofs.parts.open_payload.Goals as goal

pub overflow_add-c : goal.overflow_add-c
overflow_add-c c = omega (arith, (cut-some _ _ _ c.divided.ensures c.in-Some.is).small)

pub returns-in-Some : goal.returns-in-Some
returns-in-Some c = c.part_of.ensures ∙ (cut-some _ _ _ c.divided.ensures c.in-Some.is).opens

pub returns-in-None : goal.returns-in-None
returns-in-None c = cut-none _ _ c.divided.ensures c.in-None.is
