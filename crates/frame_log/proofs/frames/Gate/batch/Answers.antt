-- `Gate::batch` meets its contract: each frame's line follows those before. Assumes nothing.
use mathlib.Core.Path.{◌≡◌, refl, ◌∙◌}
use Prim.Native.Nat.{◌+◌, ◌-◌}
use native.Mathlib.Omega.{arith}
use Rattle.frame_log.proofs.Batches.{frame-at, frame-none, going-more, going-end}
use Rattle.frame_log.proofs.Replies.{same-site, same-then}
use Rattle.frame_log.proofs.Endings.{frame-short}
use Rattle.frame_log.proofs.frames.Gate.batch.Goals as goal

pub loop-n-preserved : goal.loop-n-preserved
loop-n-preserved c =
    let f = frame-at _ _ _ c.args.hand.now c.loop-n.taken c.in-Some.ensures.len in
    let e : c.loop-n.taken + 1 + c.in-Some.n - (c.loop-n.taken + 1) ≡ c.in-Some.n = omega arith in
    record {
      same_site = same-then _ _ _ c.loop-n.invariant.same_site c.step.ensures.same_site;
      same_reference = c.step.ensures.same_reference ∙ c.loop-n.invariant.same_reference;
      going = going-more _ _ _ _ _ _ _ _ _ _ _ c.loop-n.invariant.going _ (rw c.room.ensures at f.0) _ _ _ _ _ (rw e refl) c.step.ensures.stepped;
    }

pub returns-clause-batched : goal.returns-clause-batched
returns-clause-batched c = going-end _ _ _ _ _ _ _ _ _ _ _ c.loop-n.invariant.going (rw c.room.ensures at (frame-none _ _ c.args.hand.now c.loop-n.taken c.in_default.ensures.len))

pub returns-clause-short : goal.returns-clause-short
returns-clause-short c = λ e room n.
    let b = going-end _ _ _ _ _ _ _ _ _ _ _ c.loop-n.invariant.going (rw c.room.ensures at (frame-none _ _ c.args.hand.now c.loop-n.taken c.in_default.ensures.len)) in
    frame-short c.args.hand.now (c.type_inv.hand 0).fits (b.done e room n)
