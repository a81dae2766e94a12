-- `Gate::batch` meets its contract. The loop's invariant: what was to be printed is the text so far and what is to be printed of the rest.
use Prim.Native.Nat.{◌-◌}
use lib.ListN.{length}
use mathlib.Core.Path.{◌≡◌}
use Rattle.frame_log.specs.Buffers.{kept, SameSite}
use Rattle.frame_log.proofs.Batches.{Going}
use Rattle.frame_log.proofs.frames.Gate.batch.Given as goal

abbrev pub invariant-loop-n : goal.invariant-loop-n
invariant-loop-n l =
    record {
      same_site : SameSite l.initial.self.site l.self.site;
      same_reference : l.text.out.ghost_name ≡ l.initial.text.out.ghost_name;
      going : Going (kept l.initial.self.site) l.initial.self.out l.first l.hand l.initial.text.out.now (kept l.self.site) l.self.out l.text.out.now l.number l.taken l.text.at;
    }

abbrev pub decreases-loop-n : goal.decreases-loop-n
decreases-loop-n l = length l.hand - l.taken
