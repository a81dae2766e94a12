-- `receive_all` meets its contract: each turn of the loop receives one frame, and `Run` says what is left to receive. The measure is the octets left. Assumes nothing.
use Rattle.std.proofs.Common.{◌≡◌, length}
use Rattle.export.proofs.Turns.{Run}
use Rattle.export.proofs.many.receive_all.Given as goal

abbrev pub invariant-loop-n : goal.invariant-loop-n
invariant-loop-n l =
    record {
      same_reference : l.site.octets.ghost_name ≡ l.initial.site.octets.ghost_name;
      run : Run l.initial.site.octets.now l.initial.out l.frames l.accepted l.site.octets.now l.out l.rest;
    }

abbrev pub decreases-loop-n : goal.decreases-loop-n
decreases-loop-n l = length l.rest
