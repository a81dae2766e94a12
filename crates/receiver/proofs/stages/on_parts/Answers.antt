-- Where the open payload starts is a machine number. Assumes nothing.
use Rattle.receiver.proofs.Bodies.{start-fits}
use Rattle.receiver.proofs.stages.on_parts.Goals as goal

pub overflow_add-c : goal.overflow_add-c
overflow_add-c c = search start-fits
