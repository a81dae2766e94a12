-- Where the open payload starts is a machine number. Assumes nothing.
use Rattle.receiver.proofs.Bodies.{start-fits}
use Rattle.receiver.proofs.division.Divided.start.Goals as goal

pub overflow_add-result : goal.overflow_add-result
overflow_add-result c = start-fits _ _ c.args.self.now.cut
