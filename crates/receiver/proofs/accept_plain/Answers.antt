-- A frame without security: the answer and the output, by `by-plain`. Assumes nothing.
use Rattle.receiver.proofs.Bodies.{private-room}
use Rattle.receiver.proofs.Commits.{by-plain}
use Rattle.receiver.proofs.accept_plain.Goals as goal

pub copy_in-requires : goal.copy_in-requires
copy_in-requires c = search private-room

pub returns : goal.returns
returns c = search by-plain depth 9
