-- `builder::frames::Draft::put_open` meets its contract: three parts, one after the other. Assumes nothing.
use Rattle.builder.proofs.Puts.{open-put}
use Rattle.builder.proofs.frames.Draft.put_open.Goals as goal

pub returns : goal.returns
returns c = search open-put
