-- `wirdhalef_receive` meets its contract: its number and its octets are of one answer. Assumes nothing.
use Rattle.export.proofs.Whole.{received-is}
use Rattle.export.proofs.wirdhalef_receive.Goals as goal

pub returns : goal.returns
returns c = search received-is
