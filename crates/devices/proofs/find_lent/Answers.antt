-- `devices::find_lent` meets its contract: the part that is lent holds the table's own records. Assumes nothing.
use Rattle.devices.specs.Devices.{devices_lent}
use Rattle.devices.proofs.find_lent.Goals as goal

pub returns : goal.returns
unfolding devices_lent
returns c = rw (← c.decoded.ensures) c.find.ensures
