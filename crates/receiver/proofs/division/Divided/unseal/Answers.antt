-- The parts that are lent fill the body, and the private one fits the scratch. Assumes nothing.
use Rattle.receiver.proofs.Bodies.{parts-add, body-small, private-in}
use Rattle.receiver.proofs.division.Divided.unseal.Goals as goal

pub unseal-requires-clause-level_value : goal.unseal-requires-clause-level_value
unseal-requires-clause-level_value c = (search parts-add depth 7, search body-small)

pub unseal-requires-clause-private_in_bounds : goal.unseal-requires-clause-private_in_bounds
unseal-requires-clause-private_in_bounds c = search private-in
