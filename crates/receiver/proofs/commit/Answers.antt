-- What is written: the text at the output's front, and the device's counter; by the laws of a committed frame. Assumes nothing.
use Rattle.receiver.proofs.Commits.{device-fits, private-short, by-commit}
use Rattle.receiver.proofs.commit.Goals as goal

pub overflow_add-device : goal.overflow_add-device
overflow_add-device c = search device-fits

pub copy_in-requires : goal.copy_in-requires
copy_in-requires c = search private-short depth 7

pub returns : goal.returns
returns c = search by-commit depth 12
