-- `builder::put::put_address` meets its contract, by the mode. Assumes nothing.
use Rattle.builder.proofs.Puts.{address-short, address-extended, address-none}
use Rattle.builder.proofs.put.put_address.Goals as goal

pub returns-in-2 : goal.returns-in-2
returns-in-2 c = search address-short

pub returns-in-3 : goal.returns-in-3
returns-in-3 c = search address-extended

pub returns-in_default : goal.returns-in_default
returns-in_default c = search address-none
