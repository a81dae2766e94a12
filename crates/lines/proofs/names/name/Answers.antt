-- `names::name` meets its contract: status 0 is SUCCESS, and a refusal's is its number. Assumes nothing.
use Rattle.std.proofs.Common.{refl, lit<}
use Rattle.lines.specs.Text.{name_of}
use Rattle.lines.proofs.names.name.Goals as goal

pub returns-in-Ok : goal.returns-in-Ok
unfolding name_of
returns-in-Ok c = rw c.in-Ok.is record { text = refl; short = lit< tt }
