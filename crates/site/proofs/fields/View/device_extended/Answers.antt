-- `site::View::device_extended` meets its contract, by what `table` and `number` ensure. Assumes nothing.
use Rattle.std.proofs.Common.{rules, arith, ◌<◌}
use Rattle.meaning.proofs.Sites.{rule-few}
use Rattle.meaning.specs.Records.{devices, device_at}
use Rattle.meaning.specs.Site.{count_of}
use Rattle.site.proofs.fields.View.device_extended.Goals as goal

pub overflow_mul-d : goal.overflow_mul-d
overflow_mul-d c = let few : count_of c.args.self.octets.now devices < 65536 = rule-few _ (search rules) devices (omega arith) in omega arith

pub overflow_add-d : goal.overflow_add-d
overflow_add-d c = let few : count_of c.args.self.octets.now devices < 65536 = rule-few _ (search rules) devices (omega arith) in omega arith

pub number-requires : goal.number-requires
number-requires c = let few : count_of c.args.self.octets.now devices < 65536 = rule-few _ (search rules) devices (omega arith) in omega arith

pub returns : goal.returns
unfolding device_at
returns c = cc
