-- `site::Site::raise_device` meets its contract: four octets are stored in a device record, and the site keeps its rules. Assumes nothing.
use Rattle.std.proofs.Common.{rules, arith, ◌<◌, ◌≡◌, true}
use Rattle.meaning.specs.Records.{devices, width_of, limit_of, start_by}
use Rattle.meaning.specs.Site.{count_of, place_of, site_len, site_rule}
use Rattle.meaning.proofs.Sites.{rule-few, rule-inside}
use Rattle.meaning.proofs.Raises.{raised-rule}
use Rattle.site.proofs.Laws.{place-low, device-stored}
use Rattle.site.proofs.fields.Site.raise_device.Goals as goal

pub overflow_mul-at : goal.overflow_mul-at
overflow_mul-at c = let few : count_of c.args.self.now.octets.now devices < 65536 = rule-few _ (search rules) devices (omega arith) in omega arith

pub overflow_add-at : goal.overflow_add-at
overflow_add-at c = let few : count_of c.args.self.now.octets.now devices < 65536 = rule-few _ (search rules) devices (omega arith) in omega arith

pub overflow_add-at-2 : goal.overflow_add-at-2
unfolding site_len place_of start_by width_of limit_of
overflow_add-at-2 c = let few : count_of c.args.self.now.octets.now devices < 65536 = rule-few _ (search rules) devices (omega arith) in omega (arith, c.place.ensures, place-low devices (omega arith))

pub put-requires : goal.put-requires
unfolding width_of
put-requires c = let h : site_rule c.args.self.now.octets.now ≡ true = search rules in omega (arith, rule-inside _ h devices (omega arith))

pub invariant_of-self : goal.invariant_of-self
invariant_of-self c =
    let h : site_rule c.args.self.now.octets.now ≡ true = search rules in
    record { holds = rw (device-stored _ _ _ _ _ c.place.ensures c.put.ensures) (raised-rule _ h 0 c.args.d c.args.counter c.requires.0) }

pub returns-clause-octets : goal.returns-clause-octets
returns-clause-octets c = search device-stored
