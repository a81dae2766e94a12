-- `site::Site::raise_own` meets its contract: four octets are stored in the settings, and the site keeps its rules. Assumes nothing.
use Rattle.std.proofs.Common.{rules, arith, ◌≡◌, refl, true}
use Rattle.meaning.proofs.Sites.{rule-long}
use Rattle.meaning.proofs.Raises.{own-rule}
use Rattle.meaning.specs.Records.{width_of, limit_of, start_by}
use Rattle.meaning.specs.Site.{place_of, site_len, site_rule}
use Rattle.site.proofs.Laws.{own-stored}
use Rattle.site.proofs.fields.Site.raise_own.Goals as goal

pub put-requires : goal.put-requires
unfolding site_len place_of start_by width_of limit_of
put-requires c = let h : site_rule c.args.self.now.octets.now ≡ true = search rules in omega (arith, rule-long _ h)

pub invariant_of-self : goal.invariant_of-self
unfolding place_of start_by
invariant_of-self c =
    let h : site_rule c.args.self.now.octets.now ≡ true = search rules in
    record { holds = rw (own-stored _ _ _ _ _ refl c.view.ensures c.own_counter-counter.ensures c.put.ensures) (own-rule _ h) }

pub returns-clause-octets : goal.returns-clause-octets
unfolding place_of start_by
returns-clause-octets c = search own-stored
