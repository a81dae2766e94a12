-- `site::View::settings` meets its contract: the settings come first. Assumes nothing.
use Rattle.std.proofs.Common.{rules, arith, ◌≡◌, true}
use Rattle.meaning.proofs.Sites.{rule-long}
use Rattle.meaning.specs.Records.{width_of, limit_of, start_by}
use Rattle.meaning.specs.Site.{place_of, site_len, site_rule}
use Rattle.site.proofs.Laws.{settings-are}
use Rattle.site.proofs.fields.View.settings.Goals as goal

pub slice_bounds-result-end : goal.slice_bounds-result-end
unfolding site_len place_of start_by width_of limit_of
slice_bounds-result-end c = let h : site_rule c.args.self.octets.now ≡ true = search rules in omega (arith, rule-long _ h)

pub returns : goal.returns
unfolding place_of start_by
returns c = search (settings-are, rules)
