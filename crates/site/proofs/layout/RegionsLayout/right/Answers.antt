-- `site::Regions::right` meets its contract: the chain asks of each count. Assumes nothing.
use Rattle.std.proofs.Common.{rules, false, true, ◌≡◌}
use Rattle.std.proofs.lemmas.Iterator.{cases_from_all, YieldsList-from_slice}
use Rattle.meaning.specs.Records.{width_of, limit_of, start_by}
use Rattle.meaning.specs.Site.{place_of, site_len}
use Rattle.records.specs.Kinds.{number_of}
use Rattle.records.proofs.Chains.{seven, every-kind}
use Rattle.site.proofs.Laws.{in_range, layout-by, layout-fails}
use Rattle.site.proofs.layout.RegionsLayout.right.Goals as goal

pub returns-then-site-eq-SITE_LEN : goal.returns-then-site-eq-SITE_LEN
unfolding in_range site_len place_of start_by width_of limit_of
returns-then-site-eq-SITE_LEN c =
    layout-by c.args.site.now c.all.result c.if-site-eq-SITE_LEN.true
    (every-kind (in_range c.args.site.now) c.all.result
    (cases_from_all _ _ _ (λ k. in_range c.args.site.now (number_of k) ≡ true) (λ k. in_range c.args.site.now (number_of k) ≡ false) c.all.ensures.ran (YieldsList-from_slice seven cc) (λ x q k. search rules) (λ x q k. search rules)))

pub returns-else-site-eq-SITE_LEN : goal.returns-else-site-eq-SITE_LEN
unfolding site_len place_of start_by width_of limit_of
returns-else-site-eq-SITE_LEN c = layout-fails _ c.if-site-eq-SITE_LEN.false
