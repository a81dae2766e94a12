-- `load::load` meets its contract: a refusal leaves the site, and else it is filled. Assumes nothing.
use Rattle.std.proofs.Common.{◌∙◌, ap, sym}
use Rattle.meaning.specs.Loading.{site_from}
use Rattle.meaning.specs.Records.{width_of, limit_of, start_by}
use Rattle.meaning.specs.Status.{number}
use Rattle.meaning.specs.Site.{place_of, site_len}
use Rattle.load.proofs.Loads.{loads}
use Rattle.meaning.proofs.Bridges as B
use Rattle.load.proofs.load.Goals as goal

pub returns-then-not-file_holds : goal.returns-then-not-file_holds
unfolding number
returns-then-not-file_holds c = sym (B.load-refused _ _ (sym c.file_holds.ensures ∙ c.if-not-file_holds.true))

pub returns-then-site-ne-SITE_LEN : goal.returns-then-site-ne-SITE_LEN
unfolding number site_len place_of start_by width_of limit_of
returns-then-site-ne-SITE_LEN c = sym (B.load-room _ _ (sym c.file_holds.ensures ∙ c.if-not-file_holds.false) c.if-site-ne-SITE_LEN.true)

pub fill-requires : goal.fill-requires
unfolding site_len place_of start_by width_of limit_of
fill-requires c = c.if-site-ne-SITE_LEN.false

pub returns : goal.returns
unfolding site_len place_of start_by width_of limit_of
returns c = loads _ _ _ (sym c.file_holds.ensures ∙ c.if-not-file_holds.false) c.if-site-ne-SITE_LEN.false (c.fill.ensures ∙ ap site_from c.new.ensures)
