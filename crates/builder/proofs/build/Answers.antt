-- `builder::build` meets its contract: the site is checked. Assumes nothing.
use borrow.Author.Rules.{rules}
use Rattle.builder.proofs.Ends.{broken, valid}
use Rattle.builder.proofs.build.Goals as goal

pub returns-then-not-site_holds : goal.returns-then-not-site_holds
returns-then-not-site_holds c = search broken

pub returns : goal.returns
returns c = valid _ _ _ _ _ _ _ _ _ _ _ c.site_holds.ensures c.if-not-site_holds.false c.new-2.ensures.octets (search rules) c.build_valid.ensures.built
