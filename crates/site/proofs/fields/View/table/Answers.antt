-- `site::View::table` meets its contract: a body of a site that keeps its rules stands where the layout says. Assumes nothing.
use Rattle.std.proofs.Common.{rules}
use Rattle.meaning.proofs.Sites.{rule-layout}
use Rattle.site.proofs.fields.View.table.Goals as goal

pub body-requires : goal.body-requires
body-requires c = rule-layout _ (search rules)
