-- `site::View::own_counter` meets its contract, by what `table` and `number` ensure. Assumes nothing.
use Rattle.meaning.specs.Records.{own_counter}
use Rattle.meaning.specs.Site.{store_of}
use Rattle.site.proofs.fields.View.own_counter.Goals as goal

pub returns : goal.returns
unfolding store_of own_counter
returns c = cc
