-- 11, at what the lookup search found. Assumes nothing.
use Rattle.std.proofs.Common.{arith}
use Rattle.search.proofs.Laws.{key-below, key_row-by}
use Rattle.meaning.specs.Receive.{try, on_key}
use Rattle.meaning.specs.Site.{tables_of}
use Rattle.receiver.proofs.Checks.{source-short}
use Rattle.receiver.proofs.stages.Open.on_key.Goals as goal

pub key_row-requires : goal.key_row-requires
key_row-requires c = search source-short

pub returns-in_default : goal.returns-in_default
unfolding try on_key tables_of
returns-in_default c = grind (arith, key_row-by)

pub key_of-requires : goal.key_of-requires
key_of-requires c = search key-below

pub returns : goal.returns
unfolding try on_key tables_of
returns c = grind (arith, key_row-by)
