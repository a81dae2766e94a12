-- `builder::decision::choose` meets its contract: the row found is a row of the lookups. Assumes nothing.
use Rattle.meaning.proofs.Rows.{key-below}
use Rattle.builder.proofs.decision.choose.Goals as goal

pub key_of-requires : goal.key_of-requires
key_of-requires c = search key-below
