-- `builder::decision::key_row` meets its contract: the search by the key source compared. Assumes nothing.
use Rattle.search.proofs.Laws.{key_row-by, key_source-length}
use Rattle.builder.proofs.decision.key_row.Goals as goal

pub key_row-requires : goal.key_row-requires
key_row-requires c = rw c.source_compared.ensures (key_source-length _ _ _)

pub returns : goal.returns
returns c = rw (key_row-by, ← c.source_compared.ensures, ← c.fitted.ensures, ← c.peer_of-peer.ensures) c.key_row.ensures
