-- `builder::put::put_key_id` meets its contract, by the key mode. Assumes nothing.
use Rattle.builder.proofs.Puts.{key-id-some}
use Rattle.builder.proofs.put.put_key_id.Goals as goal

pub returns-then-q-ne0 : goal.returns-then-q-ne0
returns-then-q-ne0 c = search key-id-some depth 9
