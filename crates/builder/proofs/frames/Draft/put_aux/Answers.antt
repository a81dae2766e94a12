-- `builder::frames::Draft::put_aux` meets its contract, by the level. Assumes nothing.
use native.Mathlib.Omega.{arith}
use Rattle.meaning.proofs.Numbers.{length-octs}
use Rattle.octets.proofs.Writing.{room-after}
use Rattle.builder.proofs.Puts.{aux-none, aux-some}
use Rattle.builder.proofs.frames.Draft.put_aux.Goals as goal

pub put_key_id-requires : goal.put_key_id-requires
put_key_id-requires c = room-after 13 _ c.word.ensures (room-after _ _ c.octet.ensures c.requires (omega arith)) (omega (arith, length-octs 4 c.args.counter))

pub returns-then-self-ne0 : goal.returns-then-self-ne0
returns-then-self-ne0 c = search aux-some depth 9

pub returns-else-self-ne0 : goal.returns-else-self-ne0
returns-else-self-ne0 c = aux-none _ _ _ c.if-self-ne0.false
