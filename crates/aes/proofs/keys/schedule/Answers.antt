-- `aes::keys::schedule` meets its contract: the key's buffer has grown by n round keys, one more a turn. Assumes nothing.
use Rattle.std.proofs.Common.{refl, arith, rules}
use Rattle.aes.specs.Schedule.{grown}
use Rattle.aes.proofs.Expansion.{round-made, grown-whole}
use Rattle.aes.proofs.keys.schedule.Goals as goal

pub loop-n-init : goal.loop-n-init
unfolding grown
loop-n-init c = refl

pub loop-n-preserved : goal.loop-n-preserved
loop-n-preserved c = search (round-made c.begin-w.result c.loop-n.w)

pub returns : goal.returns
returns c = grown-whole _ _ _ c.loop-n.n c.begin-w.ensures (search rules) (omega arith) c.loop-n.invariant
