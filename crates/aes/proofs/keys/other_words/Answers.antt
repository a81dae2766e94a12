-- `aes::keys::other_words` meets its contract: an octet more a turn. Assumes nothing.
use Rattle.std.proofs.Common.{◌≡◌, refl, arith}
use Rattle.aes.specs.Schedule.{grown}
use Rattle.aes.proofs.Expansion.{other-made}
use Rattle.aes.proofs.keys.other_words.Goals as goal

pub loop-j-init : goal.loop-j-init
unfolding grown
loop-j-init c = refl

pub loop-j-preserved : goal.loop-j-preserved
loop-j-preserved c = other-made _ c.loop-j.w c.args.n c.loop-j.j c.loop-j-test.true c.loop-j.invariant

pub returns : goal.returns
returns c = let j : c.loop-j.j ≡ 12 = omega arith in
    rw j at c.loop-j.invariant
