-- `Keyed::unseal` meets its contract, by one law. Assumes nothing.
use Rattle.std.proofs.Common.{arith}
use Rattle.ccm.proofs.Levels.{opening}
use Rattle.ccm.proofs.sealing.Keyed.unseal.Goals as goal

pub returns : goal.returns
returns c = let a = c.args in
    opening _ a.self.now.nonce a.self.now.level.0 a.body.now a.opens a.private a.scratch.now _ _ _ _ _ (omega (arith, c.requires.level_value.0)) c.requires.private_in_bounds
    c.copy_in.ensures c.crypt.ensures c.tag-sum.ensures c.tag_len.ensures c.equal.ensures
