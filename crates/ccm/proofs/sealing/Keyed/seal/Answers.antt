-- `Keyed::seal` meets its contract, by one law. Assumes nothing.
use Rattle.ccm.proofs.Levels.{sealing}
use Rattle.ccm.proofs.sealing.Keyed.seal.Goals as goal

pub returns : goal.returns
returns c = let a = c.args in
    sealing _ a.self.now.nonce a.self.now.level.0 a.opens a.frame.now _ _ c.requires.0 c.crypt.ensures c.tag-sum.ensures
