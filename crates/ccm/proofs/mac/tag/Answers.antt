-- `ccm::tag` meets its contract: the first block, the data and the message, joined by one law. Assumes nothing.
use Rattle.std.proofs.Common.{rules}
use Rattle.ccm.proofs.Chains.{tag-parts}
use Rattle.ccm.proofs.mac.tag.Goals as goal

pub returns : goal.returns
returns c = let a = c.args in
    tag-parts _ a.nonce a.m a.authenticated.now a.message.now (search rules)
    c.first_block-first.ensures c.encrypt-x.ensures c.chain_data-y.ensures c.chain-z.ensures
    c.counter_block.ensures c.encrypt-key.ensures c.add.ensures
