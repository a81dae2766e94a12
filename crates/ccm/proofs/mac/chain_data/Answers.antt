-- `ccm::chain_data` meets its contract: one law for data and one for none. Assumes nothing.
use Rattle.std.proofs.Common.{sym, ◌∙◌, rules}
use Rattle.ccm.proofs.Chains.{data-none, data-led}
use Rattle.ccm.proofs.mac.chain_data.Goals as goal

pub returns-then-is_empty : goal.returns-then-is_empty
returns-then-is_empty c = data-none _ _ _ (sym c.is_empty.ensures ∙ c.if-is_empty.true)

pub returns : goal.returns
returns c = let u = c.args.data.now in
    data-led _ c.args.x u c.min-n.result (search rules) (sym c.is_empty.ensures ∙ c.if-is_empty.false) c.min-n.ensures c.size16.ensures
    c.add.ensures c.add-2.ensures c.encrypt.ensures c.chain.ensures
