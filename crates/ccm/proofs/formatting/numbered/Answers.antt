-- `ccm::numbered` meets its contract: flags, nonce and number stand one after the other. Assumes nothing.
use Rattle.std.proofs.Common.{ap, List, ℕ, ◌∷◌, ◌∙◌, rules}
use Rattle.ccm.proofs.Blocks.{block-put}
use Rattle.ccm.proofs.formatting.numbered.Goals as goal

pub returns : goal.returns
returns c = let f = c.args.flag in
    ap (λ (s : List ℕ). f ∷ s)
    (block-put f c.args.nonce _ _ _ (search rules) c.copy_from_slice.ensures.after (c.copy_from_slice-2.ensures.after ∙ c.size16.ensures))
