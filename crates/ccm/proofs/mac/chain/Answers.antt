-- `ccm::chain` meets its contract: the chain over the blocks that are left, from the value so far, is the whole chain. Assumes nothing.
use Rattle.std.proofs.Common.{sym, ap, ◌∙◌, ℕ, List, length, rules}
use Prim.Native.Nat.{min}
use Rattle.std.specs.Slice.Iter.{chunks_rest}
use Rattle.aes.specs.Schedule.{cipher_by}
use Rattle.ccm.specs.Tags.{chain_over}
use Rattle.ccm.proofs.Chains.{chain-none, chain-more}
use Rattle.ccm.proofs.mac.chain.Goals as goal

pub loop-block-preserved : goal.loop-block-preserved
loop-block-preserved c = let at = c.loop-block in
    let E = cipher_by c.args.cipher.now.schedule in
    let left = chunks_rest at.block-iterator in
    let rest = chunks_rest c.next.new.self in
    let block = c.in-Some.block.now in
    let step = c.in-Some.ensures.steps in
    record {
      size = step.0 ∙ at.invariant.size;
      rest =
          ap (λ (y : List ℕ). chain_over E y rest) (c.encrypt-y.ensures ∙ ap E c.add.ensures)
          ∙ sym
          (chain-more E at.y left block rest (search rules) step.1.0 (step.1.1 ∙ ap (λ (n : ℕ). min n (length left)) at.invariant.size) step.1.2)
          ∙ at.invariant.rest;
    }

pub returns : goal.returns
returns c = let at = c.loop-block in
    chain-none (cipher_by c.args.cipher.now.schedule) at.y (chunks_rest at.block-iterator) c.in-None.ensures.steps.1.0 ∙ at.invariant.rest
