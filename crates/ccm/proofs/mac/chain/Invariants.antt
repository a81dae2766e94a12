-- `ccm::chain` meets its contract: the chain over the blocks that are left, from the value so far, is the whole chain. Assumes nothing.
use Rattle.std.proofs.Common.{◌≡◌}
use Rattle.std.specs.Slice.Iter.{chunks_rest, chunks_size}
use Rattle.aes.specs.Schedule.{cipher_by}
use Rattle.ccm.specs.Tags.{chain_over}
use Rattle.ccm.proofs.mac.chain.Given as goal

abbrev pub invariant-loop-block : goal.invariant-loop-block
invariant-loop-block l = record {
  size : chunks_size l.block-iterator ≡ 16;
  rest : chain_over (cipher_by l.cipher.schedule) l.y (chunks_rest l.block-iterator) ≡ chain_over (cipher_by l.cipher.schedule) l.initial.y l.message;
}
