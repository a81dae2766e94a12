-- `ccm::crypt` meets its contract: after i turns i blocks of the key stream are added. Assumes nothing.
use Rattle.std.proofs.Common.{ap, ◌∙◌, arith}
use Rattle.aes.specs.Schedule.{cipher_by}
use Rattle.aes.proofs.Laws.{length-by}
use Rattle.ccm.proofs.Streams.{crypt-none, crypt-more, crypt-all}
use Rattle.ccm.proofs.stream.crypt.Goals as goal

pub loop-i-init : goal.loop-i-init
loop-i-init c = crypt-none _ c.args.nonce c.args.message.now

pub loop-i-preserved : goal.loop-i-preserved
loop-i-preserved c = let a = c.args in
    let w = a.cipher.now.schedule in
    crypt-more (cipher_by w) a.nonce (length-by w) a.message.now c.loop-i.message _ _ c.loop-i.i c.min.result
    (omega (arith, c.div_ceil-i-end.ensures)) (omega arith) c.loop-i.invariant
    (c.encrypt-key.ensures ∙ ap (cipher_by w) c.counter_block.ensures) c.add.ensures

pub returns : goal.returns
returns c = let a = c.args in
    let w = a.cipher.now.schedule in
    crypt-all (cipher_by w) a.nonce (length-by w) a.message.now c.loop-i.message c.loop-i.i (omega (arith, c.div_ceil-i-end.ensures)) c.loop-i.invariant
