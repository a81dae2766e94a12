-- `ccm::crypt` meets its contract: after i turns i blocks of the key stream are added. Assumes nothing.
use Rattle.std.proofs.Common.{◌≡◌}
use Rattle.meaning.specs.Ccm.{stream, xor_by}
use Rattle.aes.specs.Schedule.{cipher_by}
use Rattle.ccm.proofs.stream.crypt.Given as goal

abbrev pub invariant-loop-i : goal.invariant-loop-i
invariant-loop-i l = l.message ≡ xor_by l.initial.message (stream (cipher_by l.cipher.schedule) l.nonce l.i 1)
