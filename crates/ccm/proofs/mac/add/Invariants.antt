-- `ccm::add` meets its contract: after i turns the first i octets of the other are added. Assumes nothing.
use Rattle.std.proofs.Common.{◌≡◌, take}
use Rattle.meaning.specs.Ccm.{xor_by}
use Rattle.ccm.proofs.mac.add.Given as goal

abbrev pub invariant-loop-i : goal.invariant-loop-i
invariant-loop-i l = l.sum ≡ xor_by l.initial.sum (take l.i l.other)
