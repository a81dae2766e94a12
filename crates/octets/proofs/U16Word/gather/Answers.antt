-- `gather` meets its contract: each octet is what the caller's list has, and the library's sum of them is the definition's. Assumes nothing.
use Rattle.std.proofs.Common.{lit<, arith}
use Rattle.meaning.specs.Octets.{le_at}
use Rattle.octets.proofs.U16Word.gather.Goals as goal

pub returns : goal.returns
unfolding le_at
returns g c = λ s at h.
    let h0 = h 0 _ (lit< tt) c.octet.ensures in
    let h1 = h 1 _ (lit< tt) c.octet-2.ensures in
    grind arith
