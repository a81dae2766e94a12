-- `aes::join` meets its contract: the sum of the octets, each at its place, has them as its octets. Assumes nothing.
use Rattle.std.proofs.Common.{◌≡◌, ap, ◌∙◌, ◌+◌, ◌*◌, arith}
use Rattle.meaning.specs.Octets.{octs}
use Rattle.aes.proofs.Words.{joined}
use Rattle.aes.proofs.word.join.Goals as goal

pub returns : goal.returns
returns c = let a = c.args in
    let f = c.ranges in
    let e : c.from_le_bytes.result ≡ a.a + 256 * a.b + 65536 * a.c + 16777216 * a.d = omega (arith, c.from_le_bytes.ensures) in
    ap (octs 4) e ∙ joined a.a a.b a.c a.d f.a.fits f.b.fits f.c.fits f.d.fits
