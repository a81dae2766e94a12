-- `aes::turn` meets its contract: to turn the octets is to rotate the bits. Assumes nothing.
use Rattle.std.proofs.Common.{ap, ◌∙◌}
use Rattle.meaning.specs.Octets.{octs}
use Rattle.aes.proofs.Words.{rotated, turn-word}
use Rattle.aes.proofs.word.turn.Goals as goal

pub returns : goal.returns
returns c = let x = c.args.x in
    ap (octs 4) (c.rotate_right.ensures ∙ rotated x c.ranges.x.fits) ∙ turn-word x c.ranges.x.fits
