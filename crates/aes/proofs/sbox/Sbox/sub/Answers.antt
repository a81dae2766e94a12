-- `Sbox::sub` meets its contract: that the table is the S-box, at one octet. Assumes nothing.
use Rattle.meaning.specs.Sbox.{IsSbox}
use Rattle.aes.proofs.sbox.Sbox.sub.Goals as goal

pub returns : goal.returns
unfolding IsSbox
returns c = c.args.self.now.is_sbox c.args.x c.ranges.x.fits
