-- `aes::rcon` meets its contract: a test of all ten. Assumes nothing.
use mathlib.Core.List.{[], ◌∷◌}
use lib.ListN.{get_or}
use Rattle.meaning.specs.Field.{xtime}
use Rattle.meaning.specs.Cipher.{power}
use Rattle.meaning.proofs.Computed.{agree}
use Rattle.aes.proofs.keys.rcon.Goals as goal

pub returns : goal.returns
unfolding power xtime
returns c = agree (λ n. get_or (1 ∷ 2 ∷ 4 ∷ 8 ∷ 16 ∷ 32 ∷ 64 ∷ 128 ∷ 27 ∷ 54 ∷ []) n 0) power 10 tt c.args.n c.requires
