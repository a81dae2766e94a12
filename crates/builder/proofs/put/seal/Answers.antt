-- `builder::put::seal` meets its contract: the private payload is sealed where it stands, and the tag follows. Assumes nothing.
use native.Mathlib.Omega.{arith}
use mathlib.Core.Path.{refl, sym}
use lib.Seq.{length-take-le}
use Rattle.meaning.proofs.Lengths.{tag-bound}
use Rattle.builder.proofs.Written.{sealed-put}
use Rattle.builder.proofs.put.seal.Goals as goal

pub slice_bounds-tag-end : goal.slice_bounds-tag-end
slice_bounds-tag-end c = omega (arith, c.tag_len.ensures, tag-bound c.args.keyed.now.level.0)

pub slice_bounds-all-end : goal.slice_bounds-all-end
slice_bounds-all-end c = sym (length-take-le _ _ (omega (arith, c.tag_len.ensures, tag-bound c.args.keyed.now.level.0)))

pub returns : goal.returns
returns c = sealed-put _ _ _ _ _ _ _ _ _ c.requires.start.0 (omega (arith, c.requires.room)) c.seal_front-tag.ensures.front c.seal_front-tag.ensures.rest c.tag_len.ensures
    refl refl c.all.ensures
