-- `file::Contents::right` meets its contract: the entries before this one are right, and their bodies end at `start`. Assumes nothing.
use Rattle.std.proofs.Common.{arith, ap, ◌∙◌, ◌*◌}
use Rattle.meaning.specs.Records.{kinds, width_of}
use Rattle.meaning.specs.File.{file_count, entry_right}
use Rattle.meaning.proofs.Tests.{not-on, not-off}
use Rattle.meaning.proofs.Scan.{kept-none, every-fails, every-more}
use Rattle.records.proofs.Chains.{nth-kind}
use Rattle.records.proofs.Laws.{size-by}
use Rattle.file.proofs.Laws.{start-first, start-more, contents-short, contents-fails, contents-done}
use Rattle.file.proofs.contents.ContentsLayout.right.Goals as goal

pub returns-then-file-lt-CONTENTS_LEN : goal.returns-then-file-lt-CONTENTS_LEN
returns-then-file-lt-CONTENTS_LEN c = contents-short _ c.if-file-lt-CONTENTS_LEN.true

pub loop-kind-init : goal.loop-kind-init
loop-kind-init c = record { kept = kept-none; at = start-first _; low = omega arith }

pub returns-then-not-entry_right : goal.returns-then-not-entry_right
returns-then-not-entry_right c =
    let e = nth-kind c.loop-kind.kind-index c.loop-kind-test.true in
    contents-fails _ c.if-file-lt-CONTENTS_LEN.false
    (every-fails (entry_right c.args.file.now) kinds _ _ (c.entry_right.ensures ∙ ap (entry_right c.args.file.now) e) c.loop-kind.invariant.kept c.loop-kind-test.true (not-on _ c.if-not-entry_right.true))

pub loop-kind-preserved : goal.loop-kind-preserved
loop-kind-preserved c =
    let e = nth-kind c.loop-kind.kind-index c.loop-kind-test.true in
    record {
      kept = every-more (entry_right c.args.file.now) kinds _ _ (c.entry_right.ensures ∙ ap (entry_right c.args.file.now) e) c.loop-kind.invariant.kept c.loop-kind-test.true (not-off _ c.if-not-entry_right.false);
      at = start-more _ _ _ _ c.loop-kind.invariant.at (size-by _ _ _ _ c.size.ensures c.count.ensures ∙ ap (λ k. width_of k * file_count c.args.file.now k) e);
      low = omega arith;
    }

pub returns : goal.returns
returns c = contents-done _ _ _ c.if-file-lt-CONTENTS_LEN.false c.loop-kind.invariant.kept c.loop-kind-test.false c.loop-kind.invariant.at
