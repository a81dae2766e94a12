-- `file::Contents::right` meets its contract: the entries before this one are right, and their bodies end at `start`. Assumes nothing.
use Rattle.std.proofs.Common.{◌≡◌, ◌+◌, ◌*◌, ◌≤◌}
use Rattle.meaning.specs.File.{contents_len, start_of, entry_right}
use Rattle.meaning.specs.Records.{kinds}
use Rattle.meaning.proofs.Scan.{Kept}
use Rattle.file.proofs.contents.ContentsLayout.right.Given as goal

abbrev pub invariant-loop-kind : goal.invariant-loop-kind
invariant-loop-kind l = record {
  kept : Kept (entry_right l.file) kinds l.kind-index;
  at : l.start ≡ start_of l.file l.kind-index;
  low : l.start ≤ contents_len + l.kind-index * 4294967296;
}
