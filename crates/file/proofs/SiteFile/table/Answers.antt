-- `file::SiteFile::table` meets its contract: a body of a file that keeps its rules stands where its table of contents says. Assumes nothing.
use Rattle.std.proofs.Common.{rules}
use Rattle.meaning.proofs.Files.{file-contents}
use Rattle.file.proofs.SiteFile.table.Goals as goal

pub body-requires : goal.body-requires
body-requires c = file-contents _ (search rules)
