use Rattle.sqlite.specs.Files.{file_state}
use Rattle.sqlite.specs.WalFiles.{image_at}
use Rattle.pr_keep_sql.proofs.OpenedLemmas.{found_in}
use Rattle.pr_keep_sql.proofs.opening.DiskFileOpenFileStoreFileFrom.open.Goals as goal

pub returns-in-Ok-clause-found : goal.returns-in-Ok-clause-found
returns-in-Ok-clause-found g c clean = found_in (image_at g.T.Start) (file_state c.in-Ok.conn) (c.in-Ok.ensures.opened clean).0 (c.in-Ok.ensures.found clean)
