use Rattle.pr_keep_sql.proofs.OpenedLemmas.{tells_of}
use Rattle.pr_keep_sql.proofs.opened.in_file.Goals as goal

pub returns-in-Ok-clause-told : goal.returns-in-Ok-clause-told
returns-in-Ok-clause-told g c =
    tells_of g.S.Store (g.O.Open.finds c.args.path.now) c.in-Ok.conn c.readied.result c.in-Ok.ensures.sound c.in-Ok.ensures.found c.readied.ensures.clean c.readied.ensures.made c.readied.ensures.kept
