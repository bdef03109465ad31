use Rattle.pr_keep_sql.proofs.OpenedLemmas.{told_on, was_sound}
use Rattle.pr_keep_sql.proofs.keeper.SqlKeeper.commit.Goals as goal

pub returns-in-File-clause-done : goal.returns-in-File-clause-done
returns-in-File-clause-done g c =
    let it = c.commit.ensures in
    rw c.in-File.is (record { ran = it.ran; left = it.left; once = it.once; odd = it.odd; refused = it.refused })

pub returns-in-File-clause-tells : goal.returns-in-File-clause-tells
returns-in-File-clause-tells g c = told_on g.S.Store c.in-File.kept c.commit.new.self c.commit.ensures.ready.1 c.commit.result c.commit.ensures.told

pub returns-in-File-clause-sound : goal.returns-in-File-clause-sound
returns-in-File-clause-sound g c = rw c.in-File.is (was_sound g.S.Store c.in-File.kept c.commit.new.self c.commit.ensures.ready.1 c.commit.ensures.clean)
