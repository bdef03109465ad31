use Rattle.pr_engine.proofs.PrintedTexts.{text_put}
use Rattle.pr_engine.proofs.rows.texts.PrintedTexts.remember.Goals as goal

pub invariant_of-self-2 : goal.invariant_of-self-2
invariant_of-self-2 c =
    let put = c.in_ok-insert.ensures in
    text_put c.make_room.new.texts.entries c.insert.new.self.entries c.args.labels c.args.text _ (c.make_room.ensures.printed c.self.invariant.printed)
    (c.make_room.ensures.short c.self.invariant.short) c.make_room.ensures.room c.requires.printed c.requires.short put.entries put.len
