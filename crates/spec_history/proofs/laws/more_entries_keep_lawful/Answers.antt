use Rattle.std.proofs.Common.{[]}
use Rattle.spec_history.proofs.Lawful.{put_all_lawful, after_more, after_parts}
use Rattle.spec_history.proofs.laws.more_entries_keep_lawful.Goals as goal

pub returns-clause-put : goal.returns-clause-put
returns-clause-put c = put_all_lawful

pub returns-clause-added : goal.returns-clause-added
returns-clause-added c = λ history entries. after_more [] history entries

pub returns-clause-parts : goal.returns-clause-parts
returns-clause-parts c = λ history entries. after_parts [] history entries
