use Rattle.pr_ast.proofs.NameTexts.{name_is_text}
use Rattle.pr_ast.proofs.Rests.{text_is_ok}
use Rattle.pr_ast.proofs.Firsts.{name_long}
use Rattle.pr_ast.proofs.lex.reader.name_in.Goals as goal

pub returns-clause-long : goal.returns-clause-long
returns-clause-long c = rw (c.front_len-length.ensures.value, c.name_class.ensures) (name_long c.args.inside _ c.requires)

pub unwrap-name-requires : goal.unwrap-name-requires
unwrap-name-requires c = text_is_ok _ _ c.from_utf8.result _ c.from_utf8.ensures.cases (rw (c.front_len-length.ensures.value, c.name_class.ensures) (name_is_text c.args.inside _))
