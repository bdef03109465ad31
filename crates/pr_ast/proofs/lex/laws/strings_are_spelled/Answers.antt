use Rattle.pr_ast.proofs.SpelledTexts.{text_spelled}
use Rattle.pr_ast.proofs.lex.laws.strings_are_spelled.Goals as goal

pub returns : goal.returns
returns c = text_spelled
