use Rattle.std.proofs.Common.{◌≡◌, drop}
use Rattle.pr_ast.specs.Words.{first_word}
use Rattle.pr_ast.proofs.lex.words.first_word.Given as goal

abbrev pub invariant-loop-word : goal.invariant-loop-word
invariant-loop-word l = first_word l.text l.words ≡ first_word l.text (drop l.word-index l.words)
