-- What computes the printed words of kinds that are written out.
use Rattle.std.specs.Prelude.{⊤}
use Rattle.std.specs.Fmt.{digits}
use Rattle.pr_parse.specs.QueryKinds.{lex_word, parse_word, type_word}

unfoldable pub computing : ⊤
unfolding digits lex_word parse_word type_word
computing = tt
