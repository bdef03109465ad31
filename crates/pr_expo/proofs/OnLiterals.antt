-- What a proof opens to compute what a line reads as that is written out.
use Rattle.std.specs.Prelude.{⊤}
use Rattle.std.specs.Char.{encode_utf8}
use Rattle.std.specs.Str.{chars, is_utf8}
use Rattle.std.specs.Str.Lossy.{utf8_valid_len}
use Rattle.pr_expo.specs.Line.{line_read}

unfoldable pub lines_on_literals : ⊤
unfolding line_read chars is_utf8 utf8_valid_len encode_utf8
lines_on_literals = tt
