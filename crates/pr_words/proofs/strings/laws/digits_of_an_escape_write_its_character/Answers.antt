use Rattle.pr_words.proofs.EscapeDigits.{small_escape, short_escape, long_escape}
use Rattle.pr_words.proofs.strings.laws.digits_of_an_escape_write_its_character.Goals as goal

pub returns : goal.returns
returns c = record {
  small = λ quote text bytes rest. small_escape quote text bytes rest;
  short = λ quote text bytes rest. short_escape quote text bytes rest;
  long = λ quote text bytes rest. long_escape quote text bytes rest;
}
