use Rattle.std.proofs.Common.{subst, sym}
use Rattle.pr_forms.specs.Form.{rule}
use Rattle.pr_forms.proofs.Places.{one_place}
use Rattle.pr_words.specs.Strings.{production, seen, Text, IsBadPlace}
use Rattle.pr_words.specs.StringAnswer.{bad_string_place}
use Rattle.pr_words.proofs.StringAnswers.{string_of_reading, reading_of_string, place_of_text}
use Rattle.pr_words.proofs.strings.laws.strings_are_functions_of_their_texts.Goals as goal

pub returns-clause-string : goal.returns-clause-string
returns-clause-string c = λ text bytes. (reading_of_string text bytes, string_of_reading text bytes)

pub returns-clause-place : goal.returns-clause-place
returns-clause-place c = λ text n. (λ e. subst (λ k. IsBadPlace text k) (sym e) (place_of_text text), λ p. one_place production (rule Text) (seen text) n (bad_string_place text) p (place_of_text text))
