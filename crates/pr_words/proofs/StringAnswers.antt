-- The functions say what is read, and where the first bad byte stands.
use Rattle.std.proofs.Common.{◌≡◌, ℕ, List, [], refl, ap, ◌∙◌, Some, None}
use Rattle.std.specs.Prelude.{Option}
use Rattle.pr_forms.specs.Form.{rule}
use Rattle.pr_forms.specs.Reading.{reading}
use Rattle.pr_forms.proofs.Ending.{given_reads, reads_given, given_place}
use Rattle.pr_words.specs.Strings.{production, seen, Text, StringValue, content, mark, IsString, IsBadPlace}
use Rattle.pr_words.specs.StringAnswer.{content_in, string_of, bad_string_place}
use Rattle.pr_words.proofs.StringTable.{known}
use Rattle.pr_words.proofs.StringEnds.{ends}
use Rattle.pr_words.specs.StringTable.{table, rank, steps}

pub string_of_reading : (text bytes : List ℕ) → IsString text bytes [] → string_of text ≡ Some bytes
unfolding string_of
string_of_reading text bytes d = ap content_in (reads_given production table known rank steps ends Text (seen text) (content bytes) d)

pub reading_of_string : (text bytes : List ℕ) → string_of text ≡ Some bytes → IsString text bytes []
unfolding string_of
reading_of_string text bytes e = by_value (reading production table steps (rule Text) (seen text)) refl e
  where
    by_value : (o : Option StringValue) → reading production table steps (rule Text) (seen text) ≡ o → content_in o ≡ Some bytes → IsString text bytes []
    by_value (Some (content cs)) h i = let k : cs ≡ bytes = cc in given_reads production table known rank steps ends Text (seen text) (content bytes) (h ∙ ap (λ x. Some (content x)) k)
    by_value (Some mark) h i = cc
    by_value None h i = cc

pub place_of_text : (text : List ℕ) → IsBadPlace text (bad_string_place text)
unfolding bad_string_place
place_of_text text = given_place production table known rank steps ends Text (seen text)
