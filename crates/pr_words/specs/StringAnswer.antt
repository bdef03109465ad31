-- What a text gives as a string, as functions of its bytes.
use Rattle.std.specs.Prelude.{ℕ, Option, Some, None, List}
use Rattle.pr_forms.specs.Form.{rule}
use Rattle.pr_forms.specs.Reading.{reading, bad_place}
use Rattle.pr_words.specs.Strings.{production, seen, Text, StringValue, content}
use Rattle.pr_words.specs.StringTable.{table, steps}

abbrev pub content_in : Option StringValue → Option (List ℕ)
content_in (Some (content bytes)) = Some bytes
content_in _ = None

-- the bytes that the text means, where it is a string whole
unfoldable pub string_of : List ℕ → Option (List ℕ)
string_of text = content_in (reading production table steps (rule Text) (seen text))

-- the first place at which no string can go on
unfoldable pub bad_string_place : List ℕ → ℕ
bad_string_place text = bad_place production table steps (rule Text) (seen text)
