-- Lists of words with commas between them. A word is letters, or a string, whose language stands
-- within this one.
use Prim.Native.Char.{code}
use Rattle.std.specs.Prelude.{ℕ, Option, Some, None, option_map, List, [], ◌∷◌, ◌++◌, Bool, true, false}
use Rattle.pr_forms.specs.Form.{Form, token, nothing, pair, either, fold, chosen, rule}
use Rattle.pr_forms.specs.Table.{Table}
use Rattle.pr_forms.specs.Language.{Language, ReadsWhole, value_in, first_bad_in}
use Rattle.pr_forms.specs.Within.{Embedding, within}
use Rattle.test_forms.specs.declared.glyph.Kind.TheVariants.{Comma, Letter, Text}
use Rattle.test_forms.specs.declared.glyph.Sort.{Sort}
use Rattle.test_forms.specs.declared.glyph.Sort.TheVariants.{Quote, Plain}
use Rattle.test_forms.specs.private.Glyphs.{Part, Glyph, glyph, glyph_of, part_in, sort_of}
use Rattle.test_forms.specs.private.Quoted as quoted

-- What stands for a part of a list.
pub data Value : Type 0 where
  words : List (List ℕ) → Value
  word : List ℕ → Value
  -- a part of a string
  in_quotes : quoted.Value → Value
  mark : Value

-- The rules.
pub data Rule : Type 0 where
  Words : Rule
  Word : Rule
  -- a letter, with which a word is this so far, and the rest of the word; and that rest
  Letters : List ℕ → Rule
  Rest : List ℕ → Rule
  -- a rule of strings
  InQuotes : quoted.Rule → Rule

abbrev pub comma_at : Glyph → Option Value
comma_at (glyph Comma b) = Some mark
comma_at t = None

abbrev pub any_at : Glyph → Option Value
any_at t = Some mark

abbrev pub letter_of : Glyph → Option ℕ
letter_of (glyph Letter b) = Some b
letter_of t = None

-- a letter goes on the word so far
abbrev pub letters_with : List ℕ → ℕ → Rule
letters_with bs b = Letters (bs ++ b ∷ [])

abbrev pub letter_at : List ℕ → Glyph → Option Rule
letter_at bs t = option_map (letters_with bs) (letter_of t)

abbrev pub is_letter_glyph : Glyph → Bool
is_letter_glyph (glyph Letter b) = true
is_letter_glyph t = false

abbrev pub second_of : Value → Value → Value
second_of v w = w

abbrev pub appended : Value → Value → Value
appended (words ws) (word w) = words (ws ++ w ∷ [])
appended v w = mark

abbrev pub unquoted : Value → Value → Value
unquoted (in_quotes (quoted.content bs)) w = word bs
unquoted v w = mark

-- the strings among the rules and the values
abbrev pub inner_value : Value → Option quoted.Value
inner_value (in_quotes v) = Some v
inner_value v = None

abbrev pub embedding : Embedding Part quoted.Rule quoted.Value Glyph Rule Value
embedding = record { token_of = part_in; rule_of = InQuotes; value_of = in_quotes; inner = inner_value; mark_of = mark }

abbrev pub next_word : Form Glyph Rule Value
next_word = pair second_of (token comma_at) (rule Word)

-- The productions:
--   words   = word { "," word }
--   word    = letter { letter } | string
-- The letters of a word are read one by one, so that its rule knows them.
abbrev pub production : Rule → Form Glyph Rule Value
production Words = fold appended (pair appended (nothing (words [])) (rule Word)) next_word
production Word = either (chosen (letter_at []) is_letter_glyph) (pair unquoted (rule (InQuotes quoted.Text)) (nothing mark))
production (Letters bs) = pair second_of (token any_at) (rule (Rest bs))
production (Rest bs) = either (chosen (letter_at bs) is_letter_glyph) (nothing (word bs))
production (InQuotes n) = within embedding (quoted.production n)

abbrev pub starts_word : Glyph → Bool
starts_word (glyph Letter b) = true
starts_word (glyph (Text Quote) b) = true
starts_word t = false

abbrev pub starts_rule : Rule → Glyph → Bool
starts_rule Words = starts_word
starts_rule Word = starts_word
starts_rule (Letters bs) = λ t. true
starts_rule (Rest bs) = is_letter_glyph
starts_rule (InQuotes n) = λ t. quoted.table.starts n (part_in t)

abbrev pub empty_rule : Rule → Bool
empty_rule (Rest bs) = true
empty_rule n = false

abbrev pub is_list_more : Glyph → Bool
is_list_more (glyph Comma b) = true
is_list_more t = is_letter_glyph t

abbrev pub more_rule : Rule → Glyph → Bool
more_rule Words = is_list_more
more_rule (InQuotes n) = λ t. false
more_rule n = is_letter_glyph

abbrev pub table : Table Glyph Rule
table = record { empty = empty_rule; starts = starts_rule; more = more_rule }

abbrev pub rank : Rule → ℕ
rank (InQuotes n) = quoted.rank n
rank Words = 9
rank Word = 6
rank (Letters bs) = 2
rank (Rest bs) = 4

abbrev pub steps : ℕ
steps = 10

-- the language of lists of words
abbrev pub lists : Language ℕ Glyph Rule Value
lists = record { production = production; table = table; see = glyph_of }

-- The text is a list of these words.
abbrev pub ReadsWords : List ℕ → List (List ℕ) → Type 0
ReadsWords text ws = ReadsWhole lists Words text (words ws)

-- the words of a value
abbrev pub words_in : Option Value → Option (List (List ℕ))
words_in (Some (words ws)) = Some ws
words_in _ = None

-- The words of a text as a function of it, and so its first bad place.
unfoldable pub words_of : List ℕ → Option (List (List ℕ))
words_of text = words_in (value_in lists steps Words text)

unfoldable pub bad_byte : List ℕ → ℕ
bad_byte text = first_bad_in lists steps Words text

-- Words as they are written: each as a string, with a backslash before a quote and before a
-- backslash, and commas between them.
abbrev pub escaped_as : Sort → ℕ → List ℕ
escaped_as Plain b = b ∷ []
escaped_as s b = code "\\" ∷ b ∷ []

abbrev pub escaped : List ℕ → List ℕ
escaped [] = []
escaped (b ∷ bs) = escaped_as (sort_of b) b ++ escaped bs

abbrev pub written_word : List ℕ → List ℕ
written_word w = code "\"" ∷ (escaped w ++ code "\"" ∷ [])

abbrev pub written_after : List (List ℕ) → List ℕ
written_after [] = []
written_after (w ∷ ws) = code "," ∷ (written_word w ++ written_after ws)

abbrev pub written : List (List ℕ) → List ℕ
written [] = []
written (w ∷ ws) = written_word w ++ written_after ws
