-- A text in quotes: the language of strings that stands within the language of words.
use Rattle.std.specs.Prelude.{ℕ, Option, Some, None, List, [], ◌∷◌, ◌++◌, Bool, true, false}
use Rattle.pr_forms.specs.Form.{Form, token, turns, pair, either, rule}
use Rattle.pr_forms.specs.Table.{Table}
use Rattle.pr_forms.specs.Language.{Language}
use Rattle.test_forms.specs.declared.glyph.Sort.TheVariants.{Quote, Backslash, Plain}
use Rattle.test_forms.specs.private.Glyphs.{Part, part, part_of}

-- the bytes that a part of a string means, and a byte that has no value alone
pub data Value : Type 0 where
  content : List ℕ → Value
  mark : Value

-- a string, and what stands after its first quote
pub data Rule : Type 0 where
  Text : Rule
  Body : Rule

abbrev pub byte_value : ℕ → Value
byte_value b = content (b ∷ [])

abbrev pub quote_at : Part → Option Value
quote_at (part Quote b) = Some mark
quote_at t = None

abbrev pub backslash_at : Part → Option Value
backslash_at (part Backslash b) = Some mark
backslash_at t = None

abbrev pub plain_at : Part → Option Value
plain_at (part Plain b) = Some (byte_value b)
plain_at t = None

-- after a backslash each byte stands for itself
abbrev pub any_at : Part → Option Value
any_at (part s b) = Some (byte_value b)

abbrev pub joined : Value → Value → Value
joined (content bs) (content cs) = content (bs ++ cs)
joined _ _ = mark

abbrev pub first_of : Value → Value → Value
first_of v w = v

abbrev pub second_of : Value → Value → Value
second_of v w = w

abbrev pub piece : Form Part Rule Value
piece = either (pair second_of (token backslash_at) (token any_at)) (token plain_at)

-- The productions:
--   text = '"' body
--   body = { "\" any | plain } '"'
abbrev pub production : Rule → Form Part Rule Value
production Text = pair second_of (token quote_at) (rule Body)
production Body = pair first_of (turns joined (content []) piece) (token quote_at)

abbrev pub starts_rule : Rule → Part → Bool
starts_rule Text (part Quote b) = true
starts_rule Text t = false
starts_rule Body t = true

abbrev pub table : Table Part Rule
table = record { empty = λ n. false; starts = starts_rule; more = λ n t. false }

-- the steps of a rule before it comes to a byte, and more than any of them
abbrev pub rank : Rule → ℕ
rank Text = 3
rank Body = 5

abbrev pub steps : ℕ
steps = 9

-- the language of strings
abbrev pub strings : Language ℕ Part Rule Value
strings = record { production = production; table = table; see = part_of }
