-- Strings as a language.
use Rattle.std.specs.Prelude.{ℕ}
use Rattle.pr_forms.specs.Language.{Language}
use Rattle.pr_words.specs.Strings.{production, letter_of, Letter, Rule, StringValue}
use Rattle.pr_words.specs.StringTable.{table}

-- the language of strings, over bytes
abbrev pub text_strings : Language ℕ Letter Rule StringValue
text_strings = record { production = production; table = table; see = letter_of }
