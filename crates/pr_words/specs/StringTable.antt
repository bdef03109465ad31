-- What one byte ahead tells of the rules of strings, and how many steps they make: no part of what a
-- text means.
use Rattle.std.specs.Prelude.{ℕ, zero, suc, ◌||◌, Bool, true, false, is_some}
use Rattle.pr_forms.specs.Table.{Table}
use Rattle.pr_words.specs.declared.strings.kind.Mark.TheVariants.{Back}
use Rattle.pr_words.specs.declared.strings.kind.StringByte.TheVariants.{Quote, Feed}
use Rattle.pr_words.specs.Strings.{Letter, letter, Rule, Text, Quoted, Escape, Digits, Then, named_byte, numbered, digit_of, reached}

-- What one byte ahead tells of the rules.
abbrev pub starts_rule : Rule → Letter → Bool
starts_rule Text (letter (Quote m) b) = true
starts_rule Text t = false
starts_rule (Quoted Back) t = true
starts_rule (Quoted m) (letter Feed b) = false
starts_rule (Quoted m) t = true
starts_rule (Escape m) (letter k b) = is_some (named_byte m k) || is_some (numbered (letter k b))
starts_rule (Digits limit zero n) t = false
starts_rule (Digits limit (suc left) n) t = is_some (reached limit left n (digit_of t))
starts_rule (Then limit left n) t = true

abbrev pub empty_rule : Rule → Bool
empty_rule (Digits limit zero n) = true
empty_rule _ = false

-- a string has an end, and nothing goes on after it
abbrev pub more_rule : Rule → Letter → Bool
more_rule n t = false

abbrev pub table : Table Letter Rule
table = record { empty = empty_rule; starts = starts_rule; more = more_rule }

-- how many steps a rule makes at most before it comes to a byte, and a bound on that
abbrev pub rank : Rule → ℕ
rank Text = 4
rank (Quoted m) = 5
rank (Escape m) = 4
rank (Digits limit left n) = 3
rank (Then limit left n) = 2

abbrev pub steps : ℕ
steps = 10
