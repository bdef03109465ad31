-- What one byte ahead tells of the rules of series texts, and how many steps they make: no part of
-- what a text means.
use Rattle.std.specs.Prelude.{◌||◌, Bool, true, false, ℕ}
use Rattle.pr_words.specs.Names.{is_among}
use Rattle.pr_words.specs.pr_forms.Table.{Table}
use Rattle.pr_words.specs.declared.strings.kind.StringByte.{StringByte}
use Rattle.pr_words.specs.declared.strings.kind.StringByte.TheVariants.{Open, Close, Comma, Equal, Blank}
use Rattle.pr_words.specs.Strings as strings
use Rattle.pr_words.specs.StringTable as string_tables
use Rattle.pr_words.specs.Strings.{Letter, letter}
use Rattle.pr_labels.specs.SeriesGrammar.{Rule, Series, MetricByte, MetricRest, Tail, Listed, Braces, Items, Item, NameByte, NameRest, Named, After, Next, InString, is_letter_kind, is_label_kind, is_metric_letter_kind, is_metric_kind, same_sign, is_tail_kind, is_tail, goes_on}

-- What one byte ahead tells of the rules.
abbrev pub starts_named : Bool → StringByte → Bool
starts_named true k = false
starts_named false k = same_sign Blank k || same_sign Equal k

abbrev pub starts_kind : Rule → StringByte → Bool
starts_kind Series k = is_metric_letter_kind k || same_sign Open k
starts_kind (MetricByte name) k = true
starts_kind (MetricRest name) k = is_metric_kind k || is_tail_kind k
starts_kind Tail k = is_tail_kind k
starts_kind Listed k = is_tail_kind k
starts_kind (Braces names) k = same_sign Open k
starts_kind (Items names) k = same_sign Blank k || (same_sign Close k || is_letter_kind k)
starts_kind (Item names) k = same_sign Close k || is_letter_kind k
starts_kind (NameByte names name) k = true
starts_kind (NameRest names name) k = is_label_kind k || starts_named (is_among name names) k
starts_kind (Named twice names name) k = starts_named twice k
starts_kind (After names) k = same_sign Blank k || (same_sign Comma k || same_sign Close k)
starts_kind (Next names) k = same_sign Comma k || same_sign Close k
starts_kind (InString n) k = false

abbrev pub starts_rule : Rule → Letter → Bool
starts_rule (InString n) t = string_tables.table.starts n t
starts_rule n (letter k b) = starts_kind n k

abbrev pub empty_rule : Rule → Bool
empty_rule (MetricRest name) = true
empty_rule Tail = true
empty_rule (InString n) = string_tables.table.empty n
empty_rule _ = false

-- only a metric's name can go on, and the list after it can come
abbrev pub more_rule : Rule → Letter → Bool
more_rule Series t = goes_on t
more_rule (MetricByte name) t = goes_on t
more_rule (MetricRest name) t = goes_on t
more_rule Tail t = is_tail t
more_rule _ t = false

abbrev pub table : Table Letter Rule
table = record { empty = empty_rule; starts = starts_rule; more = more_rule }

-- how many steps a rule makes at most before it comes to a byte, and a bound on that
abbrev pub rank : Rule → ℕ
rank Series = 5
rank (MetricByte name) = 2
rank (MetricRest name) = 9
rank Tail = 6
rank Listed = 4
rank (Braces names) = 2
rank (Items names) = 6
rank (Item names) = 4
rank (NameByte names name) = 2
rank (NameRest names name) = 6
rank (Named twice names name) = 4
rank (After names) = 5
rank (Next names) = 3
rank (InString n) = string_tables.rank n

abbrev pub steps : ℕ
steps = string_tables.steps
