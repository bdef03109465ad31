-- Series texts: what they read, and where they are bad.
use Rattle.std.specs.Prelude.{◌≡◌, ℕ, ◌||◌, Bool, true, false, Option, Some, None, List, [], ◌∷◌, ◌++◌, if◌then◌else◌}
use Rattle.pr_words.specs.Names.{is_among}
use Rattle.pr_words.specs.pr_forms.Form.{Form, token, nothing, pair, either, turns, chosen, rule, Reads, IsFirstBad}
use Rattle.pr_words.specs.declared.strings.kind.StringByte.{StringByte}
use Rattle.pr_words.specs.declared.strings.kind.StringByte.TheVariants.{A, B, F, N, R, T, V, X, Short, Long, HexLetter, OtherLetter, Digit, Colon, Open, Close, Comma, Equal, Blank}
use Rattle.pr_words.specs.Strings as strings
use Rattle.pr_words.specs.Strings.{Letter, letter, seen}
use Rattle.pr_words.specs.pr_forms.Within.{Embedding, within}
use Rattle.pr_labels.specs.declared.pair.Pair.{Pair}
use Rattle.pr_labels.specs.declared.series.series.TextFault.{TextFault}
use Rattle.pr_labels.specs.declared.series.series.TextFault.TheVariants.{BadLabels, Memory}
use Rattle.pr_labels.specs.Edits.{labels_of}
use Rattle.pr_labels.specs.LabelSet.{metric_label, pair_of}

-- What stands for a part of a series text.
pub data SeriesValue : Type 0 where
  -- labels, in the order of the text, the metric's name among them as the first
  listed : List Pair → SeriesValue
  -- a part of a string
  quoted : strings.StringValue → SeriesValue
  -- a byte that has no value alone
  mark : SeriesValue

-- The rules. A list of names has those that stand before: a name stands once.
pub data Rule : Type 0 where
  -- a series text
  Series : Rule
  -- a byte of a metric's name, with which the name is this so far, and the rest of the text; and
  -- that rest
  MetricByte : List ℕ → Rule
  MetricRest : List ℕ → Rule
  -- what may stand after a metric's name
  Tail : Rule
  -- a label list after a metric's name, with the blanks before it
  Listed : Rule
  -- a label list from its brace on
  Braces : List (List ℕ) → Rule
  -- what stands after a brace or a comma, with blanks before it and without them
  Items : List (List ℕ) → Rule
  Item : List (List ℕ) → Rule
  -- a byte of a label's name, with which the name is this so far, and the rest of the list; and
  -- that rest
  NameByte : List (List ℕ) → List ℕ → Rule
  NameRest : List (List ℕ) → List ℕ → Rule
  -- what stands after a whole name, which may stand before too
  Named : Bool → List (List ℕ) → List ℕ → Rule
  -- what stands after a value, with blanks before it and without them
  After : List (List ℕ) → Rule
  Next : List (List ℕ) → Rule
  -- a rule of strings
  InString : strings.Rule → Rule

-- letters and underscores, of which names begin
abbrev pub is_letter_kind : StringByte → Bool
is_letter_kind A = true
is_letter_kind B = true
is_letter_kind F = true
is_letter_kind N = true
is_letter_kind R = true
is_letter_kind T = true
is_letter_kind V = true
is_letter_kind X = true
is_letter_kind Short = true
is_letter_kind Long = true
is_letter_kind HexLetter = true
is_letter_kind OtherLetter = true
is_letter_kind _ = false

-- names go on with digits too, and a metric's name may have colons
abbrev pub is_label_kind : StringByte → Bool
is_label_kind Digit = true
is_label_kind k = is_letter_kind k

abbrev pub is_metric_letter_kind : StringByte → Bool
is_metric_letter_kind Colon = true
is_metric_letter_kind k = is_letter_kind k

abbrev pub is_metric_kind : StringByte → Bool
is_metric_kind Digit = true
is_metric_kind k = is_metric_letter_kind k

abbrev pub same_sign : StringByte → StringByte → Bool
same_sign Open Open = true
same_sign Close Close = true
same_sign Comma Comma = true
same_sign Equal Equal = true
same_sign Blank Blank = true
same_sign _ _ = false

abbrev pub sign_at : StringByte → Letter → Option SeriesValue
sign_at sign (letter k b) = if same_sign sign k then Some mark else None

abbrev pub sign : StringByte → Form Letter Rule SeriesValue
sign k = token (sign_at k)

abbrev pub none_at : Letter → Option SeriesValue
none_at t = None

abbrev pub any_at : Letter → Option SeriesValue
any_at t = Some mark

abbrev pub metric_start : Letter → Option Rule
metric_start (letter k b) = if is_metric_letter_kind k then Some (MetricByte (b ∷ [])) else None

abbrev pub metric_byte : List ℕ → Letter → Option Rule
metric_byte name (letter k b) = if is_metric_kind k then Some (MetricByte (name ++ b ∷ [])) else None

abbrev pub name_start : List (List ℕ) → Letter → Option Rule
name_start names (letter k b) = if is_letter_kind k then Some (NameByte names (b ∷ [])) else None

abbrev pub name_byte : List (List ℕ) → List ℕ → Letter → Option Rule
name_byte names name (letter k b) = if is_label_kind k then Some (NameByte names (name ++ b ∷ [])) else None

-- how the values of parts are joined
abbrev pub second_of : SeriesValue → SeriesValue → SeriesValue
second_of v w = w

abbrev pub headed : List ℕ → SeriesValue → SeriesValue → SeriesValue
headed name v (listed pairs) = listed (pair_of metric_label name ∷ pairs)
headed name v w = mark

abbrev pub labelled : List ℕ → SeriesValue → SeriesValue → SeriesValue
labelled name (quoted (strings.content bytes)) (listed pairs) = listed (pair_of name bytes ∷ pairs)
labelled name v w = mark

-- the strings among the rules and the values
abbrev pub inner_value : SeriesValue → Option strings.StringValue
inner_value (quoted v) = Some v
inner_value v = None

abbrev pub embedding : Embedding Letter strings.Rule strings.StringValue Letter Rule SeriesValue
embedding = record { token_of = λ t. t; rule_of = InString; value_of = quoted; inner = inner_value; mark_of = mark }

abbrev pub nothing_follows : Letter → Bool
nothing_follows t = false

-- what may go on after a whole text: its metric's name, or the list after it
abbrev pub is_tail_kind : StringByte → Bool
is_tail_kind Blank = true
is_tail_kind Open = true
is_tail_kind _ = false

abbrev pub is_tail : Letter → Bool
is_tail (letter k b) = is_tail_kind k

abbrev pub goes_on : Letter → Bool
goes_on (letter k b) = is_metric_kind k || is_tail_kind k

abbrev pub blanks : Form Letter Rule SeriesValue
blanks = turns second_of mark (sign Blank)

-- The productions:
--   series = metric-name tail | braces
--   tail   = blanks braces |
--   braces = "{" items
--   items  = blanks item
--   item   = "}" | label-name blanks "=" blanks string after
--   after  = blanks ( "," items | "}" )
-- A label's name that stands before cannot be followed by anything. `__name__` stands before where
-- a metric's name does.
abbrev pub production : Rule → Form Letter Rule SeriesValue
production Series = either (chosen metric_start goes_on) (rule (Braces []))
production (MetricByte name) = pair second_of (token any_at) (rule (MetricRest name))
production (MetricRest name) = either (chosen (metric_byte name) goes_on) (pair (headed name) (nothing mark) (rule Tail))
production Tail = either (rule Listed) (nothing (listed []))
production Listed = pair second_of blanks (rule (Braces (metric_label ∷ [])))
production (Braces names) = pair second_of (sign Open) (rule (Items names))
production (Items names) = pair second_of blanks (rule (Item names))
production (Item names) = either (pair second_of (sign Close) (nothing (listed []))) (chosen (name_start names) nothing_follows)
production (NameByte names name) = pair second_of (token any_at) (rule (NameRest names name))
production (NameRest names name) = either (chosen (name_byte names name) nothing_follows) (rule (Named (is_among name names) names name))
production (Named true names name) = token none_at
production (Named false names name) = pair second_of blanks (pair second_of (sign Equal) (pair second_of blanks
    (pair (labelled name) (rule (InString strings.Text)) (rule (After (names ++ name ∷ []))))))
production (After names) = pair second_of blanks (rule (Next names))
production (Next names) = either (pair second_of (sign Comma) (rule (Items names))) (pair second_of (sign Close) (nothing (listed [])))
production (InString n) = within embedding (strings.production n)

-- The text is a series text, with these labels in its order; values may be empty.
abbrev pub ReadsSeries : List ℕ → List Pair → Type 0
ReadsSeries text pairs = Reads production (rule Series) (seen text) (listed pairs) []

-- The text is a series text, and its label set is this one: the set of the pairs that it reads.
pub record ReadsLabels (text : List ℕ) (labels : List Pair) : Type 0 where
  pub pairs : List Pair
  pub reads : ReadsSeries text pairs
  pub are : labels ≡ labels_of pairs

-- The place is the first one at which no series text can go on.
abbrev pub IsBadPlace : List ℕ → ℕ → Type 0
IsBadPlace text place = IsFirstBad production (rule Series) (seen text) place

-- A text is refused at the first place at which no series text can go on.
abbrev pub Refuses : List ℕ → TextFault → Type 0
Refuses text (BadLabels at) = IsBadPlace text at
Refuses text Memory = Unit {0}

-- Only want of memory keeps a series text from being read.
abbrev pub Misses : TextFault → Type 0
Misses (BadLabels at) = ⊥
Misses Memory = Unit {0}
