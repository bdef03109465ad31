-- What one piece ahead tells of the rules, and that they end: no part of what a text means.
use Rattle.std.specs.Prelude.{ℕ, ◌||◌, Bool, true, false, is_some}
use Rattle.pr_labels.specs.pr_forms.Table.{Table}
use Rattle.pr_tmpl.specs.declared.kind.TemplateByte.{TemplateByte}
use Rattle.pr_tmpl.specs.declared.kind.TemplateByte.TheVariants.{Quote, Feed, Point, Percent}
use Rattle.pr_tmpl.specs.Pieces.{Piece, plain, escape, broken, part}
use Rattle.pr_tmpl.specs.TemplateText.{Rule, Text, Opened, First, FromOperand, FromCall, AnOperand, Literal, Dollared, Dotted, ValueWord, LabelsWord, ExternalWord, ExternalLabelsWord, UrlWord, Content, Breaking, Name, NameByte, NameRest, ACall, PrintfWord, HumanizeWord, Scale, PercentageWord, DurationWord, Formatted, Before, Wanted, Places, LetterF, AfterVerb, SecondPercent, After, Next, blank_at, quote_at, broken_at, part_at, percent_at, verb_of, digit_at, f_at, first_rule, operand_rule, name_start, call_rule, scale_rule, next_rule, name_goes_on, scale_goes_on}

abbrev pub is_blank_piece : Piece → Bool
is_blank_piece t = is_some (blank_at t)

abbrev pub is_content : Piece → Bool
is_content (plain Feed b) = false
is_content (part b) = false
is_content _ = true

abbrev pub is_wanted : TemplateByte → Bool
is_wanted Percent = true
is_wanted Point = true
is_wanted k = is_some (verb_of k)

abbrev pub starts_wanted : Piece → Bool
starts_wanted (plain k b) = is_wanted k
starts_wanted (escape k raw means) = is_wanted k
starts_wanted broken = true
starts_wanted (part b) = false

abbrev pub starts_before : Piece → Bool
starts_before (plain Quote b) = false
starts_before t = is_content t

abbrev pub starts_rule : Rule → Piece → Bool
starts_rule Text t = true
starts_rule Opened t = true
starts_rule First t = is_some (first_rule t)
starts_rule FromOperand t = is_some (operand_rule t) || false
starts_rule FromCall t = is_some (call_rule t) || false
starts_rule AnOperand t = is_some (operand_rule t)
starts_rule Content t = is_content t
starts_rule Breaking t = is_some (part_at t) || false
starts_rule Name t = is_some (name_start t)
starts_rule (NameRest name) t = name_goes_on t
starts_rule ACall t = is_some (call_rule t)
starts_rule Scale t = is_some (scale_rule t) || false
starts_rule Formatted t = is_some (quote_at t) || false
starts_rule Before t = starts_before t
starts_rule Wanted t = starts_wanted t
starts_rule Places t = is_some (broken_at t) || is_some (digit_at t)
starts_rule LetterF t = is_some (broken_at t) || is_some (f_at t)
starts_rule AfterVerb t = is_content t
starts_rule SecondPercent t = is_some (broken_at t) || is_some (percent_at t)
starts_rule After t = is_blank_piece t || is_some (next_rule t)
starts_rule Next t = is_some (next_rule t)
starts_rule _ t = true

abbrev pub empty_rule : Rule → Bool
empty_rule Text = true
empty_rule Opened = true
empty_rule (NameRest name) = true
empty_rule Scale = true
empty_rule _ = false

abbrev pub more_rule : Rule → Piece → Bool
more_rule AnOperand t = name_goes_on t
more_rule Literal t = false
more_rule Dollared t = name_goes_on t
more_rule Dotted t = name_goes_on t
more_rule ValueWord t = false
more_rule LabelsWord t = name_goes_on t
more_rule ExternalWord t = name_goes_on t
more_rule ExternalLabelsWord t = name_goes_on t
more_rule UrlWord t = false
more_rule Content t = false
more_rule Breaking t = false
more_rule Name t = name_goes_on t
more_rule (NameByte name) t = name_goes_on t
more_rule (NameRest name) t = name_goes_on t
more_rule ACall t = scale_goes_on t
more_rule PrintfWord t = false
more_rule HumanizeWord t = scale_goes_on t
more_rule Scale t = scale_goes_on t
more_rule PercentageWord t = false
more_rule DurationWord t = false
more_rule Formatted t = false
more_rule Before t = false
more_rule Wanted t = false
more_rule Places t = false
more_rule LetterF t = false
more_rule AfterVerb t = false
more_rule SecondPercent t = false
more_rule _ t = true

abbrev pub table : Table Piece Rule
table = record { empty = empty_rule; starts = starts_rule; more = more_rule }

-- how many steps a rule makes at most before it comes to a piece, and a bound on that
abbrev pub rank : Rule → ℕ
rank Text = 4
rank Opened = 4
rank First = 6
rank FromOperand = 5
rank FromCall = 5
rank AnOperand = 3
rank Name = 3
rank (NameRest name) = 4
rank ACall = 3
rank Scale = 4
rank After = 5
rank Next = 3
rank Content = 5
rank Before = 5
rank Wanted = 5
rank Places = 4
rank LetterF = 4
rank AfterVerb = 5
rank SecondPercent = 4
rank _ = 2

abbrev pub steps : ℕ
steps = 10
