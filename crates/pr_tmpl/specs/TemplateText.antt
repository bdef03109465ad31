-- The texts of templates, the formats of printf among them.
use Rattle.std.specs.Prelude.{ℕ, ◌-◌, ◌==◌, Bool, true, false, Option, Some, None, is_some, List, [], ◌∷◌, ◌++◌, codes, if◌then◌else◌}
use Prim.Native.Char.{code}
use Rattle.pr_labels.specs.pr_forms.Form.{Form, token, nothing, pair, either, turns, chosen, rule, Reads, IsFirstBad}
use Rattle.pr_tmpl.specs.declared.template.Verb.{Verb}
use Rattle.pr_tmpl.specs.declared.template.Verb.TheVariants.{Plain, Fixed}
use Rattle.pr_tmpl.specs.declared.template.Operand.{Operand}
use Rattle.pr_tmpl.specs.declared.template.Operand.TheVariants.{Value as TheValue, Label, ExternalLabel, ExternalUrl, Words as Quoted}
use Rattle.pr_tmpl.specs.declared.template.Call.{Call}
use Rattle.pr_tmpl.specs.declared.template.Call.TheVariants.{Printf, Humanize, HumanizePercentage, HumanizeDuration}
use Rattle.pr_tmpl.specs.declared.template.Part.{Part}
use Rattle.pr_tmpl.specs.declared.template.Part.TheVariants.{Words, Pipe}
use Rattle.pr_tmpl.specs.declared.kind.TemplateByte.{TemplateByte}
use Rattle.pr_tmpl.specs.declared.kind.TemplateByte.TheVariants.{Quote, Feed, Blank, Open, Close, Bar, Dollar, Point, Percent, Digit, SmallE, SmallF, SmallH, SmallL, SmallP, SmallS, SmallV, CapitalD, CapitalE, CapitalL, CapitalP, CapitalU, CapitalV, OtherLetter}
use Rattle.pr_tmpl.specs.Pieces.{Piece, plain, escape, broken, part, raw_of, pieces}

-- What stands for a part of a template.
pub data TemplateValue : Type 0 where
  -- the parts from here on
  parts : List Part → TemplateValue
  -- the calls that a pipe still goes through, and the parts after it
  piped : List Call → List Part → TemplateValue
  -- an operand, a call, and the bytes of a text or of a name
  operand : Operand → TemplateValue
  call : Call → TemplateValue
  bytes : List ℕ → TemplateValue
  -- a verb, and a format from here on: a text, its verb and the text after it
  verb : Verb → TemplateValue
  format : List ℕ → Verb → List ℕ → TemplateValue
  -- a piece that has no value alone
  mark : TemplateValue

-- The rules. A rule that a piece chooses reads that piece too; it is named after it where its own
-- name says no more.
pub data Rule : Type 0 where
  -- a template, a piece of it that stands for itself, and a brace
  Text : Rule
  PlainPiece : Rule
  Brace : Rule
  -- what stands after a brace, and a piece there that stands for itself
  Opened : Rule
  PieceAfterBrace : Rule
  -- from the second brace on, and from a pipe's first piece on
  SecondBrace : Rule
  First : Rule
  -- a pipe from its operand on, and from a call before that
  FromOperand : Rule
  FromCall : Rule
  -- the operands
  AnOperand : Rule
  Literal : Rule
  Dollared : Rule
  Dotted : Rule
  ValueWord : Rule
  LabelsWord : Rule
  ExternalWord : Rule
  ExternalLabelsWord : Rule
  UrlWord : Rule
  -- what stands in a string up to its last quote, and what stands in it after an escape that breaks
  -- off
  Content : Rule
  Breaking : Rule
  -- a label's name, and its bytes after these
  Name : Rule
  NameByte : List ℕ → Rule
  NameRest : List ℕ → Rule
  -- the calls
  ACall : Rule
  PrintfWord : Rule
  HumanizeWord : Rule
  Scale : Rule
  PercentageWord : Rule
  DurationWord : Rule
  -- a format from its first quote on; what stands in it before its verb; after a `%`, after `%.`,
  -- and after the places
  Formatted : Rule
  Before : Rule
  Wanted : Rule
  Places : Rule
  LetterF : Rule
  -- what stands in a format after its verb, and after a `%` there
  AfterVerb : Rule
  SecondPercent : Rule
  -- what stands after an operand or a call, with blanks before it and without them
  After : Rule
  Next : Rule
  Barred : Rule
  Closing : Rule

abbrev pub any_at : Piece → Option TemplateValue
any_at t = Some mark

abbrev pub raw_at : Piece → Option TemplateValue
raw_at t = Some (bytes (raw_of t))

abbrev pub blank_at : Piece → Option TemplateValue
blank_at (plain Blank b) = Some mark
blank_at _ = None

abbrev pub close_at : Piece → Option TemplateValue
close_at (plain Close b) = Some mark
close_at _ = None

abbrev pub quote_at : Piece → Option TemplateValue
quote_at (plain Quote b) = Some mark
quote_at _ = None

abbrev pub this_at : ℕ → Piece → Option TemplateValue
this_at n (plain k b) = if b == n then Some mark else None
this_at n _ = None

-- pieces of a string: what stands for itself or is an escape, and an escape that breaks off
abbrev pub content_at : Piece → Option TemplateValue
content_at (plain Quote b) = None
content_at (plain Feed b) = None
content_at (plain k b) = Some (bytes (b ∷ []))
content_at (escape k raw means) = Some (bytes means)
content_at _ = None

abbrev pub broken_at : Piece → Option TemplateValue
broken_at broken = Some mark
broken_at _ = None

abbrev pub part_at : Piece → Option TemplateValue
part_at (part b) = Some mark
part_at _ = None

-- pieces of a format: the same without `%`; `%`; verbs of one letter, where `%f` has six places; a
-- point; a number of places
abbrev pub text_at : Piece → Option TemplateValue
text_at (plain Quote b) = None
text_at (plain Feed b) = None
text_at (plain Percent b) = None
text_at (plain k b) = Some (bytes (b ∷ []))
text_at (escape Percent raw means) = None
text_at (escape k raw means) = Some (bytes means)
text_at _ = None

abbrev pub percent_at : Piece → Option TemplateValue
percent_at (plain Percent b) = Some (bytes (codes "%"))
percent_at (escape Percent raw means) = Some (bytes (codes "%"))
percent_at _ = None

abbrev pub verb_of : TemplateByte → Option TemplateValue
verb_of SmallF = Some (verb (Fixed 6))
verb_of SmallV = Some (verb Plain)
verb_of SmallS = Some (verb Plain)
verb_of _ = None

abbrev pub verb_at : Piece → Option TemplateValue
verb_at (plain k b) = verb_of k
verb_at (escape k raw means) = verb_of k
verb_at _ = None

abbrev pub point_at : Piece → Option TemplateValue
point_at (plain Point b) = Some mark
point_at (escape Point raw means) = Some mark
point_at _ = None

abbrev pub digit_of : List ℕ → ℕ
digit_of [] = 0
digit_of (b ∷ bs) = b - code "0"

abbrev pub digit_at : Piece → Option TemplateValue
digit_at (plain Digit b) = Some (verb (Fixed (b - code "0")))
digit_at (escape Digit raw means) = Some (verb (Fixed (digit_of means)))
digit_at _ = None

abbrev pub f_at : Piece → Option TemplateValue
f_at (plain SmallF b) = Some mark
f_at (escape SmallF raw means) = Some mark
f_at _ = None

-- names of labels begin with letters and underscores, and go on with digits too
abbrev pub is_name_start : TemplateByte → Bool
is_name_start SmallE = true
is_name_start SmallF = true
is_name_start SmallH = true
is_name_start SmallL = true
is_name_start SmallP = true
is_name_start SmallS = true
is_name_start SmallV = true
is_name_start CapitalD = true
is_name_start CapitalE = true
is_name_start CapitalL = true
is_name_start CapitalP = true
is_name_start CapitalU = true
is_name_start CapitalV = true
is_name_start OtherLetter = true
is_name_start _ = false

abbrev pub is_name_part : TemplateByte → Bool
is_name_part Digit = true
is_name_part k = is_name_start k

-- the rules that pieces choose
abbrev pub text_rule : Piece → Option Rule
text_rule (plain Open b) = Some Brace
text_rule _ = Some PlainPiece

abbrev pub opened_rule : Piece → Option Rule
opened_rule (plain Open b) = Some SecondBrace
opened_rule _ = Some PieceAfterBrace

abbrev pub first_rule : Piece → Option Rule
first_rule (plain Quote b) = Some FromOperand
first_rule (plain Dollar b) = Some FromOperand
first_rule (plain Point b) = Some FromOperand
first_rule (plain SmallP b) = Some FromCall
first_rule (plain SmallH b) = Some FromCall
first_rule _ = None

abbrev pub operand_rule : Piece → Option Rule
operand_rule (plain Quote b) = Some Literal
operand_rule (plain Dollar b) = Some Dollared
operand_rule (plain Point b) = Some Dotted
operand_rule _ = None

abbrev pub dollar_rule : Piece → Option Rule
dollar_rule (plain SmallV b) = Some ValueWord
dollar_rule (plain SmallL b) = Some LabelsWord
dollar_rule (plain SmallE b) = Some ExternalWord
dollar_rule _ = None

abbrev pub dot_rule : Piece → Option Rule
dot_rule (plain CapitalV b) = Some ValueWord
dot_rule (plain CapitalL b) = Some LabelsWord
dot_rule (plain CapitalE b) = Some ExternalWord
dot_rule _ = None

abbrev pub external_rule : Piece → Option Rule
external_rule (plain CapitalL b) = Some ExternalLabelsWord
external_rule (plain CapitalU b) = Some UrlWord
external_rule _ = None

abbrev pub name_start : Piece → Option Rule
name_start (plain k b) = if is_name_start k then Some (NameByte (b ∷ [])) else None
name_start _ = None

abbrev pub name_byte : List ℕ → Piece → Option Rule
name_byte name (plain k b) = if is_name_part k then Some (NameByte (name ++ b ∷ [])) else None
name_byte name _ = None

abbrev pub call_rule : Piece → Option Rule
call_rule (plain SmallP b) = Some PrintfWord
call_rule (plain SmallH b) = Some HumanizeWord
call_rule _ = None

abbrev pub scale_rule : Piece → Option Rule
scale_rule (plain CapitalP b) = Some PercentageWord
scale_rule (plain CapitalD b) = Some DurationWord
scale_rule _ = None

abbrev pub next_rule : Piece → Option Rule
next_rule (plain Bar b) = Some Barred
next_rule (plain Close b) = Some Closing
next_rule _ = None

-- how the values of parts are joined
abbrev pub second_of : TemplateValue → TemplateValue → TemplateValue
second_of v w = w

-- a text before parts; texts that stand together are one
abbrev pub with_text : List ℕ → List Part → List Part
with_text bs (Words cs ∷ ps) = Words (bs ++ cs) ∷ ps
with_text bs ps = Words bs ∷ ps

abbrev pub texted : TemplateValue → TemplateValue → TemplateValue
texted (bytes bs) (parts ps) = parts (with_text bs ps)
texted v w = mark

abbrev pub braced : TemplateValue → TemplateValue → TemplateValue
braced (bytes bs) (parts ps) = parts (with_text (code "{" ∷ bs) ps)
braced v w = mark

abbrev pub begun : TemplateValue → TemplateValue → TemplateValue
begun (operand o) (piped cs ps) = parts (Pipe o cs ∷ ps)
begun v w = mark

abbrev pub led : TemplateValue → TemplateValue → TemplateValue
led (call c) (parts (Pipe o cs ∷ ps)) = parts (Pipe o (c ∷ cs) ∷ ps)
led v w = mark

abbrev pub gone_through : TemplateValue → TemplateValue → TemplateValue
gone_through (call c) (piped cs ps) = piped (c ∷ cs) ps
gone_through v w = mark

abbrev pub closed : TemplateValue → TemplateValue → TemplateValue
closed v (parts ps) = piped [] ps
closed v w = mark

abbrev pub bytes_joined : TemplateValue → TemplateValue → TemplateValue
bytes_joined (bytes bs) (bytes cs) = bytes (bs ++ cs)
bytes_joined v w = mark

abbrev pub literal : TemplateValue → TemplateValue → TemplateValue
literal v (bytes bs) = operand (Quoted bs)
literal v w = mark

abbrev pub label : TemplateValue → TemplateValue → TemplateValue
label v (bytes name) = operand (Label name)
label v w = mark

abbrev pub external_label : TemplateValue → TemplateValue → TemplateValue
external_label v (bytes name) = operand (ExternalLabel name)
external_label v w = mark

abbrev pub before_verb : TemplateValue → TemplateValue → TemplateValue
before_verb (bytes bs) (format cs v es) = format (bs ++ cs) v es
before_verb v w = mark

abbrev pub leading : TemplateValue → TemplateValue → TemplateValue
leading (verb v) (bytes es) = format [] v es
leading v w = mark

abbrev pub formatted : TemplateValue → TemplateValue → TemplateValue
formatted v (format bs f es) = call (Printf (record { before = bs; verb = f; after = es }))
formatted v w = mark

-- what may go on: anything after a text, bytes of a name after an operand, a longer word after
-- `humanize`
abbrev pub anything : Piece → Bool
anything t = true

abbrev pub name_goes_on : Piece → Bool
name_goes_on (plain k b) = is_name_part k
name_goes_on _ = false

abbrev pub scale_goes_on : Piece → Bool
scale_goes_on t = is_some (scale_rule t)

abbrev pub nothing_follows : Piece → Bool
nothing_follows t = false

abbrev pub blanks : Form Piece Rule TemplateValue
blanks = turns second_of mark (token blank_at)

-- these bytes, and then a form
abbrev pub spelled : List ℕ → Form Piece Rule TemplateValue → Form Piece Rule TemplateValue
spelled [] f = f
spelled (n ∷ ns) f = pair second_of (token (this_at n)) (spelled ns f)

-- the piece that chose the rule, and then a form
abbrev pub after_any : Form Piece Rule TemplateValue → Form Piece Rule TemplateValue
after_any f = pair second_of (token any_at) f

-- an escape of a string that breaks off
abbrev pub broken_off : Form Piece Rule TemplateValue
broken_off = pair second_of (token broken_at) (rule Breaking)

-- The grammar, where a rule that a piece chooses stands in its place:
--   text       = piece text | "{" opened |
--   opened     = "{" blanks first | piece text |
--   first      = operand after | call blank blanks operand after
--   operand    = "\"" content
--              | "$" ("v" value | "l" labels | "e" external)
--              | "." ("V" value | "L" labels | "E" external)
--   content    = piece content | "\""
--   value      = "alue"
--   labels     = "abels." name
--   external   = "xternal" ("L" labels | "URL")
--   call       = "printf" blank blanks "\"" before | "humanize" ["Percentage" | "Duration"]
--   before     = piece before | "%" wanted
--   wanted     = "%" before | ("f" | "v" | "s") after-verb | "." digit "f" after-verb
--   after-verb = piece after-verb | "%" "%" after-verb | "\""
--   after      = blanks ("|" blanks call after | "}" "}" text)
-- A format and a string that has an escape which breaks off can go on with the parts of it alone.
abbrev pub production : Rule → Form Piece Rule TemplateValue
production Text = either (chosen text_rule anything) (nothing (parts []))
production PlainPiece = pair texted (token raw_at) (rule Text)
production Brace = after_any (rule Opened)
production Opened = either (chosen opened_rule anything) (nothing (parts (Words (codes "{") ∷ [])))
production PieceAfterBrace = pair braced (token raw_at) (rule Text)
production SecondBrace = after_any (pair second_of blanks (rule First))
production First = chosen first_rule anything
production FromOperand = pair begun (rule AnOperand) (rule After)
production FromCall = pair led (rule ACall) (pair second_of (token blank_at) (pair second_of blanks (rule FromOperand)))
production AnOperand = chosen operand_rule name_goes_on
production Literal = pair literal (token any_at) (rule Content)
production Dollared = after_any (chosen dollar_rule name_goes_on)
production Dotted = after_any (chosen dot_rule name_goes_on)
production ValueWord = after_any (spelled (codes "alue") (nothing (operand TheValue)))
production LabelsWord = pair label (token any_at) (spelled (codes "abels.") (rule Name))
production ExternalWord = after_any (spelled (codes "xternal") (chosen external_rule name_goes_on))
production ExternalLabelsWord = pair external_label (token any_at) (spelled (codes "abels.") (rule Name))
production UrlWord = after_any (spelled (codes "RL") (nothing (operand ExternalUrl)))
production Content = either (pair bytes_joined (token content_at) (rule Content)) (either broken_off (pair second_of (token quote_at) (nothing (bytes []))))
production Breaking = pair second_of (token part_at) (rule Breaking)
production Name = chosen name_start name_goes_on
production (NameByte name) = after_any (rule (NameRest name))
production (NameRest name) = either (chosen (name_byte name) name_goes_on) (nothing (bytes name))
production ACall = chosen call_rule scale_goes_on
production PrintfWord = after_any (spelled (codes "rintf") (pair second_of (token blank_at) (pair second_of blanks (rule Formatted))))
production HumanizeWord = after_any (spelled (codes "umanize") (rule Scale))
production Scale = either (chosen scale_rule nothing_follows) (nothing (call Humanize))
production PercentageWord = after_any (spelled (codes "ercentage") (nothing (call HumanizePercentage)))
production DurationWord = after_any (spelled (codes "uration") (nothing (call HumanizeDuration)))
production Formatted = pair formatted (token quote_at) (rule Before)
production Before = either (pair before_verb (token text_at) (rule Before)) (either broken_off (pair second_of (token percent_at) (rule Wanted)))
production Wanted = either (pair before_verb (token percent_at) (rule Before)) (either broken_off (either (pair leading (token verb_at) (rule AfterVerb)) (pair second_of (token point_at) (rule Places))))
production Places = either broken_off (pair leading (token digit_at) (rule LetterF))
production LetterF = either broken_off (pair second_of (token f_at) (rule AfterVerb))
production AfterVerb = either (pair bytes_joined (token text_at) (rule AfterVerb)) (either broken_off
    (either (pair second_of (token percent_at) (rule SecondPercent)) (pair second_of (token quote_at) (nothing (bytes [])))))
production SecondPercent = either broken_off (pair bytes_joined (token percent_at) (rule AfterVerb))
production After = pair second_of blanks (rule Next)
production Next = chosen next_rule anything
production Barred = after_any (pair second_of blanks (pair gone_through (rule ACall) (rule After)))
production Closing = pair closed (token any_at) (pair second_of (token close_at) (rule Text))

-- The text is a template of these parts.
abbrev pub IsTemplate : List ℕ → List Part → Type 0
IsTemplate text ps = Reads production (rule Text) (pieces text) (parts ps) []

-- The first bad piece is the first one with which no template can go on; its place is where it
-- begins.
abbrev pub IsBadPiece : List ℕ → ℕ → Type 0
IsBadPiece text n = IsFirstBad production (rule Text) (pieces text) n
