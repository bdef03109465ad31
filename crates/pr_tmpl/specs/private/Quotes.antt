-- What the readers of strings and of formats say of themselves.
use Rattle.std.specs.Prelude.{◌≡◌, ◌≤◌, ℕ, Bool, true, false, Option, List, [], ◌∷◌, ◌++◌, codes}
use Rattle.pr_labels.specs.pr_forms.Form.{token, rule}
use Rattle.pr_labels.specs.pr_forms.Table.{is_next}
use Rattle.pr_labels.specs.pr_forms.Carries.{Carries}
use Rattle.pr_labels.specs.pr_forms.Run.{good}
use Rattle.pr_labels.specs.pr_forms.declared.reader.Fault.{Fault}
use Rattle.pr_labels.specs.pr_forms.declared.reader.Fault.TheVariants.{Bad, Memory}
use Rattle.pr_tmpl.specs.declared.kind.TemplateByte.{TemplateByte}
use Rattle.pr_tmpl.specs.declared.kind.TemplateByte.TheVariants.{Quote, Feed, Percent, Digit}
use Rattle.pr_tmpl.specs.declared.letter.Letter.{Letter}
use Rattle.pr_tmpl.specs.declared.letter.Letter.TheVariants.{Plain, Escape, Broken}
use Rattle.pr_tmpl.specs.declared.quoted.Within.{Within}
use Rattle.pr_tmpl.specs.declared.quoted.Within.TheVariants.{Content as InContent, Before as InFront, After as Behind}
use Rattle.pr_tmpl.specs.declared.quoted.Wanted.{Wanted}
use Rattle.pr_tmpl.specs.declared.quoted.Wanted.TheVariants.{Percent as AnotherPercent, Fixed as WantedFixed}
use Rattle.pr_tmpl.specs.declared.template.Verb.{Verb}
use Rattle.pr_tmpl.specs.declared.template.Verb.TheVariants.{Plain as PlainVerb, Fixed}
use Rattle.pr_tmpl.specs.Pieces.{Piece, plain, escape, broken, part, pieces}
use Rattle.pr_tmpl.specs.private.Letters.{IsBreak}
use Rattle.pr_tmpl.specs.private.Reader.{Gives, Hands}
use Rattle.pr_tmpl.specs.TemplateText.{Rule, TemplateValue, bytes, format, Content, Before, Wanted as WantedRule, AfterVerb, production, content_at, text_at, broken_off, before_verb, leading, verb}
use Rattle.pr_tmpl.specs.TemplateTable.{table}

-- the rule, and the pieces that stand for themselves
abbrev pub rule_of : Within → Rule
rule_of InContent = Content
rule_of InFront = Before
rule_of Behind = AfterVerb

abbrev pub own_at : Within → Piece → Option TemplateValue
own_at InContent = content_at
own_at InFront = text_at
own_at Behind = text_at

-- whether what a letter means stands for itself, and what it means
abbrev pub is_own : Within → Letter → Bool
is_own w (Plain Quote b) = false
is_own w (Plain Feed b) = false
is_own InContent (Plain k b) = true
is_own w (Plain Percent b) = false
is_own w (Plain k b) = true
is_own InContent (Escape k means) = true
is_own w (Escape Percent means) = false
is_own w (Escape k means) = true
is_own w Broken = false

abbrev pub means_of : Letter → List ℕ
means_of (Plain k b) = b ∷ []
means_of (Escape k means) = means.items
means_of Broken = []

-- what is read from a place on: bytes, and in a format before its verb the verb and the bytes after
-- it
pub data Tail : Type 0 where
  tail : List ℕ → Verb → List ℕ → Tail

abbrev pub given : Within → Tail → TemplateValue
given InContent (tail bs v es) = bytes bs
given InFront (tail bs v es) = format bs v es
given Behind (tail bs v es) = bytes bs

abbrev pub after_bytes : List ℕ → Tail → Tail
after_bytes bs (tail cs v es) = tail (bs ++ cs) v es

-- The bytes are what stands for itself between the text's front and the rest.
abbrev pub ReachesAsOwn : Within → List ℕ → List ℕ → List ℕ → Type 0
ReachesAsOwn w text bs rest = Carries production table (rule (rule_of w)) (pieces text) (λ x. given w (after_bytes bs x)) (rule (rule_of w)) (pieces rest) (given w)

-- Nothing that stands for itself comes next, and no escape that breaks off.
pub record Stops (w : Within) (text : List ℕ) : Type 0 where
  pub own : is_next {V = TemplateValue} table (token (own_at w)) (pieces text) ≡ false
  pub whole : is_next {V = TemplateValue} table broken_off (pieces text) ≡ false

-- What a piece counts as in a format: its kind, and the first byte that it means.
abbrev pub first_byte : List ℕ → ℕ
first_byte [] = 0
first_byte (b ∷ bs) = b

abbrev pub CountsAs : Piece → TemplateByte → ℕ → Type 0
CountsAs (plain k b) kind byte = (kind ≡ k) × (byte ≡ b)
CountsAs (escape k raw means) kind byte = (kind ≡ k) × (byte ≡ first_byte means)
CountsAs broken kind byte = ⊥
CountsAs (part b) kind byte = ⊥

pub record IsControl (text : List ℕ) (kind : TemplateByte) (byte : ℕ) (rest : List ℕ) : Type 0 where
  pub piece : Piece
  pub pieces_are : pieces text ≡ piece ∷ pieces rest
  pub counts : CountsAs piece kind byte
  pub digit : kind ≡ Digit → byte ≤ 57

-- None of that kind comes next, and no escape that breaks off.
pub record IsNoControl (text : List ℕ) (kind : TemplateByte) : Type 0 where
  pub whole : is_next {V = TemplateValue} table broken_off (pieces text) ≡ false
  pub none : (t : Piece) (ps : List Piece) (byte : ℕ) → pieces text ≡ t ∷ ps → CountsAs t kind byte → ⊥

-- An escape that breaks off comes next, up to the fault's text.
abbrev pub BreaksOffAt : List ℕ → Fault ℕ → Type 0
BreaksOffAt text (Bad rest) = IsBreak text rest.now
BreaksOffAt text Memory = Unit {0}

-- the verb that is wanted, which has nine places at most
abbrev pub verb_wanted : Wanted → Verb
verb_wanted (WantedFixed places) = Fixed places
verb_wanted _ = PlainVerb

abbrev pub HasFewPlaces : Wanted → Type 0
HasFewPlaces (WantedFixed places) = places ≤ 9
HasFewPlaces _ = Unit {0}

-- What stands after a `%`: another one, after which the text before the verb goes on, or a verb.
abbrev pub IsWanted : List ℕ → Wanted → List ℕ → Type 0
IsWanted text AnotherPercent rest = Hands (rule WantedRule) text (before_verb (bytes (codes "%"))) (rule Before) rest (λ v. v)
IsWanted text w rest = Hands (rule WantedRule) text (leading (verb (verb_wanted w))) (rule AfterVerb) rest (λ v. v)

-- A text before a verb and what stands after a `%`; a text after the verb, which goes on behind two
-- of `%`, or ends.
abbrev pub LeadsUpTo : List ℕ → List ℕ → Wanted → List ℕ → Type 0
LeadsUpTo text bs AnotherPercent rest = ReachesAsOwn InFront text (bs ++ codes "%") rest
LeadsUpTo text bs w rest = Hands (rule Before) text (format bs (verb_wanted w)) (rule AfterVerb) rest bytes

abbrev pub GoesOnBehind : List ℕ → List ℕ → Bool → List ℕ → Type 0
GoesOnBehind text bs true rest = ReachesAsOwn Behind text (bs ++ codes "%") rest
GoesOnBehind text bs false rest = Gives (rule AfterVerb) text (good (bytes bs) (pieces rest))
