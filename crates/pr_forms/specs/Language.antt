-- A language: its grammar, what one token ahead tells of it, and how it sees the code's tokens; and
-- what the functions of its reader say of themselves, in the code's tokens.
use Rattle.std.specs.Prelude.{ℕ, List, [], map, Option, Bool}
use Rattle.pr_forms.specs.Form.{Form, rule, Reads, IsFirstBad as IsFirstBadBy}
use Rattle.pr_forms.specs.Table.{Table, IsDecided, is_next}
use Rattle.pr_forms.specs.Run.{Runs, ReaderOutcome, Takes as TakesBy, Lacks as LacksBy}
use Rattle.pr_forms.specs.Carries.{Carries as CarriesBy, Chooses as ChoosesBy, ChoosesNone as ChoosesNoneBy}
use Rattle.pr_forms.specs.Reader.{FailsBy}
use Rattle.pr_forms.specs.Reading.{reading, bad_place}
use Rattle.pr_forms.specs.declared.reader.Fault.{Fault}

-- A language over the code's tokens A, which its grammar sees as tokens T, with rules named by N
-- and values V.
pub record Language (A T N V : Type 0) : Type 0 where
  pub production : N → Form T N V
  pub table : Table T N
  pub see : A → T

-- the tokens as the grammar sees them
abbrev pub seen : {A T N V : Type 0} → Language A T N V → List A → List T
seen L = map L.see

-- The reader of the form gives the outcome.
abbrev pub Gives : {A T N V : Type 0} → Language A T N V → Form T N V → List A → ReaderOutcome T V → Type 0
Gives L f ts o = Runs L.production L.table f (seen L ts) o

-- The form is read, from its first token on.
abbrev pub Takes : {A T N V : Type 0} → Language A T N V → Form T N V → List A → V → List A → Type 0
Takes L f ts v rest = TakesBy L.production L.table f (seen L ts) v (seen L rest)

-- The next token does not start the form.
abbrev pub Lacks : {A T N V : Type 0} → Language A T N V → Form T N V → List A → Type 0
Lacks L f ts = LacksBy L.production L.table f (seen L ts)

-- The reader of the form fails at the fault's tokens; nothing is said where memory runs out.
abbrev pub FailsAt : {A T N V : Type 0} → Language A T N V → Form T N V → List A → Fault A → Type 0
FailsAt L f ts e = FailsBy (seen L) L.production L.table f (seen L ts) e

-- After a part the rest decides, with the value changed.
abbrev pub Carries : {A T N V X : Type 0} → Language A T N V → Form T N V → List A → (X → V) → Form T N V → List A → (X → V) → Type 0
Carries L f ts made g rest given = CarriesBy L.production L.table f (seen L ts) made g (seen L rest) given

-- The same where the value stays: what a loop over turns keeps.
abbrev pub Leads : {A T N V : Type 0} → Language A T N V → Form T N V → List A → Form T N V → List A → Type 0
Leads L f ts g rest = CarriesBy L.production L.table f (seen L ts) (λ v. v) g (seen L rest) (λ v. v)

-- whether the next token starts the form
abbrev pub is_started : {A T N V : Type 0} → Language A T N V → Form T N V → List A → Bool
is_started L f ts = is_next L.table f (seen L ts)

-- The next token chooses the rule, and that it chooses none.
abbrev pub Chooses : {A T N V : Type 0} → Language A T N V → (T → Option N) → N → List A → List A → Type 0
Chooses L choice n ts rest = ChoosesBy choice n (seen L ts) (seen L rest)

abbrev pub ChoosesNone : {A T N V : Type 0} → Language A T N V → (T → Option N) → List A → Type 0
ChoosesNone L choice ts = ChoosesNoneBy choice (seen L ts)

-- One token ahead decides the language.
abbrev pub IsDecidedLanguage : {A T N V : Type 0} → Language A T N V → Type 0
IsDecidedLanguage L = IsDecided L.production L.table

-- The whole text is of the rule, with the value.
abbrev pub ReadsWhole : {A T N V : Type 0} → Language A T N V → N → List A → V → Type 0
ReadsWhole L n text v = Reads L.production (rule n) (seen L text) v []

-- The place is the first one at which no text of the rule can go on.
abbrev pub IsFirstBad : {A T N V : Type 0} → Language A T N V → N → List A → ℕ → Type 0
IsFirstBad L n text place = IsFirstBadBy L.production (rule n) (seen L text) place

-- The value of a text and its first bad place as functions of it, where a rule comes to a token
-- within so many steps.
abbrev pub value_in : {A T N V : Type 0} → Language A T N V → ℕ → N → List A → Option V
value_in L limit n text = reading L.production L.table limit (rule n) (seen L text)

abbrev pub first_bad_in : {A T N V : Type 0} → Language A T N V → ℕ → N → List A → ℕ
first_bad_in L limit n text = bad_place L.production L.table limit (rule n) (seen L text)
