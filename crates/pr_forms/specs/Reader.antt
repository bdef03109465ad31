-- How a reader fails, in the tokens as its grammar sees them.
use Rattle.std.specs.Prelude.{List}
use Rattle.pr_forms.specs.Form.{Form}
use Rattle.pr_forms.specs.Table.{Table}
use Rattle.pr_forms.specs.Run.{Runs, bad}
use Rattle.pr_forms.specs.declared.reader.Fault.{Fault}
use Rattle.pr_forms.specs.declared.reader.Fault.TheVariants.{Bad, Memory}

-- The reader of the form fails at the fault's tokens. Nothing is said where memory runs out. `seen`
-- gives the tokens as the grammar sees them.
abbrev pub FailsBy : {A T N V : Type 0} → (List A → List T) → (N → Form T N V) → Table T N → Form T N V → List T → Fault A → Type 0
FailsBy seen G S f ts (Bad rest) = Runs G S f ts (bad (seen rest.now))
FailsBy seen G S f ts Memory = Unit {0}
