-- What the parts of a reader hand on to each other.
use Rattle.std.specs.Prelude.{◌≡◌, Option, Some, None, List, [], ◌∷◌}
use Rattle.pr_forms.specs.Form.{Form}
use Rattle.pr_forms.specs.Table.{Table}
use Rattle.pr_forms.specs.Run.{Runs, good, bad}

-- After a part the rest decides: what the second form gives at the rest, the first one gives at its
-- own tokens, with the value changed, and where the second one fails, the first one does. The
-- values are told by what they are made of: `given x` becomes `made x`.
pub record Carries {T N V X : Type 0} (G : N → Form T N V) (S : Table T N) (f : Form T N V) (ts : List T) (made : X → V) (g : Form T N V) (rest : List T) (given : X → V) : Type 0 where
  pub reads : (x : X) (end : List T) → Runs G S g rest (good (given x) end) → Runs G S f ts (good (made x) end)
  pub fails : (end : List T) → Runs G S g rest (bad end) → Runs G S f ts (bad end)

-- The next token chooses the rule.
pub record Chooses {T N : Type 0} (choice : T → Option N) (n : N) (ts rest : List T) : Type 0 where
  pub first : T
  pub is : ts ≡ first ∷ rest
  pub has : choice first ≡ Some n

-- There is no next token, or it chooses no rule.
pub data ChoosesNone {T N : Type 0} (choice : T → Option N) : List T → Type 0 where
  no_token : ChoosesNone choice []
  no_rule : {t : T} {rest : List T} → choice t ≡ None → ChoosesNone choice (t ∷ rest)
