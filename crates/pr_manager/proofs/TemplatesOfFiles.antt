-- What holds of the groups of a rule file holds of what stands in code for them.
use Rattle.std.proofs.Common.{List, [], ◌∷◌, map}
use Rattle.std.specs.List.{All, AllByRecursion}
use Rattle.std.proofs.lemmas.List.Elements.{All-from_recursion, recursion_from_All}
use Rattle.spec_world.specs.spec_rules.declared.definitions.GroupDef.{GroupDef}
use Rattle.spec_world.specs.spec_rules.declared.definitions.RuleDef.{RuleDef}
use Rattle.spec_world.specs.spec_rules.Definitions.{rule_of_def, Group, group_of_def}
use Rattle.pr_group.specs.pr_rule.private.Templates.{HasTemplates, HaveTemplates}

back : {A B : Type 0} (P : B → Type 0) (Q : A → Type 0) (f : A → B) → ((a : A) → P (f a) → Q a) → (xs : List A) → AllByRecursion P (map f xs) → AllByRecursion Q xs
back P Q f g [] h = tt
back P Q f g (x ∷ xs) h = (g x h.0, back P Q f g xs h.1)

all_back : {A B : Type 0} (P : B → Type 0) (Q : A → Type 0) (f : A → B) → ((a : A) → P (f a) → Q a) → (xs : List A) → All P (map f xs) → All Q xs
all_back P Q f g xs h = All-from_recursion Q xs (back P Q f g xs (recursion_from_All P (map f xs) h))

pub defs_of_groups : (groups : List GroupDef) → All (λ (g : Group). All HasTemplates g.rules) (map group_of_def groups) → All HaveTemplates groups
defs_of_groups groups h =
    all_back (λ (g : Group). All HasTemplates g.rules) HaveTemplates group_of_def
    (λ d k. all_back HasTemplates (λ (r : RuleDef). HasTemplates (rule_of_def r)) rule_of_def (λ r p. p) d.rules k) groups h
