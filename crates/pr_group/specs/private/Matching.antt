-- Which older rules new ones go on from, as their definitions tell.
use Rattle.std.specs.Prelude.{ℕ, ◌+◌, nat_eq, Bool, false, cond, List, [], ◌∷◌, ◌++◌, flat_map, Option, Some, None}
use Rattle.std.specs.List.{list_any}
use Rattle.pr_ast.specs.pr_words.Quoted.{quoted_text}
use Rattle.pr_ast.specs.pr_labels.declared.pair.Pair.{Pair}
use Rattle.pr_rule.specs.spec_rules.declared.definitions.RuleDef.{RuleDef}
use Rattle.pr_rule.specs.spec_rules.Definitions.{name_key, rule_of_def}
use Rattle.pr_rule.specs.spec_rules.Groups.{fresh_rule}
use Rattle.pr_rule.specs.spec_rules.Reloads.{continues}

-- a rule goes on from one of its kind with its name and its labels
abbrev pub continues_def : RuleDef → RuleDef → Bool
continues_def new old = continues (rule_of_def new) (fresh_rule (rule_of_def old))

-- Kind, name and labels as one text, in which names and values stand in quotes.
abbrev pub pair_key : Pair → List ℕ
pair_key p = quoted_text p.name ++ quoted_text p.value

abbrev pub labels_key : List Pair → List ℕ
labels_key labels = flat_map pair_key labels

abbrev pub key_of : RuleDef → List ℕ
key_of d = name_key d.alert ++ (quoted_text d.name ++ labels_key d.labels)

-- whether a number is named
abbrev pub names : ℕ → Option ℕ → Bool
names n None = false
names n (Some m) = nat_eq m n

abbrev pub is_named : ℕ → List (Option ℕ) → Bool
is_named n from = list_any (names n) from

-- the older ones, without those that are named
abbrev pub kept_if : {A : Type 0} → Bool → A → Option A
kept_if named a = cond named None (Some a)

abbrev pub spared_from : {A : Type 0} → ℕ → List (Option ℕ) → List A → List (Option A)
spared_from i from [] = []
spared_from i from (a ∷ xs) = kept_if (is_named i from) a ∷ spared_from (i + 1) from xs

abbrev pub spared : {A : Type 0} → List (Option ℕ) → List A → List (Option A)
spared from xs = spared_from 0 from xs
