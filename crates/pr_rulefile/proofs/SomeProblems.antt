-- A text that is no rule file has a problem that can be told.
use Rattle.std.proofs.Common.{◌≡◌, ◌≢◌, ℕ, Bool, true, false, cond, List, [], ◌∷◌, refl, subst}
use Rattle.pr_rulefile.specs.declared.fields.problem.Problem.{Problem}
use Rattle.pr_rulefile.specs.Order.{in_order, is_told_before, ordered, inserted}
use Rattle.pr_yaml.specs.Read.{Reading, gives_tree, gives_fault, read_of}
use Rattle.pr_rulefile.specs.File.{RuleReading, by_problems, by_reading, file_groups, file_problems, gives_file, gives_problems, rule_file_of}
use Rattle.spec_rules.specs.Definitions.{Group}

abbrev HasOne : List Problem → Type 0
HasOne [] = ⊥
HasOne (p ∷ ps) = Unit {0}

placed_one : (p : Problem) (ps : List Problem) → HasOne (inserted is_told_before p ps)
placed_one p [] = tt
placed_one p (q ∷ qs) = by (is_told_before q p) where
  by : (b : Bool) → HasOne (cond b (q ∷ inserted is_told_before p qs) (p ∷ q ∷ qs))
  by true = tt
  by false = tt

ordered_one : (p : Problem) (ps : List Problem) → HasOne (in_order (p ∷ ps))
unfolding in_order
ordered_one p ps = placed_one p (ordered is_told_before ps)

abbrev TellsOne : RuleReading → Type 0
TellsOne (gives_file groups) = Unit {0}
TellsOne (gives_problems list) = HasOne list

of_problems : (ps : List Problem) (groups : List Group) → TellsOne (by_problems ps groups)
of_problems [] groups = tt
of_problems (p ∷ ps) groups = ordered_one p ps

of_reading : (r : Reading) → TellsOne (by_reading r)
of_reading (gives_tree t) = of_problems (file_problems t) (file_groups t)
of_reading (gives_fault line kind) = tt

has_one : (list : List Problem) → HasOne list → list ≢ []
has_one [] h = absurd h
has_one (p ∷ ps) h = λ e. cc

pub problem_is_told : (text : List ℕ) (list : List Problem) → rule_file_of text ≡ gives_problems list → list ≢ []
unfolding rule_file_of
problem_is_told text list h = has_one list (subst TellsOne h (of_reading (read_of text)))
