-- What a reload keeps of the groups of before.
use Rattle.std.proofs.Common.{◌≡◌, ℕ, Bool, true, false, cond, ◌||◌, List, [], ◌∷◌, ◌++◌, map, flat_map, Option, Some, None, refl, sym, ap, ◌∙◌}
use Rattle.std.specs.Prelude.{find}
use Rattle.std.proofs.lemmas.List.{map-append}
use Rattle.std.specs.List.{list_any}
use Rattle.pr_ast.specs.pr_labels.declared.pair.Pair.{Pair}
use Rattle.pr_ast.specs.pr_labels.Order.{labels_eq}
use Rattle.pr_ast.specs.pr_labels.Rising.{IsRising, is_among}
use Rattle.pr_ast.proofs.LabelsLabelOrder.{among_fold, rising_fold}
use Rattle.spec_meaning.specs.spec_vectors.Vectors.{in_label_order}
use Rattle.spec_alerts.specs.Lineage.{previous}
use Rattle.spec_rules.specs.Definitions.{Group as Definition, Rule}
use Rattle.spec_rules.specs.Groups.{Group, RuleState, fresh, fresh_rule, is_group_named, rules_of}
use Rattle.spec_rules.specs.private.Laws.{definition_of}
use Rattle.spec_rules.specs.Reloads.{LoadedFile, carried, continued, continued_by, continued_rule, continued_rules, continues, fresh_groups, left_by, reload_step, remains, unused_rules, waits_at_first}
use Rattle.spec_rules.specs.Taking.{without_first}

abbrev written_by : List RuleState → List (List Pair)
written_by rules = flat_map (λ r. previous r.lineage) rules

-- Series that were written

or_assoc : (a b c : Bool) → (a || (b || c)) ≡ ((a || b) || c)
or_assoc true b c = refl
or_assoc false b c = refl

or_swapped : (a b c : Bool) → (a || (b || c)) ≡ (b || (a || c))
or_swapped true true c = refl
or_swapped true false c = refl
or_swapped false true c = refl
or_swapped false false c = refl

or_moved : (a b c : Bool) → ((a || b) || c) ≡ (a || (c || b))
or_moved true b c = refl
or_moved false true true = refl
or_moved false true false = refl
or_moved false false true = refl
or_moved false false false = refl

among_append : (l : List Pair) (xs ys : List (List Pair)) → is_among l (xs ++ ys) ≡ (is_among l xs || is_among l ys)
among_append l [] ys = refl
among_append l (x ∷ xs) ys = ap (λ b. labels_eq l x || b) (among_append l xs ys) ∙ or_assoc (labels_eq l x) (is_among l xs) (is_among l ys)

among_ordered : (l : List Pair) (sets : List (List Pair)) → is_among l (in_label_order sets) ≡ is_among l sets
among_ordered l sets = among_fold l [] sets

-- an old rule that is taken, and the others
taken_first : (l : List Pair) (rule : Rule) (test : RuleState → Bool) (olds : List RuleState)
    → is_among l (written_by olds) ≡ (is_among l (previous (continued_rule rule (find test olds)).lineage) || is_among l (written_by (without_first test olds)))
taken_first l rule test [] = refl
taken_first l rule test (r ∷ olds) = by (test r) (taken_first l rule test olds) where
  by : (b : Bool) → is_among l (written_by olds) ≡ (is_among l (previous (continued_rule rule (find test olds)).lineage) || is_among l (written_by (without_first test olds)))
      → is_among l (written_by (r ∷ olds))
      ≡ (is_among l (previous (continued_rule rule (cond b (Some r) (find test olds))).lineage) || is_among l (written_by (cond b olds (r ∷ without_first test olds))))
  by true h = among_append l (previous r.lineage) (written_by olds)
  by false h =
      let one = is_among l (previous r.lineage) in
      let taken = is_among l (previous (continued_rule rule (find test olds)).lineage) in
      let rest = written_by (without_first test olds) in
      among_append l (previous r.lineage) (written_by olds) ∙ ap (λ b. one || b) h ∙ or_swapped one taken (is_among l rest)
      ∙ ap (λ b. taken || b) (sym (among_append l (previous r.lineage) rest))

-- what rules wrote is what the new ones have written, and what those did that none continues
split : (l : List Pair) (rules : List Rule) (olds : List RuleState)
    → is_among l (written_by olds) ≡ (is_among l (written_by (continued_rules rules olds)) || is_among l (written_by (unused_rules rules olds)))
split l [] olds = refl
split l (rule ∷ rules) olds =
    let first = previous (continued_rule rule (find (continues rule) olds)).lineage in
    let rest = without_first (continues rule) olds in
    taken_first l rule (continues rule) olds ∙ ap (λ b. is_among l first || b) (split l rules rest)
    ∙ or_assoc (is_among l first) (is_among l (written_by (continued_rules rules rest))) (is_among l (written_by (unused_rules rules rest)))
    ∙ ap (λ b. b || is_among l (written_by (unused_rules rules rest))) (sym (among_append l first (written_by (continued_rules rules rest))))

-- what is left over, and what the rules wrote
left : (l : List Pair) (leftovers : List (List Pair)) (rules : List RuleState) → is_among l (left_by leftovers rules) ≡ (is_among l leftovers || is_among l (written_by rules))
left l leftovers rules = among_ordered l (leftovers ++ written_by rules) ∙ among_append l leftovers (written_by rules)

pub no_series_lost : (l : List Pair) (new old : Group) → is_among l (remains (carried new old)) ≡ is_among l (remains old)
no_series_lost l new old =
    let rules = continued_rules (rules_of new) old.rules in
    let unused = unused_rules (rules_of new) old.rules in
    left l (left_by old.leftovers unused) rules ∙ ap (λ b. b || is_among l (written_by rules)) (left l old.leftovers unused)
    ∙ or_moved (is_among l old.leftovers) (is_among l (written_by unused)) (is_among l (written_by rules))
    ∙ ap (λ b. is_among l old.leftovers || b) (sym (split l (rules_of new) old.rules))
    ∙ sym (left l old.leftovers old.rules)

-- what is left over, and what remains of a group, rises, so that nothing is marked twice
pub left_rises : (leftovers : List (List Pair)) (rules : List RuleState) → IsRising (left_by leftovers rules)
left_rises leftovers rules = rising_fold [] (leftovers ++ written_by rules) tt

pub remains_rise : (g : Group) → IsRising (remains g)
remains_rise g = left_rises g.leftovers g.rules

pub leftovers_rise : (new old : Group) → IsRising (carried new old).leftovers
leftovers_rise new old = left_rises old.leftovers (unused_rules (rules_of new) old.rules)

-- Definitions

continued_is : (rule : Rule) (o : Option RuleState) → (continued_rule rule o).rule ≡ rule
continued_is rule None = refl
continued_is rule (Some old) = refl

rules_are : (rules : List Rule) (olds : List RuleState) → map (λ r. r.rule) (continued_rules rules olds) ≡ rules
rules_are [] olds = refl
rules_are (rule ∷ rules) olds = λ i. continued_is rule (find (continues rule) olds) i ∷ rules_are rules (without_first (continues rule) olds) i

with_rules : Group → List Rule → Definition
with_rules g rules = record { name = g.name; interval = g.interval; limit = g.limit; rules = rules }

carried_is : (new old : Group) → definition_of (carried new old) ≡ definition_of new
unfolding with_rules
carried_is new old = ap (with_rules new) (rules_are (rules_of new) old.rules)

continued_as : (new : Group) (o : Option Group) → definition_of (continued_by new o) ≡ definition_of new
continued_as new None = refl
continued_as new (Some old) = carried_is new old

all_continued : (olds news : List Group) → map definition_of (map (continued olds) news) ≡ map definition_of news
all_continued olds [] = refl
all_continued olds (new ∷ news) = λ i. continued_as new (find (is_group_named new.file new.name) olds) i ∷ all_continued olds news i

fresh_rules : (rules : List Rule) → map (λ r. r.rule) (map fresh_rule rules) ≡ rules
fresh_rules [] = refl
fresh_rules (rule ∷ rules) = ap (λ l. rule ∷ l) (fresh_rules rules)

fresh_is : (waits : ℕ) (file : List ℕ) (d : Definition) → definition_of (fresh waits file d) ≡ d
unfolding with_rules
fresh_is waits file d = ap (with_rules (fresh waits file d)) (fresh_rules d.rules)

fresh_as : (waits : ℕ) (file : List ℕ) (ds : List Definition) → map definition_of (map (fresh waits file) ds) ≡ ds
fresh_as waits file [] = refl
fresh_as waits file (d ∷ ds) = λ i. fresh_is waits file d i ∷ fresh_as waits file ds i

all_fresh : (reloaded : Bool) (files : List LoadedFile) → map definition_of (fresh_groups reloaded files) ≡ flat_map (λ f. f.groups) files
all_fresh reloaded [] = refl
all_fresh reloaded (f ∷ files) =
    map-append definition_of (map (fresh (waits_at_first reloaded) f.name) f.groups) (fresh_groups reloaded files)
    ∙ (λ i. fresh_as (waits_at_first reloaded) f.name f.groups i ++ all_fresh reloaded files i)

pub groups_are : (reloaded : Bool) (olds : List Group) (now : ℕ) (files : List LoadedFile) → map definition_of (reload_step reloaded olds now files).groups ≡ flat_map (λ f. f.groups) files
unfolding reload_step
groups_are reloaded olds now files = all_continued olds (fresh_groups reloaded files) ∙ all_fresh reloaded files
