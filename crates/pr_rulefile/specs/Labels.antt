-- Labels and annotations: maps of names to texts.
use Rattle.std.specs.Prelude.{◌≡◌, ℕ, Bool, true, false, not, ◌&&◌, is_some, List, [], ◌∷◌, ◌++◌, Option, Some, None, All, map, fold, if◌then◌else◌}
use Rattle.std.specs.List.{flat_map}
use Rattle.std.specs.List.Sorted.{IsStrictlySortedBy}
use Rattle.std.specs.BTreeMap.{insert_entry}
use Rattle.std.specs.Cmp.Lexicographic.{slice_cmp}
use Rattle.std.specs.Ordering.{nat_cmp}
use Rattle.std.specs.Str.{bytes_eq}
use Rattle.pr_labels.specs.declared.pair.Pair.{Pair}
use Rattle.pr_labels.specs.Names.{is_label_name}
use Rattle.pr_labels.specs.LabelSet.{metric_label, pair_of}
use Rattle.spec_rules.specs.pr_tmpl.TemplateReading.{template_parts, bad_template_place}
use Rattle.pr_yaml.specs.Tree.{Tree, EntryTree, is_absent}
use Rattle.pr_rulefile.specs.declared.fields.problem.Problem.{Problem}
use Rattle.pr_rulefile.specs.declared.fields.problem.ProblemKind.TheVariants.{BadLabel, BadTemplate}
use Rattle.pr_rulefile.specs.Nodes.{line_of, text_of, fields_of}
use Rattle.pr_rulefile.specs.Problems.{problem, by_text, by_fields, unless_absent}

-- The name of a label that is not the metric's.
abbrev pub is_free_name : List ℕ → Bool
is_free_name name = is_label_name name && not (bytes_eq name metric_label)

-- It is told at the line of the value.
unfoldable pub name_problems : EntryTree → List Problem
name_problems e = if is_free_name e.key then [] else problem (line_of e.value) (BadLabel e.key) ∷ []

-- the first byte with which no template goes on, where the text is none
unfoldable pub template_fault : List ℕ → Option ℕ
template_fault text = if is_some (template_parts text) then None else Some (bad_template_place text)

abbrev pub by_place : ℕ → Option ℕ → List Problem
by_place line None = []
by_place line (Some at) = problem line (BadTemplate at) ∷ []

-- Where templates are wanted, a text has to be one.
abbrev pub template_problems : Bool → ℕ → List ℕ → List Problem
template_problems false line text = []
template_problems true line text = by_place line (template_fault text)

unfoldable pub label_problems : Bool → EntryTree → List Problem
label_problems templates e = name_problems e ++ unless_absent e.value (by_text (template_problems templates) (line_of e.value) (text_of e.value))

unfoldable pub labels_problems : Bool → Tree → List Problem
labels_problems templates t = by_fields (flat_map (label_problems templates)) (line_of t) (fields_of t)

-- Labels so far, by name, and one more, which wins over one of its name. One whose value is absent
-- is none.
abbrev pub label_value : Tree → Option (List ℕ)
label_value t = if is_absent t then None else text_of t

abbrev pub put_value : List (List ℕ × List ℕ) → List ℕ → Option (List ℕ) → List (List ℕ × List ℕ)
put_value labels name None = labels
put_value labels name (Some value) = insert_entry (slice_cmp nat_cmp) labels name value

abbrev pub put_label : List (List ℕ × List ℕ) → EntryTree → List (List ℕ × List ℕ)
put_label labels e = put_value labels e.key (label_value e.value)

-- the same of each label of a map
unfoldable pub put_labels : List (List ℕ × List ℕ) → List EntryTree → List (List ℕ × List ℕ)
put_labels labels es = fold put_label labels es

-- the pairs of labels, in order of name
abbrev pub pair_at : List ℕ × List ℕ → Pair
pair_at e = pair_of e.0 e.1

abbrev pub pairs_of : List (List ℕ × List ℕ) → List Pair
pairs_of labels = map pair_at labels

-- Each name is one of a label and not the metric's; each stands once, in order.
abbrev pub HaveFreeNames : List Pair → Type 0
HaveFreeNames pairs =
    All (λ p. is_free_name p.name ≡ true) pairs × IsStrictlySortedBy (slice_cmp nat_cmp) (map (λ p. p.name) pairs)
