-- Labels with which nothing is wrong have free names, each once and in order; and templates, where
-- these are asked.
use Rattle.std.proofs.Common.{◌≡◌, ℕ, List, [], ◌∷◌, Bool, true, false, Option, Some, None, cond, fold, map, refl, sym, ap, subst, ◌∙◌, is_some}
use Rattle.std.specs.Prelude.{IsSome, unwrap_or}
use Rattle.std.specs.List.{AllByRecursion, flat_map}
use Rattle.std.specs.List.Sorted.{IsStrictlySortedBy}
use Rattle.std.specs.Cmp.Lexicographic.{slice_cmp}
use Rattle.std.specs.Ordering.{nat_cmp, match_ordering, ordering_reverse}
use Rattle.std.specs.declared.cmp.Ordering.{Ordering}
use Rattle.std.specs.declared.cmp.Ordering.TheVariants.{Less, Equal, Greater}
use Rattle.std.specs.BTreeMap.{insert_entry}
use Rattle.std.specs.Map.{keys_of}
use Rattle.std.proofs.lemmas.Cmp.{nat_list_cmp_total}
use Rattle.std.proofs.lemmas.List.Elements.{All-from_recursion}
use Rattle.pr_labels.specs.declared.pair.Pair.{Pair}
use Rattle.pr_yaml.specs.Tree.{Tree, EntryTree, is_absent}
use Rattle.pr_rulefile.specs.declared.fields.problem.ProblemKind.TheVariants.{BadLabel}
use Rattle.spec_rules.specs.pr_tmpl.TemplateReading.{template_parts, bad_template_place}
use Rattle.pr_rulefile.specs.Nodes.{line_of, text_of, fields_of, fields_in}
use Rattle.pr_rulefile.specs.Problems.{problem, by_text, by_fields, unless_absent}
use Rattle.pr_rulefile.specs.Labels.{is_free_name, name_problems, template_fault, template_problems, by_place, label_problems, labels_problems, label_value, put_value, put_label, put_labels, pairs_of, HaveFreeNames}
use Rattle.spec_rules.specs.Definitions.{AreTemplates}
use Rattle.pr_rulefile.proofs.NoProblems.{left, right, unless}

-- a label whose name is free, and whose value is a template where that is asked
pub record IsFine (templates : Bool) (e : EntryTree) : Type 0 where
  pub name : is_free_name e.key ≡ true
  pub value : (v : List ℕ) → label_value e.value ≡ Some v → templates ≡ true → IsSome (template_parts v)

fine_name : (e : EntryTree) → name_problems e ≡ [] → is_free_name e.key ≡ true
unfolding name_problems
fine_name e h = unless (is_free_name e.key) (problem (line_of e.value) (BadLabel e.key)) h

is_template : (line : ℕ) (text : List ℕ) → by_place line (template_fault text) ≡ [] → IsSome (template_parts text)
unfolding template_fault
is_template line text h = by (is_some (template_parts text)) h where
  by : (b : Bool) → by_place line (cond b None (Some (bad_template_place text))) ≡ [] → b ≡ true
  by true h = refl
  by false h = cc

fine_value : (templates : Bool) (t : Tree) (v : List ℕ) → unless_absent t (by_text (template_problems templates) (line_of t) (text_of t)) ≡ [] → label_value t ≡ Some v → templates ≡ true → IsSome (template_parts v)
fine_value false t v h q a = cc
fine_value true t v h q a = by (is_absent t) (text_of t) h q where
  by : (b : Bool) (o : Option (List ℕ)) → cond b [] (by_text (template_problems true) (line_of t) o) ≡ [] → cond b None o ≡ Some v → IsSome (template_parts v)
  by true o h q = cc
  by false None h q = cc
  by false (Some text) h q =
      let same : text ≡ v = cc in
      subst (λ s. IsSome (template_parts s)) same (is_template (line_of t) text h)

fine_label : (templates : Bool) (e : EntryTree) → label_problems templates e ≡ [] → IsFine templates e
unfolding label_problems
fine_label templates e h =
    let wrong = unless_absent e.value (by_text (template_problems templates) (line_of e.value) (text_of e.value)) in
    record { name = fine_name e (left (name_problems e) wrong h); value = λ v. fine_value templates e.value v (right (name_problems e) wrong h) }

each_fine : (templates : Bool) (es : List EntryTree) → flat_map (label_problems templates) es ≡ [] → AllByRecursion (IsFine templates) es
each_fine templates [] h = tt
each_fine templates (e ∷ es) h =
    let rest = flat_map (label_problems templates) es in
    (fine_label templates e (left (label_problems templates e) rest h), each_fine templates es (right (label_problems templates e) rest h))

pub fine_labels : (templates : Bool) (t : Tree) → labels_problems templates t ≡ [] → AllByRecursion (IsFine templates) (fields_in t)
unfolding labels_problems
fine_labels templates t h = by (fields_of t) h where
  by : (o : Option (List EntryTree)) → by_fields (flat_map (label_problems templates)) (line_of t) o ≡ [] → AllByRecursion (IsFine templates) (unwrap_or o [])
  by None h = cc
  by (Some es) h = each_fine templates es h

-- what is asked of fewer
pub fine_fewer : (a b : Bool) (es : List EntryTree) → (b ≡ true → a ≡ true) → AllByRecursion (IsFine a) es → AllByRecursion (IsFine b) es
fine_fewer a b [] f h = tt
fine_fewer a b (e ∷ es) f h = (record { name = h.0.name; value = λ v q t. h.0.value v q (f t) }, fine_fewer a b es f h.1)

-- the labels so far
abbrev pub IsKept : Bool → List ℕ × List ℕ → Type 0
IsKept templates l = (is_free_name l.0 ≡ true) × (templates ≡ true → IsSome (template_parts l.1))

pub record AreKept (templates : Bool) (ls : List (List ℕ × List ℕ)) : Type 0 where
  pub each : AllByRecursion (IsKept templates) ls
  pub rising : IsStrictlySortedBy (slice_cmp nat_cmp) (keys_of ls)

abbrev text_cmp : List ℕ → List ℕ → Ordering
text_cmp = slice_cmp nat_cmp

each_put : (templates : Bool) (ls : List (List ℕ × List ℕ)) (k v : List ℕ) → IsKept templates (k, v) → AllByRecursion (IsKept templates) ls → AllByRecursion (IsKept templates) (insert_entry text_cmp ls k v)
each_put templates [] k v h all = (h, tt)
each_put templates (l ∷ ls) k v h all = by (text_cmp k l.0) (each_put templates ls k v h all.1) where
  by : (r : Ordering) → AllByRecursion (IsKept templates) (insert_entry text_cmp ls k v) → AllByRecursion (IsKept templates) (match_ordering r ((k, v) ∷ l ∷ ls) ((l.0, v) ∷ ls) (l ∷ insert_entry text_cmp ls k v))
  by Less more = (h, all)
  by Equal more = ((all.0.0, h.1), all.1)
  by Greater more = (all.0, more)

keys_put : (P : List ℕ → Type 0) (ls : List (List ℕ × List ℕ)) (k v : List ℕ) → P k → AllByRecursion P (keys_of ls) → AllByRecursion P (keys_of (insert_entry text_cmp ls k v))
keys_put P [] k v h all = (h, tt)
keys_put P (l ∷ ls) k v h all = by (text_cmp k l.0) (keys_put P ls k v h all.1) where
  by : (r : Ordering) → AllByRecursion P (keys_of (insert_entry text_cmp ls k v)) → AllByRecursion P (keys_of (match_ordering r ((k, v) ∷ l ∷ ls) ((l.0, v) ∷ ls) (l ∷ insert_entry text_cmp ls k v)))
  by Less more = (h, all)
  by Equal more = all
  by Greater more = (all.0, more)

all_above : (k l : List ℕ) (ks : List (List ℕ)) → text_cmp k l ≡ Less → AllByRecursion (λ y. text_cmp l y ≡ Less) ks → AllByRecursion (λ y. text_cmp k y ≡ Less) ks
all_above k l [] h all = tt
all_above k l (x ∷ xs) h all = (nat_list_cmp_total.trans k l x h all.0, all_above k l xs h all.1)

rising_put : (ls : List (List ℕ × List ℕ)) (k v : List ℕ) → IsStrictlySortedBy text_cmp (keys_of ls) → IsStrictlySortedBy text_cmp (keys_of (insert_entry text_cmp ls k v))
unfolding IsStrictlySortedBy
rising_put [] k v s = (tt, tt)
rising_put (l ∷ ls) k v s = by (text_cmp k l.0) refl (rising_put ls k v s.1) where
  by : (r : Ordering) → text_cmp k l.0 ≡ r → IsStrictlySortedBy text_cmp (keys_of (insert_entry text_cmp ls k v)) → IsStrictlySortedBy text_cmp (keys_of (match_ordering r ((k, v) ∷ l ∷ ls) ((l.0, v) ∷ ls) (l ∷ insert_entry text_cmp ls k v)))
  by Less e more = ((e, all_above k l.0 (keys_of ls) e s.0), s)
  by Equal e more = s
  by Greater e more = (keys_put (λ y. text_cmp l.0 y ≡ Less) ls k v (nat_list_cmp_total.antisymm l.0 k ∙ ap ordering_reverse e) s.0, more)

put_one : (templates : Bool) (ls : List (List ℕ × List ℕ)) (e : EntryTree) → IsFine templates e → AreKept templates ls → AreKept templates (put_label ls e)
put_one templates ls e h k = by (label_value e.value) refl where
  by : (o : Option (List ℕ)) → label_value e.value ≡ o → AreKept templates (put_value ls e.key o)
  by None q = k
  by (Some v) q = record { each = each_put templates ls e.key v (h.name, h.value v q) k.each; rising = rising_put ls e.key v k.rising }

put_fold : (templates : Bool) (es : List EntryTree) (ls : List (List ℕ × List ℕ)) → AllByRecursion (IsFine templates) es → AreKept templates ls → AreKept templates (fold put_label ls es)
put_fold templates [] ls h k = k
put_fold templates (e ∷ es) ls h k = put_fold templates es (put_label ls e) h.1 (put_one templates ls e h.0 k)

pub kept_put : (templates : Bool) (ls : List (List ℕ × List ℕ)) (es : List EntryTree) → AllByRecursion (IsFine templates) es → AreKept templates ls → AreKept templates (put_labels ls es)
unfolding put_labels
kept_put templates ls es h k = put_fold templates es ls h k

pub kept_none : (templates : Bool) → AreKept templates []
unfolding IsStrictlySortedBy
kept_none templates = record { each = tt; rising = tt }

-- the pairs of labels
free_pairs : (templates : Bool) (ls : List (List ℕ × List ℕ)) → AllByRecursion (IsKept templates) ls → AllByRecursion (λ p. is_free_name p.name ≡ true) (pairs_of ls)
free_pairs templates [] h = tt
free_pairs templates (l ∷ ls) h = (h.0.0, free_pairs templates ls h.1)

template_pairs : (ls : List (List ℕ × List ℕ)) → AllByRecursion (IsKept true) ls → AllByRecursion (λ p. IsSome (template_parts p.value)) (pairs_of ls)
template_pairs [] h = tt
template_pairs (l ∷ ls) h = (h.0.1 refl, template_pairs ls h.1)

names : (ls : List (List ℕ × List ℕ)) → map (λ (p : Pair). p.name) (pairs_of ls) ≡ keys_of ls
names [] = refl
names (l ∷ ls) = ap (λ ks. l.0 ∷ ks) (names ls)

pub free_names : (templates : Bool) (ls : List (List ℕ × List ℕ)) → AreKept templates ls → HaveFreeNames (pairs_of ls)
free_names templates ls k = (
  All-from_recursion (λ p. is_free_name p.name ≡ true) (pairs_of ls) (free_pairs templates ls k.each),
  subst (IsStrictlySortedBy (slice_cmp nat_cmp)) (sym (names ls)) k.rising,
)

pub are_templates : (ls : List (List ℕ × List ℕ)) → AreKept true ls → AreTemplates (pairs_of ls)
are_templates ls k = All-from_recursion (λ p. IsSome (template_parts p.value)) (pairs_of ls) (template_pairs ls k.each)

-- the pairs of a map of labels
pub good_pairs : (templates : Bool) (t : Tree) → labels_problems templates t ≡ [] → AreKept templates (put_labels [] (fields_in t))
good_pairs templates t h = kept_put templates [] (fields_in t) (fine_labels templates t h) (kept_none templates)
