-- In a map whose keys are distinct a name has one field.
use Rattle.std.proofs.Common.{◌≡◌, ℕ, List, [], ◌∷◌, ◌++◌, true, false, not, ◌&&◌, Some, refl, sym, ap, subst, ◌∙◌, inl, inr}
use Rattle.std.specs.Prelude.{find}
use Rattle.std.specs.Option.{option_map}
use Rattle.std.specs.List.{AllByRecursion, flat_map}
use Rattle.std.specs.Str.{bytes_eq}
use Rattle.std.specs.Cmp.Lexicographic.{bytes_decides}
use Rattle.std.proofs.lemmas.Bool.{and_parts, and_from, and_left, not-true, cond-true, cond-false, cases_Bool, true≢false}
use Rattle.std.proofs.lemmas.List.{append-nil}
use Rattle.pr_words.specs.Names.{is_among}
use Rattle.pr_yaml.specs.Tree.{Tree, text_node, list_node, map_node, Trees, no_trees, tree_then, trees_in, EntryTree, EntryTrees, no_entries, entry_then, entries_in, is_absent}
use Rattle.pr_yaml.specs.private.Distinct.{has_distinct_keys, have_distinct_keys, are_distinct}
use Rattle.pr_rulefile.specs.Nodes.{field, fields_of, is_field, value_of}
use Rattle.pr_rulefile.proofs.NoProblems.{or_parts}

module _ {X : Type 0} where
  -- two facts of each make a third
  pub all_both : {P Q R : X → Type 0} (xs : List X) → ((x : X) → P x → Q x → R x) → AllByRecursion P xs → AllByRecursion Q xs → AllByRecursion R xs
  all_both [] f p q = tt
  all_both (x ∷ xs) f p q = (f x p.0 q.0, all_both xs f p.1 q.1)

-- a key that is not among these and one more
not_among : (key other : List ℕ) (keys : List (List ℕ)) → is_among key (keys ++ other ∷ []) ≡ false → (bytes_eq other key ≡ false) × (is_among key keys ≡ false)
not_among key other [] h = ((or_parts (bytes_eq other key) false h).0, refl)
not_among key other (k ∷ ks) h =
    let parts = or_parts (bytes_eq k key) (is_among key (ks ++ other ∷ [])) h in
    let more = not_among key other ks parts.1 in
    (more.0, rw (parts.0, more.1) refl)

later : (keys : List (List ℕ)) (es : EntryTrees) → are_distinct keys es ≡ true → AllByRecursion (λ e. is_among e.key keys ≡ false) (entries_in es)
later keys no_entries h = tt
later keys (entry_then key line value es) h =
    let one = and_parts (not (is_among key keys)) (has_distinct_keys value && are_distinct (keys ++ key ∷ []) es) h in
    let rest = and_parts (has_distinct_keys value) (are_distinct (keys ++ key ∷ []) es) one.1 in
    let more = later (keys ++ key ∷ []) es rest.1 in (
      not-true (is_among key keys) one.0,
      all_both (entries_in es) (λ e p q. (not_among e.key key keys p).1) more more,
    )

here : (key : List ℕ) (e : EntryTree) (es : List EntryTree) → e.key ≡ key → is_absent e.value ≡ false → field key (e ∷ es) ≡ Some e.value
unfolding field
here key e es k a =
    ap (option_map value_of) (cond-true (is_field key e) (Some e) (find (is_field key) es) (and_from (bytes_eq e.key key) (not (is_absent e.value)) ((bytes_decides e.key key).1 k) (ap not a)))

further : (key : List ℕ) (e : EntryTree) (es : List EntryTree) → bytes_eq e.key key ≡ false → field key (e ∷ es) ≡ field key es
unfolding field
further key e es k =
    ap (option_map value_of) (cond-false (is_field key e) (Some e) (find (is_field key) es) (and_left (bytes_eq e.key key) (not (is_absent e.value)) k))

pub one_field : (key : List ℕ) (keys : List (List ℕ)) (es : EntryTrees) → are_distinct keys es ≡ true
    → AllByRecursion (λ e. e.key ≡ key → is_absent e.value ≡ false → field key (entries_in es) ≡ Some e.value) (entries_in es)
one_field key keys no_entries h = tt
one_field key keys (entry_then k line value es) h =
    let first : EntryTree = record { key = k; line = line; value = value } in
    let one = and_parts (not (is_among k keys)) (has_distinct_keys value && are_distinct (keys ++ k ∷ []) es) h in
    let rest = and_parts (has_distinct_keys value) (are_distinct (keys ++ k ∷ []) es) one.1 in (
      here key first (entries_in es),
      all_both (entries_in es)
          (λ e p q same there. further key first (entries_in es) (ap (bytes_eq k) (sym same) ∙ (not_among e.key k keys p).0) ∙ q same there)
          (later (keys ++ k ∷ []) es rest.1)
          (one_field key (keys ++ k ∷ []) es rest.1),
    )

-- the values of a map, and the items of a list, have distinct keys as well
pub values_distinct : (keys : List (List ℕ)) (es : EntryTrees) → are_distinct keys es ≡ true → AllByRecursion (λ e. has_distinct_keys e.value ≡ true) (entries_in es)
values_distinct keys no_entries h = tt
values_distinct keys (entry_then k line value es) h =
    let one = and_parts (not (is_among k keys)) (has_distinct_keys value && are_distinct (keys ++ k ∷ []) es) h in
    let rest = and_parts (has_distinct_keys value) (are_distinct (keys ++ k ∷ []) es) one.1 in
    (rest.0, values_distinct (keys ++ k ∷ []) es rest.1)

pub items_distinct : (ts : Trees) → have_distinct_keys ts ≡ true → AllByRecursion (λ t. has_distinct_keys t ≡ true) (trees_in ts)
items_distinct no_trees h = tt
items_distinct (tree_then t ts) h =
    let parts = and_parts (has_distinct_keys t) (have_distinct_keys ts) h in
    (parts.0, items_distinct ts parts.1)

-- a field that is there is the one that is found
abbrev pub OneField : List EntryTree → Type 0
OneField es = (key : List ℕ) → AllByRecursion (λ e. e.key ≡ key → is_absent e.value ≡ false → field key es ≡ Some e.value) es

pub fields_once : (t : Tree) (es : List EntryTree) → has_distinct_keys t ≡ true → fields_of t ≡ Some es → OneField es
fields_once (text_node line text quoted) es h q = cc
fields_once (list_node line ts) es h q = cc
fields_once (map_node line ets) es h q =
    let same : entries_in ets ≡ es = cc in
    subst OneField same (λ key. one_field key [] ets h)

-- what one field alone gives
apart : (a b : List ℕ) → bytes_eq a b ≡ false → bytes_eq b a ≡ false
apart a b h =
    elim (cases_Bool (bytes_eq b a)) [
      | inl same ↦ absurd (true≢false (sym ((bytes_decides a b).1 (sym ((bytes_decides b a).0 same))) ∙ h))
      | inr differ ↦ differ
    ]

none_later : {B : Type 0} (f : EntryTree → List B) (key : List ℕ) (keys : List (List ℕ)) (es : List EntryTree) → ((e : EntryTree) → bytes_eq e.key key ≡ false → f e ≡ []) →
    AllByRecursion (λ e. is_among e.key (keys ++ key ∷ []) ≡ false) es → flat_map f es ≡ []
none_later f key keys [] other h = refl
none_later f key keys (e ∷ es) other h = rw (other e (apart key e.key (not_among e.key key keys h.0).0)) (none_later f key keys es other h.1)

pub by_one : {B : Type 0} (D : List B → Type 0) (f : EntryTree → List B) (key : List ℕ) (keys : List (List ℕ)) (es : EntryTrees) → D [] →
    ((e : EntryTree) → bytes_eq e.key key ≡ false → f e ≡ []) → are_distinct keys es ≡ true → AllByRecursion (λ e. D (f e)) (entries_in es) → D (flat_map f (entries_in es))
by_one D f key keys no_entries nil other h all = nil
by_one D f key keys (entry_then k line value es) nil other h all =
    let first : EntryTree = record { key = k; line = line; value = value } in
    let one = and_parts (not (is_among k keys)) (has_distinct_keys value && are_distinct (keys ++ k ∷ []) es) h in
    let rest = and_parts (has_distinct_keys value) (are_distinct (keys ++ k ∷ []) es) one.1 in
    elim (cases_Bool (bytes_eq k key)) [
      | inl same ↦
          let is : k ≡ key = (bytes_decides k key).0 same in
          let after = none_later f k keys (entries_in es) (λ e differ. other e (ap (bytes_eq e.key) (sym is) ∙ differ)) (later (keys ++ k ∷ []) es rest.1) in
          subst D (sym (append-nil (f first)) ∙ ap (λ l. f first ++ l) (sym after)) all.0
      | inr differ ↦ subst D (ap (λ l. l ++ flat_map f (entries_in es)) (sym (other first differ))) (by_one D f key (keys ++ k ∷ []) es nil other rest.1 all.1)
    ]
