-- A file with which nothing is wrong has groups of good names and rules.
use Rattle.std.proofs.Common.{◌≡◌, ◌≢◌, ◌≤◌, ◌<◌, ◌^◌, ℕ, List, [], ◌∷◌, ◌++◌, Bool, true, false, ◌||◌, Option, Some, None, cond, map, refl, sym, ap, subst, ◌∙◌, inl, inr, is_some, arith}
use Rattle.std.specs.Prelude.{All, IfSome, codes, nat_le, unwrap_or, option_and_then}
use Rattle.std.specs.Option.{option_map}
use Rattle.std.specs.List.{AllByRecursion, IsDistinct, flat_map, filter_map, cons_option, list_any}
use Rattle.std.specs.Str.{bytes_eq}
use Rattle.std.specs.Cmp.Lexicographic.{bytes_decides}
use Rattle.std.proofs.lemmas.Bool.{cases_Bool, cond-false, leb-true}
use Rattle.std.proofs.lemmas.List.Elements.{All-from_recursion}
use Rattle.pr_words.specs.Decimals.{plain_decimal}
use Rattle.pr_words.proofs.Decimals.{printed_of_read}
use Rattle.pr_ast.specs.pr_time.SpanAnswer.{span_of}
use Rattle.pr_yaml.specs.Tree.{Tree, text_node, list_node, map_node, EntryTree, trees_in, entries_in, is_absent}
use Rattle.pr_yaml.specs.Read.{Reading, gives_tree as reads_tree, gives_fault as reads_fault, read_of}
use Rattle.pr_yaml.specs.private.Distinct.{has_distinct_keys}
use Rattle.pr_yaml.proofs.DistinctKeys.{distinct_keys}
use Rattle.pr_yaml.proofs.ReadLaws.{tree_both}
use Rattle.pr_ast.specs.Tree.{Tree as Expression}
use Rattle.pr_rulefile.specs.declared.fields.problem.Problem.{Problem}
use Rattle.pr_rulefile.specs.declared.fields.problem.ProblemKind.TheVariants.{UnknownField, DuplicateGroup}
use Rattle.pr_rulefile.specs.declared.keys.GroupField.{GroupField}
use Rattle.pr_rulefile.specs.declared.keys.GroupField.TheVariants.{Name, Interval, Limit, Labels, Rules}
use Rattle.pr_rulefile.specs.Nodes.{line_of, text_of, items_of, items_in, fields_of, field, written, text_or_empty, items_under, fields_under}
use Rattle.pr_rulefile.specs.Problems.{problem, by_text, by_items, by_fields, unless_absent}
use Rattle.pr_rulefile.specs.Scalars.{any_text, if_short, short_span, limit_of, span_under, limit_under}
use Rattle.pr_rulefile.specs.Labels.{labels_problems}
use Rattle.pr_rulefile.specs.Fields.{group_field}
use Rattle.pr_rulefile.specs.Expressions.{expression_under, tree_found}
use Rattle.pr_rulefile.specs.Rules.{naming_by, naming_of, is_alert, rule_problems, rule_in_problems, rule_with, rule_in, rule_by, rule_of}
use Rattle.spec_rules.specs.Definitions.{Rule, Group}
use Rattle.pr_rulefile.specs.Groups.{name_in, group_name, no_name, and_name, by_name, group_name_problems, is_alert_rule, has_alerts, group_value_problems, by_group_field, group_field_problems, group_in_problems, group_problems, name_of, groups_problems, rules_by, rules_under, group_in, group_by, group_of}
use Rattle.pr_rulefile.specs.File.{groups_value_problems, file_field_problems, file_problems, groups_under, file_groups, gives_file, by_problems, by_reading, rule_file_of}
use Rattle.pr_rulefile.specs.private.Sound.{HoldsOfGroups, HoldsOfRules}
use Rattle.pr_rulefile.proofs.FieldsTrees.{no_items}
use Rattle.pr_rulefile.proofs.OneField.{all_both, OneField, fields_once, items_distinct, values_distinct, by_one}
use Rattle.pr_rulefile.proofs.NoProblems.{left, right, none, or_parts, field_stands, written_stands}
use Rattle.pr_rulefile.proofs.LabelPairs.{IsFine, fine_labels}
use Rattle.pr_rulefile.proofs.SoundRules.{IsSound, sound_rule, text_there}

-- ---- rules

-- the alert of a rule
alert_is : (a b : Bool) → is_alert (naming_by a b) ≡ b
alert_is true true = refl
alert_is true false = refl
alert_is false true = refl
alert_is false false = refl

alert_there : (t : Tree) (es : List EntryTree) → fields_of t ≡ Some es → is_alert (naming_of es) ≡ true → is_alert_rule t ≡ true
unfolding naming_of is_alert_rule
alert_there t es q h =
    ap (λ o. is_some (written (codes "alert") (unwrap_or o []))) q ∙ (sym (alert_is (is_some (written (codes "record") es)) (is_some (written (codes "alert") es))) ∙ h)

one_rule : (group : List EntryTree) (t : Tree) (rest : List Rule) → AllByRecursion (IsFine (has_alerts group)) (fields_under (field (codes "labels") group)) →
    (is_alert_rule t ≡ true → has_alerts group ≡ true) → rule_problems t ≡ [] → AllByRecursion IsSound rest → AllByRecursion IsSound (cons_option (rule_of group t) rest)
unfolding rule_problems rule_of rule_in
one_rule group t rest g a h all = by (fields_of t) refl h where
  made : (es : List EntryTree) (o : Option Expression) → fields_of t ≡ Some es → rule_in_problems (line_of t) es ≡ [] → tree_found (expression_under (line_of t) (written (codes "expr") es)) ≡ o →
      AllByRecursion IsSound (cons_option (option_map (rule_with group es) o) rest)
  made es None q h e = all
  made es (Some x) q h e = (sound_rule (has_alerts group) group es (line_of t) x g (λ n. a (alert_there t es q n)) h e, all)

  by : (o : Option (List EntryTree)) → fields_of t ≡ o → by_fields (rule_in_problems (line_of t)) (line_of t) o ≡ [] → AllByRecursion IsSound (cons_option (rule_by group (line_of t) o) rest)
  by None q h = cc
  by (Some es) q h = made es (tree_found (expression_under (line_of t) (written (codes "expr") es))) q h refl

each_rule : (group : List EntryTree) (ts : List Tree) → AllByRecursion (IsFine (has_alerts group)) (fields_under (field (codes "labels") group)) →
    AllByRecursion (λ t. is_alert_rule t ≡ true → has_alerts group ≡ true) ts → flat_map rule_problems ts ≡ [] → AllByRecursion IsSound (filter_map (rule_of group) ts)
each_rule group [] g a h = tt
each_rule group (t ∷ ts) g a h =
    one_rule group t (filter_map (rule_of group) ts) g a.0 (left (rule_problems t) (flat_map rule_problems ts) h)
    (each_rule group ts g a.1 (right (rule_problems t) (flat_map rule_problems ts) h))

-- ---- the fields of a group

rules_key : (key : List ℕ) → group_field key ≡ Some Rules → key ≡ codes "rules"
rules_key key h = by (bytes_eq key (codes "name")) (bytes_eq key (codes "interval")) (bytes_eq key (codes "limit")) (bytes_eq key (codes "labels")) (bytes_eq key (codes "rules")) (bytes_decides key (codes "rules")).0 h where
  by : (a b c d e : Bool) → (e ≡ true → key ≡ codes "rules") → cond a (Some Name) (cond b (Some Interval) (cond c (Some Limit) (cond d (Some Labels) (cond e (Some Rules) None)))) ≡ Some Rules → key ≡ codes "rules"
  by true b c d e k h = cc
  by false true c d e k h = cc
  by false false true d e k h = cc
  by false false false true e k h = cc
  by false false false false true k h = k refl
  by false false false false false k h = cc

group_field_fine : (alerts : Bool) (e : EntryTree) (f : GroupField) → group_field e.key ≡ Some f → is_absent e.value ≡ false → group_field_problems alerts e ≡ [] → group_value_problems alerts e.value f ≡ []
unfolding group_field_problems
group_field_fine alerts e f k a h =
    let Q : Option GroupField → Type 0 = λ o. by_group_field alerts e o ≡ [] in
    let at : unless_absent e.value (group_value_problems alerts e.value f) ≡ [] = subst Q k h in
    sym (cond-false (is_absent e.value) [] (group_value_problems alerts e.value f) a) ∙ at

abbrev Fields : Bool → List EntryTree → Type 0
Fields alerts es = AllByRecursion (λ e. group_field_problems alerts e ≡ []) es

group_labels : (alerts : Bool) (es : List EntryTree) → Fields alerts es → AllByRecursion (IsFine alerts) (fields_under (field (codes "labels") es))
unfolding group_value_problems
group_labels alerts es all = by (field (codes "labels") es) refl where
  by : (o : Option Tree) → field (codes "labels") es ≡ o → AllByRecursion (IsFine alerts) (fields_under o)
  by None q = tt
  by (Some v) q =
      let st = field_stands (λ e. group_field_problems alerts e ≡ []) (codes "labels") es v all q in
      let fine = group_field_fine alerts st.entry Labels (ap group_field st.named) st.there st.has in
      fine_labels alerts v (subst (λ t. labels_problems alerts t ≡ []) st.value fine)

or_later : (a b : Bool) → b ≡ true → a || b ≡ true
or_later true b h = refl
or_later false b h = h

any_of : (p : Tree → Bool) (ts : List Tree) → AllByRecursion (λ t. p t ≡ true → list_any p ts ≡ true) ts
any_of p [] = tt
any_of p (t ∷ ts) = (λ h. rw h refl, all_both ts (λ u f g h. or_later (p t) (list_any p ts) (f h)) (any_of p ts) (any_of p ts))

-- the alerts of a group, where its rules stand there
alerts_there : (es : List EntryTree) (v : Tree) (ts : List Tree) → field (codes "rules") es ≡ Some v → items_of v ≡ Some ts → AllByRecursion (λ t. is_alert_rule t ≡ true → has_alerts es ≡ true) ts
unfolding has_alerts
alerts_there es v ts q i =
    let same : list_any is_alert_rule (items_under (field (codes "rules") es)) ≡ list_any is_alert_rule ts = ap (λ o. list_any is_alert_rule (items_under o)) q ∙ ap (λ o. list_any is_alert_rule (unwrap_or o [])) i in
    let each = any_of is_alert_rule ts in
    all_both ts (λ t f g h. same ∙ f h) each each

field_rules : (es : List EntryTree) (e : EntryTree) → AllByRecursion (IsFine (has_alerts es)) (fields_under (field (codes "labels") es)) → group_field_problems (has_alerts es) e ≡ [] →
    (e.key ≡ codes "rules" → is_absent e.value ≡ false → field (codes "rules") es ≡ Some e.value) → AllByRecursion IsSound (rules_under es e)
unfolding rules_under group_value_problems
field_rules es e g h once = by (group_field e.key) refl where
  items : is_absent e.value ≡ false → group_field e.key ≡ Some Rules → (o : Option (List Tree)) → items_of e.value ≡ o → by_items (flat_map rule_problems) (line_of e.value) o ≡ [] →
      AllByRecursion IsSound (filter_map (rule_of es) (unwrap_or o []))
  items a k None i w = cc
  items a k (Some ts) i w = each_rule es ts g (alerts_there es e.value ts (once (rules_key e.key k) a) i) w

  by : (f : Option GroupField) → group_field e.key ≡ f → AllByRecursion IsSound (rules_by es e.value f)
  by None k = tt
  by (Some Name) k = tt
  by (Some Interval) k = tt
  by (Some Limit) k = tt
  by (Some Labels) k = tt
  by (Some Rules) k =
      elim (cases_Bool (is_absent e.value)) [
        | inl a ↦ subst (λ ts. AllByRecursion IsSound (filter_map (rule_of es) ts)) (sym (no_items e.value a)) tt
        | inr a ↦ items a k (items_of e.value) refl (group_field_fine (has_alerts es) e Rules k a h)
      ]

all_append : {X : Type 0} (P : X → Type 0) (xs ys : List X) → AllByRecursion P xs → AllByRecursion P ys → AllByRecursion P (xs ++ ys)
all_append P [] ys h k = k
all_append P (x ∷ xs) ys h k = (h.0, all_append P xs ys h.1 k)

all_flat : {X Y : Type 0} (P : Y → Type 0) (f : X → List Y) (xs : List X) → AllByRecursion (λ x. AllByRecursion P (f x)) xs → AllByRecursion P (flat_map f xs)
all_flat P f [] h = tt
all_flat P f (x ∷ xs) h = all_append P (f x) (flat_map f xs) h.0 (all_flat P f xs h.1)

group_rules : (es : List EntryTree) → OneField es → Fields (has_alerts es) es → AllByRecursion IsSound (flat_map (rules_under es) es)
group_rules es once all =
    all_flat IsSound (rules_under es) es
    (all_both es (λ e h q. field_rules es e (group_labels (has_alerts es) es all) h q) all (once (codes "rules")))

-- ---- groups

pub record IsSoundGroup (g : Group) : Type 0 where
  pub named : g.name ≢ []
  pub interval : IfSome g.interval (λ ms. ms ≤ 2 ^ 40)
  pub limit : g.limit < 2 ^ 32
  pub rules : AllByRecursion IsSound g.rules

short_span_is : (text : List ℕ) → IfSome (short_span text) (λ ms. ms ≤ 2 ^ 40)
unfolding short_span
short_span_is text = by (span_of text) where
  at : (ms : ℕ) (b : Bool) → nat_le ms (2 ^ 40) ≡ b → IfSome (cond b (Some ms) None) (λ n. n ≤ 2 ^ 40)
  at ms true e = leb-true ms (2 ^ 40) e
  at ms false e = tt

  by : (o : Option ℕ) → IfSome (if_short o) (λ n. n ≤ 2 ^ 40)
  by None = tt
  by (Some ms) = at ms (nat_le ms (2 ^ 40)) refl

short_interval : (v : Option Tree) → IfSome (span_under v) (λ ms. ms ≤ 2 ^ 40)
unfolding span_under
short_interval None = tt
short_interval (Some t) = by (text_of t) where
  by : (o : Option (List ℕ)) → IfSome (option_and_then short_span o) (λ ms. ms ≤ 2 ^ 40)
  by None = tt
  by (Some text) = short_span_is text

small_limit : (v : Option Tree) → unwrap_or (limit_under v) 0 < 2 ^ 32
unfolding limit_under limit_of
small_limit None = omega arith
small_limit (Some t) = by (text_of t) where
  at : (text : List ℕ) (o : Option ℕ) → plain_decimal (2 ^ 32) text ≡ o → unwrap_or o 0 < 2 ^ 32
  at text None e = omega arith
  at text (Some n) e = (printed_of_read (2 ^ 32) n text (omega arith) e).0

  by : (o : Option (List ℕ)) → unwrap_or (option_and_then limit_of o) 0 < 2 ^ 32
  by None = omega arith
  by (Some text) = at text (plain_decimal (2 ^ 32) text) refl

new_text : (before : List ℕ → Bool) (line : ℕ) (o : Option (List ℕ)) → by_text any_text line o ≡ [] → by_name before line o ≡ [] → (before (unwrap_or o []) ≡ false) × (o ≡ Some (unwrap_or o []))
new_text before line None t h = cc
new_text before line (Some name) t h = by (before name) h where
  by : (b : Bool) → cond b (problem line (DuplicateGroup name) ∷ []) [] ≡ [] → (b ≡ false) × (Some name ≡ Some name)
  by true h = cc
  by false h = (refl, refl)

-- what is told of the name of a group
record HasName (before : List ℕ → Bool) (es : List EntryTree) : Type 0 where
  name : List ℕ
  is : text_or_empty (written (codes "name") es) ≡ name
  told : group_name es ≡ Some name
  there : name ≢ []
  new : before name ≡ false

has_name : (before : List ℕ → Bool) (line : ℕ) (alerts : Bool) (es : List EntryTree) → group_name_problems before line (written (codes "name") es) ≡ [] → Fields alerts es → HasName before es
unfolding group_name_problems group_name group_value_problems
has_name before line alerts es h all = by (written (codes "name") es) refl h where
  by : (o : Option Tree) → written (codes "name") es ≡ o → group_name_problems before line o ≡ [] → HasName before es
  by None q h = cc
  by (Some v) q h =
      let st = written_stands (λ e. group_field_problems alerts e ≡ []) (codes "name") es v all q in
      let fine = group_field_fine alerts st.0.entry Name (ap group_field st.0.named) st.0.there st.0.has in
      let text : by_text any_text (line_of v) (text_of v) ≡ [] = subst (λ t. by_text any_text (line_of t) (text_of t) ≡ []) st.0.value fine in
      let fresh = new_text before (line_of v) (text_of v) text h in
      record { name = unwrap_or (text_of v) []; is = ap text_or_empty q; told = ap name_in q ∙ fresh.1; there = text_there (line_of v) (text_of v) st.1 text; new = fresh.0 }

pub record AreSoundGroups (before : List ℕ → Bool) (gs : List Group) : Type 0 where
  pub each : AllByRecursion IsSoundGroup gs
  pub new : AllByRecursion (λ g. before g.name ≡ false) gs
  pub distinct : IsDistinct bytes_eq (map (λ g. g.name) gs)

all_map : {X Y : Type 0} (P : Y → Type 0) (f : X → Y) (xs : List X) → AllByRecursion (λ x. P (f x)) xs → AllByRecursion P (map f xs)
all_map P f [] h = tt
all_map P f (x ∷ xs) h = (h.0, all_map P f xs h.1)

no_sound_groups : (before : List ℕ → Bool) → AreSoundGroups before []
unfolding IsDistinct
no_sound_groups before = record { each = tt; new = tt; distinct = tt }

one_more : (before : List ℕ → Bool) (g : Group) (gs : List Group) → IsSoundGroup g → before g.name ≡ false → AreSoundGroups (and_name before (Some g.name)) gs → AreSoundGroups before (g ∷ gs)
unfolding IsDistinct
one_more before g gs h n more =
    let parts = all_both {R = λ h. (before h.name ≡ false) × (bytes_eq g.name h.name ≡ false)} gs (λ h p q. or_parts (before h.name) (bytes_eq g.name h.name) p) more.new more.new in
    record {
      each = (h, more.each);
      new = (n, all_both gs (λ h p q. p.0) parts parts);
      distinct = (all_map (λ name. bytes_eq g.name name ≡ false) (λ h. h.name) gs (all_both gs (λ h p q. p.1) parts parts), more.distinct);
    }

sound_group : (before : List ℕ → Bool) (line : ℕ) (es : List EntryTree) → OneField es → group_in_problems before line es ≡ [] → IsSoundGroup (group_in es) × HasName before es
unfolding group_in_problems group_in
sound_group before line es once h =
    let alerts = has_alerts es in
    let rest = flat_map (group_field_problems alerts) es in
    let naming = group_name_problems before line (written (codes "name") es) in
    let all = none (group_field_problems alerts) es (right naming rest h) in
    let name = has_name before line alerts es (left naming rest h) all in (
      record {
        named = λ q. name.there (sym name.is ∙ q);
        interval = short_interval (field (codes "interval") es);
        limit = small_limit (field (codes "limit") es);
        rules = group_rules es once all;
      },
      name,
    )

pub sound_groups : (before : List ℕ → Bool) (ts : List Tree) → AllByRecursion (λ t. has_distinct_keys t ≡ true) ts → groups_problems before ts ≡ [] → AreSoundGroups before (filter_map group_of ts)
unfolding groups_problems group_problems group_of name_of group_in
sound_groups before [] d h = no_sound_groups before
sound_groups before (t ∷ ts) d h =
    let rest = groups_problems (and_name before (name_of t)) ts in
    by (fields_of t) refl (left (group_problems before t) rest h) (right (group_problems before t) rest h) (λ b r. sound_groups b ts d.1 r)
  where
    by : (o : Option (List EntryTree)) → fields_of t ≡ o → by_fields (group_in_problems before (line_of t)) (line_of t) o ≡ [] → groups_problems (and_name before (group_name (unwrap_or o []))) ts ≡ [] →
        ((b : List ℕ → Bool) → groups_problems b ts ≡ [] → AreSoundGroups b (filter_map group_of ts)) → AreSoundGroups before (cons_option (group_by o) (filter_map group_of ts))
    by None q w r further = cc
    by (Some es) q w r further =
        let sound = sound_group before (line_of t) es (fields_once t es d.0 q) w in
        let told : group_name es ≡ Some (group_in es).name = sound.1.told ∙ ap Some (sym sound.1.is) in
        let more = further (and_name before (Some (group_in es).name)) (subst (λ n. groups_problems (and_name before n) ts ≡ []) told r) in
        one_more before (group_in es) (filter_map group_of ts) sound.0 (ap before sound.1.is ∙ sound.1.new) more

-- ---- files

items_alike : (t : Tree) (ts : List Tree) → has_distinct_keys t ≡ true → items_of t ≡ Some ts → AllByRecursion (λ u. has_distinct_keys u ≡ true) ts
items_alike (text_node line text quoted) ts h q = cc
items_alike (list_node line us) ts h q =
    let same : trees_in us ≡ ts = cc in
    subst (AllByRecursion (λ u. has_distinct_keys u ≡ true)) same (items_distinct us h)
items_alike (map_node line es) ts h q = cc

value_groups : (t : Tree) → has_distinct_keys t ≡ true → unless_absent t (groups_value_problems t) ≡ [] → AreSoundGroups no_name (filter_map group_of (items_in t))
value_groups t d h = by (is_absent t) refl h where
  items : (o : Option (List Tree)) → items_of t ≡ o → by_items (groups_problems no_name) (line_of t) o ≡ [] → AreSoundGroups no_name (filter_map group_of (unwrap_or o []))
  items None q w = cc
  items (Some ts) q w = sound_groups no_name ts (items_alike t ts d q) w

  by : (b : Bool) → is_absent t ≡ b → cond b [] (groups_value_problems t) ≡ [] → AreSoundGroups no_name (filter_map group_of (items_in t))
  by true a w = subst (λ ts. AreSoundGroups no_name (filter_map group_of ts)) (sym (no_items t a)) (no_sound_groups no_name)
  by false a w = items (items_of t) refl w

field_groups : (e : EntryTree) → has_distinct_keys e.value ≡ true → file_field_problems e ≡ [] → AreSoundGroups no_name (groups_under e)
unfolding file_field_problems groups_under
field_groups e d h = by (bytes_eq e.key (codes "groups")) h where
  by : (b : Bool) → cond b (unless_absent e.value (groups_value_problems e.value)) (problem e.line (UnknownField e.key) ∷ []) ≡ [] → AreSoundGroups no_name (cond b (filter_map group_of (items_in e.value)) [])
  by true h = value_groups e.value d h
  by false h = no_sound_groups no_name

other_field : (e : EntryTree) → bytes_eq e.key (codes "groups") ≡ false → groups_under e ≡ []
unfolding groups_under
other_field e h = cond-false (bytes_eq e.key (codes "groups")) (filter_map group_of (items_in e.value)) [] h

tree_groups : (t : Tree) → has_distinct_keys t ≡ true → file_problems t ≡ [] → AreSoundGroups no_name (file_groups t)
unfolding file_problems file_groups
tree_groups (text_node line text quoted) d h = no_sound_groups no_name
tree_groups (list_node line ts) d h = no_sound_groups no_name
tree_groups (map_node line es) d h =
    by_one (AreSoundGroups no_name) groups_under (codes "groups") [] es (no_sound_groups no_name) other_field d
    (all_both (entries_in es) (λ e p q. field_groups e p q) (values_distinct [] es d) (none file_field_problems (entries_in es) h))

-- the groups of a text that is a rule file
pub sound_file : (text : List ℕ) (groups : List Group) → rule_file_of text ≡ gives_file groups → AreSoundGroups no_name groups
unfolding rule_file_of
sound_file text groups h = by (read_of text) refl h where
  whole : (t : Tree) (ps : List Problem) → has_distinct_keys t ≡ true → file_problems t ≡ ps → by_problems ps (file_groups t) ≡ gives_file groups → AreSoundGroups no_name groups
  whole t [] d q h =
      let same : file_groups t ≡ groups = cc in
      subst (AreSoundGroups no_name) same (tree_groups t d q)
  whole t (p ∷ ps) d q h = cc

  by : (r : Reading) → read_of text ≡ r → by_reading r ≡ gives_file groups → AreSoundGroups no_name groups
  by (reads_tree t) q h = whole t (file_problems t) (distinct_keys text t ((tree_both text t).0 q)) refl h
  by (reads_fault line kind) q h = cc

-- so of each group, and of each rule
weaker : {X : Type 0} {P Q : X → Type 0} → ((x : X) → P x → Q x) → (xs : List X) → AllByRecursion P xs → All Q xs
weaker {X} {P} {Q} f xs h = All-from_recursion Q xs (all_both xs (λ x p q. f x p) h h)

pub all_groups : {P : Group → Type 0} → ((g : Group) → IsSoundGroup g → P g) → HoldsOfGroups P
all_groups f text groups h = weaker f groups (sound_file text groups h).each

pub all_rules : {P : Rule → Type 0} → ((r : Rule) → IsSound r → P r) → HoldsOfRules P
all_rules f = all_groups (λ g h. weaker f g.rules h.rules)
