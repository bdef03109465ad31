-- A rule with which nothing is wrong has a name, an expression with a type, labels and annotations.
use Rattle.std.proofs.Common.{◌≡◌, ◌≢◌, ◌≤◌, ◌^◌, ℕ, List, [], ◌∷◌, ◌++◌, Bool, true, false, not, Option, Some, None, Ok, Err, Result, cond, refl, sym, ap, subst, ◌∙◌, is_some, arith}
use Rattle.std.specs.Prelude.{codes, nat_le, unwrap_or, option_and_then}
use Rattle.std.specs.List.{AllByRecursion, flat_map}
use Rattle.std.proofs.lemmas.Bool.{cond-false, leb-true}
use Rattle.pr_labels.specs.Names.{is_metric_name}
use Rattle.pr_ast.specs.pr_time.SpanAnswer.{span_of}
use Rattle.pr_yaml.specs.Tree.{Tree, EntryTree, is_absent}
use Rattle.pr_ast.specs.Tree.{Tree as Expression}
use Rattle.pr_parse.specs.Parsed.{Parsed, gives_tree, gives_lex_fault, gives_fault, parsed}
use Rattle.pr_parse.specs.pr_types.declared.kind.ValueType.{ValueType}
use Rattle.pr_parse.specs.pr_types.declared.kind.TypeFault.{TypeFault}
use Rattle.pr_parse.specs.pr_types.Typed.{checked}
use Rattle.pr_rulefile.specs.declared.keys.RuleField.{RuleField}
use Rattle.pr_rulefile.specs.declared.keys.RuleField.TheVariants as kind
use Rattle.pr_rulefile.specs.declared.keys.Naming.{Naming}
use Rattle.pr_rulefile.specs.declared.keys.Naming.TheVariants.{Neither, Record, Alert, Both}
use Rattle.pr_rulefile.specs.Nodes.{line_of, text_of, field, fields_of, fields_in, written, is_empty_text, text_or_empty, fields_under}
use Rattle.pr_rulefile.specs.Problems.{by_text, by_fields, unless_absent}
use Rattle.pr_rulefile.specs.Scalars.{any_text, if_short, short_span, span_under}
use Rattle.pr_rulefile.specs.Labels.{labels_problems, put_labels, pairs_of, HaveFreeNames}
use Rattle.spec_rules.specs.Definitions.{AreTemplates, Rule, name_key}
use Rattle.pr_rulefile.specs.Fields.{rule_field}
use Rattle.pr_parse.specs.Expressions.{expression_by, expression_of, typed_tree}
use Rattle.pr_rulefile.specs.Expressions.{expression_answer, typed_expression, on_line, by_written, expression_under, expression_problems, tree_found}
use Rattle.pr_rulefile.specs.Rules.{naming_by, naming_of, is_alert, naming_problems, recorded_problems, rule_value_problems, by_rule_field, rule_field_problems, rule_in_problems, rule_problems, rule_labels, rule_notes, rule_with}
use Rattle.pr_rulefile.specs.private.Sound.{IsNamed, IsTyped}
use Rattle.pr_rulefile.proofs.NoProblems.{left, right, none, unless, field_stands, written_stands}
use Rattle.pr_rulefile.proofs.LabelPairs.{IsFine, fine_labels, fine_fewer, AreKept, kept_put, kept_none, free_names, are_templates}

pub record IsSound (r : Rule) : Type 0 where
  pub named : IsNamed r
  pub typed : IsTyped r.expr
  pub labels : HaveFreeNames r.labels
  pub notes : HaveFreeNames r.notes
  pub templates : r.alert ≡ true → AreTemplates r.labels × AreTemplates r.notes
  pub recording : r.alert ≡ false → (r.hold ≡ 0) × (r.keep ≡ 0) × (r.notes ≡ [])
  pub hold : r.hold ≤ 2 ^ 40
  pub keep : r.keep ≤ 2 ^ 40

-- a field of a rule, which is there
abbrev Fields : Naming → List EntryTree → Type 0
Fields n es = AllByRecursion (λ e. rule_field_problems n e ≡ []) es

field_fine : (n : Naming) (e : EntryTree) (f : RuleField) → rule_field e.key ≡ Some f → is_absent e.value ≡ false → rule_field_problems n e ≡ [] → rule_value_problems n e f ≡ []
unfolding rule_field_problems
field_fine n e f k a h =
    let Q : Option RuleField → Type 0 = λ o. by_rule_field n e o ≡ [] in
    let at : unless_absent e.value (rule_value_problems n e f) ≡ [] = subst Q k h in
    sym (cond-false (is_absent e.value) [] (rule_value_problems n e f) a) ∙ at

-- names
by_first : (a b : Bool) → naming_by a b ≡ Record → a ≡ true
by_first true b h = refl
by_first false true h = cc
by_first false false h = cc

by_second : (a b : Bool) → naming_by a b ≡ Alert → b ≡ true
by_second a true h = refl
by_second true false h = cc
by_second false false h = cc

metric_in : (line : ℕ) (o : Option (List ℕ)) → is_empty_text o ≡ false → by_text recorded_problems line o ≡ [] → is_metric_name (unwrap_or o []) ≡ true
metric_in line None e h = cc
metric_in line (Some []) e h = cc
metric_in line (Some (b ∷ bs)) e h = unless (is_metric_name (b ∷ bs)) _ h

pub text_there : (line : ℕ) (o : Option (List ℕ)) → is_empty_text o ≡ false → by_text any_text line o ≡ [] → unwrap_or o [] ≢ []
text_there line None e h = cc
text_there line (Some []) e h = cc
text_there line (Some (b ∷ bs)) e h = λ q. cc

recorded : (es : List EntryTree) → naming_of es ≡ Record → Fields Record es → is_metric_name (text_or_empty (written (codes "record") es)) ≡ true
unfolding naming_of rule_value_problems
recorded es n all = by (written (codes "record") es) refl (by_first (is_some (written (codes "record") es)) (is_some (written (codes "alert") es)) n) where
  by : (o : Option Tree) → written (codes "record") es ≡ o → is_some o ≡ true → is_metric_name (text_or_empty o) ≡ true
  by None q s = cc
  by (Some v) q s =
      let st = written_stands (λ e. rule_field_problems Record e ≡ []) (codes "record") es v all q in
      let fine = field_fine Record st.0.entry kind.Record (ap rule_field st.0.named) st.0.there st.0.has in
      metric_in (line_of v) (text_of v) st.1 (subst (λ t. by_text recorded_problems (line_of t) (text_of t) ≡ []) st.0.value fine)

alerting : (es : List EntryTree) → naming_of es ≡ Alert → Fields Alert es → text_or_empty (written (codes "alert") es) ≢ []
unfolding naming_of rule_value_problems
alerting es n all = by (written (codes "alert") es) refl (by_second (is_some (written (codes "record") es)) (is_some (written (codes "alert") es)) n) where
  by : (o : Option Tree) → written (codes "alert") es ≡ o → is_some o ≡ true → text_or_empty o ≢ []
  by None q s = cc
  by (Some v) q s =
      let st = written_stands (λ e. rule_field_problems Alert e ≡ []) (codes "alert") es v all q in
      let fine = field_fine Alert st.0.entry kind.Alert (ap rule_field st.0.named) st.0.there st.0.has in
      text_there (line_of v) (text_of v) st.1 (subst (λ t. by_text any_text (line_of t) (text_of t) ≡ []) st.0.value fine)

-- the expression
typed_text : (text : List ℕ) (line : ℕ) (t : Expression) → tree_found (on_line line (typed_expression text)) ≡ Some t → IsTyped t
unfolding typed_expression expression_of
typed_text text line t h = by (parsed text) refl h where
  in_tree : (u : Expression) (r : Result ValueType TypeFault) → parsed text ≡ gives_tree u → checked u ≡ r → tree_found (on_line line (expression_answer (typed_tree u r))) ≡ Some t → IsTyped t
  in_tree u (Ok type) p c h =
      let same : u ≡ t = cc in
      (text, type, p ∙ ap gives_tree same, ap checked (sym same) ∙ c)
  in_tree u (Err f) p c h = cc

  by : (p : Parsed) → parsed text ≡ p → tree_found (on_line line (expression_answer (expression_by p))) ≡ Some t → IsTyped t
  by (gives_tree u) p h = in_tree u (checked u) p refl h
  by (gives_lex_fault at kind) p h = cc
  by (gives_fault at kind) p h = cc

typed_under : (line : ℕ) (o : Option Tree) (t : Expression) → tree_found (expression_under line o) ≡ Some t → IsTyped t
unfolding expression_under
typed_under line None t h = cc
typed_under line (Some n) t h = by (text_of n) h where
  by : (o : Option (List ℕ)) → tree_found (by_written (line_of n) o) ≡ Some t → IsTyped t
  by None h = cc
  by (Some text) h = typed_text text (line_of n) t h

-- labels and annotations
label_fields : (n : Naming) (es : List EntryTree) → Fields n es → AllByRecursion (IsFine (is_alert n)) (fields_under (field (codes "labels") es))
unfolding rule_value_problems
label_fields n es all = by (field (codes "labels") es) refl where
  by : (o : Option Tree) → field (codes "labels") es ≡ o → AllByRecursion (IsFine (is_alert n)) (fields_under o)
  by None q = tt
  by (Some v) q =
      let st = field_stands (λ e. rule_field_problems n e ≡ []) (codes "labels") es v all q in
      let fine = field_fine n st.entry kind.Labels (ap rule_field st.named) st.there st.has in
      fine_labels (is_alert n) v (subst (λ t. labels_problems (is_alert n) t ≡ []) st.value fine)

note_fields : (es : List EntryTree) → Fields Alert es → AllByRecursion (IsFine true) (fields_under (field (codes "annotations") es))
unfolding rule_value_problems
note_fields es all = by (field (codes "annotations") es) refl where
  by : (o : Option Tree) → field (codes "annotations") es ≡ o → AllByRecursion (IsFine true) (fields_under o)
  by None q = tt
  by (Some v) q =
      let st = field_stands (λ e. rule_field_problems Alert e ≡ []) (codes "annotations") es v all q in
      let fine = field_fine Alert st.entry kind.Annotations (ap rule_field st.named) st.there st.has in
      fine_labels true v (subst (λ t. labels_problems true t ≡ []) st.value fine)

-- a rule that records has no fields of alerts
no_notes : (es : List EntryTree) → Fields Record es → field (codes "annotations") es ≡ None
unfolding rule_value_problems
no_notes es all = by (field (codes "annotations") es) refl where
  by : (o : Option Tree) → field (codes "annotations") es ≡ o → o ≡ None
  by None q = refl
  by (Some v) q =
      let st = field_stands (λ e. rule_field_problems Record e ≡ []) (codes "annotations") es v all q in
      let fine = field_fine Record st.entry kind.Annotations (ap rule_field st.named) st.there st.has in cc

no_hold : (es : List EntryTree) → Fields Record es → field (codes "for") es ≡ None
unfolding rule_value_problems
no_hold es all = by (field (codes "for") es) refl where
  by : (o : Option Tree) → field (codes "for") es ≡ o → o ≡ None
  by None q = refl
  by (Some v) q =
      let st = field_stands (λ e. rule_field_problems Record e ≡ []) (codes "for") es v all q in
      let fine = field_fine Record st.entry kind.For (ap rule_field st.named) st.there st.has in cc

no_keep : (es : List EntryTree) → Fields Record es → field (codes "keep_firing_for") es ≡ None
unfolding rule_value_problems
no_keep es all = by (field (codes "keep_firing_for") es) refl where
  by : (o : Option Tree) → field (codes "keep_firing_for") es ≡ o → o ≡ None
  by None q = refl
  by (Some v) q =
      let st = field_stands (λ e. rule_field_problems Record e ≡ []) (codes "keep_firing_for") es v all q in
      let fine = field_fine Record st.entry kind.KeepFiringFor (ap rule_field st.named) st.there st.has in cc

-- lengths of time
pub short : (o : Option ℕ) → unwrap_or (if_short o) 0 ≤ 2 ^ 40
short None = omega arith
short (Some ms) = by (nat_le ms (2 ^ 40)) refl where
  by : (b : Bool) → nat_le ms (2 ^ 40) ≡ b → unwrap_or (cond b (Some ms) None) 0 ≤ 2 ^ 40
  by true e = leb-true ms (2 ^ 40) e
  by false e = omega arith

pub short_under : (v : Option Tree) → unwrap_or (span_under v) 0 ≤ 2 ^ 40
unfolding span_under short_span
short_under None = omega arith
short_under (Some t) = by (text_of t) where
  by : (o : Option (List ℕ)) → unwrap_or (option_and_then short_span o) 0 ≤ 2 ^ 40
  by None = omega arith
  by (Some text) = short (span_of text)

-- the rule
abbrev made : List EntryTree → List EntryTree → Expression → Naming → Rule
made group es t n = record {
  name = text_or_empty (written (name_key (is_alert n)) es);
  alert = is_alert n;
  expr = t;
  labels = rule_labels group es;
  hold = unwrap_or (span_under (field (codes "for") es)) 0;
  keep = unwrap_or (span_under (field (codes "keep_firing_for") es)) 0;
  notes = rule_notes es;
}

kept_labels : (n : Naming) (group es : List EntryTree) → AllByRecursion (IsFine (is_alert n)) (fields_under (field (codes "labels") group)) → Fields n es
    → AreKept (is_alert n) (put_labels (put_labels [] (fields_under (field (codes "labels") group))) (fields_under (field (codes "labels") es)))
kept_labels n group es g all =
    kept_put (is_alert n) (put_labels [] (fields_under (field (codes "labels") group))) (fields_under (field (codes "labels") es)) (label_fields n es all)
    (kept_put (is_alert n) [] (fields_under (field (codes "labels") group)) g (kept_none (is_alert n)))

no_pairs : pairs_of (put_labels [] (fields_under None)) ≡ []
unfolding put_labels
no_pairs = refl

sound_by : (group es : List EntryTree) (line : ℕ) (t : Expression) (n : Naming) → naming_of es ≡ n → naming_problems line n ≡ [] → Fields n es →
    AllByRecursion (IsFine (is_alert n)) (fields_under (field (codes "labels") group)) → IsTyped t → IsSound (made group es t n)
unfolding rule_labels rule_notes span_under
sound_by group es line t Neither q w all g typed = cc
sound_by group es line t Both q w all g typed = cc
sound_by group es line t Record q w all g typed =
    let ls = kept_labels Record group es g all in
    let none : rule_notes es ≡ [] = ap (λ o. pairs_of (put_labels [] (fields_under o))) (no_notes es all) ∙ no_pairs in
    let nothing = kept_none false in
    record {
      named = recorded es q all;
      typed = typed;
      labels = free_names false _ ls;
      notes = subst HaveFreeNames (sym none) (free_names false [] nothing);
      templates = λ h. cc;
      recording = λ h. (ap (λ o. unwrap_or (span_under o) 0) (no_hold es all), ap (λ o. unwrap_or (span_under o) 0) (no_keep es all), none);
      hold = short_under (field (codes "for") es);
      keep = short_under (field (codes "keep_firing_for") es);
    }
sound_by group es line t Alert q w all g typed =
    let ls = kept_labels Alert group es g all in
    let ns = kept_put true [] (fields_under (field (codes "annotations") es)) (note_fields es all) (kept_none true) in
    record {
      named = alerting es q all;
      typed = typed;
      labels = free_names true _ ls;
      notes = free_names true _ ns;
      templates = λ h. (are_templates _ ls, are_templates _ ns);
      recording = λ h. cc;
      hold = short_under (field (codes "for") es);
      keep = short_under (field (codes "keep_firing_for") es);
    }

pub sound_rule : (alerts : Bool) (group es : List EntryTree) (line : ℕ) (t : Expression) → AllByRecursion (IsFine alerts) (fields_under (field (codes "labels") group)) →
    (is_alert (naming_of es) ≡ true → alerts ≡ true) → rule_in_problems line es ≡ [] → tree_found (expression_under line (written (codes "expr") es)) ≡ Some t → IsSound (rule_with group es t)
unfolding rule_in_problems rule_with
sound_rule alerts group es line t g a h typed =
    let n = naming_of es in
    let under = expression_under line (written (codes "expr") es) in
    let rest = flat_map (rule_field_problems n) es in
    let later = right (naming_problems line n) (expression_problems under ++ rest) h in
    sound_by group es line t n refl (left (naming_problems line n) (expression_problems under ++ rest) h) (none (rule_field_problems n) es (right (expression_problems under) rest later))
    (fine_fewer alerts (is_alert n) (fields_under (field (codes "labels") group)) a g)
    (typed_under line (written (codes "expr") es) t typed)

-- a rule has one of both names
one_by : (line : ℕ) (a b : Bool) → naming_problems line (naming_by a b) ≡ [] → a ≡ not b
one_by line true true h = cc
one_by line true false h = refl
one_by line false true h = refl
one_by line false false h = cc

pub one_of_both : (t : Tree) → rule_problems t ≡ [] → is_some (written (codes "record") (fields_in t)) ≡ not (is_some (written (codes "alert") (fields_in t)))
unfolding rule_problems rule_in_problems naming_of
one_of_both t h = by (fields_of t) h where
  by : (o : Option (List EntryTree)) → by_fields (rule_in_problems (line_of t)) (line_of t) o ≡ [] → is_some (written (codes "record") (unwrap_or o [])) ≡ not (is_some (written (codes "alert") (unwrap_or o [])))
  by None h = cc
  by (Some es) h =
      one_by (line_of t) (is_some (written (codes "record") es)) (is_some (written (codes "alert") es))
      (left (naming_problems (line_of t) (naming_of es)) (expression_problems (expression_under (line_of t) (written (codes "expr") es)) ++ flat_map (rule_field_problems (naming_of es)) es) h)
