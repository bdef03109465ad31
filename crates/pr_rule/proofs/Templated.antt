-- What templates expand to is what the texts come to of which they are the templates.
use Rattle.std.proofs.Common.{◌≡◌, ℕ, ◌+◌, ◌<◌, List, [], ◌∷◌, ◌++◌, length, get_or, take, Option, refl, sym, ap, ◌∙◌, subst}
use Rattle.std.proofs.lemmas.List.{take_more}
use Rattle.pr_ast.specs.pr_num.declared.value.Num.{Num}
use Rattle.pr_labels.specs.declared.item.Item.{Item}
use Rattle.pr_labels.specs.declared.pair.Pair.{Pair}
use Rattle.pr_labels.specs.LabelSet.{pair_of}
use Rattle.spec_rules.specs.pr_tmpl.declared.template.External.{External}
use Rattle.spec_rules.specs.pr_tmpl.declared.template.Part.{Part}
use Rattle.spec_rules.specs.pr_tmpl.Expansion.{expansion}
use Rattle.spec_rules.specs.Definitions.{Rule}
use Rattle.spec_rules.specs.Results.{alerting_labels, all_expanded, expanded_by, expanded_pair}
use Rattle.pr_rule.specs.declared.rule_result.templates.NamedTemplate.{NamedTemplate}
use Rattle.pr_rule.specs.private.Making.{alert_made}
use Rattle.pr_rule.specs.private.Templates.{AreTemplatesOf, IsTemplateOf, all_expanded_by, expanded_pair_by}

one_expanded : (external : External) (e : Item Num) (t : NamedTemplate) (p : Pair) → IsTemplateOf t p → expanded_pair_by external e t ≡ expanded_pair external e p
one_expanded external e t p h =
    ap (λ (name : List ℕ). pair_of name (expansion e.labels e.value external t.template)) h.named
    ∙ ap (λ (o : Option (List Part)). pair_of p.name (expanded_by external e o)) (sym h.parts)

pub expanded_so : (external : External) (e : Item Num) (ts : List NamedTemplate) (ps : List Pair) → AreTemplatesOf ts ps → all_expanded_by external e ts ≡ all_expanded external e ps
expanded_so external e [] [] h = refl
expanded_so external e [] (p ∷ ps) h = absurd h
expanded_so external e (t ∷ ts) [] h = absurd h
expanded_so external e (t ∷ ts) (p ∷ ps) h = λ i. one_expanded external e t p h.0 i ∷ expanded_so external e ts ps h.1 i

-- the labels of an alert, made of what the templates expand to
pub alerting_so : (external : External) (rule : Rule) (e : Item Num) (ts : List NamedTemplate) → AreTemplatesOf ts rule.labels → alert_made rule.name (all_expanded_by external e ts) e.labels ≡ alerting_labels external rule e
alerting_so external rule e ts h = ap (λ (pairs : List Pair). alert_made rule.name pairs e.labels) (expanded_so external e ts rule.labels h)

-- one more of each
one_more : (ts : List NamedTemplate) (ps : List Pair) (t : NamedTemplate) (p : Pair) → AreTemplatesOf ts ps → IsTemplateOf t p → AreTemplatesOf (ts ++ t ∷ []) (ps ++ p ∷ [])
one_more [] [] t p h k = (k, tt)
one_more [] (q ∷ ps) t p h k = absurd h
one_more (u ∷ ts) [] t p h k = absurd h
one_more (u ∷ ts) (q ∷ ps) t p h k = (h.0, one_more ts ps t p h.1 k)

pub taken_more : (ts : List NamedTemplate) (pairs : List Pair) (i : ℕ) (t : NamedTemplate) (p : Pair) → i < length pairs → p ≡ get_or pairs i p → AreTemplatesOf ts (take i pairs) → IsTemplateOf t p
    → AreTemplatesOf (ts ++ t ∷ []) (take (i + 1) pairs)
taken_more ts pairs i t p within is h k =
    subst (AreTemplatesOf (ts ++ t ∷ [])) (sym (take_more pairs i p within ∙ ap (λ (q : Pair). take i pairs ++ q ∷ []) (sym is))) (one_more ts (take i pairs) t p h k)
