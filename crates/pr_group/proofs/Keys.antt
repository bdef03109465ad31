-- One key is that of one kind, one name and one list of labels.
use Rattle.std.proofs.Common.{◌≡◌, ℕ, ◌<◌, ◌&&◌, Bool, true, false, List, [], ◌∷◌, ◌++◌, append_assoc, drop, get_or, map, refl, sym, ap, subst, ◌∙◌, arith}
use Rattle.std.specs.Bool.{Decides}
use Rattle.std.specs.Str.{bytes_eq}
use Rattle.std.proofs.lemmas.Bool.Decides.{same_from_decides}
use Rattle.std.proofs.lemmas.Slice.Eq.{bytes_eq-Decides}
use Rattle.pr_ast.specs.pr_forms.Form.{rule}
use Rattle.pr_ast.specs.pr_forms.Table.{is_more, more_of}
use Rattle.pr_ast.proofs.FormsDecided.{rule_decides}
use Rattle.pr_ast.proofs.FormsReadings.{Alike, alike, first_goes_on, second_goes_on, readings_alike}
use Rattle.pr_ast.specs.pr_words.Quoted.{quoted_text}
use Rattle.pr_ast.specs.pr_words.Strings.{IsString, Letter, Text, StringValue, content, letter, production, seen}
use Rattle.pr_ast.specs.pr_words.StringTable.{table}
use Rattle.pr_ast.proofs.WordsStringTable.{known}
use Rattle.pr_ast.proofs.WordsWritten.{quoted_reads}
use Rattle.pr_ast.specs.pr_labels.declared.pair.Pair.{Pair}
use Rattle.pr_ast.specs.pr_labels.Order.{labels_eq}
use Rattle.pr_ast.proofs.LabelsLabelOrder.{labels_decide}
use Rattle.pr_rule.specs.spec_rules.declared.definitions.RuleDef.{RuleDef}
use Rattle.pr_rule.specs.spec_rules.Definitions.{name_key}
use Rattle.pr_rule.specs.spec_rules.Reloads.{same_kind}
use Rattle.pr_group.specs.private.Matching.{continues_def, key_of, labels_key}

-- Bytes in double quotes tell what they are, whatever follows.

byte_of : Letter → ℕ
byte_of (letter k b) = b

unseen : (bs : List ℕ) → map byte_of (seen bs) ≡ bs
unfolding byte_of
unseen [] = refl
unseen (b ∷ bs) = ap (λ l. b ∷ l) (unseen bs)

seen_same : (r s : List ℕ) → seen r ≡ seen s → r ≡ s
seen_same r s e = sym (unseen r) ∙ ap (map byte_of) e ∙ unseen s

content_same : (b c : List ℕ) → content b ≡ content c → b ≡ c
content_same b c e = cc

closed : (ts : List Letter) → is_more {V = StringValue} table (rule Text) ts ≡ true → ⊥
closed [] h = cc
closed (t ∷ ts) h = let e : more_of {V = StringValue} table (rule Text) t ≡ false = refl in cc

one_string : {v w : StringValue} {p q : List Letter} → Alike table (rule Text) v p w q → (v ≡ w) × (p ≡ q)
one_string alike = (refl, refl)
one_string (first_goes_on m) = absurd (closed _ m.is)
one_string (second_goes_on m) = absurd (closed _ m.is)

pub quoted_same : (b c r s : List ℕ) → quoted_text b ++ r ≡ quoted_text c ++ s → (b ≡ c) × (r ≡ s)
quoted_same b c r s e =
    let both = one_string (readings_alike production table known (rule_decides table Text) (quoted_reads b r) (subst (λ t. IsString t c s) (sym e) (quoted_reads c s))) in
    (content_same b c both.0, seen_same r s both.1)

-- Labels

pairs_key : (p : Pair) (ls : List Pair) → labels_key (p ∷ ls) ≡ quoted_text p.name ++ (quoted_text p.value ++ labels_key ls)
pairs_key p ls = append_assoc (quoted_text p.name) (quoted_text p.value) (labels_key ls)

labels_same : (ls ms : List Pair) → labels_key ls ≡ labels_key ms → ls ≡ ms
labels_same [] [] e = refl
labels_same [] (m ∷ ms) e = absurd (cc)
labels_same (l ∷ ls) [] e = absurd (cc)
labels_same (l ∷ ls) (m ∷ ms) e =
    let names = quoted_same l.name m.name (quoted_text l.value ++ labels_key ls) (quoted_text m.value ++ labels_key ms) (sym (pairs_key l ls) ∙ e ∙ pairs_key m ms) in
    let values = quoted_same l.value m.value (labels_key ls) (labels_key ms) names.1 in
    let rest = labels_same ls ms values.1 in
    λ i. record { name = names.0 i; value = values.0 i } ∷ rest i

-- Rules

apart : (m n : ℕ) → m ≡ n → m < n → ⊥
apart m n e h = omega arith

kind_same : (a b : Bool) (x y : List ℕ) → name_key a ++ 34 ∷ x ≡ name_key b ++ 34 ∷ y → (a ≡ b) × (34 ∷ x ≡ 34 ∷ y)
kind_same true true x y e = (refl, ap (drop 5) e)
kind_same true false x y e = absurd (apart 97 114 (ap (λ l. get_or l 0 0) e) (omega arith))
kind_same false true x y e = absurd (apart 97 114 (sym (ap (λ l. get_or l 0 0) e)) (omega arith))
kind_same false false x y e = (refl, ap (drop 6) e)

-- one key is that of one kind, one name and one list of labels
key_same : (a b : RuleDef) → key_of a ≡ key_of b → (a.alert ≡ b.alert) × ((a.name ≡ b.name) × (a.labels ≡ b.labels))
key_same a b e =
    let kinds = kind_same a.alert b.alert _ _ e in
    let names = quoted_same a.name b.name (labels_key a.labels) (labels_key b.labels) kinds.1 in
    (kinds.0, (names.0, labels_same a.labels b.labels names.1))

key_alike : (a b : RuleDef) → (a.alert ≡ b.alert) × ((a.name ≡ b.name) × (a.labels ≡ b.labels)) → key_of a ≡ key_of b
key_alike a b same = λ i. name_key (same.0 i) ++ (quoted_text (same.1.0 i) ++ labels_key (same.1.1 i))

kinds_decide : (a b : Bool) → Decides (same_kind a b) (a ≡ b)
kinds_decide true true = (λ h. refl, λ e. refl)
kinds_decide true false = (λ h. absurd (cc), λ e. absurd (cc))
kinds_decide false true = (λ h. absurd (cc), λ e. absurd (cc))
kinds_decide false false = (λ h. refl, λ e. refl)

all_decide : {P Q S : Type 0} (p q s : Bool) → Decides p P → Decides q Q → Decides s S → Decides (p && (q && s)) (P × (Q × S))
all_decide true true true d e f = (λ h. (d.0 refl, (e.0 refl, f.0 refl)), λ all. refl)
all_decide false q s d e f = (λ h. absurd (cc), λ all. d.1 all.0)
all_decide true false s d e f = (λ h. absurd (cc), λ all. e.1 all.1.0)
all_decide true true false d e f = (λ h. absurd (cc), λ all. f.1 all.1.1)

-- rules of one key go on from one another
pub same_keys : (a b : RuleDef) → continues_def a b ≡ bytes_eq (key_of a) (key_of b)
same_keys a b =
    let keys = bytes_eq-Decides (key_of a) (key_of b) in
    same_from_decides (continues_def a b) (bytes_eq (key_of a) (key_of b))
    (all_decide (same_kind a.alert b.alert) (bytes_eq a.name b.name) (labels_eq a.labels b.labels) (kinds_decide a.alert b.alert) (bytes_eq-Decides a.name b.name) (labels_decide a.labels b.labels))
    (λ h. key_same a b (keys.0 h), λ same. keys.1 (key_alike a b same))
