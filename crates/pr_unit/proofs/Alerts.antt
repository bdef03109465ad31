-- The alerts of a name that fire, rule by rule and group by group.
use Rattle.std.proofs.Common.{◌≡◌, ℕ, ◌+◌, ◌<◌, Bool, true, false, ◌&&◌, List, [], ◌∷◌, ◌++◌, filter, map, take, length, slice_get, Option, Some, None, refl, sym, ap, ◌∙◌, arith, append_assoc, append-nil}
use Rattle.std.specs.List.{flat_map}
use Rattle.std.specs.Prelude.{cond, option_and_then}
use Rattle.std.specs.Option.{option_map}
use Rattle.std.specs.Str.{bytes_eq}
use Rattle.std.proofs.lemmas.List.{length-map}
use Rattle.std.proofs.lemmas.Option.{slice_get-map}
use Rattle.pr_slide.specs.spec_history.declared.entry.Entry.{Entry}
use Rattle.pr_group.specs.spec_alerts.declared.found.RuleElement.{RuleElement}
use Rattle.pr_group.specs.spec_alerts.declared.record.Record.{Record}
use Rattle.pr_group.specs.spec_alerts.Records.{is_firing, records}
use Rattle.pr_slide.specs.pr_range.private.Asks.{LastAsks, Passed}
use Rattle.pr_group.specs.spec_rules.declared.definitions.RuleDef.{RuleDef}
use Rattle.pr_group.specs.spec_rules.Definitions.{Group as Definition, Rule, rule_of_def}
use Rattle.pr_group.specs.spec_rules.Groups.{Group, RuleState, rules_of}
use Rattle.spec_tests.specs.Verdict.{firing_by, firing_of, found_of}
use Rattle.pr_group.specs.pr_rule.declared.remembered.Remembered.{Remembered}
use Rattle.pr_group.specs.private.Keeping.{KeepsGroup, KeptGroup, alerts_at, alerts_of_rule}
use Rattle.pr_unit.proofs.Lists.{IsThere, flat_joined, take_there, there_within, within_list}

-- one more of some
pub flat_next : {X Y : Type 0} (f : X → List Y) (xs : List X) (n : ℕ) (x : X) → slice_get xs n ≡ Some x → flat_map f (take n xs) ++ f x ≡ flat_map f (take (n + 1) xs)
flat_next {X} {Y} f xs n x there =
    ap (λ (l : List Y). flat_map f (take n xs) ++ l) (sym (append-nil (f x)))
    ∙ sym (flat_joined f (take n xs) (x ∷ []))
    ∙ ap (flat_map f) (sym (take_there xs n x there))

pub one_more_found : {X : Type 0} (f : X → List RuleElement) (first before after : List RuleElement) (xs : List X) (n : ℕ) (x : X) → slice_get xs n ≡ Some x
    → before ≡ first ++ flat_map f (take n xs) → after ≡ before ++ f x → after ≡ first ++ flat_map f (take (n + 1) xs)
one_more_found f first before after xs n x there is more =
    more ∙ ap (λ (l : List RuleElement). l ++ f x) is ∙ append_assoc first (flat_map f (take n xs)) (f x) ∙ ap (λ (l : List RuleElement). first ++ l) (flat_next f xs n x there)

-- the rules of a group that is kept
same_rules : {R : Type 0} (fits : R → List Entry → Type 0) (last : R → LastAsks) (passed : R → Passed) (k : KeptGroup R) (history : List Entry) (g : Group) → KeepsGroup fits last passed k history g
    → rules_of g ≡ map rule_of_def k.def.rules
same_rules fits last passed k history g h = ap (λ (d : Definition). d.rules) h.definition

pub as_many_rules : {R : Type 0} (fits : R → List Entry → Type 0) (last : R → LastAsks) (passed : R → Passed) (k : KeptGroup R) (history : List Entry) (g : Group) → KeepsGroup fits last passed k history g
    → length g.rules ≡ length k.def.rules
as_many_rules fits last passed k history g h =
    sym (length-map g.rules (λ (r : RuleState). r.rule)) ∙ ap length (same_rules fits last passed k history g h) ∙ length-map k.def.rules rule_of_def

pub rule_exists : {R : Type 0} (fits : R → List Entry → Type 0) (last : R → LastAsks) (passed : R → Passed) (k : KeptGroup R) (history : List Entry) (g : Group) (n : ℕ) → KeepsGroup fits last passed k history g
    → n < length k.def.rules → IsThere g.rules n
rule_exists fits last passed k history g n h low = there_within g.rules n (omega (arith, as_many_rules fits last passed k history g h))

pub rule_is : {R : Type 0} (fits : R → List Entry → Type 0) (last : R → LastAsks) (passed : R → Passed) (k : KeptGroup R) (history : List Entry) (g : Group) (n : ℕ) (code : RuleDef) (r : RuleState) → KeepsGroup fits last passed k history g
    → slice_get k.def.rules n ≡ Some code → slice_get g.rules n ≡ Some r → r.rule ≡ rule_of_def code
rule_is fits last passed k history g n code r h there at =
    let left : slice_get (rules_of g) n ≡ Some r.rule = slice_get-map (λ (x : RuleState). x.rule) g.rules n ∙ ap (option_map (λ (x : RuleState). x.rule)) at in
    let right : slice_get (map rule_of_def k.def.rules) n ≡ Some (rule_of_def code) = slice_get-map rule_of_def k.def.rules n ∙ ap (option_map rule_of_def) there in
    let both : Some r.rule ≡ Some (rule_of_def code) = sym left ∙ ap (λ (l : List Rule). slice_get l n) (same_rules fits last passed k history g h) ∙ right in
    cc

is_named : (code : RuleDef) (r : RuleState) (name : List ℕ) → r.rule ≡ rule_of_def code → (r.rule.alert && bytes_eq r.rule.name name) ≡ (code.alert && bytes_eq code.name name)
is_named code r name h = ap (λ (x : Rule). x.alert && bytes_eq x.name name) h

pub none_fire : (code : RuleDef) (r : RuleState) (name : List ℕ) (founds : List RuleElement) → r.rule ≡ rule_of_def code → (code.alert && bytes_eq code.name name) ≡ false → founds ≡ founds ++ firing_of name r
none_fire code r name founds h not =
    sym (append-nil founds) ∙ ap (λ (b : Bool). founds ++ firing_by b r) (sym (is_named code r name h ∙ not))

pub these_fire : (code : RuleDef) (r : RuleState) (name : List ℕ) (rs : List Record) (founds new : List RuleElement) → r.rule ≡ rule_of_def code → (code.alert && bytes_eq code.name name) ≡ true → rs ≡ records r.lineage
    → new ≡ founds ++ map found_of (filter (λ a. is_firing a.state) rs) → new ≡ founds ++ firing_of name r
these_fire code r name rs founds new h named stands is =
    is ∙ ap (λ (l : List Record). founds ++ map found_of (filter (λ (a : Record). is_firing a.state) l)) stands
    ∙ ap (λ (b : Bool). founds ++ firing_by b r) (sym (is_named code r name h ∙ named))

pub both_true : (a b : Bool) → (a && b) ≡ true → a ≡ true
both_true true b h = refl
both_true false b h = h

-- an alerting rule has its alerts
pub has_alerts : {R : Type 0} (fits : R → List Entry → Type 0) (last : R → LastAsks) (passed : R → Passed) (k : KeptGroup R) (history : List Entry) (g : Group) (n : ℕ) (code : RuleDef) → KeepsGroup fits last passed k history g
    → slice_get k.def.rules n ≡ Some code → code.alert ≡ true → None ≡ alerts_at k n → ⊥
has_alerts {R} fits last passed k history g n code h there alert none =
    let low : n < length k.def.rules = within_list k.def.rules n code there in
    let m = there_within k.rules n (omega (arith, h.many)) in
    let some : alerts_at k n ≡ Some m.element.records =
    ap (option_and_then (alerts_of_rule k.rules n)) there
    ∙ ap (λ (b : Bool). cond b (option_map (λ (x : Remembered R). x.records) (slice_get k.rules n)) None) alert
    ∙ ap (option_map (λ (x : Remembered R). x.records)) m.there in
    absurd cc
