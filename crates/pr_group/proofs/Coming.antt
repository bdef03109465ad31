-- The rules of a group, one after the other.
use Rattle.std.proofs.Common.{◌≡◌, ℕ, zero, suc, ◌+◌, ◌<◌, ◌≤◌, ◌⊎◌, inl, inr, pos, ◌-ℤ◌, Bool, true, false, List, [], ◌∷◌, ◌++◌, length, set, take, drop, fold, slice_get, Option, Some, refl, sym, ap, ◌∙◌, subst, arith}
use Rattle.std.proofs.Math.Numerals.{add-one}
use Rattle.std.proofs.Math.Seq.{take-length}
use Rattle.std.proofs.lemmas.List.{length-set, length_push}
use Rattle.std.proofs.lemmas.Option.{same_Some}
use Rattle.pr_rule.specs.spec_history.declared.entry.Entry.{Entry}
use Rattle.pr_rule.specs.spec_history.private.Laws.{IsLawful}
use Rattle.pr_rule.specs.spec_history.Admission.{put_all}
use Rattle.pr_rule.proofs.HistoryLawful.{put_all_lawful}
use Rattle.pr_rule.specs.pr_head.private.Holds.{Holds}
use Rattle.pr_rule.proofs.HistoryPutting.{puts_parts}
use Rattle.pr_rule.specs.pr_tmpl.declared.template.External.{External}
use Rattle.pr_rule.specs.spec_rules.declared.definitions.RuleDef.{RuleDef}
use Rattle.pr_rule.specs.spec_meaning.private.Cost.{PassedFor, cost}
use Rattle.pr_rule.specs.pr_range.private.Asks.{LastAsks, Passed}
use Rattle.pr_rule.specs.pr_eval.private.Evaluated.{passed_outside}
use Rattle.pr_rule.specs.pr_head.private.Intake.{HasTaken, PutsIf, Series}
use Rattle.pr_rule.proofs.HeadIntakeIntake.{puts_if_none, puts_if_then}
use Rattle.pr_rule.specs.spec_rules.declared.report.RuleReport.{RuleReport}
use Rattle.pr_rule.specs.spec_rules.private.Costs.{PassedByRules, rules_cost}
use Rattle.pr_rule.specs.spec_rules.Evaluations.{RulesProgress, all_rules, begun, one_rule, rule_step, with_lineage}
use Rattle.pr_rule.specs.spec_rules.Groups.{Group, RuleState}
use Rattle.pr_rule.specs.spec_rules.private.Passed.{ArePassedByRules, IsPassedByRule}
use Rattle.pr_rule.specs.spec_rules.Settings.{Settings}
use Rattle.pr_rule.specs.declared.remembered.Remembered.{Remembered}
use Rattle.pr_group.specs.private.Evaluating.{HasCome, HasDone, MayEvaluateRules, come_to}
use Rattle.pr_group.specs.private.Keeping.{AreKept, KeepsRule, MayEvaluateOver, passed_for, passed_of}
use Rattle.pr_group.proofs.Places.{added_place, below_or, drop_next, fold_next, none_within, place_there, set_here, set_there}
use Rattle.pr_group.proofs.Staying.{Stays, rule_stays_put, same_passed_put}

pub come_next : (s : Settings) (g : Group) (history : List Entry) (now n : ℕ) (r : RuleState) → slice_get g.rules n ≡ Some r → come_to s g history now (n + 1) ≡ one_rule s g now (come_to s g history now n) r
come_next s g history now n r e = ap (λ (k : ℕ). come_to s g history now k) (add-one n) ∙ fold_next (one_rule s g now) (begun history) g.rules n r e

pub come_all : (s : Settings) (g : Group) (history : List Entry) (now n : ℕ) → n ≡ length g.rules → come_to s g history now n ≡ all_rules s g history now
come_all s g history now n e = ap (λ (k : ℕ). come_to s g history now k) e ∙ ap (fold (one_rule s g now) (begun history)) (take-length g.rules)

module _ {R : Type 0} (fits : R → List Entry → Type 0) (last : R → LastAsks) (passed : R → Passed) (keeps tells : Bool) (s : Settings) (g : Group) (history : List Entry) (now : ℕ) (definitions : List RuleDef) where
  pub come_none : (before : List (Remembered R)) (old : Series) (rows : List Entry) (told : List RuleReport) → Holds old history → told ≡ []
      → HasCome fits last passed keeps tells s g history now definitions before before old old rows rows told 0 (come_to s g history now 0)
  come_none before old rows told holds none = record {
    puts = puts_if_none tells old rows history holds;
    behind = refl;
    reports = λ read. none;
    counted = refl;
    many = refl;
    done = λ i definition m r ec em er. absurd (no_place i r er);
    later = λ j h. refl;
    passing = λ keeping j m k r h. absurd (omega arith);
  } where
    no_place : (i : ℕ) (r : RuleState) → slice_get [] i ≡ Some r → ⊥
    no_place zero r e = cc
    no_place (suc i) r e = cc

  module _ (stays : Stays fits) (lawful : IsLawful history) (many : length definitions ≡ length g.rules) (until : Option ℕ) (before : List (Remembered R)) (was : AreKept fits last passed history until definitions before g.rules) where
    -- what was passed for a rule that was not evaluated yet
    passed_before : (n : ℕ) (definition : RuleDef) (r : RuleState) (m : Remembered R) → slice_get definitions n ≡ Some definition → slice_get g.rules n ≡ Some r → slice_get before n ≡ Some m → (p : RulesProgress) → p.history ≡ put_all history p.entries
        → passed_outside false p.history (passed m.ranges) ≡ passed_outside false history (passed m.ranges)
    passed_before n definition r m ec er em p behind =
        ap (λ (l : List Entry). passed_outside false l (passed m.ranges)) behind ∙ same_passed_put history p.entries (last m.ranges) (passed m.ranges) (was n definition m r ec em er).within

    module _ (n : ℕ) (definition : RuleDef) (r : RuleState) (m m' : Remembered R) (after : List (Remembered R)) (old mid new : Series) (rows more most : List Entry) (told tellings : List RuleReport) (report : RuleReport)
        (ec : slice_get definitions n ≡ Some definition) (er : slice_get g.rules n ≡ Some r) (em : slice_get after n ≡ Some m)
        (h : HasCome fits last passed keeps tells s g history now definitions before after old mid rows more told n (come_to s g history now n))
        (d : HasDone fits last passed keeps tells s g r (come_to s g history now n).history now definition m m' mid new more most report)
        (noted : tells ≡ true → tellings ≡ told ++ report ∷ []) where
      abbrev p : RulesProgress
      p = come_to s g history now n

      abbrev q : RulesProgress
      q = one_rule s g now p r

      lawful_there : IsLawful p.history
      lawful_there = subst IsLawful (sym h.behind) (put_all_lawful history p.entries lawful)

      apart : (j : ℕ) → j < n → n ≡ j → ⊥
      apart j h e = absurd (omega arith)

      done_then : AreKept fits last passed q.history (Some now) definitions (set after n m') q.rules
      done_then i c k x ic ik ix = by (added_place p.rules (with_lineage r (rule_step s g r p.history now).lineage) x i ix) where
        by : (slice_get p.rules i ≡ Some x) ⊎ ((i ≡ length p.rules) × (with_lineage r (rule_step s g r p.history now).lineage ≡ x)) → KeepsRule fits last passed q.history (Some now) c k x
        by (inl e) =
            let low : i < length p.rules = none_within p.rules i x e in
            let count : length p.rules ≡ n = h.counted in
            let old_place = sym (set_there after n i m' (apart i (omega arith))) ∙ ik in
            rule_stays_put fits last passed stays p.history (rule_step s g r p.history now).entries (Some now) c k x lawful_there (h.done i c k x ic old_place e)
        by (inr e) =
            let here : n ≡ i = sym (e.0 ∙ h.counted) in
            let same_code : definition ≡ c = same_Some definition c (sym ec ∙ ap (slice_get definitions) here ∙ ic) in
            let same_kept : m' ≡ k = same_Some m' k (sym (set_here after n m' (none_within after n m em)) ∙ ap (slice_get (set after n m')) here ∙ ik) in
            subst (λ (y : RuleState). KeepsRule fits last passed q.history (Some now) c k y) e.1
            (subst (λ (y : Remembered R). KeepsRule fits last passed q.history (Some now) c y (with_lineage r (rule_step s g r p.history now).lineage)) same_kept
            (subst (λ (y : RuleDef). KeepsRule fits last passed q.history (Some now) y m' (with_lineage r (rule_step s g r p.history now).lineage)) same_code d.kept))

      passing_then : keeps ≡ true → (j : ℕ) (a k : Remembered R) (x : RuleState) → j < n + 1 → slice_get before j ≡ Some a → slice_get (set after n m') j ≡ Some k → slice_get g.rules j ≡ Some x
          → IsPassedByRule s g x (come_to s g history now j).history now (passed_outside false history (passed a.ranges)) (passed_outside false q.history (passed k.ranges))
      passing_then keeping j a k x low ea ek ex = by (below_or j n low) where
        within : n < length g.rules
        within = none_within g.rules n r er

        by : (j < n) ⊎ (j ≡ n) → IsPassedByRule s g x (come_to s g history now j).history now (passed_outside false history (passed a.ranges)) (passed_outside false q.history (passed k.ranges))
        by (inl e) =
            let there = sym (set_there after n j m' (apart j e)) ∙ ek in
            let count : length p.rules ≡ n = h.counted in
            let size : n < length g.rules = within in
            let c = place_there definitions j (omega (arith, many)) in
            let y = place_there p.rules j (omega arith) in
            subst (λ (w : PassedFor). IsPassedByRule s g x (come_to s g history now j).history now (passed_outside false history (passed a.ranges)) w)
            (sym (same_passed_put p.history (rule_step s g r p.history now).entries (last k.ranges) (passed k.ranges) (h.done j c.0 k y.0 c.1 there y.1).within))
            (h.passing keeping j a k x e ea there ex)
        by (inr e) =
            let here : n ≡ j = sym e in
            let same_rule : r ≡ x = same_Some r x (sym er ∙ ap (slice_get g.rules) here ∙ ex) in
            let at : slice_get before n ≡ Some m = sym (h.later n (omega arith)) ∙ em in
            let same_before : m ≡ a = same_Some m a (sym at ∙ ap (slice_get before) here ∙ ea) in
            let same_kept : m' ≡ k = same_Some m' k (sym (set_here after n m' (none_within after n m em)) ∙ ap (slice_get (set after n m')) here ∙ ek) in
            let first : passed_outside false p.history (passed m.ranges) ≡ passed_outside false history (passed a.ranges) =
            passed_before n definition r m ec er at p h.behind ∙ ap (λ (y : Remembered R). passed_outside false history (passed y.ranges)) same_before in
            let at_rule : IsPassedByRule s g x p.history now (passed_outside false p.history (passed m.ranges)) (passed_outside false q.history (passed m'.ranges)) =
            subst (λ (y : RuleState). IsPassedByRule s g y p.history now (passed_outside false p.history (passed m.ranges)) (passed_outside false q.history (passed m'.ranges))) same_rule (d.passing keeping) in
            let at_first = subst (λ (w : PassedFor). IsPassedByRule s g x p.history now w (passed_outside false q.history (passed m'.ranges))) first at_rule in
            let at_last = subst (λ (y : Remembered R). IsPassedByRule s g x p.history now (passed_outside false history (passed a.ranges)) (passed_outside false q.history (passed y.ranges))) same_kept at_first in
            subst (λ (i : ℕ). IsPassedByRule s g x (come_to s g history now i).history now (passed_outside false history (passed a.ranges)) (passed_outside false q.history (passed k.ranges))) here at_last

      come_more : HasCome fits last passed keeps tells s g history now definitions before (set after n m') old new rows most tellings (n + 1) q
      come_more = record {
        puts = puts_if_then tells old mid new rows more most history p.entries (rule_step s g r p.history now).entries h.puts
            (subst (λ (l : List Entry). PutsIf tells mid new more most l (rule_step s g r p.history now).entries) h.behind d.stepped.puts);
        behind = ap (λ (l : List Entry). put_all l (rule_step s g r p.history now).entries) h.behind ∙ sym (puts_parts history p.entries (rule_step s g r p.history now).entries);
        reports = λ read. noted read ∙ (λ i. h.reports read i ++ d.stepped.report read i ∷ []);
        counted = length_push p.rules (with_lineage r (rule_step s g r p.history now).lineage) ∙ ap (λ (k : ℕ). k + 1) h.counted;
        many = length-set after n m' ∙ h.many;
        done = done_then;
        later = λ j low. set_there after n j m' (λ e. absurd (omega arith)) ∙ h.later j (omega arith);
        passing = passing_then;
      }

      pub come_then : HasCome fits last passed keeps tells s g history now definitions before (set after n m') old new rows most tellings (n + 1) (come_to s g history now (n + 1))
      come_then =
          subst (λ (x : RulesProgress). HasCome fits last passed keeps tells s g history now definitions before (set after n m') old new rows most tellings (n + 1) x)
          (sym (come_next s g history now n r er)) come_more

    -- what the rules from one on read at most
    abbrev rest_cost : ℕ → ℕ
    rest_cost n = rules_cost s g now (passed_of passed history before) n (drop n g.rules) (come_to s g history now n)

    cost_next : (n : ℕ) (definition : RuleDef) (r : RuleState) (m : Remembered R) → slice_get definitions n ≡ Some definition → slice_get g.rules n ≡ Some r → slice_get before n ≡ Some m
        → (come_to s g history now n).history ≡ put_all history (come_to s g history now n).entries
        → rest_cost n ≡ cost s.subquery_step (come_to s g history now n).history (passed_outside false (come_to s g history now n).history (passed m.ranges)) r.rule.expr 0 now + rest_cost (n + 1)
    cost_next n definition r m ec er em behind =
        let p = come_to s g history now n in
        let u = passed_of passed history before in
        let first : u n ≡ passed_outside false p.history (passed m.ranges) = ap (passed_for passed history) em ∙ sym (passed_before n definition r m ec er em p behind) in
        ap (λ (l : List RuleState). rules_cost s g now u n l p) (drop_next g.rules n r er)
        ∙ (λ i. cost s.subquery_step p.history (first i) r.rule.expr 0 now + rules_cost s g now u (n + 1) (drop (sym (add-one n) i) g.rules) (sym (come_next s g history now n r er) i))

    -- one more rule was read for
    pub reads_then : (n : ℕ) (definition : RuleDef) (r : RuleState) (m : Remembered R) (a b total : ℕ) → slice_get definitions n ≡ Some definition → slice_get g.rules n ≡ Some r → slice_get before n ≡ Some m
        → (come_to s g history now n).history ≡ put_all history (come_to s g history now n).entries → a + rest_cost n ≤ total
        → b ≤ a + cost s.subquery_step (come_to s g history now n).history (passed_outside false (come_to s g history now n).history (passed m.ranges)) r.rule.expr 0 now
        → b + rest_cost (n + 1) ≤ total
    reads_then n definition r m a b total ec er em behind before_it at_it = omega (arith, cost_next n definition r m ec er em behind)

-- The next rule may be evaluated over the history that was come to.
pub over_next : (old mid : Series) (history : List Entry) (now : ℕ) (p : RulesProgress) → MayEvaluateOver old history now → HasTaken old mid history p.entries → p.history ≡ put_all history p.entries
    → MayEvaluateOver mid p.history now
over_next old mid history now p over taken behind =
    subst (λ (l : List Entry). MayEvaluateOver mid l now) (sym behind)
    (record { lawful = put_all_lawful history p.entries over.lawful; holds = taken.holds; whole = taken.whole (pos now -ℤ pos 3888000000) over.whole })

pub kept_next : {R : Type 0} (fits : R → List Entry → Type 0) (last : R → LastAsks) (passed : R → Passed) → Stays fits → (history : List Entry) (until : Option ℕ) (definition : RuleDef) (m : Remembered R) (r : RuleState) (p : RulesProgress)
    → IsLawful history → p.history ≡ put_all history p.entries → KeepsRule fits last passed history until definition m r → KeepsRule fits last passed p.history until definition m r
kept_next fits last passed stays history until definition m r p lawful behind k =
    subst (λ (l : List Entry). KeepsRule fits last passed l until definition m r) (sym behind) (rule_stays_put fits last passed stays history p.entries until definition m r lawful k)

module _ {R : Type 0} (fits : R → List Entry → Type 0) (last : R → LastAsks) (passed : R → Passed) (keeps tells : Bool) (stays : Stays fits) (blank : ℕ) (outside : External) (most : ℕ) (every : Option ℕ) (waiting : Bool) (s : Settings) (g : Group) (old : Series) (history : List Entry) (now : ℕ) (until : Option ℕ)
    (definitions : List RuleDef) (before : List (Remembered R)) (may : MayEvaluateRules fits last passed blank outside most every waiting s g old history now until definitions before)
    (n : ℕ) (definition : RuleDef) (m : Remembered R) (after : List (Remembered R)) (mid : Series) (rows more : List Entry) (told : List RuleReport) (ec : slice_get definitions n ≡ Some definition) (em : slice_get after n ≡ Some m)
    (h : HasCome fits last passed keeps tells s g history now definitions before after old mid rows more told n (come_to s g history now n)) where
  abbrev at_rule : RulesProgress
  at_rule = come_to s g history now n

  next_rule : (r : RuleState) × (slice_get g.rules n ≡ Some r)
  next_rule = let low : n < length definitions = none_within definitions n definition ec in place_there g.rules n (omega (arith, may.many))

  over_here : MayEvaluateOver mid at_rule.history now
  over_here = over_next old mid history now at_rule may.over h.puts.taken h.behind

  kept_here : KeepsRule fits last passed at_rule.history until definition m next_rule.0
  kept_here = kept_next fits last passed stays history until definition m next_rule.0 at_rule may.over.lawful h.behind (may.kept n definition m next_rule.0 ec (sym (h.later n (omega arith)) ∙ em) next_rule.1)

  -- one more rule is evaluated
  pub rules_then : (m' : Remembered R) (new : Series) (last_rows : List Entry) (tellings : List RuleReport) (report : RuleReport) → (tells ≡ true → tellings ≡ told ++ report ∷ [])
      → ((r : RuleState) → MayEvaluateOver mid at_rule.history now → KeepsRule fits last passed at_rule.history until definition m r → HasDone fits last passed keeps tells s g r at_rule.history now definition m m' mid new more last_rows report)
      → HasCome fits last passed keeps tells s g history now definitions before (set after n m') old new rows last_rows tellings (n + 1) (come_to s g history now (n + 1))
  rules_then m' new last_rows tellings report noted done =
      come_then fits last passed keeps tells s g history now definitions stays may.over.lawful may.many until before may.kept n definition next_rule.0 m m' after old mid new rows more last_rows told tellings report ec next_rule.1 em h
      (done next_rule.0 over_here kept_here) noted

  pub rules_read : (a b total : ℕ) → a + rules_cost s g now (passed_of passed history before) n (drop n g.rules) at_rule ≤ total
      → ((r : RuleState) → MayEvaluateOver mid at_rule.history now → KeepsRule fits last passed at_rule.history until definition m r → b ≤ a + cost s.subquery_step at_rule.history (passed_outside false at_rule.history (passed m.ranges)) r.rule.expr 0 now)
      → b + rules_cost s g now (passed_of passed history before) (n + 1) (drop (n + 1) g.rules) (come_to s g history now (n + 1)) ≤ total
  rules_read a b total so_far reads =
      reads_then fits last passed keeps tells s g history now definitions stays may.over.lawful may.many until before may.kept n definition next_rule.0 m a b total ec next_rule.1 (sym (h.later n (omega arith)) ∙ em) h.behind so_far
      (reads next_rule.0 over_here kept_here)

-- all rules were evaluated
pub come_whole : {R : Type 0} (fits : R → List Entry → Type 0) (last : R → LastAsks) (passed : R → Passed) (keeps tells : Bool) (s : Settings) (g : Group) (history : List Entry) (now : ℕ) (definitions : List RuleDef) (before after : List (Remembered R)) (old new : Series) (rows more : List Entry) (told : List RuleReport) (n : ℕ)
    → n ≡ length g.rules → HasCome fits last passed keeps tells s g history now definitions before after old new rows more told n (come_to s g history now n)
    → HasCome fits last passed keeps tells s g history now definitions before after old new rows more told (length g.rules) (all_rules s g history now)
come_whole fits last passed keeps tells s g history now definitions before after old new rows more told n all h =
    subst (λ (p : RulesProgress). HasCome fits last passed keeps tells s g history now definitions before after old new rows more told (length g.rules) p) (come_all s g history now n all)
    (subst (λ (k : ℕ). HasCome fits last passed keeps tells s g history now definitions before after old new rows more told k (come_to s g history now n)) all h)

-- What was passed for each rule, by its number, in the words of the rules.
pub passed_each : (s : Settings) (g : Group) (now : ℕ) (u w : PassedByRules) (rules : List RuleState) (i : ℕ) (p : RulesProgress)
    → ((j : ℕ) (r : RuleState) → slice_get rules j ≡ Some r → IsPassedByRule s g r (fold (one_rule s g now) p (take j rules)).history now (u (i + j)) (w (i + j)))
    → ArePassedByRules s g now u w i rules p
passed_each s g now u w [] i p h = tt
passed_each s g now u w (r ∷ rules) i p h =
    let here : i + 0 ≡ i = omega arith in (
      subst (λ (n : ℕ). IsPassedByRule s g r p.history now (u n) (w n)) here (h 0 r refl),
      passed_each s g now u w rules (i + 1) (one_rule s g now p r) (λ j x e.
          let next : i + suc j ≡ i + 1 + j = omega arith in
          subst (λ (n : ℕ). IsPassedByRule s g x (fold (one_rule s g now) (one_rule s g now p r) (take j rules)).history now (u n) (w n)) next (h (suc j) x e)),
    )
