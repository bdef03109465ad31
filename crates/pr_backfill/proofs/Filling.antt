-- The evaluations at one time, one group after another.
use Rattle.std.proofs.Common.{◌≡◌, ℕ, ◌+◌, ◌<◌, ◌≤◌, pos, ◌-ℤ◌, List, [], ◌∷◌, ◌++◌, length, slice_get, Some, Result, Ok, Err, IfOk, refl, sym, ap, subst, ◌∙◌, arith, append-nil}
use Rattle.std.specs.Prelude.{Bool, slice_set, fold}
use Rattle.std.specs.declared.alloc.AllocError.{AllocError}
use Rattle.std.proofs.lemmas.List.{length-append}
use Rattle.spec_rules.specs.spec_history.declared.entry.Entry.{Entry}
use Rattle.pr_engine.specs.pr_head.private.Intake.{Series}
use Rattle.pr_engine.specs.pr_range.private.Asks.{LastAsks, Passed}
use Rattle.spec_rules.specs.declared.report.GroupReport.{GroupReport}
use Rattle.spec_rules.specs.Evaluations.{group_step}
use Rattle.spec_rules.specs.Groups.{Group}
use Rattle.spec_rules.specs.Settings.{Settings}
use Rattle.spec_rules.specs.private.Times.{IsAfter, IsAfterAll}
use Rattle.pr_engine.specs.pr_group.private.Keeping.{KeptGroup, MayEvaluateOver}
use Rattle.pr_text.specs.spec_world.declared.report.Report.TheVariants as report
use Rattle.pr_engine.specs.pr_manager.private.Coming.{IsEvaluated, history_with}
use Rattle.pr_engine.specs.pr_manager.private.Keeping.{HasGoneOn, KeepEach, KeepsUnder}
use Rattle.pr_engine.proofs.ManagerEach.{StaysKept, each_stays}
use Rattle.pr_engine.proofs.ManagerNames.{kept_name}
use Rattle.pr_engine.proofs.ManagerPlaces.{zip_at, zip_set}
use Rattle.pr_backfill.specs.declared.stepped.Stepped.{Stepped}
use Rattle.pr_backfill.specs.Filled.{Round, one_group, round_at, round_begun}
use Rattle.pr_backfill.specs.private.Rounds.{HasFilled, IsStepped, IsSteppedAt}
use Rattle.pr_backfill.proofs.Lists.{as_many, set_at, there_at, there_within}

-- the file and the name of a group that is kept are those of the group
pub stepped_of : {R : Type 0} (fits : R → List Entry → Type 0) (last : R → LastAsks) (passed : R → Passed) (remembers : Bool) (s : Settings) (g : Group) (k kept : KeptGroup R) (history : List Entry) (time : ℕ) (old new : Series) (before now : ℕ) (told : GroupReport) (file name : List ℕ)
    → KeepsUnder fits last passed s history k g → told ≡ (group_step s g history time).report → file ≡ k.file → name ≡ k.def.name
    → IsEvaluated fits last passed remembers s g k kept history time old new before now (report.Evaluated told)
    → IsStepped fits last passed s g kept history time old new (record { file = file; group = name; report = told })
stepped_of fits last passed remembers s g k kept history time old new before now told file name under is files names e =
    let filed = files ∙ under.keeps.file in
    let named = names ∙ kept_name fits last passed history k g under.keeps in
    record { tells = λ i. record { file = filed i; group = named i; report = is i }; head = e.head; keeps = e.keeps }

pub stepped_at : {R : Type 0} (fits : R → List Entry → Type 0) (last : R → LastAsks) (passed : R → Passed) (s : Settings) (g : Group) (k there kept : KeptGroup R) (history : List Entry) (time : ℕ) (old new : Series) (ks : List (KeptGroup R)) (n : ℕ) (result : Result Stepped AllocError)
    → slice_get ks n ≡ Some there → slice_get ks n ≡ Some k → (KeepsUnder fits last passed s history there g → IfOk result (IsStepped fits last passed s g kept history time old new)) → KeepsUnder fits last passed s history k g
    → IfOk result (IsSteppedAt fits last passed s g history time old new ks (slice_set ks n kept) n)
stepped_at {R} fits last passed s g k there kept history time old new ks n result at here step under = by result (step (subst (λ (x : KeptGroup R). KeepsUnder fits last passed s history x g) same under)) where
  same : k ≡ there
  same = let both : Some k ≡ Some there = sym here ∙ at in cc

  by : (r : Result Stepped AllocError) → IfOk r (IsStepped fits last passed s g kept history time old new) → IfOk r (IsSteppedAt fits last passed s g history time old new ks (slice_set ks n kept) n)
  by (Err error) h = tt
  by (Ok told) h = record { kept = kept; placed = refl; step = h }

-- Nothing was evaluated yet.
pub filled_none : {R : Type 0} (fits : R → List Entry → Type 0) (last : R → LastAsks) (passed : R → Passed) (s : Settings) (time : ℕ) (history : List Entry) (groups : List Group) (head : Series) (ks : List (KeptGroup R)) (told : List Stepped)
    → told ≡ [] → KeepEach fits last passed s history ks groups → MayEvaluateOver head history time → IsAfterAll time groups → HasFilled fits last passed s time history groups head head ks told 0
unfolding round_at
filled_none fits last passed s time history groups head ks told none keeps may after = record {
  round = round_begun history;
  rest = groups;
  whole = refl;
  many = refl;
  each = keeps;
  after = after;
  head = record { holds = may.holds; whole = λ x h. h; lawful = may.lawful };
  tells = none;
}

-- One more group was evaluated, which stands at the next place.
pub filled_one : {R : Type 0} (fits : R → List Entry → Type 0) (last : R → LastAsks) (passed : R → Passed) → StaysKept fits last passed
    → (s : Settings) (time : ℕ) (history : List Entry) (groups : List Group) (old mid new : Series) (ks more : List (KeptGroup R)) (told then_told : List Stepped) (n : ℕ) (t : Stepped) → n < length ks
    → ((h : List Entry) (k : KeptGroup R) (g : Group) → slice_get ks n ≡ Some k → KeepsUnder fits last passed s h k g → MayEvaluateOver mid h time → IsAfter time g.last → IsSteppedAt fits last passed s g h time mid new ks more n t)
    → then_told ≡ told ++ t ∷ [] → MayEvaluateOver old history time → HasFilled fits last passed s time history groups old mid ks told n → HasFilled fits last passed s time history groups old new more then_told (n + 1)
filled_one {R} fits last passed stays s time history groups old mid new ks more told then_told n t within known pushed may h = by h.rest h.whole h.each h.after where
  Under : List Entry → KeptGroup R → Group → Type 0
  Under l k g = KeepsUnder fits last passed s l k g

  by : (rest : List Group) → fold (one_group s time) h.round rest ≡ round_at s time history groups → KeepEach fits last passed s h.round.history ks (h.round.groups ++ rest) → IsAfterAll time rest
      → HasFilled fits last passed s time history groups old new more then_told (n + 1)
  by [] whole each after =
      let size : length ks ≡ length (h.round.groups ++ []) = as_many (KeepsUnder fits last passed s h.round.history) ks (h.round.groups ++ []) each in
      let none : length (h.round.groups ++ []) ≡ length h.round.groups = ap length (append-nil h.round.groups) in
      let many : length h.round.groups ≡ n = h.many in
      absurd (omega (arith, size, none, many, within))
  by (g ∷ rest) whole each after =
      let l = h.round.history in
      let at = there_within ks n within in
      let k = at.element in
      let here = there_at h.round.groups g rest n h.many in
      let under = zip_at (KeepsUnder fits last passed s l) ks (h.round.groups ++ g ∷ rest) n k g each at.there here in
      let ready : MayEvaluateOver mid l time = record { lawful = h.head.lawful; holds = h.head.holds; whole = h.head.whole (pos time -ℤ pos 3888000000) may.whole } in
      let c = known l k g at.there under ready after.0 in
      let step = group_step s g l time in
      let later = history_with l step in
      let size : length (h.round.groups ++ step.group ∷ []) ≡ length h.round.groups + 1 = length-append h.round.groups (step.group ∷ []) in
      let many : length h.round.groups ≡ n = h.many in
      record {
        round = one_group s time h.round g;
        rest = rest;
        whole = whole;
        many = omega (arith, size, many);
        each = subst (λ (gs : List Group). KeepEach fits last passed s later more gs) (set_at h.round.groups g step.group rest n h.many)
            (subst (λ (ms : List (KeptGroup R)). KeepEach fits last passed s later ms (slice_set (h.round.groups ++ g ∷ rest) n step.group)) (sym c.placed)
            (zip_set (KeepsUnder fits last passed s later) ks (h.round.groups ++ g ∷ rest) n c.kept step.group
            (each_stays fits last passed stays s l step.report.admitted c.step.head.lawful ks (h.round.groups ++ g ∷ rest) each) c.step.keeps));
        after = after.1;
        head = record { holds = c.step.head.holds; whole = λ x w. c.step.head.whole x (h.head.whole x w); lawful = c.step.head.lawful };
        tells = pushed ∙ (λ i. h.tells i ++ c.step.tells i ∷ []);
      }

-- All groups were evaluated.
pub record HasFilledAll {R : Type 0} (fits : R → List Entry → Type 0) (last : R → LastAsks) (passed : R → Passed) (s : Settings) (round : Round) (history : List Entry) (old new : Series) (ks : List (KeptGroup R)) (told : List Stepped) : Type 0 where
  pub each : KeepEach fits last passed s round.history ks round.groups
  pub head : HasGoneOn old new history round.history
  pub tells : told ≡ round.told

pub filled_all : {R : Type 0} (fits : R → List Entry → Type 0) (last : R → LastAsks) (passed : R → Passed) (s : Settings) (time : ℕ) (history : List Entry) (groups : List Group) (old new : Series) (ks : List (KeptGroup R)) (told : List Stepped) (n : ℕ)
    → length ks ≤ n → HasFilled fits last passed s time history groups old new ks told n → HasFilledAll fits last passed s (round_at s time history groups) history old new ks told
filled_all {R} fits last passed s time history groups old new ks told n over h = by h.rest h.whole h.each where
  by : (rest : List Group) → fold (one_group s time) h.round rest ≡ round_at s time history groups → KeepEach fits last passed s h.round.history ks (h.round.groups ++ rest)
      → HasFilledAll fits last passed s (round_at s time history groups) history old new ks told
  by [] whole each =
      subst (λ (r : Round). HasFilledAll fits last passed s r history old new ks told) whole
      (record { each = subst (λ (gs : List Group). KeepEach fits last passed s h.round.history ks gs) (append-nil h.round.groups) each; head = h.head; tells = h.tells })
  by (g ∷ rest) whole each =
      let size : length ks ≡ length (h.round.groups ++ g ∷ rest) = as_many (KeepsUnder fits last passed s h.round.history) ks (h.round.groups ++ g ∷ rest) each in
      let sum : length (h.round.groups ++ g ∷ rest) ≡ length h.round.groups + length (g ∷ rest) = length-append h.round.groups (g ∷ rest) in
      let many : length h.round.groups ≡ n = h.many in
      absurd (omega (arith, size, sum, many, over))
