-- What remains of groups that are gone, and its markers.
use Rattle.std.proofs.Common.{◌≡◌, ℕ, List, [], ◌∷◌, ◌++◌, length, map, append_assoc, append-nil, refl, sym, ap, subst, ◌∙◌, arith}
use Rattle.std.specs.Prelude.{flat_map}
use Rattle.pr_ast.specs.pr_labels.declared.pair.Pair.{Pair}
use Rattle.spec_world.specs.spec_history.declared.entry.Entry.{Entry}
use Rattle.pr_group.specs.pr_head.private.Intake.{HasTaken, Puts, Series}
use Rattle.spec_world.specs.spec_history.Puts.{admitted, marker, markers}
use Rattle.pr_group.specs.pr_range.private.Asks.{LastAsks, Passed}
use Rattle.spec_world.specs.spec_rules.Groups.{Group}
use Rattle.spec_world.specs.spec_rules.Reloads.{remains}
use Rattle.spec_world.specs.spec_rules.Settings.{Settings}
use Rattle.pr_group.specs.private.Keeping.{KeepsGroup, KeptGroup}
use Rattle.pr_manager.specs.private.Keeping.{KeepEach}

-- where there are no new series, each old one gets a marker
all_marked : (now : ℕ) (old : List (List Pair)) → markers now old [] ≡ map (marker now) old
all_marked now [] = refl
all_marked now (labels ∷ old) = ap (λ (l : List Entry). marker now labels ∷ l) (all_marked now old)

pub marks_taken : (before after : Series) (rows more history : List Entry) (now : ℕ) (sets : List (List Pair)) → Puts before after rows more history (markers now sets []) → HasTaken before after history (map (marker now) sets)
marks_taken before after rows more history now sets h = subst (HasTaken before after history) (all_marked now sets) h.taken

pub marks_added : (before after : Series) (rows more history : List Entry) (now : ℕ) (sets : List (List Pair)) → rows ≡ [] → Puts before after rows more history (markers now sets []) → more ≡ admitted history (map (marker now) sets)
marks_added before after rows more history now sets none h =
    h.added ∙ ap (λ (l : List Entry). l ++ admitted history (markers now sets [])) none ∙ ap (admitted history) (all_marked now sets)

-- the groups whose series are still to come
pub record AreLeft {R : Type 0} (fits : R → List Entry → Type 0) (last : R → LastAsks) (passed : R → Passed) (s : Settings) (history : List Entry) (ks : List (KeptGroup R)) (sets all : List (List Pair)) : Type 0 where
  pub groups : List Group
  pub each : KeepEach fits last passed s history ks groups
  pub parts : sets ++ flat_map remains groups ≡ all

pub left_one : {R : Type 0} (fits : R → List Entry → Type 0) (last : R → LastAsks) (passed : R → Passed) (s : Settings) (history : List Entry) (k : KeptGroup R) (ks : List (KeptGroup R)) (sets these more all : List (List Pair))
    → ((g : Group) → KeepsGroup fits last passed k history g → these ≡ remains g) → more ≡ sets ++ these → AreLeft fits last passed s history (k ∷ ks) sets all → AreLeft fits last passed s history ks more all
left_one fits last passed s history k ks sets these more all is pushed h = by h.groups h.each h.parts where
  by : (groups : List Group) → KeepEach fits last passed s history (k ∷ ks) groups → sets ++ flat_map remains groups ≡ all → AreLeft fits last passed s history ks more all
  by [] each parts = absurd each
  by (g ∷ groups) each parts = record {
    groups = groups;
    each = each.1;
    parts = ap (λ (l : List (List Pair)). l ++ flat_map remains groups) (pushed ∙ ap (λ (l : List (List Pair)). sets ++ l) (is g each.0.keeps)) ∙ append_assoc sets (remains g) (flat_map remains groups) ∙ parts;
  }

pub left_none : {R : Type 0} (fits : R → List Entry → Type 0) (last : R → LastAsks) (passed : R → Passed) (s : Settings) (history : List Entry) (sets all : List (List Pair))
    → AreLeft fits last passed s history [] sets all → sets ≡ all
left_none fits last passed s history sets all h = by h.groups h.each h.parts where
  by : (groups : List Group) → KeepEach fits last passed s history [] groups → sets ++ flat_map remains groups ≡ all → sets ≡ all
  by [] each parts = sym (append-nil sets) ∙ parts
  by (g ∷ groups) each parts = absurd each

pub left_end : {R : Type 0} (fits : R → List Entry → Type 0) (last : R → LastAsks) (passed : R → Passed) (s : Settings) (history : List Entry) (ks : List (KeptGroup R)) (sets all : List (List Pair))
    → length ks ≡ 0 → AreLeft fits last passed s history ks sets all → sets ≡ all
left_end fits last passed s history [] sets all none h = left_none fits last passed s history sets all h
left_end fits last passed s history (k ∷ ks) sets all none h = absurd (omega (arith, none))
