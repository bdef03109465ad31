-- The groups of files, one after another.
use Rattle.std.proofs.Common.{◌≡◌, ℕ, List, [], ◌∷◌, ◌++◌, map, refl, sym, ap, subst, ◌∙◌, append_assoc, append-nil}
use Rattle.pr_slide.specs.spec_history.declared.entry.Entry.{Entry}
use Rattle.pr_slide.specs.pr_range.private.Asks.{LastAsks, Passed}
use Rattle.pr_group.specs.spec_rules.declared.definitions.GroupDef.{GroupDef}
use Rattle.pr_group.specs.spec_rules.Definitions.{group_of_def}
use Rattle.pr_group.specs.spec_rules.Groups.{Group, fresh}
use Rattle.pr_group.specs.spec_rules.Settings.{Settings}
use Rattle.pr_group.specs.spec_rules.Replays.{unwaiting_groups}
use Rattle.pr_group.specs.private.Keeping.{KeepsGroup, KeptGroup, settings_of}
use Rattle.pr_unit.specs.private.Kept.{KeepsGroups}
use Rattle.pr_unit.specs.declared.rules.RuleGroups.{RuleGroups}
use Rattle.pr_unit.specs.private.Loaded.{file_of}
use Rattle.pr_unit.proofs.Keeping.{one_more_kept, none_kept}

-- So many groups are kept: with those of the definitions that are left they are all.
pub record KeepsPart {R : Type 0} (fits : R → List Entry → Type 0) (last : R → LastAsks) (passed : R → Passed) (kept : List (KeptGroup R)) (history : List Entry) (s : Settings) (file : List ℕ) (rest : List GroupDef) (all : List Group) : Type 0 where
  pub part : List Group
  pub keeps : KeepsGroups fits last passed kept history s part
  pub whole : part ++ map (fresh 0 file) (map group_of_def rest) ≡ all

pub begins_part : {R : Type 0} (fits : R → List Entry → Type 0) (last : R → LastAsks) (passed : R → Passed) (kept : List (KeptGroup R)) (history : List Entry) (s : Settings) (file : List ℕ) (defs : List GroupDef) (gs : List Group)
    → KeepsGroups fits last passed kept history s gs → KeepsPart fits last passed kept history s file defs (gs ++ map (fresh 0 file) (map group_of_def defs))
begins_part fits last passed kept history s file defs gs h = record { part = gs; keeps = h; whole = refl }

pub next_part : {R : Type 0} (fits : R → List Entry → Type 0) (last : R → LastAsks) (passed : R → Passed) (kept : List (KeptGroup R)) (history : List Entry) (s : Settings) (file : List ℕ) (d : GroupDef) (rest : List GroupDef) (all : List Group) (k : KeptGroup R)
    → KeepsPart fits last passed kept history s file (d ∷ rest) all → KeepsGroup fits last passed k history (fresh 0 file (group_of_def d)) → settings_of k ≡ s
    → KeepsPart fits last passed (kept ++ k ∷ []) history s file rest all
next_part fits last passed kept history s file d rest all k h keeps told = record {
  part = h.part ++ fresh 0 file (group_of_def d) ∷ [];
  keeps = one_more_kept fits last passed kept history s h.part k (fresh 0 file (group_of_def d)) h.keeps keeps told;
  whole = append_assoc h.part (fresh 0 file (group_of_def d) ∷ []) (map (fresh 0 file) (map group_of_def rest)) ∙ h.whole;
}

pub ends_part : {R : Type 0} (fits : R → List Entry → Type 0) (last : R → LastAsks) (passed : R → Passed) (kept : List (KeptGroup R)) (history : List Entry) (s : Settings) (file : List ℕ) (rest : List GroupDef) (all : List Group)
    → rest ≡ [] → KeepsPart fits last passed kept history s file rest all → KeepsGroups fits last passed kept history s all
ends_part fits last passed kept history s file rest all none h =
    subst (KeepsGroups fits last passed kept history s)
    (sym (append-nil h.part) ∙ ap (λ (ds : List GroupDef). h.part ++ map (fresh 0 file) (map group_of_def ds)) (sym none) ∙ h.whole) h.keeps

-- Of so many files the groups are kept: with those of the files that are left they are all.
pub record KeepsFiles {R : Type 0} (fits : R → List Entry → Type 0) (last : R → LastAsks) (passed : R → Passed) (kept : List (KeptGroup R)) (history : List Entry) (s : Settings) (rest : List RuleGroups) (all : List Group) : Type 0 where
  pub part : List Group
  pub keeps : KeepsGroups fits last passed kept history s part
  pub whole : part ++ unwaiting_groups (map file_of rest) ≡ all

pub begins_files : {R : Type 0} (fits : R → List Entry → Type 0) (last : R → LastAsks) (passed : R → Passed) (history : List Entry) (s : Settings) (files : List RuleGroups)
    → KeepsFiles fits last passed [] history s files (unwaiting_groups (map file_of files))
begins_files fits last passed history s files = record { part = []; keeps = none_kept fits last passed history s; whole = refl }

-- the groups of one more file are kept
pub next_files : {R : Type 0} (fits : R → List Entry → Type 0) (last : R → LastAsks) (passed : R → Passed) (kept new : List (KeptGroup R)) (history : List Entry) (s : Settings) (f : RuleGroups) (rest : List RuleGroups) (all : List Group)
    → KeepsFiles fits last passed kept history s (f ∷ rest) all
    → ((gs : List Group) → KeepsGroups fits last passed kept history s gs → KeepsGroups fits last passed new history s (gs ++ map (fresh 0 f.name) (file_of f).groups))
    → KeepsFiles fits last passed new history s rest all
next_files fits last passed kept new history s f rest all h puts = record {
  part = h.part ++ map (fresh 0 f.name) (file_of f).groups;
  keeps = puts h.part h.keeps;
  whole = append_assoc h.part (map (fresh 0 f.name) (file_of f).groups) (unwaiting_groups (map file_of rest)) ∙ h.whole;
}

pub ends_files : {R : Type 0} (fits : R → List Entry → Type 0) (last : R → LastAsks) (passed : R → Passed) (kept : List (KeptGroup R)) (history : List Entry) (s : Settings) (rest : List RuleGroups) (all : List Group)
    → rest ≡ [] → KeepsFiles fits last passed kept history s rest all → KeepsGroups fits last passed kept history s all
ends_files fits last passed kept history s rest all none h =
    subst (KeepsGroups fits last passed kept history s)
    (sym (append-nil h.part) ∙ ap (λ (fs : List RuleGroups). h.part ++ unwaiting_groups (map file_of fs)) (sym none) ∙ h.whole) h.keeps
