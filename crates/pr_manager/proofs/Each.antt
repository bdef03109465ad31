-- Groups that are kept, one after another.
use Rattle.std.proofs.Common.{List, ◌++◌, Bool}
use Rattle.spec_world.specs.spec_history.private.Laws.{IsLawful}
use Rattle.spec_world.specs.spec_history.declared.entry.Entry.{Entry}
use Rattle.pr_group.specs.pr_range.private.Asks.{LastAsks, Passed}
use Rattle.spec_world.specs.spec_rules.Groups.{Group}
use Rattle.spec_world.specs.spec_rules.Settings.{Settings}
use Rattle.pr_group.specs.private.Keeping.{KeepsGroup, KeptGroup}
use Rattle.pr_manager.specs.private.Keeping.{KeepEach, ManagesGroups, KeepsUnder, KeptManager, settings_in}
use Rattle.pr_manager.proofs.Places.{zip_map}

-- what is known of each kept group over a later history
abbrev pub StaysKept : {R : Type 0} → (R → List Entry → Type 0) → (R → LastAsks) → (R → Passed) → Type 0
StaysKept {R} fits last passed = (k : KeptGroup R) (history more : List Entry) (g : Group) → KeepsGroup fits last passed k history g → IsLawful (history ++ more) → KeepsGroup fits last passed k (history ++ more) g

pub each_stays : {R : Type 0} (fits : R → List Entry → Type 0) (last : R → LastAsks) (passed : R → Passed) → StaysKept fits last passed → (s : Settings) (history more : List Entry) → IsLawful (history ++ more)
    → (ks : List (KeptGroup R)) (groups : List Group) → KeepEach fits last passed s history ks groups → KeepEach fits last passed s (history ++ more) ks groups
each_stays fits last passed stays s history more lawful ks groups h =
    zip_map (KeepsUnder fits last passed s history) (KeepsUnder fits last passed s (history ++ more)) (λ k g u. record { keeps = stays k history more g u.keeps lawful; told = u.told }) ks groups h

pub all_stay : {R : Type 0} (fits : R → List Entry → Type 0) (last : R → LastAsks) (passed : R → Passed) → StaysKept fits last passed → (k : KeptManager R) (history more : List Entry) (groups : List Group) (reloaded : Bool)
    → ManagesGroups fits last passed k history groups reloaded → IsLawful (history ++ more) → ManagesGroups fits last passed k (history ++ more) groups reloaded
all_stay fits last passed stays k history more groups reloaded h lawful =
    record { each = each_stays fits last passed stays (settings_in k) history more lawful k.groups groups h.each; since = h.since }
