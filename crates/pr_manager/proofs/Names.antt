-- Names of groups, and the groups that are kept under them.
use Rattle.std.proofs.Common.{◌≡◌, ℕ, Bool, true, false, ◌&&◌, List, refl, sym, ap, ◌∙◌}
use Rattle.std.specs.Str.{bytes_eq}
use Rattle.std.proofs.lemmas.Slice.Eq.{bytes_eq-Decides}
use Rattle.spec_world.specs.spec_history.declared.entry.Entry.{Entry}
use Rattle.pr_group.specs.pr_range.private.Asks.{LastAsks, Passed}
use Rattle.spec_world.specs.spec_rules.Definitions.{Group as Definition}
use Rattle.spec_world.specs.spec_rules.Groups.{Group, is_group_named}
use Rattle.pr_group.specs.private.Keeping.{KeepsGroup, KeptGroup}
use Rattle.pr_manager.specs.declared.naming.GroupName.{GroupName}
use Rattle.pr_manager.specs.private.Naming.{is_kept_named, name_of, same_name, site_of}

pub both : (x y : Bool) → (x && y) ≡ true → (x ≡ true) × (y ≡ true)
both true y h = (refl, h)
both false y h = absurd cc

pub same_is : (a b : GroupName) → same_name a b ≡ true → a ≡ b
same_is a b h =
    let parts = both (bytes_eq a.file b.file) (bytes_eq a.name b.name) h in
    let files = (bytes_eq-Decides a.file b.file).0 parts.0 in
    let names = (bytes_eq-Decides a.name b.name).0 parts.1 in
    λ i. record { file = files i; name = names i }

pub is_same : (a : GroupName) → same_name a a ≡ true
is_same a = ap (λ b. b && bytes_eq a.name a.name) ((bytes_eq-Decides a.file a.file).1 refl) ∙ (bytes_eq-Decides a.name a.name).1 refl

-- a group that is kept has the file and the name of its group
pub kept_name : {R : Type 0} (fits : R → List Entry → Type 0) (last : R → LastAsks) (passed : R → Passed) (history : List Entry) (k : KeptGroup R) (g : Group)
    → KeepsGroup fits last passed k history g → k.def.name ≡ g.name
kept_name fits last passed history k g h = sym (ap (λ (d : Definition). d.name) h.definition)

pub kept_site : {R : Type 0} (fits : R → List Entry → Type 0) (last : R → LastAsks) (passed : R → Passed) (history : List Entry) (k : KeptGroup R) (g : Group)
    → KeepsGroup fits last passed k history g → name_of k ≡ site_of g
kept_site fits last passed history k g h =
    let name = kept_name fits last passed history k g h in
    let file = h.file in
    λ i. record { file = file i; name = name i }

pub kept_is_named : {R : Type 0} (fits : R → List Entry → Type 0) (last : R → LastAsks) (passed : R → Passed) (history : List Entry) (file name : List ℕ) (k : KeptGroup R) (g : Group)
    → KeepsGroup fits last passed k history g → is_kept_named file name k ≡ is_group_named file name g
kept_is_named fits last passed history file name k g h =
    let named = kept_name fits last passed history k g h in
    let filed = h.file in
    λ i. bytes_eq (filed i) file && bytes_eq (named i) name
