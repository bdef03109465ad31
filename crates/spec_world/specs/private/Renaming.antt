-- What renaming keeps of scraped labels: each stands, under its own name or under a free one.
use Rattle.std.specs.Prelude.{◌≡◌, ℕ, zero, suc, ◌<◌, true, false, List, [], ◌∷◌, ◌++◌, None}
use Rattle.std.specs.List.Sorted.{IsPermutation}
use Rattle.pr_ast.specs.pr_labels.declared.pair.Pair.{Pair}
use Rattle.pr_ast.specs.pr_labels.Edits.{first_fault}
use Rattle.pr_ast.specs.pr_labels.LabelSet.{pair_of}
use Rattle.spec_world.specs.Scrapes.{exported, has, is_free}

-- the name with `exported_` before it so many times
abbrev pub exported_times : ℕ → List ℕ → List ℕ
exported_times zero name = name
exported_times (suc times) name = exported_times times (exported name)

-- The shortest name that neither label set has, of those with `exported_` before the name once or
-- more often.
pub record IsFirstFree (target labels : List Pair) (name new : List ℕ) : Type 0 where
  pub times : ℕ
  pub is : new ≡ exported_times (suc times) name
  pub free : is_free target labels new ≡ true
  pub first : (fewer : ℕ) → fewer < times → is_free target labels (exported_times (suc fewer) name) ≡ false

-- Labels, and under which names they stand: a label whose name the target has not keeps it, and one
-- whose name it has stands under a longer one that it has not.
pub data Renames (target : List Pair) : List Pair → List Pair → Type 0 where
  nothing : Renames target [] []
  keeps : (p : Pair) (ps qs : List Pair) → has target p.name ≡ false → Renames target ps qs → Renames target (p ∷ ps) (p ∷ qs)
  moves : (p : Pair) (times : ℕ) (ps qs : List Pair) → has target p.name ≡ true → has target (exported_times (suc times) p.name) ≡ false → Renames target ps qs →
      Renames target (p ∷ ps) (pair_of (exported_times (suc times) p.name) p.value ∷ qs)

-- The set has all labels of the target and all scraped ones, these under their new names, and no
-- others. All names are label names, and none stands twice.
pub record HasAllLabels (target labels set : List Pair) : Type 0 where
  pub new : List Pair
  pub renames : Renames target labels new
  pub apart : first_fault (target ++ new) ≡ None
  pub all : IsPermutation (target ++ new) set
