-- A walk over the name of one rule file.
use Rattle.std.proofs.Common.{◌≡◌, ℕ, List, [], ◌∷◌, ◌++◌, Bool, true, Option, Result, refl, sym, ap, ◌∙◌, subst, length}
use Rattle.pr_outside.specs.Meant.{Content}
use Rattle.pr_outside.specs.Asks.{AsksBy}
use Rattle.pr_outside.specs.Outside.{AreTold, Held}
use Rattle.pr_outside.specs.declared.status.status.Stop.{Stop}
use Rattle.pr_outside.specs.Loading.{Holding, Made, goes_on, holding_by, made_by, walk}
use Rattle.pr_checks.specs.RuleFiles.{file_told, rules_told, with_file}
use Rattle.pr_checks.specs.declared.rules.RuleText.{RuleText}

-- what was appended is what is told of the file
pub took : (name text : List ℕ) (before after : RuleText) (content : Option (List ℕ)) → text ≡ before.text → after.text ≡ text ++ (file_told name content).text
    → after.refused ≡ (file_told name content).refused → with_file name before (holding_by content) ≡ made_by true after
took name text before after content first lines refused =
    let told = file_told name content in
    subst (λ (t : List ℕ). with_file name before (holding_by content) ≡ goes_on (record { text = t; refused = after.refused })) (sym (lines ∙ ap (λ (t : List ℕ). t ++ told.text) first))
    (subst (λ (b : Bool). with_file name before (holding_by content) ≡ goes_on (record { text = before.text ++ told.text; refused = b })) (sym refused) refl)

module _ {N : Type 0} (file : N → List ℕ) where
  -- each name is told by the file that it asks for
  abbrev pub with_named : N → RuleText → Holding → Made RuleText
  with_named name = with_file (file name)

  pub one_told : (held : Held) (content : Content) (name : N) (names : List N) (before : RuleText) → names ≡ name ∷ []
      → AreTold content held (rules_told held (file name)).asks → AreTold content held (walk file with_named held names before).asks
  one_told held content name names before one told = subst (λ (l : List N). AreTold content held (walk file with_named held l before).asks) (sym one) told

  pub one_text : (held : Held) (name : N) (text : List ℕ) (names : List N) (before after : RuleText) → names ≡ name ∷ [] → before.text ≡ text
      → after ≡ (walk file with_named held names before).made → after.text ≡ text ++ (rules_told held (file name)).text
  one_text held name text names before after one first made =
      ap (λ (t : RuleText). t.text) (made ∙ ap (λ (l : List N). (walk file with_named held l before).made) one)
      ∙ ap (λ (t : List ℕ). t ++ (rules_told held (file name)).text) first

  pub one_refused : (held : Held) (name : N) (names : List N) (before after : RuleText) → names ≡ name ∷ []
      → after ≡ (walk file with_named held names before).made → after.refused ≡ (rules_told held (file name)).refused
  one_refused held name names before after one made =
      ap (λ (t : RuleText). t.refused) (made ∙ ap (λ (l : List N). (walk file with_named held l before).made) one)

  pub one_asked : (T : Type 0) (held : Held) (name : N) (names : List N) (before : RuleText) (a b : ℕ) (r : Result T Stop) → names ≡ name ∷ []
      → AsksBy a b (length (walk file with_named held names before).asks) r → AsksBy a b (length (rules_told held (file name)).asks) r
  one_asked T held name names before a b r one asked = subst (λ (l : List N). AsksBy a b (length (walk file with_named held l before).asks) r) one asked
