-- Names that differ.
use Rattle.std.proofs.Common.{◌≡◌, ℕ, Bool, true, false, List, [], ◌∷◌, ◌++◌, map, refl, sym}
use Rattle.std.specs.Prelude.{◌||◌, fold, if◌then◌else◌}
use Rattle.std.specs.List.{IsDistinct, list_any}
use Rattle.std.specs.Str.{bytes_eq}
use Rattle.std.proofs.lemmas.Bool.{false≢true}
use Rattle.pr_words.specs.Names.{is_among}
use Rattle.pr_unit.specs.spec_tests.RuleFiles.{beside, rule_file_names, with_name}
use Rattle.pr_checks.proofs.RulesKept.{all_snoc}

both_false : (a b : Bool) → (a || b) ≡ false → (a ≡ false) × (b ≡ false)
both_false true b h = absurd (false≢true (sym h))
both_false false b h = (refl, h)

apart_snoc : (names : List (List ℕ)) (name : List ℕ) → IsDistinct bytes_eq names → is_among name names ≡ false → IsDistinct bytes_eq (names ++ name ∷ [])
unfolding IsDistinct
apart_snoc [] name d e = (tt, tt)
apart_snoc (n ∷ names) name d e =
    let f = both_false (bytes_eq n name) (list_any (λ m. bytes_eq m name) names) e in
    (all_snoc (λ m. bytes_eq n m ≡ false) names name d.0 f.0, apart_snoc names name d.1 f.1)

with_apart : (names : List (List ℕ)) (name : List ℕ) → IsDistinct bytes_eq names → IsDistinct bytes_eq (with_name names name)
with_apart names name d = by (is_among name names) refl
  where
    by : (b : Bool) → is_among name names ≡ b → IsDistinct bytes_eq (if b then names else names ++ name ∷ [])
    by true e = d
    by false e = apart_snoc names name d e

all_apart : (more names : List (List ℕ)) → IsDistinct bytes_eq names → IsDistinct bytes_eq (fold with_name names more)
all_apart [] names d = d
all_apart (name ∷ more) names d = all_apart more (with_name names name) (with_apart names name d)

-- each name of a rule file is there once
pub rule_names_apart : (name : List ℕ) (files : List (List ℕ)) → IsDistinct bytes_eq (rule_file_names name files)
unfolding IsDistinct
rule_names_apart name files = all_apart (map (beside name) files) [] tt
