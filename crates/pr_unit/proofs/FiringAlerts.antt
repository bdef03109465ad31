-- The alerts that fire, one after another.
use Rattle.std.proofs.Common.{◌≡◌, Bool, true, false, cond, List, [], ◌∷◌, ◌++◌, filter, map, refl, ap, ◌∙◌, append_assoc}
use Rattle.pr_group.specs.spec_alerts.declared.found.RuleElement.{RuleElement}
use Rattle.pr_group.specs.spec_alerts.declared.record.Record.{Record}
use Rattle.pr_group.specs.spec_alerts.Records.{is_firing}
use Rattle.spec_tests.specs.Verdict.{found_of}

firing_parts : (r : Record) (rs : List Record) → map found_of (filter (λ x. is_firing x.state) (r ∷ [])) ++ map found_of (filter (λ x. is_firing x.state) rs) ≡ map found_of (filter (λ x. is_firing x.state) (r ∷ rs))
firing_parts r rs = by (is_firing r.state) where
  by : (b : Bool) → map found_of (cond b (r ∷ []) []) ++ map found_of (filter (λ (x : Record). is_firing x.state) rs) ≡ map found_of (cond b (r ∷ filter (λ (x : Record). is_firing x.state) rs) (filter (λ (x : Record). is_firing x.state) rs))
  by true = refl
  by false = refl

pub one_more : (old new all : List RuleElement) (r : Record) (rs : List Record) → old ++ map found_of (filter (λ x. is_firing x.state) (r ∷ rs)) ≡ all
    → new ≡ old ++ map found_of (filter (λ x. is_firing x.state) (r ∷ [])) → new ++ map found_of (filter (λ x. is_firing x.state) rs) ≡ all
one_more old new all r rs h is =
    ap (λ (fs : List RuleElement). fs ++ map found_of (filter (λ (x : Record). is_firing x.state) rs)) is
    ∙ append_assoc old (map found_of (filter (λ (x : Record). is_firing x.state) (r ∷ []))) (map found_of (filter (λ (x : Record). is_firing x.state) rs))
    ∙ ap (λ (fs : List RuleElement). old ++ fs) (firing_parts r rs) ∙ h
