-- What is named comes first, name by name.
use Rattle.std.proofs.Common.{◌≡◌, ℕ, not, List, ◌∷◌, ◌++◌, filter, sym, ap, ◌∙◌, append_assoc}
use Rattle.pr_unit.specs.private.Ordered.{is_so_named, named_first}

pub names_next : {X : Type 0} (named : X → List ℕ) (names after : List (List ℕ)) (name : List ℕ) (done others new left all : List X) → names ≡ name ∷ after
    → done ++ named_first named names others ≡ all → new ≡ done ++ filter (is_so_named named name) others → left ≡ filter (λ x. not (is_so_named named name x)) others
    → new ++ named_first named after left ≡ all
names_next {X} named names after name done others new left all parts h now rest =
    ap (λ (l : List X). l ++ named_first named after left) now
    ∙ ap (λ (l : List X). (done ++ filter (is_so_named named name) others) ++ named_first named after l) rest
    ∙ append_assoc done (filter (is_so_named named name) others) (named_first named after (filter (λ (x : X). not (is_so_named named name x)) others))
    ∙ ap (λ (ns : List (List ℕ)). done ++ named_first named ns others) (sym parts) ∙ h
