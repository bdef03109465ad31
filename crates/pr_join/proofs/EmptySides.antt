-- What a set operation gives of no element, and of one more.
use Rattle.std.proofs.Common.{◌≡◌, ◌==◌, Bool, true, false, cond, List, [], ◌∷◌, ◌++◌, filter, length, refl, sym, ap, ◌∙◌}
use Rattle.std.proofs.lemmas.Bool.{eqb-true}
use Rattle.std.proofs.lemmas.List.{nil_from_length}
use Rattle.std.proofs.lemmas.List.Elements.{filter-append}
use Rattle.spec_vectors.specs.pr_num.declared.value.Num.{Num}
use Rattle.spec_vectors.specs.pr_labels.declared.item.Item.{Item}
use Rattle.spec_vectors.specs.pr_labels.declared.matching.Matching.{Matching}
use Rattle.pr_join.specs.private.Sets.{matched, with_match}

pub empty_side : (side : List (Item Num)) → true ≡ (length side == 0) → side ≡ []
empty_side side h = nil_from_length side (eqb-true (length side) 0 (sym h))

none_of : (side : List (Item Num)) → filter (λ e. false) side ≡ []
none_of [] = refl
none_of (x ∷ xs) = none_of xs

all_of : (side : List (Item Num)) → filter (λ e. true) side ≡ side
all_of [] = refl
all_of (x ∷ xs) = ap (λ (ys : List (Item Num)). x ∷ ys) (all_of xs)

pub none_wanted : (how : Matching) (wanted : Bool) (side : List (Item Num)) → wanted ≡ true → with_match how [] wanted side ≡ []
none_wanted how true side h = none_of side
none_wanted how false side h = cc

pub all_wanted : (how : Matching) (wanted : Bool) (side : List (Item Num)) → wanted ≡ false → with_match how [] wanted side ≡ side
all_wanted how false side h = all_of side
all_wanted how true side h = cc

-- one more element of a side
pub match_more : (how : Matching) (other front : List (Item Num)) (wanted : Bool) (x : Item Num) (b : Bool) → b ≡ matched how other wanted x
    → with_match how other wanted (front ++ x ∷ []) ≡ with_match how other wanted front ++ cond b (x ∷ []) []
match_more how other front wanted x b e =
    filter-append (matched how other wanted) front (x ∷ []) ∙ ap (λ (c : Bool). with_match how other wanted front ++ cond c (x ∷ []) []) (sym e)
