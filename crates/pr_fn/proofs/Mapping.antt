-- One more element that a function works on.
use Rattle.std.proofs.Common.{◌≡◌, Bool, true, false, ◌||◌, List, [], ◌∷◌, ◌++◌, Option, Some, None, Result, Ok, Err, IfSome, MatchResult, if◌then◌else◌, refl, sym, ap, ◌∙◌, subst}
use Rattle.std.proofs.lemmas.List.Folds.{list_any-append}
use Rattle.std.proofs.lemmas.List.Elements.{filter_map-append}
use Rattle.std.specs.List.{cons_option, filter_map, list_any}
use Rattle.std.specs.Option.{option_to_list}
use Rattle.pr_num.specs.declared.value.Num.{Num}
use Rattle.pr_match.specs.pr_labels.declared.item.Item.{Item}
use Rattle.spec_vectors.specs.declared.function_fault.FunctionFault.{FunctionFault}
use Rattle.spec_vectors.specs.declared.function_fault.FunctionFault.TheVariants as fault
use Rattle.spec_vectors.specs.Functions.{ValueFunction, is_too_wide, mapped, told_apart, with_value}

one_option : {X : Type 0} (o : Option X) → cons_option o [] ≡ option_to_list o
one_option None = refl
one_option (Some x) = refl

neither : (a b : Bool) → a ≡ false → b ≡ false → (a || (b || false)) ≡ false
neither true b h k = cc
neither false true h k = cc
neither false false h k = refl

pub none_wide : (f : ValueFunction) (front : List (Item Num)) (x : Item Num) → list_any (is_too_wide f) front ≡ false → is_too_wide f x ≡ false → list_any (is_too_wide f) (front ++ x ∷ []) ≡ false
none_wide f front x h k = list_any-append (is_too_wide f) front (x ∷ []) ∙ neither (list_any (is_too_wide f) front) (is_too_wide f x) h k

pub kept_more : (f : ValueFunction) (front : List (Item Num)) (x : Item Num) → filter_map (with_value f) (front ++ x ∷ []) ≡ filter_map (with_value f) front ++ option_to_list (with_value f x)
kept_more f front x =
    filter_map-append (with_value f) front (x ∷ []) ∙ ap (λ (xs : List (Item Num)). filter_map (with_value f) front ++ xs) (one_option (with_value f x))

-- the whole of it
pub mapped_rows : (f : ValueFunction) (items : List (Item Num)) → list_any (is_too_wide f) items ≡ false → mapped f items ≡ told_apart (filter_map (with_value f) items)
mapped_rows f items h = ap (λ (b : Bool). if b then Err fault.TooWide else told_apart (filter_map (with_value f) items)) h

pub mapped_wide : (f : ValueFunction) (items : List (Item Num)) → list_any (is_too_wide f) items ≡ true → mapped f items ≡ Err fault.TooWide
mapped_wide f items h = ap (λ (b : Bool). if b then Err fault.TooWide else told_apart (filter_map (with_value f) items)) h

-- what is said of an answer is said of what equals it
pub told_same : {V E : Type 0} (r : Result V E) (items : V → List (Item Num)) (told : E → Option FunctionFault) (a b : Result (List (Item Num)) FunctionFault) → a ≡ b
    → MatchResult r (λ v. b ≡ Ok (items v)) (λ e. IfSome (told e) (λ fault. b ≡ Err fault))
    → MatchResult r (λ v. a ≡ Ok (items v)) (λ e. IfSome (told e) (λ fault. a ≡ Err fault))
told_same r items told a b e h = subst (λ (x : Result (List (Item Num)) FunctionFault). MatchResult r (λ v. x ≡ Ok (items v)) (λ e. IfSome (told e) (λ fault. x ≡ Err fault))) (sym e) h
