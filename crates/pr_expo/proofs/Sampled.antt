-- What is put for one more sample of a family that has one.
use Rattle.std.proofs.Common.{◌≡◌, refl, sym, ap, ◌∙◌, ℕ, List, [], ◌∷◌, Bool, true, false, cond, length, nat_lt, Option, Some, None}
use Rattle.std.specs.Prelude.{unwrap_or, if◌then◌else◌, position}
use Rattle.std.specs.List.{position_or_len}
use Rattle.std.specs.Map.{lookup, keys_of}
use Rattle.std.specs.Str.{bytes_eq}
use Rattle.pr_expo.specs.declared.known.Known.{Known}
use Rattle.pr_expo.specs.private.Keeping.{Entries, known_of, nothing_known, put, with_sample}

-- what is known already is put back
put_back : (es : Entries) (name : List ℕ) (known : Known) → lookup (bytes_eq name) es ≡ Some known → put es name known ≡ es
put_back [] name known h = cc
put_back (e ∷ es) name known h = by (bytes_eq name e.0) h (put_back es name known) where
  by : (b : Bool) → cond b (Some e.1) (lookup (bytes_eq name) es) ≡ Some known → (lookup (bytes_eq name) es ≡ Some known → put es name known ≡ es) →
      (if b then (e.0, known) ∷ es else e ∷ put es name known) ≡ e ∷ es
  by true k again = let is : e.1 ≡ known = cc in ap (λ (v : Known). (e.0, v) ∷ es) (sym is)
  by false k again = ap (λ xs. e ∷ xs) (again k)

same_sampled : (known : Known) → known.sampled ≡ true → with_sample known ≡ known
same_sampled known h = λ i. record known { sampled = sym h i }

pub stays_put : (es : Entries) (name : List ℕ) (known : Known) → lookup (bytes_eq name) es ≡ Some known → known.sampled ≡ true → put es name (with_sample (known_of es name)) ≡ es
stays_put es name known h sampled =
    ap (λ o. put es name (with_sample (unwrap_or o nothing_known))) h ∙ ap (put es name) (same_sampled known sampled) ∙ put_back es name known h

pub place_is : (p : List ℕ → Bool) (names : List (List ℕ)) (place : ℕ) → position p names ≡ Some place → place ≡ position_or_len p names
place_is p names place h = by (nat_lt (position_or_len p names) (length names)) h where
  by : (b : Bool) → cond b (Some (position_or_len p names)) None ≡ Some place → place ≡ position_or_len p names
  by true k = cc
  by false k = cc
