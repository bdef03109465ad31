-- Whether a name has an ending.
use Rattle.std.proofs.Common.{◌≡◌, ◌≢◌, refl, sym, ap, ◌∙◌, ℕ, ◌-◌, List, [], ◌∷◌, ◌++◌, length, take, drop, Bool, true, false, Option, Some, None, Bor, MatchOption, take-append-drop}
use Rattle.std.specs.Str.Pattern.{FindsTextSuffix, StripsSuffix}
use Rattle.std.proofs.lemmas.Slice.Eq.{bytes_eq-Decides}
use Rattle.pr_expo.specs.Families.{ends_in, without_ending}

cancel : (xs ys zs : List ℕ) → xs ++ ys ≡ xs ++ zs → ys ≡ zs
cancel [] ys zs h = h
cancel (x ∷ xs) ys zs h = cancel xs ys zs (let k : xs ++ ys ≡ xs ++ zs = cc in k)

pub not_true : (b : Bool) → (b ≡ true → ⊥) → b ≡ false
not_true true h = absurd (h refl)
not_true false h = refl

missing : (ending name : List ℕ) → ((front : List ℕ) → name ≢ front ++ ending) → ends_in ending name ≡ false
missing ending name h =
    let m = length name - length ending in
    not_true (ends_in ending name) (λ t. h (take m name) (sym (take-append-drop m name) ∙ ap (λ x. take m name ++ x) (sym ((bytes_eq-Decides ending (drop m name)).0 t))))

there : (ending name : List ℕ) → name ≡ take (length name - length ending) name ++ ending → ends_in ending name ≡ true
there ending name h =
    let m = length name - length ending in
    (bytes_eq-Decides ending (drop m name)).1 (cancel (take m name) ending (drop m name) (sym h ∙ sym (take-append-drop m name)))

pub ending_is : (ending name : List ℕ) (r : Option (Bor (List ℕ))) → MatchOption r (FindsTextSuffix ending name None) (λ x. StripsSuffix (FindsTextSuffix ending) name x.now) →
    MatchOption r (ends_in ending name ≡ false) (λ base. (ends_in ending name ≡ true) × (base.now ≡ without_ending ending name))
ending_is ending name None h = missing ending name h
ending_is ending name (Some x) h =
    let k : h.0 ≡ length ending = h.1.0 in (
      there ending name (h.1.1 ∙ ap (λ n. take (length name - n) name ++ ending) k),
      h.2 ∙ ap (λ n. take (length name - n) name) k,
    )
