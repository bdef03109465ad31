-- Where a list of problems is empty, so are its parts; and what is found among fields.
use Rattle.std.proofs.Common.{◌≡◌, ℕ, List, [], ◌∷◌, ◌++◌, Bool, true, false, not, ◌||◌, Option, Some, None, cond, refl, sym, ap, subst, ◌∙◌, inl, inr}
use Rattle.std.specs.Prelude.{find}
use Rattle.std.specs.Option.{option_map}
use Rattle.std.specs.List.{AllByRecursion, flat_map}
use Rattle.std.specs.Str.{bytes_eq}
use Rattle.std.specs.Cmp.Lexicographic.{bytes_decides}
use Rattle.std.proofs.lemmas.Bool.{and_parts, not-true, cases_Bool, cond-true, cond-false}
use Rattle.pr_yaml.specs.Tree.{Tree, EntryTree, is_absent}
use Rattle.pr_rulefile.specs.Nodes.{field, is_field, value_of, written, is_written, says_nothing, is_empty_text, text_of}

pub left : {A : Type 0} (xs ys : List A) → xs ++ ys ≡ [] → xs ≡ []
left [] ys h = refl
left (x ∷ xs) ys h = cc

pub right : {A : Type 0} (xs ys : List A) → xs ++ ys ≡ [] → ys ≡ []
right [] ys h = h
right (x ∷ xs) ys h = cc

pub none : {A B : Type 0} (f : A → List B) (xs : List A) → flat_map f xs ≡ [] → AllByRecursion (λ x. f x ≡ []) xs
none f [] h = tt
none f (x ∷ xs) h = (left (f x) (flat_map f xs) h, none f xs (right (f x) (flat_map f xs) h))

-- a test that must hold, or something is wrong
pub unless : {A : Type 0} (b : Bool) (x : A) → cond b [] (x ∷ []) ≡ [] → b ≡ true
unless true x h = refl
unless false x h = cc

pub or_parts : (a b : Bool) → a || b ≡ false → (a ≡ false) × (b ≡ false)
or_parts true b h = cc
or_parts false b h = (refl, h)

found : {X : Type 0} (P : X → Type 0) (p : X → Bool) (xs : List X) (x : X) → AllByRecursion P xs → find p xs ≡ Some x → P x × (p x ≡ true)
found P p [] x all h = cc
found P p (y ∷ ys) x all h =
    elim (cases_Bool (p y)) [
      | inl with ↦
          let e : Some y ≡ Some x = sym (cond-true (p y) (Some y) (find p ys) with) ∙ h in
          let same : y ≡ x = cc in
          (subst P same all.0, ap p (sym same) ∙ with)
      | inr without ↦ found P p ys x all.1 (sym (cond-false (p y) (Some y) (find p ys) without) ∙ h)
    ]

-- a value stands under a name, in an entry that has P
pub record Stands (P : EntryTree → Type 0) (key : List ℕ) (v : Tree) : Type 0 where
  pub entry : EntryTree
  pub has : P entry
  pub named : entry.key ≡ key
  pub there : is_absent entry.value ≡ false
  pub value : entry.value ≡ v

pub field_stands : (P : EntryTree → Type 0) (key : List ℕ) (es : List EntryTree) (v : Tree) → AllByRecursion P es → field key es ≡ Some v → Stands P key v
unfolding field
field_stands P key es v all h = by (find (is_field key) es) refl h where
  by : (o : Option EntryTree) → find (is_field key) es ≡ o → option_map value_of o ≡ Some v → Stands P key v
  by None q h = cc
  by (Some e) q h =
      let has = found P (is_field key) es e all q in
      let parts = and_parts (bytes_eq e.key key) (not (is_absent e.value)) has.1 in
      record { entry = e; has = has.0; named = (bytes_decides e.key key).0 parts.0; there = not-true (is_absent e.value) parts.1; value = cc }

-- the same of what is written, which is no empty text
pub written_stands : (P : EntryTree → Type 0) (key : List ℕ) (es : List EntryTree) (v : Tree) → AllByRecursion P es → written key es ≡ Some v → Stands P key v × (is_empty_text (text_of v) ≡ false)
unfolding written
written_stands P key es v all h = by (find (is_written key) es) refl h where
  by : (o : Option EntryTree) → find (is_written key) es ≡ o → option_map value_of o ≡ Some v → Stands P key v × (is_empty_text (text_of v) ≡ false)
  by None q h = cc
  by (Some e) q h =
      let has = found P (is_written key) es e all q in
      let parts = and_parts (bytes_eq e.key key) (not (says_nothing e.value)) has.1 in
      let says = or_parts (is_absent e.value) (is_empty_text (text_of e.value)) (not-true (says_nothing e.value) parts.1) in
      let value : e.value ≡ v = cc in
      (record { entry = e; has = has.0; named = (bytes_decides e.key key).0 parts.0; there = says.0; value = value }, ap (λ t. is_empty_text (text_of t)) (sym value) ∙ says.1)
