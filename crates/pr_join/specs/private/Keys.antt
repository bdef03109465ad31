-- The keys of entries.
use Rattle.std.specs.Prelude.{◌≡◌, List}
use Rattle.std.specs.List.{list_any}
use Rattle.spec_vectors.specs.pr_labels.declared.pair.Pair.{Pair}
use Rattle.spec_vectors.specs.pr_labels.Order.{labels_eq}
use Rattle.spec_vectors.specs.pr_labels.private.Entries.{is_known}

-- the entries have exactly the label sets that f gives of the items
abbrev pub HasKeys : {X V : Type 0} → (X → List Pair) → List X → List (List Pair × V) → Type 0
HasKeys f xs entries = (q : List Pair) → is_known q entries ≡ list_any (λ x. labels_eq (f x) q) xs
