-- A range has no value at a time.
use Rattle.std.proofs.Common.{◌≡◌, ℕ, Option, true, false, sym, ap, ◌∙◌}
use Rattle.pr_ast.specs.declared.place.Place.{Place}
use Rattle.pr_ast.specs.declared.selector.Selector.{Selector}
use Rattle.pr_ast.specs.Tree.{Tree, range, sub}
use Rattle.spec_meaning.specs.pr_types.declared.kind.ValueType.{ValueType}
use Rattle.spec_meaning.specs.pr_types.declared.kind.ValueType.TheVariants.{Range}
use Rattle.spec_meaning.specs.pr_types.Signatures.{is_type}
use Rattle.spec_meaning.specs.pr_types.Typed.{typed}
use Rattle.spec_meaning.proofs.TypesParts.{parts_of_range, parts_of_sub}
use Rattle.pr_eval.specs.private.Parts.{IsValued}

is_range : (v : ValueType) → v ≡ Range → is_type v Range ≡ false → ⊥
is_range v is h = let k : true ≡ false = sym (ap (λ u. is_type u Range) is) ∙ h in cc

pub range_unvalued : (t : Tree) (p : Place) (s : Selector) (d : ℕ) → t ≡ range p s d → IsValued t → ⊥
range_unvalued t p s d is h = is_range h.gives (parts_of_range p s d h.gives (sym (ap typed is) ∙ h.typed_so)).1 h.no_range

pub sub_unvalued : (t : Tree) (p : Place) (u : Tree) (d : ℕ) (i : Option ℕ) (o : ℕ) → t ≡ sub p u d i o → IsValued t → ⊥
sub_unvalued t p u d i o is h = is_range h.gives (parts_of_sub p u d i o h.gives (sym (ap typed is) ∙ h.typed_so)).2 h.no_range
