-- Operators between vectors but those between sets.
use Rattle.std.proofs.Common.{◌≡◌, Bool, List, refl}
use Rattle.pr_num.specs.declared.value.Num.{Num}
use Rattle.pr_labels.specs.declared.item.Item.{Item}
use Rattle.pr_labels.specs.declared.matching.Matching.{Matching}
use Rattle.pr_ast.specs.declared.place.Place.{Place}
use Rattle.pr_ast.specs.declared.names.BinOp.{BinOp}
use Rattle.pr_ast.specs.declared.names.BinOp.TheVariants as op
use Rattle.pr_range.specs.spec_vectors.Matching.{joined}
use Rattle.spec_meaning.specs.Answers.{joined_at}
use Rattle.spec_meaning.specs.Operators.{is_filter, operator_of}
use Rattle.spec_meaning.specs.Operations.{between_vectors}

pub between_values : (p : Place) (o : BinOp) (b : Bool) (how : Matching) (left right : List (Item Num)) → (o ≡ op.Or → ⊥) → (o ≡ op.And → ⊥) → (o ≡ op.Unless → ⊥)
    → between_vectors p o b how left right ≡ joined_at p (joined how (is_filter o b) (operator_of o b) left right)
between_values p op.Or b how left right h k m = absurd (h refl)
between_values p op.And b how left right h k m = absurd (k refl)
between_values p op.Unless b how left right h k m = absurd (m refl)
between_values p op.Equal b how left right h k m = refl
between_values p op.NotEqual b how left right h k m = refl
between_values p op.LessEqual b how left right h k m = refl
between_values p op.Less b how left right h k m = refl
between_values p op.GreaterEqual b how left right h k m = refl
between_values p op.Greater b how left right h k m = refl
between_values p op.Add b how left right h k m = refl
between_values p op.Sub b how left right h k m = refl
between_values p op.Mul b how left right h k m = refl
between_values p op.Div b how left right h k m = refl
between_values p op.Rem b how left right h k m = refl
