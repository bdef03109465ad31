-- What is wrong at a bad place, as a function of the tokens and the place.
use Rattle.std.specs.Prelude.{ℕ, zero, suc, Bool, true, false, List, [], ◌∷◌, if◌then◌else◌}
use Rattle.test_forms.specs.declared.tree.Sign.{Sign as SignKind}
use Rattle.test_forms.specs.declared.tree.Sign.TheVariants.{Close}
use Rattle.test_forms.specs.declared.fault.FaultKind.{FaultKind}
use Rattle.test_forms.specs.declared.fault.FaultKind.TheVariants.{End, NoOperand, NoOperator}
use Rattle.test_forms.specs.private.Tree.{Seen, sign_token}

abbrev pub sign_ends : SignKind → Bool
sign_ends Close = true
sign_ends s = false

-- whether an expression can end with the token
abbrev pub ends_operand : Seen → Bool
ends_operand (sign_token s p) = sign_ends s
ends_operand t = true

-- by whether an expression can end with the token before
abbrev pub kind_after : Bool → List Seen → ℕ → FaultKind
kind_after ended [] place = End
kind_after ended (t ∷ ts) zero = if ended then NoOperator else NoOperand
kind_after ended (t ∷ ts) (suc place) = kind_after (ends_operand t) ts place

abbrev pub kind_at : List Seen → ℕ → FaultKind
kind_at ts place = kind_after false ts place
