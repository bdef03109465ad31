-- Steps of the loops that set one pair after another.
use Rattle.std.proofs.Common.{◌≡◌, List, true, false, Bool, cond, refl, Some, None}
use Rattle.pr_labels.specs.declared.fault.LabelFault.{LabelFault}
use Rattle.pr_labels.specs.declared.pair.Pair.{Pair}
use Rattle.pr_labels.specs.Edits.{pair_fault}
use Rattle.pr_labels.specs.Names.{is_label_name}

faultless_name : (known : Bool) (again : Bool) (bad twice : LabelFault) → cond known (cond again (Some twice) None) (Some bad) ≡ None → known ≡ true
faultless_name true again bad twice h = refl
faultless_name false again bad twice h = cc

-- a pair with no fault has a label name
pub named_pair : (before : List Pair) (p : Pair) → pair_fault before p ≡ None → is_label_name p.name ≡ true
named_pair before p h = faultless_name (is_label_name p.name) _ _ _ h
