-- Rows that are told after a call.
use Rattle.std.proofs.Common.{◌≡◌, List, [], Option, Some, None, sym, subst, append-nil}
use Rattle.std.specs.Prelude.{IfSome}
use Rattle.pr_outside.specs.private.Kept.{AppendsRows, KeepsRows}
use Rattle.pr_outside.specs.spec_history.declared.row.Row.{Row}

-- what was said of told rows is said of them where they are told still
pub told_on : (P : List Row → Type 0) (old now : Option (List Row)) → KeepsRows old now → IfSome old P → IfSome now P
told_on P old None same h = tt
told_on P None (Some now) same h = absurd same
told_on P (Some rows) (Some now) same h = subst P (sym same) h

pub told_and : (P Q R : List Row → Type 0) (now : Option (List Row)) → ((rows : List Row) → P rows → Q rows → R rows) → IfSome now P → IfSome now Q → IfSome now R
told_and P Q R None by h k = tt
told_and P Q R (Some rows) by h k = by rows h k

pub told_by : (P Q : List Row → Type 0) (now : Option (List Row)) → ((rows : List Row) → P rows → Q rows) → IfSome now P → IfSome now Q
told_by P Q None by h = tt
told_by P Q (Some rows) by h = by rows h

pub keeps_same : (rows : Option (List Row)) → KeepsRows rows rows
keeps_same None = tt
keeps_same (Some rows) = λ i. rows

pub keeps_on : (first old now : Option (List Row)) → KeepsRows first old → KeepsRows old now → KeepsRows first now
keeps_on first old None h k = tt
keeps_on first None (Some now) h k = absurd k
keeps_on None (Some rows) (Some now) h k = absurd h
keeps_on (Some all) (Some rows) (Some now) h k = subst (λ r. r ≡ all) (sym k) h

pub appends_nothing : (rows : Option (List Row)) → AppendsRows rows rows []
appends_nothing None = tt
appends_nothing (Some rows) = sym (append-nil rows)
