-- Why a row gives no entry.
use Rattle.std.specs.Prelude.{◌≡◌, Option, None}
use Rattle.pr_labels.specs.declared.series.series.TextFault.{TextFault}
use Rattle.pr_labels.specs.declared.series.series.TextFault.TheVariants as text
use Rattle.spec_history.specs.declared.row.decoding.RowFault.{RowFault}
use Rattle.spec_history.specs.declared.row.decoding.RowFault.TheVariants.{BadRow, Memory}

abbrev pub row_fault : TextFault → RowFault
row_fault (text.BadLabels at) = BadRow
row_fault text.Memory = Memory

-- A bad row has nothing. Nothing is said where memory runs out.
abbrev pub Lacks : {X : Type 0} → Option X → RowFault → Type 0
Lacks found BadRow = found ≡ None
Lacks found Memory = Unit {0}

-- only want of memory
abbrev pub IsWant : RowFault → Type 0
IsWant BadRow = ⊥
IsWant Memory = Unit {0}
