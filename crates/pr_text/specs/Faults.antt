-- The printed kinds of faults that an expression gives: the name of the kind, and then what it tells.
use Rattle.std.specs.Prelude.{ℕ, List, [], ◌++◌, codes}
use Rattle.spec_world.specs.pr_labels.SeriesText.{series_text}
use Rattle.spec_world.specs.spec_meaning.declared.fault.FaultKind.{FaultKind}
use Rattle.spec_world.specs.spec_meaning.declared.fault.FaultKind.TheVariants as fault
use Rattle.pr_words.specs.Appending.{number_text}

unfoldable pub fault_word : FaultKind → List ℕ
fault_word (fault.ManyToMany key) = codes "ManyToMany"
fault_word (fault.NotUnique labels) = codes "NotUnique"
fault_word (fault.SameLabels labels) = codes "SameLabels"
fault_word (fault.RangeTooLong have) = codes "RangeTooLong"
fault_word fault.TooWide = codes "TooWide"

-- a key, labels, or how many values there are
abbrev pub fault_rest : FaultKind → List ℕ
fault_rest (fault.ManyToMany key) = codes " " ++ series_text key
fault_rest (fault.NotUnique labels) = codes " " ++ series_text labels
fault_rest (fault.SameLabels labels) = codes " " ++ series_text labels
fault_rest (fault.RangeTooLong have) = number_text have
fault_rest fault.TooWide = []

abbrev pub fault_text : FaultKind → List ℕ
fault_text kind = fault_word kind ++ fault_rest kind
