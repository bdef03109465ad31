use Rattle.std.proofs.Common.{◌≡◌, List, ap, sym, ◌∙◌}
use Rattle.pr_words.proofs.FormsReadings.{one_reading}
use Rattle.pr_words.specs.Strings.{seen}
use Rattle.pr_labels.specs.declared.pair.Pair.{Pair}
use Rattle.pr_labels.specs.Edits.{labels_of}
use Rattle.pr_labels.specs.SeriesGrammar.{production, Series, listed}
use Rattle.pr_labels.proofs.SeriesTable.{known}
use Rattle.pr_labels.proofs.SeriesNames.{read_is_set}
use Rattle.pr_labels.proofs.series.laws.series_text_reads_as_one_label_set.Goals as goal
use Rattle.pr_labels.specs.SeriesTable.{table}

same_pairs : (ps qs : List Pair) → listed ps ≡ listed qs → ps ≡ qs
same_pairs ps qs e = cc

pub returns-clause-one : goal.returns-clause-one
returns-clause-one c = λ text ls ms r s.
    let same : r.pairs ≡ s.pairs = same_pairs r.pairs s.pairs (one_reading production table known Series (seen text) (listed r.pairs) (listed s.pairs) r.reads s.reads) in
    r.are ∙ (ap labels_of same ∙ sym s.are)

pub returns-clause-set : goal.returns-clause-set
returns-clause-set c = λ text ls r. read_is_set text ls r
