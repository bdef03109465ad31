use Rattle.std.proofs.Common.{ap, sym, refl, ◌∙◌}
use Rattle.std.specs.Fmt.{digits}
use Rattle.pr_num.specs.Half.{half, half_abs}
use Rattle.pr_num.specs.Reads.{reads}
use Rattle.pr_num.specs.Shown.{shown, fraction_text}
use Rattle.pr_labels.specs.SeriesText.{series_text}
use Rattle.spec_history.specs.Rows.{decoded}
use Rattle.spec_history.proofs.RowLaws.{sample_back, sample_row}
use Rattle.spec_history.proofs.row.examples.small_rows.Goals as goal

pub returns-clause-sample : goal.returns-clause-sample
returns-clause-sample c = sample_row

pub returns-clause-marker : goal.returns-clause-marker
unfolding series_text
returns-clause-marker c = refl

pub returns-clause-back : goal.returns-clause-back
returns-clause-back c = ap decoded (sym sample_row) ∙ sample_back

pub returns-clause-zeros : goal.returns-clause-zeros
unfolding digits half half_abs reads shown fraction_text
returns-clause-zeros c = refl

pub returns-clause-word : goal.returns-clause-word
unfolding reads
returns-clause-word c = refl

pub returns-clause-late : goal.returns-clause-late
returns-clause-late c = refl
