use Rattle.pr_labels.proofs.SeriesWritten.{written_reads}
use Rattle.pr_labels.proofs.series.laws.printed_labels_read_back.Goals as goal

pub returns : goal.returns
returns c = λ labels s. written_reads labels s
