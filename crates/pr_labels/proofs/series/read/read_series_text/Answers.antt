use Rattle.std.proofs.Common.{rules}
use Rattle.pr_labels.proofs.SeriesNames.{series_faultless}
use Rattle.pr_labels.proofs.SeriesEnds.{refused_has_none}
use Rattle.pr_labels.proofs.series.read.read_series_text.Goals as goal

pub from_distinct-requires : goal.from_distinct-requires
from_distinct-requires c = series_faultless c.args.text.now c.in_ok-pairs.pairs.items c.in_ok-pairs.ensures.tree

pub returns-in_err-pairs-clause-given : goal.returns-in_err-pairs-clause-given
returns-in_err-pairs-clause-given c =
    let h = refused_has_none c.args.text.now c.in_err-pairs.field-0.0 c.in_err-pairs.ensures.only c.in_err-pairs.ensures.place in
    search (rules, h)
