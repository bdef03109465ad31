use Rattle.laws_runs.proofs.Lines.{kept_in_part}
use Rattle.laws_runs.proofs.fronts.no_more_is_kept_than_told.Goals as goal

pub returns : goal.returns
returns c = λ e f front. kept_in_part e f front.answered front.count front.within front.text front.whole front.kept
