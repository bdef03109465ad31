use Rattle.laws_runs.proofs.Lines.{answered_unloaded}
use Rattle.laws_runs.proofs.fronts.no_order_is_answered_without_its_file.Goals as goal

pub returns : goal.returns
returns c = λ e file front. answered_unloaded e file front.answered front.count front.asked front.within front.text front.asks front.asks_at
