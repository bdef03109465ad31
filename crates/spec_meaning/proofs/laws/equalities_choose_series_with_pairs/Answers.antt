use Rattle.std.proofs.Common.{ap}
use mathlib.Core.Path.{fun_ext}
use Rattle.spec_vectors.specs.spec_history.Series.{chosen}
use Rattle.pr_match.proofs.Equalities.{equalities}
use Rattle.spec_meaning.proofs.laws.equalities_choose_series_with_pairs.Goals as goal

pub returns : goal.returns
returns c = λ pairs history. ap (λ test. chosen test history) (fun_ext (λ labels. equalities pairs labels))
