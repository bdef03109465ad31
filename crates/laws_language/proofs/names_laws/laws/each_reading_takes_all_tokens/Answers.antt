use Rattle.laws_language.proofs.Within.{takes_each, cut_short}
use Rattle.laws_language.proofs.names_laws.laws.each_reading_takes_all_tokens.Goals as goal

pub returns-clause-all : goal.returns-clause-all
returns-clause-all g c = λ G f ts w place h d. takes_each f ts w place h d

pub returns-clause-cut : goal.returns-clause-cut
returns-clause-cut g c = λ G f ts at rest v w d. cut_short d
