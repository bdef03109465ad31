use Rattle.laws_language.proofs.NamesTold.{told, told_anywhere}
use Rattle.laws_language.proofs.Within.{cut_short}
use Rattle.laws_language.proofs.names_laws.laws.tokens_tell_how_names_are_read.Goals as goal

pub returns-clause-whole : goal.returns-clause-whole
returns-clause-whole c = λ ts place v w h d. told_anywhere ts place v h (cut_short d)

pub returns-clause-put : goal.returns-clause-put
returns-clause-put c = told_anywhere

pub returns-clause-there : goal.returns-clause-there
returns-clause-there c = told
