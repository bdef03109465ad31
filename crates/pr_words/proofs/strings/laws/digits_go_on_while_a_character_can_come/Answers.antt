use Rattle.pr_words.proofs.Characters.{fits_is}
use Rattle.pr_words.proofs.strings.laws.digits_go_on_while_a_character_can_come.Goals as goal

pub returns : goal.returns
returns c = λ limit left number l. fits_is limit left number l
