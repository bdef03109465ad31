use Rattle.pr_expo.specs.declared.expo_line.place.Read.TheVariants.{Sample}
use Rattle.pr_expo.proofs.Numbers.{number_is_read}
use Rattle.pr_expo.proofs.Sound.{read_is_sound}
use Rattle.pr_expo.proofs.expo_line.laws.numbers_of_samples_are_read.Goals as goal

pub returns : goal.returns
returns c = λ line m time h. number_is_read m.number (read_is_sound line (Sample m time) h).1
