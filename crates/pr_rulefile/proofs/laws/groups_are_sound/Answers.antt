use Rattle.pr_rulefile.proofs.SoundGroups.{all_groups, sound_file}
use Rattle.pr_rulefile.proofs.laws.groups_are_sound.Goals as goal

pub returns-clause-named : goal.returns-clause-named
returns-clause-named c = all_groups (λ g h. h.named)

pub returns-clause-distinct : goal.returns-clause-distinct
returns-clause-distinct c = λ text groups h. (sound_file text groups h).distinct

pub returns-clause-interval : goal.returns-clause-interval
returns-clause-interval c = all_groups (λ g h. h.interval)

pub returns-clause-limit : goal.returns-clause-limit
returns-clause-limit c = all_groups (λ g h. h.limit)
