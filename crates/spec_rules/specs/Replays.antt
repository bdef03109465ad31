-- The groups of files, none of them waiting.
use Rattle.std.specs.Prelude.{true, List}
use Rattle.spec_rules.specs.Groups.{Group}
use Rattle.spec_rules.specs.Reloads.{LoadedFile, fresh_groups}

-- the groups of files, in order; a file that is named twice has its groups twice
abbrev pub unwaiting_groups : List LoadedFile → List Group
unwaiting_groups files = fresh_groups true files
