use Rattle.std.proofs.Common.{[]}
use Rattle.pr_rulefile.specs.File.{groups_given, rule_file_of}
use Rattle.pr_rulefile.proofs.Files.{same_groups}
use Rattle.pr_rulefile.proofs.reader.read.Goals as goal

pub returns-clause-file : goal.returns-clause-file
returns-clause-file c = same_groups c.empty.result c.read_groups.new.groups.groups (groups_given (rule_file_of c.args.bytes.now)) (rule_file_of c.args.bytes.now) c.empty.ensures (c.in_ok-read_groups.ensures.groups []) c.in_ok-read_groups.ensures.file
