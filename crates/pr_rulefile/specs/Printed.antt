-- The printed kinds of problems: the name of the kind, and then what it tells.
use Rattle.std.specs.Prelude.{ℕ, List, ◌++◌, codes}
use Rattle.pr_words.specs.Quoted.{quoted_text}
use Rattle.pr_yaml.specs.declared.yaml_scan.fault.YamlKind.{YamlKind}
use Rattle.pr_yaml.specs.declared.yaml_scan.fault.YamlKind.TheVariants as yaml
use Rattle.pr_parse.specs.QueryKinds.{kind_text}
use Rattle.pr_words.specs.Appending.{number_text}
use Rattle.pr_rulefile.specs.declared.fields.problem.ProblemKind.{ProblemKind}
use Rattle.pr_rulefile.specs.declared.fields.problem.ProblemKind.TheVariants as problem

unfoldable pub yaml_word : YamlKind → List ℕ
yaml_word yaml.NotText = codes "NotText"
yaml_word yaml.Tab = codes "Tab"
yaml_word yaml.Anchor = codes "Anchor"
yaml_word yaml.Alias = codes "Alias"
yaml_word yaml.Tag = codes "Tag"
yaml_word yaml.ComplexKey = codes "ComplexKey"
yaml_word yaml.Directive = codes "Directive"
yaml_word yaml.Documents = codes "Documents"
yaml_word yaml.Indicator = codes "Indicator"
yaml_word yaml.Quote = codes "Quote"
yaml_word yaml.Escape = codes "Escape"
yaml_word yaml.Indent = codes "Indent"
yaml_word yaml.Colon = codes "Colon"
yaml_word yaml.Flow = codes "Flow"
yaml_word yaml.Extra = codes "Extra"
yaml_word yaml.DuplicateKey = codes "DuplicateKey"
yaml_word yaml.TooDeep = codes "TooDeep"

-- the name of a kind that stands alone
unfoldable pub own_word : ProblemKind → List ℕ
own_word problem.WantMap = codes "WantMap"
own_word problem.WantList = codes "WantList"
own_word problem.WantText = codes "WantText"
own_word (problem.UnknownField name) = codes "UnknownField"
own_word (problem.Missing name) = codes "Missing"
own_word (problem.DuplicateGroup name) = codes "DuplicateGroup"
own_word problem.NoName = codes "NoName"
own_word problem.TwoNames = codes "TwoNames"
own_word problem.BadName = codes "BadName"
own_word (problem.BadLabel name) = codes "BadLabel"
own_word problem.BadSpan = codes "BadSpan"
own_word problem.BadLimit = codes "BadLimit"
own_word (problem.NotForRecording name) = codes "NotForRecording"
own_word (problem.BadTemplate at) = codes "BadTemplate"
own_word problem.BadSeries = codes "BadSeries"
own_word problem.DuplicateSeries = codes "DuplicateSeries"
own_word problem.BadValues = codes "BadValues"
own_word problem.TooManyValues = codes "TooManyValues"
own_word problem.BadValue = codes "BadValue"
own_word problem.FuzzyCompare = codes "FuzzyCompare"
own_word (problem.Yaml kind) = codes ""
own_word (problem.Expression kind at) = codes ""

-- what is told of a kind first: its name, or that of the kind inside it
abbrev pub problem_word : ProblemKind → List ℕ
problem_word (problem.Yaml kind) = yaml_word kind
problem_word (problem.Expression kind at) = kind_text kind
problem_word kind = own_word kind

-- what a kind tells: a name in double quotes, or a place
abbrev pub name_text : List ℕ → List ℕ
name_text name = codes " " ++ quoted_text name

unfoldable pub problem_rest : ProblemKind → List ℕ
problem_rest (problem.UnknownField name) = name_text name
problem_rest (problem.Missing name) = name_text name
problem_rest (problem.DuplicateGroup name) = name_text name
problem_rest (problem.BadLabel name) = name_text name
problem_rest (problem.NotForRecording name) = name_text name
problem_rest (problem.Expression kind at) = number_text at
problem_rest (problem.BadTemplate at) = number_text at
problem_rest _ = codes ""

abbrev pub problem_text : ProblemKind → List ℕ
problem_text kind = problem_word kind ++ problem_rest kind
