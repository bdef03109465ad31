-- What a selector asks of label sets, and which selectors are faulty.
use Rattle.std.specs.Prelude.{ℕ, Bool, ◌&&◌, List, [], ◌∷◌, ◌++◌, map, Option, None, Some, is_none, Result, Ok, Err, if◌then◌else◌}
use Rattle.std.specs.List.{list_all}
use Rattle.pr_ast.specs.pr_labels.LabelSet.{metric_label}
use Rattle.pr_match.specs.declared.op.MatchOp.{MatchOp}
use Rattle.pr_match.specs.declared.op.MatchOp.TheVariants as op
use Rattle.pr_match.specs.Matcher.{LabelTest, label_test, may_follow, meets_all}
use Rattle.pr_ast.specs.declared.selector.Selector.{Selector}
use Rattle.pr_ast.specs.declared.selector.MatchText.{MatchText}
use Rattle.pr_ast.specs.declared.selector.MatchSign.{MatchSign}
use Rattle.pr_ast.specs.declared.selector.MatchSign.TheVariants.{Equal, NotEqual, Like, NotLike}
use Rattle.pr_types.specs.declared.kind.TypeKind.TheVariants.{NoMatcher, BadPattern}
use Rattle.pr_types.specs.declared.kind.TypeFault.{TypeFault}
use Rattle.pr_types.specs.Signatures.{fault}

abbrev pub match_op : MatchSign → MatchOp
match_op Equal = op.Equal
match_op NotEqual = op.NotEqual
match_op Like = op.Like
match_op NotLike = op.NotLike

-- a matcher as it is written, as a test of label sets
abbrev pub test_of : MatchText → LabelTest
test_of m = label_test m.label (match_op m.op) m.text

abbrev pub name_tests : Option (List ℕ) → List LabelTest
name_tests None = []
name_tests (Some name) = label_test metric_label op.Equal name ∷ []

-- all that a selector asks: the metric's name, where it stands before the braces, and its matchers
abbrev pub tests_of : Selector → List LabelTest
tests_of s = name_tests s.name ++ map test_of s.matchers

-- a pattern stands wherever one is wanted
abbrev pub is_good : MatchText → Bool
is_good m = may_follow (match_op m.op) m.text

abbrev pub are_good : List MatchText → Bool
are_good ms = list_all is_good ms

-- no name is given, and every matcher matches the empty text
abbrev pub is_open : Option (List ℕ) → List MatchText → Bool
is_open name ms = is_none name && meets_all (map test_of ms) []

-- The tests of a selector, or its fault. A bad pattern matches nothing, so a selector with one is
-- not asked whether its matchers match the empty text.
abbrev pub checked_tests : ℕ → Selector → Result (List LabelTest) TypeFault
checked_tests at s =
    if are_good s.matchers then (if is_open s.name s.matchers then Err (fault at NoMatcher) else Ok (tests_of s))
    else Err (fault at BadPattern)
