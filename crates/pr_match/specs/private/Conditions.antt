-- How the conditions that the code keeps stand to matchers as they are written.
use Rattle.std.specs.Prelude.{ℕ, List}
use Rattle.pr_match.specs.declared.op.MatchOp.{MatchOp}
use Rattle.pr_match.specs.declared.op.MatchOp.TheVariants as op
use Rattle.pr_match.specs.declared.condition.Condition.{Condition}
use Rattle.pr_match.specs.declared.condition.Condition.TheVariants.{Equal, NotEqual, Like, NotLike}
use Rattle.pr_match.specs.declared.condition.ValueSearcher.{ValueSearcher}
use Rattle.pr_match.specs.declared.condition.ValueSearcher.TheVariants as search

abbrev pub op_of : Condition → MatchOp
op_of (Equal text) = op.Equal
op_of (NotEqual text) = op.NotEqual
op_of (Like pattern) = op.Like
op_of (NotLike pattern) = op.NotLike

abbrev pub text_of : Condition → List ℕ
text_of (Equal text) = text
text_of (NotEqual text) = text
text_of (Like pattern) = pattern
text_of (NotLike pattern) = pattern

abbrev pub searched_op : ValueSearcher → MatchOp
searched_op (search.Equal text) = op.Equal
searched_op (search.NotEqual text) = op.NotEqual
searched_op (search.Like searcher) = op.Like
searched_op (search.NotLike searcher) = op.NotLike

abbrev pub searched_text : ValueSearcher → List ℕ
searched_text (search.Equal text) = text.now
searched_text (search.NotEqual text) = text.now
searched_text (search.Like searcher) = searcher
searched_text (search.NotLike searcher) = searcher
