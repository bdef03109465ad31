-- Texts, spans and limits.
use Rattle.std.specs.Prelude.{ℕ, ◌^◌, nat_le, List, [], ◌∷◌, Option, Some, None, option_and_then, if◌then◌else◌}
use Rattle.pr_words.specs.Decimals.{plain_decimal}
use Rattle.pr_ast.specs.pr_time.SpanAnswer.{span_of}
use Rattle.pr_yaml.specs.Tree.{Tree}
use Rattle.pr_rulefile.specs.declared.fields.problem.Problem.{Problem}
use Rattle.pr_rulefile.specs.declared.fields.problem.ProblemKind.TheVariants.{BadSpan, BadLimit}
use Rattle.pr_rulefile.specs.Nodes.{line_of, text_of}
use Rattle.pr_rulefile.specs.Problems.{problem, by_text}

-- any text will do
abbrev pub any_text : ℕ → List ℕ → List Problem
any_text line text = []

abbrev pub text_problems : Tree → List Problem
text_problems t = by_text any_text (line_of t) (text_of t)

-- the milliseconds of a span text, where they are 2^40 at most
abbrev pub if_short : Option ℕ → Option ℕ
if_short None = None
if_short (Some ms) = if nat_le ms (2 ^ 40) then Some ms else None

unfoldable pub short_span : List ℕ → Option ℕ
short_span text = if_short (span_of text)

abbrev pub by_span : ℕ → Option ℕ → List Problem
by_span line (Some ms) = []
by_span line None = problem line BadSpan ∷ []

abbrev pub span_text_problems : ℕ → List ℕ → List Problem
span_text_problems line text = by_span line (short_span text)

unfoldable pub span_problems : Tree → List Problem
span_problems t = by_text span_text_problems (line_of t) (text_of t)

-- a whole number below 2^32
unfoldable pub limit_of : List ℕ → Option ℕ
limit_of text = plain_decimal (2 ^ 32) text

abbrev pub by_limit : ℕ → Option ℕ → List Problem
by_limit line (Some n) = []
by_limit line None = problem line BadLimit ∷ []

abbrev pub limit_text_problems : ℕ → List ℕ → List Problem
limit_text_problems line text = by_limit line (limit_of text)

unfoldable pub limit_problems : Tree → List Problem
limit_problems t = by_text limit_text_problems (line_of t) (text_of t)

-- the span, and the limit, that a value writes
abbrev pub node_span : Tree → Option ℕ
node_span t = option_and_then short_span (text_of t)

abbrev pub limit_in : Tree → Option ℕ
limit_in t = option_and_then limit_of (text_of t)

unfoldable pub span_under : Option Tree → Option ℕ
span_under v = option_and_then node_span v

unfoldable pub limit_under : Option Tree → Option ℕ
limit_under v = option_and_then limit_in v
