-- Whether the steps of subqueries have a length.
use Rattle.std.specs.Prelude.{ℕ, ◌==◌, ◌&&◌, not, Bool, true, Option, Some, None}
use Rattle.pr_ast.specs.Tree.{Tree, number, text, select, range, sub, neg, binary, call, aggregate, none, more}

-- no step, or one that is not 0
abbrev pub is_step : Option ℕ → Bool
is_step None = true
is_step (Some ms) = not (ms == 0)

-- no subquery has a given step of 0
abbrev pub has_steps : Tree → Bool
has_steps (sub p t span step offset) = is_step step && has_steps t
has_steps (neg p t) = has_steps t
has_steps (binary p o b m l r) = has_steps l && has_steps r
has_steps (call p f ts) = has_steps ts
has_steps (aggregate p o g ts) = has_steps ts
has_steps (more ts t) = has_steps ts && has_steps t
has_steps (number p v) = true
has_steps (text p t) = true
has_steps (select p s) = true
has_steps (range p s span) = true
has_steps none = true
