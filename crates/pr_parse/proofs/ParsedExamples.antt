-- What the tokens of small texts give, computed.
use Rattle.std.proofs.Common.{◌≡◌, refl, None, false, [], ◌∷◌}
use Rattle.std.specs.Prelude.{codes}
use Rattle.pr_forms.specs.Reading.{reading, bad_place}
use Rattle.pr_ast.specs.Words.{word_of, words, is_word, word_text}
use Rattle.pr_ast.specs.private.Worked.{name, duration, sign}
use Rattle.pr_ast.specs.declared.lex.token.Sign.TheVariants as signs
use Rattle.pr_ast.specs.Names.{func_of, funcs, is_func, func_text}
use Rattle.pr_ast.specs.declared.names.BinOp.TheVariants as op
use Rattle.pr_ast.specs.declared.names.AggOp.TheVariants as agg
use Rattle.pr_ast.specs.Tree.{binary, aggregate}
use Rattle.pr_ast.specs.private.Examples.{one, grouped}
use Rattle.pr_parse.specs.Seen.{seen_tokens}
use Rattle.pr_parse.specs.declared.fault.ParseKind.TheVariants as kind
use Rattle.pr_parse.specs.Parsed.{parsed_tokens, gives_tree, gives_fault}
use Rattle.pr_parse.specs.private.Examples.{place, metric}

pub two_names : parsed_tokens 3 (seen_tokens (name 0 1 (codes "x") ∷ name 2 3 (codes "y") ∷ [])) ≡ gives_fault 2 kind.Unexpected
unfolding parsed_tokens reading bad_place word_of words is_word word_text func_of funcs is_func func_text
two_names = refl

pub no_right_side : parsed_tokens 3 (seen_tokens (name 0 1 (codes "x") ∷ sign 2 3 signs.Plus ∷ [])) ≡ gives_fault 3 kind.End
unfolding parsed_tokens reading bad_place word_of words is_word word_text func_of funcs is_func func_text
no_right_side = refl

pub nothing : parsed_tokens 0 (seen_tokens ([])) ≡ gives_fault 0 kind.End
unfolding parsed_tokens reading bad_place word_of words is_word word_text func_of funcs is_func func_text
nothing = refl

pub second_offset : parsed_tokens 21 (seen_tokens (name 0 1 (codes "x") ∷ name 2 8 (codes "offset") ∷ duration 9 11 300000 ∷ name 12 18 (codes "offset") ∷ duration 19 21 300000 ∷ [])) ≡ gives_fault 12 kind.Misplaced
unfolding parsed_tokens reading bad_place word_of words is_word word_text func_of funcs is_func func_text
second_offset = refl

pub range_of_0 : parsed_tokens 5 (seen_tokens (name 0 1 (codes "x") ∷ sign 1 2 signs.LeftBracket ∷ duration 2 4 0 ∷ sign 4 5 signs.RightBracket ∷ [])) ≡ gives_fault 2 kind.ZeroSpan
unfolding parsed_tokens reading bad_place word_of words is_word word_text func_of funcs is_func func_text
range_of_0 = refl

pub range_of_parentheses : parsed_tokens 7 (seen_tokens (sign 0 1 signs.LeftParen ∷ name 1 2 (codes "x") ∷ sign 2 3 signs.RightParen ∷ sign 3 4 signs.LeftBracket ∷ duration 4 6 300000 ∷ sign 6 7 signs.RightBracket ∷ [])) ≡ gives_fault 6 kind.Misplaced
unfolding parsed_tokens reading bad_place word_of words is_word word_text func_of funcs is_func func_text
range_of_parentheses = refl

pub no_function : parsed_tokens 6 (seen_tokens (name 0 3 (codes "foo") ∷ sign 3 4 signs.LeftParen ∷ name 4 5 (codes "x") ∷ sign 5 6 signs.RightParen ∷ [])) ≡ gives_fault 3 kind.UnknownFunction
unfolding parsed_tokens reading bad_place word_of words is_word word_text func_of funcs is_func func_text
no_function = refl

pub name_again : parsed_tokens 10 (seen_tokens (name 0 1 (codes "x") ∷ sign 1 2 signs.LeftBrace ∷ name 2 10 (codes "__name__") ∷ [])) ≡ gives_fault 2 kind.TwoNames
unfolding parsed_tokens reading bad_place word_of words is_word word_text func_of funcs is_func func_text
name_again = refl

pub from_the_left : parsed_tokens 9 (seen_tokens (name 0 1 (codes "a") ∷ sign 2 3 signs.Minus ∷ name 4 5 (codes "b") ∷ sign 6 7 signs.Minus ∷ name 8 9 (codes "c") ∷ [])) ≡ gives_tree (binary (place 0 9) op.Sub false None (binary (place 0 5) op.Sub false None (metric 0 1 (codes "a")) (metric 4 5 (codes "b"))) (metric 8 9 (codes "c")))
unfolding parsed_tokens reading bad_place word_of words is_word word_text func_of funcs is_func func_text
from_the_left = refl

pub parentheses_around : parsed_tokens 7 (seen_tokens (sign 0 1 signs.LeftParen ∷ name 1 2 (codes "a") ∷ sign 2 3 signs.RightParen ∷ sign 4 5 signs.Plus ∷ name 6 7 (codes "b") ∷ [])) ≡ gives_tree (binary (place 0 7) op.Add false None (metric 1 2 (codes "a")) (metric 6 7 (codes "b")))
unfolding parsed_tokens reading bad_place word_of words is_word word_text func_of funcs is_func func_text
parentheses_around = refl

pub plus_before : parsed_tokens 6 (seen_tokens (sign 0 1 signs.Plus ∷ name 1 2 (codes "a") ∷ sign 3 4 signs.Plus ∷ name 5 6 (codes "b") ∷ [])) ≡ gives_tree (binary (place 0 6) op.Add false None (metric 1 2 (codes "a")) (metric 5 6 (codes "b")))
unfolding parsed_tokens reading bad_place word_of words is_word word_text func_of funcs is_func func_text
plus_before = refl

pub group_after : parsed_tokens 11 (seen_tokens (name 0 3 (codes "sum") ∷ sign 3 4 signs.LeftParen ∷ name 4 5 (codes "x") ∷ sign 5 6 signs.RightParen ∷ name 6 8 (codes "by") ∷ sign 8 9 signs.LeftParen ∷ name 9 10 (codes "a") ∷ sign 10 11 signs.RightParen ∷ [])) ≡ gives_tree (aggregate (place 0 11) agg.Sum (grouped (codes "a" ∷ [])) (one (metric 4 5 (codes "x"))))
unfolding parsed_tokens reading bad_place word_of words is_word word_text func_of funcs is_func func_text
group_after = refl
