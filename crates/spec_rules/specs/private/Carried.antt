-- What a reload carries of the samples that were passed: a range selector of a rule that continues
-- an old one goes on where one of the old expression was.
use Rattle.std.specs.Prelude.{ℕ, Bool, ◌&&◌, List, get_or, [], ◌∷◌, ◌++◌, map, Option, Some, None}
use Rattle.std.specs.List.{zip}
use Rattle.std.specs.Str.{bytes_eq}
use Rattle.pr_ast.specs.declared.names.Func.{Func}
use Rattle.pr_ast.specs.Names.{func_text}
use Rattle.pr_ast.specs.private.Print.{range_text}
use Rattle.pr_ast.specs.Tree.{Tree, number, text, select, range, sub, neg, binary, call, aggregate, none, more}
use Rattle.spec_rules.specs.Definitions.{Rule}
use Rattle.spec_meaning.specs.private.Cost.{PassedFor, nothing_passed}
use Rattle.spec_rules.specs.private.Costs.{PassedByRules}
use Rattle.spec_rules.specs.Groups.{Group, RuleState, rules_of}
use Rattle.spec_rules.specs.Reloads.{continues}
use Rattle.spec_rules.specs.private.Laws.{Numbered, numbered, numbers_taken}
use Rattle.spec_rules.specs.Taking.{taken}

-- Range selectors

-- A range selector, by its printed text and the function that it stands under.
pub record RangeUse : Type 0 where
  pub printed : List ℕ
  pub func : Option Func

-- The range selectors of an expression, in the order of the text. Those inside subqueries are among
-- them, since an expression may lose its subquery, or get one, at a reload.
abbrev pub uses_under : Option Func → Tree → List RangeUse
uses_under f (range p s d) = record { printed = range_text s d; func = f } ∷ []
uses_under f (sub p t d i o) = uses_under None t
uses_under f (neg p t) = uses_under None t
uses_under f (binary p o b m l r) = uses_under None l ++ uses_under None r
uses_under f (call p g ts) = uses_under (Some g) ts
uses_under f (aggregate p o g ts) = uses_under None ts
uses_under f (more ts t) = uses_under f ts ++ uses_under f t
uses_under f (select p s) = []
uses_under f (number p v) = []
uses_under f (text p t) = []
uses_under f none = []

abbrev pub range_uses : Tree → List RangeUse
range_uses t = uses_under None t

abbrev pub func_name : Option Func → List ℕ
func_name (Some f) = func_text f
func_name None = []

abbrev pub same_use : RangeUse → RangeUse → Bool
same_use a b = bytes_eq a.printed b.printed && bytes_eq (func_name a.func) (func_name b.func)

-- For each new range selector the number of the old one that it takes over: the first that is the
-- same and that none before it takes.
abbrev pub carried_numbers : Tree → Tree → List (Option ℕ)
carried_numbers new old = numbers_taken same_use (range_uses new) (range_uses old)

-- what was passed for a new one is what was passed for the old one that it takes over
abbrev pub passed_for_selector : Option ℕ → PassedFor → PassedFor
passed_for_selector None u k = nothing_passed k
passed_for_selector (Some old) u k = u old

abbrev pub carried_passed : Tree → Tree → PassedFor → PassedFor
carried_passed new old u k = passed_for_selector (get_or (carried_numbers new old) k None) u k

-- Rules

-- what was passed for a rule, which continues an old one or none
abbrev pub passed_for_rule : PassedByRules → Rule → Option (Numbered RuleState) → PassedFor
passed_for_rule u rule None = nothing_passed
passed_for_rule u rule (Some old) = carried_passed rule.expr old.item.rule.expr (u old.index)

-- the old rules that the new ones continue, with their numbers
abbrev pub rules_taken : List Rule → List RuleState → List (Option (Numbered RuleState))
rules_taken rules olds = taken (λ rule old. continues rule old.item) rules (numbered olds)

abbrev pub carried_by_rules : List Rule → List RuleState → PassedByRules → PassedByRules
carried_by_rules rules olds u i = get_or (map (λ p. passed_for_rule u p.0 p.1) (zip rules (rules_taken rules olds))) i nothing_passed

-- what was passed for the rules of a group that continues an old one
abbrev pub carried_by_group : Group → Group → PassedByRules → PassedByRules
carried_by_group new old u = carried_by_rules (rules_of new) old.rules u
