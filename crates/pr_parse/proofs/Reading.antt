-- The ways through parentheses round an operand.
use Rattle.std.proofs.Common.{◌≡◌, List, Bool, true}
use Rattle.pr_forms.specs.Form.{rule}
use Rattle.pr_forms.specs.Run.{good, bad, run_rule}
use Rattle.pr_forms.specs.Language.{Gives, Takes}
use Rattle.pr_ast.specs.declared.lex.token.Sign.TheVariants.{LeftParen}
use Rattle.pr_ast.specs.declared.place.Place.{Place}
use Rattle.pr_parse.specs.declared.grammar.kind.Lexed.{Lexed}
use Rattle.pr_parse.specs.declared.grammar.kind.Before.TheVariants.{Other as Others}
use Rattle.pr_parse.specs.Seen.{Seen, seen}
use Rattle.pr_parse.specs.Grammar.{QueryValue, Postfix, After, Suffix, suffixes, applied, opened_by, enclosed, at, sign}
use Rattle.pr_parse.specs.GrammarTable.{queries}
use Rattle.pr_parse.proofs.Ways.{take_nested, nested_first_bad, nested_bad}

-- parentheses round an operand that may begin with one
pub group_good : (b : Bool) (ts mid next : List Lexed) (rest : List Seen) (q : Place) (v : QueryValue) (ss : List Suffix) → b ≡ true → Takes queries (sign LeftParen) ts (at q) mid → Gives queries enclosed mid (good v (seen next)) →
    Gives queries (rule (After Others)) next (good (suffixes ss) rest) → Gives queries (rule (Postfix b)) ts (good (applied (opened_by (at q) v) (suffixes ss)) rest)
group_good b ts mid next rest q v ss e x g h = rw e (run_rule (take_nested x g h))

pub group_first_bad : (b : Bool) (ts mid : List Lexed) (rest : List Seen) (q : Place) → b ≡ true → Takes queries (sign LeftParen) ts (at q) mid → Gives queries enclosed mid (bad rest) → Gives queries (rule (Postfix b)) ts (bad rest)
group_first_bad b ts mid rest q e x g = rw e (run_rule (nested_first_bad x g))

pub group_bad : (b : Bool) (ts mid next : List Lexed) (rest : List Seen) (q : Place) (v : QueryValue) → b ≡ true → Takes queries (sign LeftParen) ts (at q) mid → Gives queries enclosed mid (good v (seen next)) →
    Gives queries (rule (After Others)) next (bad rest) → Gives queries (rule (Postfix b)) ts (bad rest)
group_bad b ts mid next rest q v e x g h = rw e (run_rule (nested_bad x g h))
