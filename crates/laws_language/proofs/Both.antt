-- Both grammars.
use Rattle.std.proofs.Common.{ℕ, List, [], drop, true}
use Rattle.laws_language.proofs.Completing.{begins_too}
use Rattle.laws_language.proofs.Lively.{plain_whole, plain_alive, split_whole, split_alive}
use Rattle.std.specs.Prelude.{◌↔◌}
use Rattle.pr_forms.specs.Form.{rule, Reads, Begins, IsFirstBad}
use Rattle.pr_parse.specs.GrammarWhole.{IsBadPlace}
use Rattle.pr_ast.specs.declared.place.Place.{Place}
use Rattle.pr_ast.specs.Tree.{Tree}
use Rattle.pr_parse.specs.Seen.{Seen}
use Rattle.pr_parse.specs.Grammar.{production, expression, part}
use Rattle.laws_language.specs.private.Plain.{PlainlyReads, plain, Expr}
use Rattle.laws_language.proofs.ToPlain.{to_plain, plainly_read}
use Rattle.laws_language.proofs.FromPlain.{from_plain, split_read}

pub both : (ts : List Seen) (p : Place) (t : Tree) → PlainlyReads ts p t ↔ Reads production (rule expression) ts (part p t) []
both ts p t = (from_plain ts p t, to_plain ts p t)

pub both_begin : (ts rest : List Seen) → Begins plain (rule (Expr true)) ts rest ↔ Begins production (rule expression) ts rest
both_begin ts rest = (
  begins_too plain plain_whole plain_alive production (rule (Expr true)) (rule expression) tt split_read ts rest,
  begins_too production split_whole split_alive plain (rule expression) (rule (Expr true)) tt plainly_read ts rest,
)

-- the first bad place is where the one cannot go on, and so the other
pub one_bad_place : (ts : List Seen) (place : ℕ) → IsFirstBad plain (rule (Expr true)) ts place ↔ IsBadPlace ts place
one_bad_place ts place = (
  λ b. record { within = b.within; before = λ k h. (both_begin ts (drop k ts)).0 (b.before k h); after = λ k lt w x. b.after k lt w ((both_begin ts (drop k ts)).1 x) },
  λ b. record { within = b.within; before = λ k h. (both_begin ts (drop k ts)).1 (b.before k h); after = λ k lt w x. b.after k lt w ((both_begin ts (drop k ts)).0 x) },
)
