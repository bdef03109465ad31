-- The ways of the functions that read a number.
use Rattle.std.proofs.Common.{ℕ, ◌-◌, ◌≤◌, List, Result, Ok, Err, length, refl}
use Rattle.std.specs.Borrow.{Bor}
use Rattle.pr_time.specs.pr_forms.Form.{token, rule}
use Rattle.pr_time.specs.pr_forms.Run.{good, bad, run_rule, run_pair, run_first, run_second, run_nothing}
use Rattle.pr_time.proofs.FormsWays.{take_side, take_side_bad, other_side, take_pair, no_pair}
use Rattle.pr_time.proofs.FormsCarrying.{carry_start, turn_taken, tokens_over}
use Rattle.pr_time.proofs.FormsPublic.{rest_place, bad_place, left_short}
use Rattle.pr_ast.specs.Number.{production, letter_of, seen, mark, Number, Fraction, Power, Exponent, Digits, Tail, digit_at, point_at, e_at, plus_minus_at, digits, IsNumberEnd}
use Rattle.pr_time.specs.pr_forms.Language.{Gives, Takes, Lacks, Leads}
use Rattle.pr_ast.specs.private.Reader.{numbers, Ends}
use Rattle.pr_ast.proofs.NumberTable.{known}
use Rattle.pr_ast.specs.NumberTable.{table}

pub no_digits : (text : List ℕ) → Leads numbers digits text digits text
no_digits text = carry_start

pub one_digit : (text at rest : List ℕ) → Leads numbers digits text digits at → Takes numbers (token digit_at) at mark rest → Leads numbers digits text digits rest
one_digit text at rest l x = turn_taken l x

pub all_digits : (text at : List ℕ) → Leads numbers digits text digits at → Lacks numbers (token digit_at) at → Gives numbers digits text (good mark (seen at))
all_digits text at l x = tokens_over l x

module _ (text : List ℕ) where
  pub some_digits : (rest at : List ℕ) → Takes numbers (token digit_at) text mark rest → Gives numbers digits rest (good mark (seen at)) → Gives numbers (rule Digits) text (good mark (seen at))
  some_digits rest at x d = run_rule (take_pair x d)

  pub lacks_digits : Lacks numbers (token digit_at) text → Gives numbers (rule Digits) text (bad (seen text))
  lacks_digits x = run_rule (no_pair x)

  pub signed : (rest : List ℕ) (r : Result (Bor (List ℕ)) (Bor (List ℕ))) → Takes numbers (token plus_minus_at) text mark rest → Ends Digits rest r → Ends Exponent text r
  signed rest (Ok at) x d = run_rule (take_side x d)
  signed rest (Err at) x d = run_rule (take_side_bad x d)

  pub unsigned : (r : Result (Bor (List ℕ)) (Bor (List ℕ))) → Lacks numbers (token plus_minus_at) text → Ends Digits text r → Ends Exponent text r
  unsigned (Ok at) x d = run_rule (other_side x d)
  unsigned (Err at) x d = run_rule (other_side x d)

  pub has_power : (rest : List ℕ) (r : Result (Bor (List ℕ)) (Bor (List ℕ))) → Takes numbers (token e_at) text mark rest → Ends Exponent rest r → Ends Power text r
  has_power rest (Ok at) x d = run_rule (take_side x d)
  has_power rest (Err at) x d = run_rule (take_side_bad x d)

  pub no_power : Lacks numbers (token e_at) text → Gives numbers (rule Power) text (good mark (seen text))
  no_power x = run_rule (other_side x run_nothing)

  pub has_fraction : (rest mid : List ℕ) (r : Result (Bor (List ℕ)) (Bor (List ℕ))) → Takes numbers (token point_at) text mark rest → Gives numbers digits rest (good mark (seen mid)) → Ends Power mid r → Ends Fraction text r
  has_fraction rest mid (Ok at) x d p = run_rule (take_side x (run_pair d p))
  has_fraction rest mid (Err at) x d p = run_rule (take_side_bad x (run_second d p))

  pub no_fraction : (r : Result (Bor (List ℕ)) (Bor (List ℕ))) → Lacks numbers (token point_at) text → Ends Power text r → Ends Fraction text r
  no_fraction (Ok at) x p = run_rule (other_side x p)
  no_fraction (Err at) x p = run_rule (other_side x p)

  pub tail : (mid : List ℕ) (r : Result (Bor (List ℕ)) (Bor (List ℕ))) → Gives numbers (rule Digits) text (good mark (seen mid)) → Ends Power mid r → Ends Tail text r
  tail mid (Ok at) d p = run_rule (run_pair d p)
  tail mid (Err at) d p = run_rule (run_second d p)

  pub no_tail : (at : List ℕ) → Gives numbers (rule Digits) text (bad (seen at)) → Gives numbers (rule Tail) text (bad (seen at))
  no_tail at d = run_rule (run_first d)

  pub by_point : (rest : List ℕ) (r : Result (Bor (List ℕ)) (Bor (List ℕ))) → Takes numbers (token point_at) text mark rest → Ends Tail rest r → Ends Number text r
  by_point rest (Ok at) x d = run_rule (take_side x d)
  by_point rest (Err at) x d = run_rule (take_side_bad x d)

  pub by_digits : (mid : List ℕ) (r : Result (Bor (List ℕ)) (Bor (List ℕ))) → Lacks numbers (token point_at) text → Gives numbers (rule Digits) text (good mark (seen mid)) → Ends Fraction mid r → Ends Number text r
  by_digits mid (Ok at) x d f = run_rule (other_side x (run_pair d f))
  by_digits mid (Err at) x d f = run_rule (other_side x (run_second d f))

  pub no_number : (at : List ℕ) → Lacks numbers (token point_at) text → Gives numbers (rule Digits) text (bad (seen at)) → Gives numbers (rule Number) text (bad (seen at))
  no_number at x d = run_rule (other_side x (run_first d))

  -- where a number ends
  pub good_end : (at : List ℕ) → Gives numbers (rule Number) text (good mark (seen at)) → IsNumberEnd text (length text - length at)
  good_end at q = rest_place letter_of production table known Number text at mark q

  pub bad_end : (at : List ℕ) → Gives numbers (rule Number) text (bad (seen at)) → IsNumberEnd text (length text - length at)
  bad_end at q = bad_place letter_of production table known Number text at q

  pub good_short : (at : List ℕ) → Gives numbers (rule Number) text (good mark (seen at)) → length at ≤ length text
  good_short at q = left_short letter_of production table known Number text at _ q refl

  pub bad_short : (at : List ℕ) → Gives numbers (rule Number) text (bad (seen at)) → length at ≤ length text
  bad_short at q = left_short letter_of production table known Number text at _ q refl
