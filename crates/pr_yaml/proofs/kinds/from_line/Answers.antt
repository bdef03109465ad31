use Rattle.std.proofs.Common.{◌≡◌, ◌≢◌, ℕ, ◌-◌, ◌∙◌, List, [], sym, arith, refl, length, ◌∷◌, true, false}
use Rattle.std.proofs.lemmas.Bool.Decides.{nat_tests}
use Rattle.pr_words.specs.Lines.{is_feed}
use Rattle.pr_yaml.specs.Faults.{from_line}
use Rattle.pr_yaml.proofs.FaultLines.{at_the_end, past_feed, past_byte, no_lines}
use Rattle.pr_yaml.proofs.kinds.from_line.Goals as goal

empty : (xs : List ℕ) → length xs ≡ 0 → xs ≡ []
empty [] e = refl
empty (x ∷ xs) e = absurd (omega arith)

ended : (n : ℕ) (rest : List ℕ) → rest ≡ [] → rest ≡ from_line n rest
ended n rest e = rw e (sym (at_the_end n))

feed : (b : ℕ) → b ≡ 10 → is_feed b ≡ true
feed b e = rw e refl

no_feed : (b : ℕ) → b ≢ 10 → is_feed b ≡ false
no_feed b h = grind (arith, nat_tests)

zero_left : (n : ℕ) (text : List ℕ) → n ≡ 0 → text ≡ from_line n text
zero_left n text e = rw e (sym (no_lines text))

pub returns-in_default : goal.returns-in_default
returns-in_default c = ended c.lines.left c.lines.rest.now (empty c.lines.rest.now c.in_default.ensures.cases) ∙ c.lines.invariant

pub lines-preserved-then-first-eq10 : goal.lines-preserved-then-first-eq10
lines-preserved-then-first-eq10 c = past_feed c.lines.left (c.lines.left - 1) c.in-Some.first.now c.lines.rest.now c.in-Some.after.now c.lines-test.true refl c.in-Some.ensures.cases.0 (feed c.in-Some.first.now c.if-first-eq10.true) ∙ c.lines.invariant

pub lines-preserved : goal.lines-preserved
lines-preserved c = past_byte c.lines.left c.in-Some.first.now c.lines.rest.now c.in-Some.after.now c.lines-test.true c.in-Some.ensures.cases.0 (no_feed c.in-Some.first.now c.if-first-eq10.false) ∙ c.lines.invariant

pub returns : goal.returns
returns c = zero_left c.lines.left c.lines.rest.now (let h = c.lines-test.false in omega (arith, h)) ∙ c.lines.invariant
