use Rattle.std.proofs.Common.{◌≡◌, ◌+◌, suc, drop, sym, subst, arith}
use Rattle.pr_forms.specs.Form.{rule, Begins}
use Rattle.test_forms.specs.declared.parser.Level.TheVariants.{Sum}
use Rattle.test_forms.specs.private.Tree.{seen}
use Rattle.test_forms.specs.private.Grammar.{production, Binary}
use Rattle.test_forms.proofs.Depths.{bad_in_front, front_goes_on, no_tree}
use Rattle.test_forms.proofs.parser.parse.Goals as goal

pub returns-then-place-index-clause-fault : goal.returns-then-place-index-clause-fault
returns-then-place-index-clause-fault c = bad_in_front c.args.tokens.now (c.in-Some.index + 1) c.in-Some-bad_place_of.place (omega (arith, c.in-Some.ensures.within)) c.in-Some-bad_place_of.ensures (omega arith)

pub returns-then-place-index-clause-only : goal.returns-then-place-index-clause-only
returns-then-place-index-clause-only c = λ v d. no_tree c.args.tokens.now c.in-Some-bad_place_of.place v (omega (arith, c.in-Some.ensures.within))
    (bad_in_front c.args.tokens.now (c.in-Some.index + 1) c.in-Some-bad_place_of.place (omega (arith, c.in-Some.ensures.within)) c.in-Some-bad_place_of.ensures (omega arith)) d

pub returns-else-place-index-clause-fault : goal.returns-else-place-index-clause-fault
returns-else-place-index-clause-fault c =
    let one : c.in-Some.index + 1 ≡ suc c.in-Some.index = omega arith in (
      sym c.in-Some.ensures.is,
      subst (λ k. Begins production (rule (Binary Sum)) (seen c.args.tokens.now) (drop k (seen c.args.tokens.now))) one
          (front_goes_on c.args.tokens.now (c.in-Some.index + 1) c.in-Some-bad_place_of.place (omega (arith, c.in-Some.ensures.within)) c.in-Some-bad_place_of.ensures (omega arith)),
    )
