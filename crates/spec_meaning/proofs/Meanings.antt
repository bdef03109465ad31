-- What an expression gives is a vector or a scalar.
use Rattle.std.proofs.Common.{ℕ, zero, suc, List, [], ◌∷◌, ◌++◌, Option, Result, Ok, Err, IfOk, IfSome, subst}
use Rattle.spec_vectors.specs.spec_history.declared.entry.Entry.{Entry}
use Rattle.pr_ast.specs.Tree.{Tree, number, text, select, range, sub, neg, binary, call, aggregate, none, more}
use Rattle.spec_meaning.specs.private.Laws.{IsAnswer}
use Rattle.spec_meaning.specs.Answers.{go_on}
use Rattle.spec_meaning.specs.declared.fault.Fault.{Fault}
use Rattle.spec_meaning.specs.declared.value.Value.{Value}
use Rattle.spec_meaning.specs.Aggregations.{summed_up}
use Rattle.spec_meaning.specs.Calls.{value_of_call}
use Rattle.spec_meaning.specs.Given.{Given, Ranged}
use Rattle.spec_meaning.specs.Meaning.{given, meaning, operands, ranges}
use Rattle.spec_meaning.proofs.Called.{AreAnswers, called_answer, summed_answer}
use Rattle.spec_meaning.specs.Operations.{negated_value, operated}
use Rattle.spec_meaning.proofs.Selecting.{selection_vector}
use Rattle.spec_meaning.proofs.Vectors.{negated_answer, next_answer, operated_answer}

-- one more argument
more_answers : (gs : List Given) (r : Option Ranged) (v : Value) → AreAnswers gs → IsAnswer v → AreAnswers (gs ++ given r v ∷ [])
more_answers [] r v h k zero g e = subst (λ o. IfSome o (λ (x : Given). IsAnswer x.value)) e k
more_answers [] r v h k (suc i) g e = cc
more_answers (first ∷ gs) r v h k zero g e = h zero g e
more_answers (first ∷ gs) r v h k (suc i) g e = more_answers gs r v (λ j x d. h (suc j) x d) k i g e

one_more : (gs : Result (List Given) Fault) (r : Result (Option Ranged) Fault) (v : Result Value Fault) → IfOk gs AreAnswers → IfOk v IsAnswer
    → IfOk (go_on (λ gs. go_on (λ r. go_on (λ v. Ok (gs ++ given r v ∷ [])) v) r) gs) AreAnswers
one_more (Ok gs) (Ok r) (Ok v) h k = more_answers gs r v h k
one_more (Ok gs) (Ok r) (Err e) h k = tt
one_more (Ok gs) (Err e) v h k = tt
one_more (Err e) r v h k = tt

next_given : (next : List Given → Result Value Fault) (r : Result (List Given) Fault) → ((gs : List Given) → AreAnswers gs → IfOk (next gs) IsAnswer) → IfOk r AreAnswers → IfOk (go_on next r) IsAnswer
next_given next (Ok gs) h k = h gs k
next_given next (Err e) h k = tt

nothing_given : AreAnswers []
nothing_given i g e = cc

mutual
  pub meaning_answer : (step : ℕ) (history : List Entry) (t : Tree) (time : ℕ) → IfOk (meaning step history t time) IsAnswer
  meaning_answer step history (number p v) time = tt
  meaning_answer step history (select p s) time = selection_vector history s time
  meaning_answer step history (neg p t) time = next_answer (negated_value p) (meaning step history t time) (negated_answer p) (meaning_answer step history t time)
  meaning_answer step history (binary p o b m l r) time =
      next_answer (λ v. go_on (operated p o b m v) (meaning step history r time)) (meaning step history l time)
      (λ v h. next_answer (operated p o b m v) (meaning step history r time) (λ w k. operated_answer p o b m v w h k) (meaning_answer step history r time))
      (meaning_answer step history l time)
  meaning_answer step history (call p f ts) time = next_given (value_of_call history p f ts time) (operands step history ts time) (called_answer history p f ts time) (operands_answer step history ts time)
  meaning_answer step history (aggregate p o g ts) time = next_given (summed_up p o g ts) (operands step history ts time) (summed_answer p o g ts) (operands_answer step history ts time)
  meaning_answer step history (text p t) time = tt
  meaning_answer step history (range p s d) time = tt
  meaning_answer step history (sub p t d i o) time = tt
  meaning_answer step history none time = tt
  meaning_answer step history (more ts t) time = tt

  operands_answer : (step : ℕ) (history : List Entry) (t : Tree) (time : ℕ) → IfOk (operands step history t time) AreAnswers
  operands_answer step history (more ts t) time =
      one_more (operands step history ts time) (ranges step history t time) (meaning step history t time) (operands_answer step history ts time) (meaning_answer step history t time)
  operands_answer step history (number p v) time = nothing_given
  operands_answer step history (select p s) time = nothing_given
  operands_answer step history (neg p t) time = nothing_given
  operands_answer step history (binary p o b m l r) time = nothing_given
  operands_answer step history (call p f ts) time = nothing_given
  operands_answer step history (aggregate p o g ts) time = nothing_given
  operands_answer step history (text p t) time = nothing_given
  operands_answer step history (range p s d) time = nothing_given
  operands_answer step history (sub p t d i o) time = nothing_given
  operands_answer step history none time = nothing_given
