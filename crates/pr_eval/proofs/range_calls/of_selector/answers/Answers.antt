use Rattle.std.proofs.Common.{◌≡◌, ◌≢◌, ℕ, ◌+◌, ◌≤◌, List, subst, map, take, Ok, Err, MatchResult, OnOk}
use Rattle.pr_range.specs.spec_history.declared.entry.Entry.{Entry}
use Rattle.pr_range.specs.spec_vectors.declared.range.Ask.{Ask}
use Rattle.spec_meaning.specs.Given.{series_within}
use Rattle.spec_meaning.specs.Selection.{chosen_by}
use Rattle.pr_range.specs.declared.fault.RangeFault.TheVariants.{Memory}
use Rattle.pr_eval.specs.private.Answering.{FaultIs, elements_of, answer_element}
use Rattle.pr_eval.specs.private.RangeCallsAsking.{AreAsked, MayAskEach, asks_cost, numbers_chosen, passed_by}
use Rattle.pr_eval.proofs.range_calls.of_selector.answers.Goals as goal

pub returns-clause-answer : goal.returns-clause-answer
returns-clause-answer g c =
    subst (λ (q : Ask). (history : List Entry) → MayAskEach c.args.head.now history q (g.R.Ranges.fits c.args.ranges.now history) (g.R.Ranges.last c.args.ranges.now) c.args.range.now.node
    → let meant = elements_of q (map (series_within history q.from q.to) (chosen_by c.args.range.now.selector.now history)) in MatchResult c.answers_to.result (λ v. meant ≡ Ok (map (answer_element c.args.head.now) v.items)) (FaultIs meant)) c.asked_by-ask.ensures.asked c.answers_to.ensures.answer

pub returns-clause-reads : goal.returns-clause-reads
returns-clause-reads g c =
    subst (λ (q : Ask). (history : List Entry) → MayAskEach c.args.head.now history q (g.R.Ranges.fits c.args.ranges.now history) (g.R.Ranges.last c.args.ranges.now) c.args.range.now.node
    → c.answers_to.new.reads ≤ c.args.reads.now + asks_cost history q (passed_by history (g.R.Ranges.passed c.args.ranges.now) c.args.range.now.node) (chosen_by c.args.range.now.selector.now history)) c.asked_by-ask.ensures.asked c.answers_to.ensures.reads

pub returns-clause-fits : goal.returns-clause-fits
returns-clause-fits g c =
    subst (λ (q : Ask). (history : List Entry) → MayAskEach c.args.head.now history q (g.R.Ranges.fits c.args.ranges.now history) (g.R.Ranges.last c.args.ranges.now) c.args.range.now.node
    → c.answers_to.result ≢ Err Memory → g.R.Ranges.fits c.answers_to.new.ranges history) c.asked_by-ask.ensures.asked c.answers_to.ensures.fits

pub returns-clause-asked : goal.returns-clause-asked
returns-clause-asked g c =
    subst (λ (q : Ask). (history : List Entry) → MayAskEach c.args.head.now history q (g.R.Ranges.fits c.args.ranges.now history) (g.R.Ranges.last c.args.ranges.now) c.args.range.now.node
    → OnOk c.answers_to.result (AreAsked history g.R.Ranges.keeps c.args.range.now.node q (numbers_chosen history c.args.range.now.selector.now) (g.R.Ranges.last c.args.ranges.now) (g.R.Ranges.last c.answers_to.new.ranges) (g.R.Ranges.passed c.args.ranges.now) (g.R.Ranges.passed c.answers_to.new.ranges))) c.asked_by-ask.ensures.asked c.answers_to.ensures.asked

pub returns-clause-until : goal.returns-clause-until
returns-clause-until g c =
    subst (λ (q : Ask). (history : List Entry) → MayAskEach c.args.head.now history q (g.R.Ranges.fits c.args.ranges.now history) (g.R.Ranges.last c.args.ranges.now) c.args.range.now.node
    → c.answers_to.result ≢ Err Memory → (n : ℕ) × AreAsked history g.R.Ranges.keeps c.args.range.now.node q (take n (numbers_chosen history c.args.range.now.selector.now)) (g.R.Ranges.last c.args.ranges.now) (g.R.Ranges.last c.answers_to.new.ranges) (g.R.Ranges.passed c.args.ranges.now) (g.R.Ranges.passed c.answers_to.new.ranges)) c.asked_by-ask.ensures.asked c.answers_to.ensures.until
