use Rattle.std.proofs.Common.{◌≡◌, ◌++◌, length, ℕ, ◌+◌, ◌<◌, ap, sym, subst, ◌∙◌, Err, get_or, take, drop, map, arith}
use Rattle.std.proofs.lemmas.List.{drop_all, take_all}
use Rattle.std.specs.List.{All}
use Rattle.pr_labels.specs.Rising.{IsRising}
use Rattle.pr_eval.specs.declared.range_calls.asking.RangeAnswer.{RangeAnswer}
use Rattle.pr_range.specs.pr_head.private.Holds.{arrivals, labels_at}
use Rattle.pr_range.specs.spec_vectors.private.Laws.{answer_to}
use Rattle.pr_range.specs.declared.fault.RangeFault.TheVariants.{Memory}
use Rattle.pr_eval.specs.private.RangeCallsAsking.{AreAsked}
use Rattle.pr_eval.specs.private.Answering.{after, answers_of}
use Rattle.pr_eval.proofs.AskedSeries.{all_answered, all_rising, known_step, on_ok, answers_step, asked_next, fault_here, may_ask, once_at, passed_still, reads_step, rising_step, still_ready}
use Rattle.pr_eval.proofs.range_calls.asking.ask_each.Goals as goal

pub returns-in-Err-clause-answer : goal.returns-in-Err-clause-answer
returns-in-Err-clause-answer g c = λ history may once.
    let numbers = c.args.numbers.now in
    let i = c.loop-series.series-index in
    let s = get_or numbers i 0 in
    let within = c.loop-series-test.true in
    let may1 = may_ask c.args.head.now history c.args.ask.now (g.R.Ranges.fits c.args.ranges.now history) (g.R.Ranges.last c.args.ranges.now) c.args.node s may (c.requires.there i 0 within) in
    let front = c.loop-series.invariant.asked history may once in
    let fits = c.loop-series.invariant.fits history may once in
    let apart = once_at numbers i once within in
    let ready = still_ready history g.R.Ranges.keeps c.args.node s c.args.ask.now (take i numbers) (g.R.Ranges.last c.args.ranges.now) (g.R.Ranges.last c.loop-series.ranges) (g.R.Ranges.passed c.args.ranges.now) (g.R.Ranges.passed c.loop-series.ranges) front (may.ready s) apart in
    let labels = labels_at (arrivals history) s in
    let f = λ (n : ℕ). answer_to history (labels_at (arrivals history) n) c.args.ask.now in
    fault_here f numbers i c.loop-series.answers.items c.in-Err.fault within (c.in-Err.ensures.answer history labels may1 fits ready).value (c.loop-series.invariant.answer history may once)

pub returns-in-Err-clause-reads : goal.returns-in-Err-clause-reads
returns-in-Err-clause-reads g c = λ history may once.
    let numbers = c.args.numbers.now in
    let i = c.loop-series.series-index in
    let s = get_or numbers i 0 in
    let within = c.loop-series-test.true in
    let may1 = may_ask c.args.head.now history c.args.ask.now (g.R.Ranges.fits c.args.ranges.now history) (g.R.Ranges.last c.args.ranges.now) c.args.node s may (c.requires.there i 0 within) in
    let front = c.loop-series.invariant.asked history may once in
    let fits = c.loop-series.invariant.fits history may once in
    let apart = once_at numbers i once within in
    let ready = still_ready history g.R.Ranges.keeps c.args.node s c.args.ask.now (take i numbers) (g.R.Ranges.last c.args.ranges.now) (g.R.Ranges.last c.loop-series.ranges) (g.R.Ranges.passed c.args.ranges.now) (g.R.Ranges.passed c.loop-series.ranges) front (may.ready s) apart in
    let labels = labels_at (arrivals history) s in
    let more = reads_step history c.args.ask.now (g.R.Ranges.passed c.args.ranges.now c.args.node) (g.R.Ranges.passed c.loop-series.ranges c.args.node) numbers i c.args.reads.now c.loop-series.reads c.ask.new.reads within
    (passed_still history g.R.Ranges.keeps c.args.node s c.args.ask.now (take i numbers) (g.R.Ranges.last c.args.ranges.now) (g.R.Ranges.last c.loop-series.ranges) (g.R.Ranges.passed c.args.ranges.now) (g.R.Ranges.passed c.loop-series.ranges) front apart) (c.loop-series.invariant.reads history may once) (c.in-Err.ensures.answer history labels may1 fits ready).reads in
    omega arith

pub returns-in-Err-clause-fits : goal.returns-in-Err-clause-fits
returns-in-Err-clause-fits g c = λ history may once other.
    let numbers = c.args.numbers.now in
    let i = c.loop-series.series-index in
    let s = get_or numbers i 0 in
    let within = c.loop-series-test.true in
    let may1 = may_ask c.args.head.now history c.args.ask.now (g.R.Ranges.fits c.args.ranges.now history) (g.R.Ranges.last c.args.ranges.now) c.args.node s may (c.requires.there i 0 within) in
    let front = c.loop-series.invariant.asked history may once in
    let fits = c.loop-series.invariant.fits history may once in
    let apart = once_at numbers i once within in
    let ready = still_ready history g.R.Ranges.keeps c.args.node s c.args.ask.now (take i numbers) (g.R.Ranges.last c.args.ranges.now) (g.R.Ranges.last c.loop-series.ranges) (g.R.Ranges.passed c.args.ranges.now) (g.R.Ranges.passed c.loop-series.ranges) front (may.ready s) apart in
    let labels = labels_at (arrivals history) s in
    c.in-Err.ensures.fits history labels may1 fits ready (λ e. let x : c.in-Err.fault ≡ Memory = cc in other (ap Err x))

pub returns-in-Err-clause-until : goal.returns-in-Err-clause-until
returns-in-Err-clause-until g c = λ history may once other.
    let numbers = c.args.numbers.now in
    let i = c.loop-series.series-index in
    let s = get_or numbers i 0 in
    let within = c.loop-series-test.true in
    let may1 = may_ask c.args.head.now history c.args.ask.now (g.R.Ranges.fits c.args.ranges.now history) (g.R.Ranges.last c.args.ranges.now) c.args.node s may (c.requires.there i 0 within) in
    let front = c.loop-series.invariant.asked history may once in
    let fits = c.loop-series.invariant.fits history may once in
    let apart = once_at numbers i once within in
    let ready = still_ready history g.R.Ranges.keeps c.args.node s c.args.ask.now (take i numbers) (g.R.Ranges.last c.args.ranges.now) (g.R.Ranges.last c.loop-series.ranges) (g.R.Ranges.passed c.args.ranges.now) (g.R.Ranges.passed c.loop-series.ranges) front (may.ready s) apart in
    let labels = labels_at (arrivals history) s in (
      i + 1,
      asked_next history g.R.Ranges.keeps c.args.node i c.args.ask.now numbers (g.R.Ranges.last c.args.ranges.now) (g.R.Ranges.last c.loop-series.ranges) (g.R.Ranges.last c.ask.new.self)
          (g.R.Ranges.passed c.args.ranges.now) (g.R.Ranges.passed c.loop-series.ranges) (g.R.Ranges.passed c.ask.new.self) within front (c.in-Err.ensures.moved history labels may1 fits ready (λ e. let x : c.in-Err.fault ≡ Memory = cc in other (ap Err x))),
    )

pub loop-series-preserved : goal.loop-series-preserved
loop-series-preserved g c = record {
  answer = λ history may once.
      let numbers = c.args.numbers.now in
      let i = c.loop-series.series-index in
      let s = get_or numbers i 0 in
      let within = c.loop-series-test.true in
      let may1 = may_ask c.args.head.now history c.args.ask.now (g.R.Ranges.fits c.args.ranges.now history) (g.R.Ranges.last c.args.ranges.now) c.args.node s may (c.requires.there i 0 within) in
      let front = c.loop-series.invariant.asked history may once in
      let fits = c.loop-series.invariant.fits history may once in
      let apart = once_at numbers i once within in
      let ready = still_ready history g.R.Ranges.keeps c.args.node s c.args.ask.now (take i numbers) (g.R.Ranges.last c.args.ranges.now) (g.R.Ranges.last c.loop-series.ranges) (g.R.Ranges.passed c.args.ranges.now) (g.R.Ranges.passed c.loop-series.ranges) front (may.ready s) apart in
      let labels = labels_at (arrivals history) s in
      let f = λ (n : ℕ). answer_to history (labels_at (arrivals history) n) c.args.ask.now in
      subst (λ l. after l (answers_of f (drop (i + 1) numbers)) ≡ answers_of f numbers) (sym (on_ok _ c.push_answer.result (sym c.is_err.ensures.value ∙ c.if-is_err.false) c.push_answer.ensures))
      (answers_step f numbers i c.loop-series.answers.items c.in-Ok.given within (c.in-Ok.ensures.answer history labels may1 fits ready).value ∙ c.loop-series.invariant.answer history may once);
  known =
      subst (All (λ (x : RangeAnswer). x.series < length c.args.head.now)) (sym (on_ok _ c.push_answer.result (sym c.is_err.ensures.value ∙ c.if-is_err.false) c.push_answer.ensures))
      (known_step (length c.args.head.now) c.loop-series.answers.items (get_or c.args.numbers.now c.loop-series.series-index 0) c.in-Ok.given (c.requires.there c.loop-series.series-index 0 c.loop-series-test.true) c.loop-series.invariant.known);
  rising = λ f h.
      let numbers = c.args.numbers.now in
      let i = c.loop-series.series-index in
      subst (λ l. IsRising (map (λ (x : RangeAnswer). f x.series) l ++ map f (drop (i + 1) numbers))) (sym (on_ok _ c.push_answer.result (sym c.is_err.ensures.value ∙ c.if-is_err.false) c.push_answer.ensures))
      (rising_step f numbers i c.loop-series.answers.items c.in-Ok.given c.loop-series-test.true (c.loop-series.invariant.rising f h));
  reads = λ history may once.
      let numbers = c.args.numbers.now in
      let i = c.loop-series.series-index in
      let s = get_or numbers i 0 in
      let within = c.loop-series-test.true in
      let may1 = may_ask c.args.head.now history c.args.ask.now (g.R.Ranges.fits c.args.ranges.now history) (g.R.Ranges.last c.args.ranges.now) c.args.node s may (c.requires.there i 0 within) in
      let front = c.loop-series.invariant.asked history may once in
      let fits = c.loop-series.invariant.fits history may once in
      let apart = once_at numbers i once within in
      let ready = still_ready history g.R.Ranges.keeps c.args.node s c.args.ask.now (take i numbers) (g.R.Ranges.last c.args.ranges.now) (g.R.Ranges.last c.loop-series.ranges) (g.R.Ranges.passed c.args.ranges.now) (g.R.Ranges.passed c.loop-series.ranges) front (may.ready s) apart in
      let labels = labels_at (arrivals history) s in
      reads_step history c.args.ask.now (g.R.Ranges.passed c.args.ranges.now c.args.node) (g.R.Ranges.passed c.loop-series.ranges c.args.node) numbers i c.args.reads.now c.loop-series.reads c.ask.new.reads within
      (passed_still history g.R.Ranges.keeps c.args.node s c.args.ask.now (take i numbers) (g.R.Ranges.last c.args.ranges.now) (g.R.Ranges.last c.loop-series.ranges) (g.R.Ranges.passed c.args.ranges.now) (g.R.Ranges.passed c.loop-series.ranges) front apart) (c.loop-series.invariant.reads history may once) (c.in-Ok.ensures.answer history labels may1 fits ready).reads;
  fits = λ history may once.
      let numbers = c.args.numbers.now in
      let i = c.loop-series.series-index in
      let s = get_or numbers i 0 in
      let within = c.loop-series-test.true in
      let may1 = may_ask c.args.head.now history c.args.ask.now (g.R.Ranges.fits c.args.ranges.now history) (g.R.Ranges.last c.args.ranges.now) c.args.node s may (c.requires.there i 0 within) in
      let front = c.loop-series.invariant.asked history may once in
      let fits = c.loop-series.invariant.fits history may once in
      let apart = once_at numbers i once within in
      let ready = still_ready history g.R.Ranges.keeps c.args.node s c.args.ask.now (take i numbers) (g.R.Ranges.last c.args.ranges.now) (g.R.Ranges.last c.loop-series.ranges) (g.R.Ranges.passed c.args.ranges.now) (g.R.Ranges.passed c.loop-series.ranges) front (may.ready s) apart in
      let labels = labels_at (arrivals history) s in
      c.in-Ok.ensures.fits history labels may1 fits ready (λ e. cc);
  asked = λ history may once.
      let numbers = c.args.numbers.now in
      let i = c.loop-series.series-index in
      let s = get_or numbers i 0 in
      let within = c.loop-series-test.true in
      let may1 = may_ask c.args.head.now history c.args.ask.now (g.R.Ranges.fits c.args.ranges.now history) (g.R.Ranges.last c.args.ranges.now) c.args.node s may (c.requires.there i 0 within) in
      let front = c.loop-series.invariant.asked history may once in
      let fits = c.loop-series.invariant.fits history may once in
      let apart = once_at numbers i once within in
      let ready = still_ready history g.R.Ranges.keeps c.args.node s c.args.ask.now (take i numbers) (g.R.Ranges.last c.args.ranges.now) (g.R.Ranges.last c.loop-series.ranges) (g.R.Ranges.passed c.args.ranges.now) (g.R.Ranges.passed c.loop-series.ranges) front (may.ready s) apart in
      let labels = labels_at (arrivals history) s in
      asked_next history g.R.Ranges.keeps c.args.node i c.args.ask.now numbers (g.R.Ranges.last c.args.ranges.now) (g.R.Ranges.last c.loop-series.ranges) (g.R.Ranges.last c.ask.new.self)
      (g.R.Ranges.passed c.args.ranges.now) (g.R.Ranges.passed c.loop-series.ranges) (g.R.Ranges.passed c.ask.new.self) within front (c.in-Ok.ensures.moved history labels may1 fits ready (λ e. cc));
}

pub returns-clause-answer : goal.returns-clause-answer
returns-clause-answer g c = λ history may once.
    let numbers = c.args.numbers.now in
    let i = c.loop-series.series-index in
    let end = c.loop-series-test.false in
    all_answered (λ n. answer_to history (labels_at (arrivals history) n) c.args.ask.now) numbers (drop i numbers) c.loop-series.answers.items (drop_all i numbers end) (c.loop-series.invariant.answer history may once)

pub returns-clause-rising : goal.returns-clause-rising
returns-clause-rising g c = λ f h.
    let numbers = c.args.numbers.now in
    all_rising f (drop c.loop-series.series-index numbers) c.loop-series.answers.items (drop_all c.loop-series.series-index numbers c.loop-series-test.false) (c.loop-series.invariant.rising f h)

pub returns-clause-reads : goal.returns-clause-reads
returns-clause-reads g c = λ history may once. let h = c.loop-series.invariant.reads history may once in omega arith

pub returns-clause-fits : goal.returns-clause-fits
returns-clause-fits g c = λ history may once other. c.loop-series.invariant.fits history may once

pub returns-clause-asked : goal.returns-clause-asked
returns-clause-asked g c = λ history may once.
    subst (λ l. AreAsked history g.R.Ranges.keeps c.args.node c.args.ask.now l (g.R.Ranges.last c.args.ranges.now) (g.R.Ranges.last c.loop-series.ranges) (g.R.Ranges.passed c.args.ranges.now) (g.R.Ranges.passed c.loop-series.ranges))
    (take_all c.loop-series.series-index c.args.numbers.now c.loop-series-test.false) (c.loop-series.invariant.asked history may once)

pub returns-clause-until : goal.returns-clause-until
returns-clause-until g c = λ history may once other. (c.loop-series.series-index, c.loop-series.invariant.asked history may once)

pub returns-then-is_err-clause-reads : goal.returns-then-is_err-clause-reads
returns-then-is_err-clause-reads g c = λ history may once.
    let numbers = c.args.numbers.now in
    let i = c.loop-series.series-index in
    let s = get_or numbers i 0 in
    let within = c.loop-series-test.true in
    let may1 = may_ask c.args.head.now history c.args.ask.now (g.R.Ranges.fits c.args.ranges.now history) (g.R.Ranges.last c.args.ranges.now) c.args.node s may (c.requires.there i 0 within) in
    let front = c.loop-series.invariant.asked history may once in
    let fits = c.loop-series.invariant.fits history may once in
    let apart = once_at numbers i once within in
    let ready = still_ready history g.R.Ranges.keeps c.args.node s c.args.ask.now (take i numbers) (g.R.Ranges.last c.args.ranges.now) (g.R.Ranges.last c.loop-series.ranges) (g.R.Ranges.passed c.args.ranges.now) (g.R.Ranges.passed c.loop-series.ranges) front (may.ready s) apart in
    let labels = labels_at (arrivals history) s in
    let more = reads_step history c.args.ask.now (g.R.Ranges.passed c.args.ranges.now c.args.node) (g.R.Ranges.passed c.loop-series.ranges c.args.node) numbers i c.args.reads.now c.loop-series.reads c.ask.new.reads within
    (passed_still history g.R.Ranges.keeps c.args.node s c.args.ask.now (take i numbers) (g.R.Ranges.last c.args.ranges.now) (g.R.Ranges.last c.loop-series.ranges) (g.R.Ranges.passed c.args.ranges.now) (g.R.Ranges.passed c.loop-series.ranges) front apart) (c.loop-series.invariant.reads history may once) (c.in-Ok.ensures.answer history labels may1 fits ready).reads in
    omega arith
