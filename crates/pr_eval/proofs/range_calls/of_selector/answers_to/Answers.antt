use Rattle.std.proofs.Common.{◌≡◌, ◌+◌, ◌≤◌, ◌<◌, ap, sym, subst, ◌∙◌, OnOk, length, map, take}
use Rattle.std.specs.List.{All}
use Rattle.pr_labels.specs.Rising.{IsRising}
use Rattle.pr_range.specs.pr_head.private.Holds.{arrivals, labels_at}
use Rattle.spec_meaning.specs.Selection.{chosen_by}
use Rattle.pr_eval.specs.private.RangeCallsAsking.{AreAsked, asks_cost, series_number, numbers_chosen, numbers_cost, passed_by}
use Rattle.pr_eval.specs.private.Choosing.{labels_of_series}
use Rattle.pr_eval.proofs.AskedSeries.{once_from_rising}
use Rattle.pr_eval.proofs.Named.{answers_in_head, answers_vector}
use Rattle.pr_eval.proofs.Numbers.{cost_is, numbers_are, within_arrivals}
use Rattle.pr_eval.proofs.range_calls.of_selector.answers_to.Goals as goal

pub returns-in-Ok-clause-answer : goal.returns-in-Ok-clause-answer
returns-in-Ok-clause-answer g c = λ history may.
    let f = labels_at (arrivals history) in
    let numbers = c.deref.result.now in
    let sets : map f numbers ≡ chosen_by c.args.range.now.selector.now history =
    ap (map f) c.deref.ensures.value ∙ ap (λ l. map (labels_at l) c.in-Ok.numbers.items) (sym may.holds.numbered) ∙ c.in-Ok.ensures.chosen history may.holds in
    let known = subst (All (λ i. i < length c.args.head.now)) (sym c.deref.ensures.value) c.in-Ok.ensures.known in
    let there = within_arrivals c.args.head.now history numbers may.holds.numbered known in
    let once = once_from_rising (labels_of_series c.args.head.now) numbers (subst (λ l. IsRising (map (labels_of_series c.args.head.now) l)) (sym c.deref.ensures.value) c.in-Ok.ensures.rising) in
    let same : numbers ≡ numbers_chosen history c.args.range.now.selector.now = sym (numbers_are history numbers there) ∙ ap (map (series_number history)) sets in
    answers_in_head c.args.head.now history c.args.ask.now numbers (chosen_by c.args.range.now.selector.now history) (λ v. v.items) c.ask_each.result may.holds.numbered sets (c.ask_each.ensures.answer history may once)

pub returns-in-Ok-clause-reads : goal.returns-in-Ok-clause-reads
returns-in-Ok-clause-reads g c = λ history may.
    let f = labels_at (arrivals history) in
    let numbers = c.deref.result.now in
    let sets : map f numbers ≡ chosen_by c.args.range.now.selector.now history =
    ap (map f) c.deref.ensures.value ∙ ap (λ l. map (labels_at l) c.in-Ok.numbers.items) (sym may.holds.numbered) ∙ c.in-Ok.ensures.chosen history may.holds in
    let known = subst (All (λ i. i < length c.args.head.now)) (sym c.deref.ensures.value) c.in-Ok.ensures.known in
    let there = within_arrivals c.args.head.now history numbers may.holds.numbered known in
    let once = once_from_rising (labels_of_series c.args.head.now) numbers (subst (λ l. IsRising (map (labels_of_series c.args.head.now) l)) (sym c.deref.ensures.value) c.in-Ok.ensures.rising) in
    let same : numbers ≡ numbers_chosen history c.args.range.now.selector.now = sym (numbers_are history numbers there) ∙ ap (map (series_number history)) sets in
    let p = g.R.Ranges.passed c.args.ranges.now c.args.range.now.node in
    let cost : numbers_cost history c.args.ask.now p numbers ≡ asks_cost history c.args.ask.now (passed_by history (g.R.Ranges.passed c.args.ranges.now) c.args.range.now.node) (chosen_by c.args.range.now.selector.now history) =
    sym (cost_is history c.args.ask.now p numbers there) ∙ ap (asks_cost history c.args.ask.now (λ labels. p (series_number history labels))) sets in
    subst (λ n. c.ask_each.new.reads ≤ c.args.reads.now + n) cost (c.ask_each.ensures.reads history may once)

pub returns-in-Ok-clause-fits : goal.returns-in-Ok-clause-fits
returns-in-Ok-clause-fits g c = λ history may other.
    let f = labels_at (arrivals history) in
    let numbers = c.deref.result.now in
    let sets : map f numbers ≡ chosen_by c.args.range.now.selector.now history =
    ap (map f) c.deref.ensures.value ∙ ap (λ l. map (labels_at l) c.in-Ok.numbers.items) (sym may.holds.numbered) ∙ c.in-Ok.ensures.chosen history may.holds in
    let known = subst (All (λ i. i < length c.args.head.now)) (sym c.deref.ensures.value) c.in-Ok.ensures.known in
    let there = within_arrivals c.args.head.now history numbers may.holds.numbered known in
    let once = once_from_rising (labels_of_series c.args.head.now) numbers (subst (λ l. IsRising (map (labels_of_series c.args.head.now) l)) (sym c.deref.ensures.value) c.in-Ok.ensures.rising) in
    let same : numbers ≡ numbers_chosen history c.args.range.now.selector.now = sym (numbers_are history numbers there) ∙ ap (map (series_number history)) sets in
    c.ask_each.ensures.fits history may once other

pub returns-in-Ok-clause-asked : goal.returns-in-Ok-clause-asked
returns-in-Ok-clause-asked g c = λ history may.
    let f = labels_at (arrivals history) in
    let numbers = c.deref.result.now in
    let sets : map f numbers ≡ chosen_by c.args.range.now.selector.now history =
    ap (map f) c.deref.ensures.value ∙ ap (λ l. map (labels_at l) c.in-Ok.numbers.items) (sym may.holds.numbered) ∙ c.in-Ok.ensures.chosen history may.holds in
    let known = subst (All (λ i. i < length c.args.head.now)) (sym c.deref.ensures.value) c.in-Ok.ensures.known in
    let there = within_arrivals c.args.head.now history numbers may.holds.numbered known in
    let once = once_from_rising (labels_of_series c.args.head.now) numbers (subst (λ l. IsRising (map (labels_of_series c.args.head.now) l)) (sym c.deref.ensures.value) c.in-Ok.ensures.rising) in
    let same : numbers ≡ numbers_chosen history c.args.range.now.selector.now = sym (numbers_are history numbers there) ∙ ap (map (series_number history)) sets in
    subst (λ l. OnOk c.ask_each.result (AreAsked history g.R.Ranges.keeps c.args.range.now.node c.args.ask.now l (g.R.Ranges.last c.args.ranges.now) (g.R.Ranges.last c.ask_each.new.ranges) (g.R.Ranges.passed c.args.ranges.now) (g.R.Ranges.passed c.ask_each.new.ranges))) same
    (c.ask_each.ensures.asked history may once)

pub returns-in-Ok-clause-until : goal.returns-in-Ok-clause-until
returns-in-Ok-clause-until g c = λ history may other.
    let f = labels_at (arrivals history) in
    let numbers = c.deref.result.now in
    let sets : map f numbers ≡ chosen_by c.args.range.now.selector.now history =
    ap (map f) c.deref.ensures.value ∙ ap (λ l. map (labels_at l) c.in-Ok.numbers.items) (sym may.holds.numbered) ∙ c.in-Ok.ensures.chosen history may.holds in
    let known = subst (All (λ i. i < length c.args.head.now)) (sym c.deref.ensures.value) c.in-Ok.ensures.known in
    let there = within_arrivals c.args.head.now history numbers may.holds.numbered known in
    let once = once_from_rising (labels_of_series c.args.head.now) numbers (subst (λ l. IsRising (map (labels_of_series c.args.head.now) l)) (sym c.deref.ensures.value) c.in-Ok.ensures.rising) in
    let same : numbers ≡ numbers_chosen history c.args.range.now.selector.now = sym (numbers_are history numbers there) ∙ ap (map (series_number history)) sets in
    let h = c.ask_each.ensures.until history may once other in
    (h.0, subst (λ l. AreAsked history g.R.Ranges.keeps c.args.range.now.node c.args.ask.now (take h.0 l) (g.R.Ranges.last c.args.ranges.now) (g.R.Ranges.last c.ask_each.new.ranges) (g.R.Ranges.passed c.args.ranges.now) (g.R.Ranges.passed c.ask_each.new.ranges)) same h.1)

pub returns-in-Ok-clause-vector : goal.returns-in-Ok-clause-vector
returns-in-Ok-clause-vector g c =
    answers_vector c.args.head.now (λ v. v.items) c.ask_each.result
    (c.ask_each.ensures.rising (labels_of_series c.args.head.now) (subst (λ l. IsRising (map (labels_of_series c.args.head.now) l)) (sym c.deref.ensures.value) c.in-Ok.ensures.rising))
