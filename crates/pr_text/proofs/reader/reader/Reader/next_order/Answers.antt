use Rattle.std.proofs.Common.{◌≡◌, ◌∙◌, ◌≤◌, ◌+◌, Bool, true, false, None, Some, List, ℕ, [], ◌∷◌, length, sym, ap, subst, arith}
use Rattle.pr_text.specs.Script.{is_passed_over, takes_body}
use Rattle.pr_outside.proofs.Ended.{quiet, read_done, read_on}
use Rattle.pr_text.specs.private.LineReading.{ahead, without_feed, HandsLine, IsBeyond}
use Rattle.pr_text.specs.private.Reading.{unread, Takes, HandsOrder, FinishesOrder}
use Rattle.pr_text.proofs.Ahead.{at_exit, beyond_on, counts_on, read_same, within_on}
use Rattle.pr_text.proofs.Feeds.{one_byte}
use Rattle.pr_text.proofs.Orders.{takes_on, takes_passed, takes_order, takes_last, line_cut_at, body_cut_at}
use Rattle.pr_text.proofs.reader.reader.Reader.next_order.Goals as goal

pub returns-in_err-next_line-clause-cut : goal.returns-in_err-next_line-clause-cut
returns-in_err-next_line-clause-cut g c =
    let input = g.I.Source.means in
    at_exit _ _ c.from_residual.result c.in_err-next_line.field-0.0 c.from_residual.ensures.1 c.in_err-next_line.ensures.cut
    (λ cut. line_cut_at (ahead (unread c.args.self.now) (input c.args.input.now).left) (ahead (unread c.passing.self) (input c.passing.input).left) (input c.next_line.new.input).left
    c.args.self.now.number c.passing.self.number c.passing.invariant.taken cut)

pub returns-in_err-take_order-clause-cut : goal.returns-in_err-take_order-clause-cut
returns-in_err-take_order-clause-cut g c =
    let input = g.I.Source.means in
    let before = ahead (unread c.passing.self) (input c.passing.input).left in
    let after = ahead (unread c.next_line.new.self) (input c.next_line.new.input).left in
    let line = c.next_line.new.line.items in
    let hands : HandsLine before after true line = subst (λ (b : Bool). HandsLine before after b line) c.if-branch.true c.in_ok-next_line.ensures.line in
    let text : c.without_feed-text.result.now ≡ without_feed line = c.without_feed-text.ensures ∙ ap without_feed c.deref.ensures.value in
    at_exit _ _ c.from_residual-in_err-take_order.result c.in_err-take_order.field-0.0 c.from_residual-in_err-take_order.ensures.1 c.in_err-take_order.ensures.cut
    (λ cut. body_cut_at (ahead (unread c.args.self.now) (input c.args.input.now).left) before after (input c.take_order.new.input).left c.args.self.now.number c.passing.self.number line
    c.passing.invariant.taken hands (ap takes_body (sym text) ∙ cut.0) cut.1)

pub returns-then-not-is_passed_over-clause-order : goal.returns-then-not-is_passed_over-clause-order
returns-then-not-is_passed_over-clause-order g c =
    let input = g.I.Source.means in
    let all = ahead (unread c.args.self.now) (input c.args.input.now).left in
    let before = ahead (unread c.passing.self) (input c.passing.input).left in
    let after = ahead (unread c.next_line.new.self) (input c.next_line.new.input).left in
    let rest = ahead (unread c.take_order.new.self) (input c.take_order.new.input).left in
    let line = c.next_line.new.line.items in
    let o = c.in_ok-take_order.field-0 in
    let m = c.next_line.new.self.number + 1 in
    let hands : HandsLine before after true line = subst (λ (b : Bool). HandsLine before after b line) c.if-branch.true c.in_ok-next_line.ensures.line in
    let text : c.without_feed-text.result.now ≡ without_feed line = c.without_feed-text.ensures ∙ ap without_feed c.deref.ensures.value in
    let over : is_passed_over c.without_feed-text.result.now ≡ false = sym c.if-not-is_passed_over.ensures in
    let ends : FinishesOrder (without_feed line) after rest m c.take_order.new.self.number o =
    subst (λ (t : List ℕ). FinishesOrder t after rest m c.take_order.new.self.number o) text (c.in_ok-take_order.ensures.order over) in
    takes_on all before rest c.args.self.now.number c.passing.self.number c.take_order.new.self.number [] (o ∷ []) c.passing.invariant.taken
    (takes_order before after rest c.passing.self.number m c.take_order.new.self.number line o hands
    (ap (λ (k : ℕ). k + 1) c.in_ok-next_line.ensures.number) ends)

pub passing-preserved : goal.passing-preserved
passing-preserved g c =
    let input = g.I.Source.means in
    let all = ahead (unread c.args.self.now) (input c.args.input.now).left in
    let before = ahead (unread c.passing.self) (input c.passing.input).left in
    let after = ahead (unread c.next_line.new.self) (input c.next_line.new.input).left in
    let line = c.next_line.new.line.items in
    let here = c.passing.invariant in
    let next = c.in_ok-next_line.ensures in
    let ready = next.ready in
    let some : 1 ≤ length line = one_byte line c.in_ok-next_line.field-0 next.some c.if-branch.true in
    let hands : HandsLine before after true line = subst (λ (b : Bool). HandsLine before after b line) c.if-branch.true next.line in
    let text : c.without_feed-text.result.now ≡ without_feed line = c.without_feed-text.ensures ∙ ap without_feed c.deref.ensures.value in
    let over : is_passed_over (without_feed line) ≡ true = sym (c.if-not-is_passed_over.ensures ∙ ap is_passed_over text) in
    record {
      ready = record { within = ready.within; number = omega (arith, ready.number, some); count = ready.count; end = ready.end; waits = ready.waits };
      taken = subst (λ (k : ℕ). Takes all after c.args.self.now.number (k + 1) []) (sym next.number)
          (takes_on all before after c.args.self.now.number c.passing.self.number (c.passing.self.number + 1) [] [] here.taken
          (takes_passed before after c.passing.self.number line hands over));
      number = omega (arith, here.number, next.number);
      counts = counts_on (input c.args.input.now) (input c.passing.input) (input c.next_line.new.input) c.args.self.now.lines.count c.passing.self.lines.count
          c.next_line.new.self.lines.count here.counts next.counts;
      reads = λ first r. next.going first (here.reads first r);
      over = λ first r. next.over first (here.over first r);
      calm = (next.ends quiet).cause.0 ∙ here.calm;
    }

pub returns-clause-order : goal.returns-clause-order
returns-clause-order g c =
    let input = g.I.Source.means in
    let all = ahead (unread c.args.self.now) (input c.args.input.now).left in
    let before = ahead (unread c.passing.self) (input c.passing.input).left in
    let after = ahead (unread c.next_line.new.self) (input c.next_line.new.input).left in
    let line = c.next_line.new.line.items in
    let hands : HandsLine before after false line = subst (λ (b : Bool). HandsLine before after b line) c.if-branch.false c.in_ok-next_line.ensures.line in
    subst (λ (k : ℕ). HandsOrder all after c.args.self.now.number k None) (sym c.in_ok-next_line.ensures.number)
    (takes_last all before after line c.args.self.now.number c.passing.self.number c.passing.invariant.taken hands)

-- the reads so far, and the next ones

pub returns-in_err-next_line-clause-in_time : goal.returns-in_err-next_line-clause-in_time
returns-in_err-next_line-clause-in_time g c = λ first r. c.in_err-next_line.ensures.in_time first (c.passing.invariant.reads first r)

pub returns-in_err-next_line-clause-ends : goal.returns-in_err-next_line-clause-ends
returns-in_err-next_line-clause-ends g c =
    let input = g.I.Source.means in
    let here = c.passing.invariant in
    let start = (input c.args.input.now).course in
    read_on _ Bool (IsBeyond (input c.passing.input) (input c.next_line.new.input) c.passing.self.lines.count)
    (IsBeyond (input c.args.input.now) (input c.next_line.new.input) c.args.self.now.lines.count)
    (input c.args.input.now) (input c.passing.input) (input c.next_line.new.input) c.from_residual.result c.in_err-next_line.field-0.0 c.from_residual.ensures.1 here.calm
    (c.in_err-next_line.ensures.in_time start (here.reads start (read_same start c.args.self.now.lines.ended)))
    (λ long. beyond_on (input c.args.input.now) (input c.passing.input) (input c.next_line.new.input) c.args.self.now.lines.count c.passing.self.lines.count here.counts long)
    c.in_err-next_line.ensures.ends

pub returns-in_err-take_order-clause-in_time : goal.returns-in_err-take_order-clause-in_time
returns-in_err-take_order-clause-in_time g c = λ first r.
    c.in_err-take_order.ensures.in_time first (c.in_ok-next_line.ensures.going first (c.passing.invariant.reads first r))

pub returns-in_err-take_order-clause-ends : goal.returns-in_err-take_order-clause-ends
returns-in_err-take_order-clause-ends g c =
    let input = g.I.Source.means in
    let here = c.passing.invariant in
    let next = c.in_ok-next_line.ensures in
    let start = (input c.args.input.now).course in
    let count = c.next_line.new.self.lines.count in
    read_on _ _ (IsBeyond (input c.next_line.new.input) (input c.take_order.new.input) count)
    (IsBeyond (input c.args.input.now) (input c.take_order.new.input) c.args.self.now.lines.count)
    (input c.args.input.now) (input c.next_line.new.input) (input c.take_order.new.input) c.from_residual-in_err-take_order.result c.in_err-take_order.field-0.0
    c.from_residual-in_err-take_order.ensures.1 ((next.ends quiet).cause.0 ∙ here.calm)
    (c.in_err-take_order.ensures.in_time start (next.going start (here.reads start (read_same start c.args.self.now.lines.ended))))
    (λ long. beyond_on (input c.args.input.now) (input c.next_line.new.input) (input c.take_order.new.input) c.args.self.now.lines.count count
    (counts_on (input c.args.input.now) (input c.passing.input) (input c.next_line.new.input) c.args.self.now.lines.count c.passing.self.lines.count count
    here.counts next.counts) long)
    c.in_err-take_order.ensures.ends

pub returns-then-not-is_passed_over-clause-going : goal.returns-then-not-is_passed_over-clause-going
returns-then-not-is_passed_over-clause-going g c = λ first r.
    c.in_ok-take_order.ensures.going first (c.in_ok-next_line.ensures.going first (c.passing.invariant.reads first r))

pub returns-then-not-is_passed_over-clause-in_time : goal.returns-then-not-is_passed_over-clause-in_time
returns-then-not-is_passed_over-clause-in_time g c = λ first r.
    c.in_ok-take_order.ensures.in_time first (c.in_ok-next_line.ensures.going first (c.passing.invariant.reads first r))

pub returns-then-not-is_passed_over-clause-ends : goal.returns-then-not-is_passed_over-clause-ends
returns-then-not-is_passed_over-clause-ends g c =
    let input = g.I.Source.means in
    let here = c.passing.invariant in
    let next = c.in_ok-next_line.ensures in
    let start = (input c.args.input.now).course in
    read_done _ (IsBeyond (input c.args.input.now) (input c.take_order.new.input) c.args.self.now.lines.count) (input c.args.input.now) (input c.take_order.new.input) (Some c.in_ok-take_order.field-0)
    ((c.in_ok-take_order.ensures.ends quiet).cause.0 ∙ (next.ends quiet).cause.0 ∙ here.calm)
    (c.in_ok-take_order.ensures.in_time start (next.going start (here.reads start (read_same start c.args.self.now.lines.ended))))

pub returns-clause-going : goal.returns-clause-going
returns-clause-going g c = λ first r. c.in_ok-next_line.ensures.going first (c.passing.invariant.reads first r)

pub returns-clause-in_time : goal.returns-clause-in_time
returns-clause-in_time g c = λ first r. c.in_ok-next_line.ensures.in_time first (c.passing.invariant.reads first r)

pub returns-clause-ends : goal.returns-clause-ends
returns-clause-ends g c =
    let input = g.I.Source.means in
    let here = c.passing.invariant in
    let start = (input c.args.input.now).course in
    read_done _ (IsBeyond (input c.args.input.now) (input c.next_line.new.input) c.args.self.now.lines.count) (input c.args.input.now) (input c.next_line.new.input) None
    ((c.in_ok-next_line.ensures.ends quiet).cause.0 ∙ here.calm)
    (c.in_ok-next_line.ensures.in_time start (here.reads start (read_same start c.args.self.now.lines.ended)))

pub returns-then-not-is_passed_over-clause-over : goal.returns-then-not-is_passed_over-clause-over
returns-then-not-is_passed_over-clause-over g c = λ first r.
    c.in_ok-take_order.ensures.over first (c.in_ok-next_line.ensures.over first (c.passing.invariant.over first r))

pub returns-clause-over : goal.returns-clause-over
returns-clause-over g c = λ first r. c.in_ok-next_line.ensures.over first (c.passing.invariant.over first r)

-- no more than the limit and one piece

pub returns-in_err-next_line-clause-most : goal.returns-in_err-next_line-clause-most
returns-in_err-next_line-clause-most g c =
    let input = g.I.Source.means in
    within_on (input c.args.input.now) (input c.passing.input) (input c.next_line.new.input) c.args.self.now.lines.count c.passing.self.lines.count c.passing.invariant.counts
    c.in_err-next_line.ensures.most

pub returns-in_err-take_order-clause-most : goal.returns-in_err-take_order-clause-most
returns-in_err-take_order-clause-most g c =
    let input = g.I.Source.means in
    let count = c.next_line.new.self.lines.count in
    within_on (input c.args.input.now) (input c.next_line.new.input) (input c.take_order.new.input) c.args.self.now.lines.count count
    (counts_on (input c.args.input.now) (input c.passing.input) (input c.next_line.new.input) c.args.self.now.lines.count c.passing.self.lines.count count
    c.passing.invariant.counts c.in_ok-next_line.ensures.counts)
    c.in_err-take_order.ensures.most

pub returns-then-not-is_passed_over-clause-most : goal.returns-then-not-is_passed_over-clause-most
returns-then-not-is_passed_over-clause-most g c =
    let input = g.I.Source.means in
    let count = c.next_line.new.self.lines.count in
    within_on (input c.args.input.now) (input c.next_line.new.input) (input c.take_order.new.input) c.args.self.now.lines.count count
    (counts_on (input c.args.input.now) (input c.passing.input) (input c.next_line.new.input) c.args.self.now.lines.count c.passing.self.lines.count count
    c.passing.invariant.counts c.in_ok-next_line.ensures.counts)
    c.in_ok-take_order.ensures.most

pub returns-clause-most : goal.returns-clause-most
returns-clause-most g c =
    let input = g.I.Source.means in
    within_on (input c.args.input.now) (input c.passing.input) (input c.next_line.new.input) c.args.self.now.lines.count c.passing.self.lines.count c.passing.invariant.counts
    c.in_ok-next_line.ensures.most
