use Rattle.std.proofs.Common.{◌≡◌, ◌∙◌, ◌≤◌, ◌+◌, ◌++◌, Bool, true, false, List, ℕ, length, length-append, string_bytes, sym, ap, subst, arith}
use Rattle.pr_text.specs.Script.{is_body_line, body_text}
use Rattle.pr_outside.proofs.Ended.{quiet, read_done, read_memory, read_on}
use Rattle.pr_text.specs.private.LineReading.{held, ahead, without_feed, HandsLine, IsBeyond, IsNext}
use Rattle.pr_text.specs.private.Reading.{unread, TakesBody, EndsBody}
use Rattle.pr_text.proofs.Ahead.{at_exit, beyond_on, counts_on, read_same, within_on}
use Rattle.pr_text.proofs.Feeds.{one_byte}
use Rattle.pr_text.proofs.Orders.{body_cut, body_on, body_again, body_last, ends_at, ends_none}
use Rattle.pr_text.proofs.reader.reader.Reader.read_body.Goals as goal

pub returns-in_err-next_line-clause-cut : goal.returns-in_err-next_line-clause-cut
returns-in_err-next_line-clause-cut g c =
    let input = g.I.Source.means in
    at_exit _ _ c.from_residual.result c.in_err-next_line.field-0.0 c.from_residual.ensures.1 c.in_err-next_line.ensures.cut
    (λ cut. body_cut (ahead (unread c.args.self.now) (input c.args.input.now).left) (ahead (unread c.reading.self) (input c.reading.input).left) (input c.next_line.new.input).left
    c.args.self.now.number c.reading.self.number (string_bytes c.reading.body) c.reading.invariant.body cut)

pub reading-preserved : goal.reading-preserved
reading-preserved g c =
    let input = g.I.Source.means in
    let all = ahead (unread c.args.self.now) (input c.args.input.now).left in
    let before = ahead (unread c.reading.self) (input c.reading.input).left in
    let after = ahead (unread c.next_line.new.self) (input c.next_line.new.input).left in
    let line = c.next_line.new.line.items in
    let here = c.reading.invariant in
    let next = c.in_ok-next_line.ensures in
    let push = c.in_ok-push_body_line.ensures in
    let ready = next.ready in
    let some : 1 ≤ length line = one_byte line c.in_ok-next_line.field-0 next.some c.if-branch.true in
    let hands : HandsLine before after true line = subst (λ (b : Bool). HandsLine before after b line) c.if-branch.true next.line in
    let text : c.without_feed.result.now ≡ without_feed line = c.without_feed.ensures ∙ ap without_feed c.deref.ensures.value in
    let is : is_body_line (without_feed line) ≡ true = ap is_body_line (sym text) ∙ sym push.test ∙ c.if-not-branch.false in
    let body : string_bytes c.push_body_line.new.body ≡ string_bytes c.reading.body ++ body_text (without_feed line) =
    push.text c.if-not-branch.false ∙ ap (λ (t : List ℕ). string_bytes c.reading.body ++ body_text t) text in
    record {
      ready = record { within = ready.within; number = omega (arith, ready.number, some); count = ready.count; end = ready.end; waits = ready.waits };
      body = subst (λ (k : ℕ). TakesBody all after c.args.self.now.number (k + 1) (string_bytes c.push_body_line.new.body)) (sym next.number)
          (subst (TakesBody all after c.args.self.now.number (c.reading.self.number + 1)) (sym body)
          (body_on all before after c.args.self.now.number c.reading.self.number (string_bytes c.reading.body) line here.body hands is));
      number = omega (arith, here.number, next.number);
      counts = counts_on (input c.args.input.now) (input c.reading.input) (input c.next_line.new.input) c.args.self.now.lines.count c.reading.self.lines.count
          c.next_line.new.self.lines.count here.counts next.counts;
      reads = λ first r. next.going first (here.reads first r);
      over = λ first r. next.over first (here.over first r);
      calm = (next.ends quiet).cause.0 ∙ here.calm;
    }

pub returns-then-not-branch-clause-ready : goal.returns-then-not-branch-clause-ready
returns-then-not-branch-clause-ready g c =
    let left = (g.I.Source.means c.next_line.new.input).left in
    let lines = held c.next_line.new.self.lines in
    let line = c.next_line.new.line.items in
    let before = ahead (unread c.reading.self) (g.I.Source.means c.reading.input).left in
    let next = c.in_ok-next_line.ensures in
    let kept : c.swap.new.x.items ≡ c.next_line.new.line.items = cc in
    let hands : HandsLine before (ahead lines left) true line =
    subst (λ (w : List ℕ). HandsLine before (ahead (w ++ lines) left) true line) next.waiting
    (subst (λ (b : Bool). HandsLine before (ahead (unread c.next_line.new.self) left) b line) c.if-branch.true next.line) in
    let ready = next.ready in
    record {
      within = ready.within;
      number = omega (
        arith,
        ready.number,
        length-append c.swap.new.x.items lines,
        length-append c.next_line.new.self.waiting.items lines,
        ap length kept,
        ap length next.waiting,
      );
      count = ready.count;
      end = ready.end;
      waits = λ some. subst (λ (w : List ℕ). IsNext w (ahead lines left)) (sym kept) hands.1;
    }

pub returns-then-not-branch-clause-body : goal.returns-then-not-branch-clause-body
returns-then-not-branch-clause-body g c =
    let left = (g.I.Source.means c.next_line.new.input).left in
    let lines = held c.next_line.new.self.lines in
    let line = c.next_line.new.line.items in
    let before = ahead (unread c.reading.self) (g.I.Source.means c.reading.input).left in
    let next = c.in_ok-next_line.ensures in
    let kept : c.swap.new.x.items ≡ c.next_line.new.line.items = cc in
    let hands : HandsLine before (ahead lines left) true line =
    subst (λ (w : List ℕ). HandsLine before (ahead (w ++ lines) left) true line) next.waiting
    (subst (λ (b : Bool). HandsLine before (ahead (unread c.next_line.new.self) left) b line) c.if-branch.true next.line) in
    let all = ahead (unread c.args.self.now) (g.I.Source.means c.args.input.now).left in
    let m = c.args.self.now.number in
    let same : string_bytes c.push_body_line.new.body ≡ string_bytes c.reading.body = c.in_ok-push_body_line.ensures.other c.if-not-branch.true in
    subst (λ (w : List ℕ). TakesBody all (ahead (w ++ lines) left) m c.next_line.new.self.number (string_bytes c.push_body_line.new.body)) (sym kept)
    (subst (λ (k : ℕ). TakesBody all (ahead (line ++ lines) left) m k (string_bytes c.push_body_line.new.body)) (sym next.number)
    (subst (TakesBody all (ahead (line ++ lines) left) m c.reading.self.number) (sym same)
    (body_again all before lines line left m c.reading.self.number (string_bytes c.reading.body) c.reading.invariant.body hands.0)))

pub returns-then-not-branch-clause-ended : goal.returns-then-not-branch-clause-ended
returns-then-not-branch-clause-ended g c =
    let left = (g.I.Source.means c.next_line.new.input).left in
    let lines = held c.next_line.new.self.lines in
    let line = c.next_line.new.line.items in
    let before = ahead (unread c.reading.self) (g.I.Source.means c.reading.input).left in
    let next = c.in_ok-next_line.ensures in
    let kept : c.swap.new.x.items ≡ c.next_line.new.line.items = cc in
    let hands : HandsLine before (ahead lines left) true line =
    subst (λ (w : List ℕ). HandsLine before (ahead (w ++ lines) left) true line) next.waiting
    (subst (λ (b : Bool). HandsLine before (ahead (unread c.next_line.new.self) left) b line) c.if-branch.true next.line) in
    let text : c.without_feed.result.now ≡ without_feed line = c.without_feed.ensures ∙ ap without_feed c.deref.ensures.value in
    let other : is_body_line (without_feed line) ≡ false = ap is_body_line (sym text) ∙ sym c.in_ok-push_body_line.ensures.test ∙ c.if-not-branch.true in
    subst (λ (w : List ℕ). EndsBody (ahead (w ++ lines) left)) (sym kept) (ends_at lines line left hands.1 other)

pub returns-clause-body : goal.returns-clause-body
returns-clause-body g c =
    let input = g.I.Source.means in
    let all = ahead (unread c.args.self.now) (input c.args.input.now).left in
    let before = ahead (unread c.reading.self) (input c.reading.input).left in
    let after = ahead (unread c.next_line.new.self) (input c.next_line.new.input).left in
    let line = c.next_line.new.line.items in
    let hands : HandsLine before after false line = subst (λ (b : Bool). HandsLine before after b line) c.if-branch.false c.in_ok-next_line.ensures.line in
    subst (λ (k : ℕ). TakesBody all after c.args.self.now.number k (string_bytes c.reading.body)) (sym c.in_ok-next_line.ensures.number)
    (body_last all before after line c.args.self.now.number c.reading.self.number (string_bytes c.reading.body) c.reading.invariant.body hands)

pub returns-clause-ended : goal.returns-clause-ended
returns-clause-ended g c =
    let input = g.I.Source.means in
    let before = ahead (unread c.reading.self) (input c.reading.input).left in
    let after = ahead (unread c.next_line.new.self) (input c.next_line.new.input).left in
    let line = c.next_line.new.line.items in
    let hands : HandsLine before after false line = subst (λ (b : Bool). HandsLine before after b line) c.if-branch.false c.in_ok-next_line.ensures.line in
    ends_none after hands.1

-- the reads so far, and the next one

pub returns-in_err-next_line-clause-in_time : goal.returns-in_err-next_line-clause-in_time
returns-in_err-next_line-clause-in_time g c = λ first r. c.in_err-next_line.ensures.in_time first (c.reading.invariant.reads first r)

pub returns-in_err-next_line-clause-ends : goal.returns-in_err-next_line-clause-ends
returns-in_err-next_line-clause-ends g c =
    let input = g.I.Source.means in
    let here = c.reading.invariant in
    let start = (input c.args.input.now).course in
    read_on _ Bool (IsBeyond (input c.reading.input) (input c.next_line.new.input) c.reading.self.lines.count)
    (IsBeyond (input c.args.input.now) (input c.next_line.new.input) c.args.self.now.lines.count)
    (input c.args.input.now) (input c.reading.input) (input c.next_line.new.input) c.from_residual.result c.in_err-next_line.field-0.0 c.from_residual.ensures.1 here.calm
    (c.in_err-next_line.ensures.in_time start (here.reads start (read_same start c.args.self.now.lines.ended)))
    (λ long. beyond_on (input c.args.input.now) (input c.reading.input) (input c.next_line.new.input) c.args.self.now.lines.count c.reading.self.lines.count here.counts long)
    c.in_err-next_line.ensures.ends

pub returns-in_err-push_body_line-clause-in_time : goal.returns-in_err-push_body_line-clause-in_time
returns-in_err-push_body_line-clause-in_time g c = λ first r. c.in_ok-next_line.ensures.in_time first (c.reading.invariant.reads first r)

pub returns-in_err-push_body_line-clause-ends : goal.returns-in_err-push_body_line-clause-ends
returns-in_err-push_body_line-clause-ends g c =
    let input = g.I.Source.means in
    let here = c.reading.invariant in
    let start = (input c.args.input.now).course in
    read_memory _ (IsBeyond (input c.args.input.now) (input c.next_line.new.input) c.args.self.now.lines.count) (input c.args.input.now) (input c.next_line.new.input)
    c.from_residual-in_err-push_body_line.result c.from_residual-in_err-push_body_line.ensures.1 ((c.in_ok-next_line.ensures.ends quiet).cause.0 ∙ here.calm)
    (c.in_ok-next_line.ensures.in_time start (here.reads start (read_same start c.args.self.now.lines.ended)))

pub returns-then-not-branch-clause-going : goal.returns-then-not-branch-clause-going
returns-then-not-branch-clause-going g c = λ first r. c.in_ok-next_line.ensures.going first (c.reading.invariant.reads first r)

pub returns-then-not-branch-clause-in_time : goal.returns-then-not-branch-clause-in_time
returns-then-not-branch-clause-in_time g c = λ first r. c.in_ok-next_line.ensures.in_time first (c.reading.invariant.reads first r)

pub returns-then-not-branch-clause-ends : goal.returns-then-not-branch-clause-ends
returns-then-not-branch-clause-ends g c =
    let input = g.I.Source.means in
    let here = c.reading.invariant in
    let start = (input c.args.input.now).course in
    read_done _ (IsBeyond (input c.args.input.now) (input c.next_line.new.input) c.args.self.now.lines.count) (input c.args.input.now) (input c.next_line.new.input) c.push_body_line.new.body
    ((c.in_ok-next_line.ensures.ends quiet).cause.0 ∙ here.calm)
    (c.in_ok-next_line.ensures.in_time start (here.reads start (read_same start c.args.self.now.lines.ended)))

pub returns-clause-going : goal.returns-clause-going
returns-clause-going g c = λ first r. c.in_ok-next_line.ensures.going first (c.reading.invariant.reads first r)

pub returns-clause-in_time : goal.returns-clause-in_time
returns-clause-in_time g c = λ first r. c.in_ok-next_line.ensures.in_time first (c.reading.invariant.reads first r)

pub returns-clause-ends : goal.returns-clause-ends
returns-clause-ends g c =
    let input = g.I.Source.means in
    let here = c.reading.invariant in
    let start = (input c.args.input.now).course in
    read_done _ (IsBeyond (input c.args.input.now) (input c.next_line.new.input) c.args.self.now.lines.count) (input c.args.input.now) (input c.next_line.new.input) c.reading.body
    ((c.in_ok-next_line.ensures.ends quiet).cause.0 ∙ here.calm)
    (c.in_ok-next_line.ensures.in_time start (here.reads start (read_same start c.args.self.now.lines.ended)))

pub returns-then-not-branch-clause-over : goal.returns-then-not-branch-clause-over
returns-then-not-branch-clause-over g c = λ first r. c.in_ok-next_line.ensures.over first (c.reading.invariant.over first r)

pub returns-clause-over : goal.returns-clause-over
returns-clause-over g c = λ first r. c.in_ok-next_line.ensures.over first (c.reading.invariant.over first r)

-- no more than the limit and one piece

pub returns-in_err-next_line-clause-most : goal.returns-in_err-next_line-clause-most
returns-in_err-next_line-clause-most g c =
    let input = g.I.Source.means in
    within_on (input c.args.input.now) (input c.reading.input) (input c.next_line.new.input) c.args.self.now.lines.count c.reading.self.lines.count c.reading.invariant.counts
    c.in_err-next_line.ensures.most

pub returns-in_err-push_body_line-clause-most : goal.returns-in_err-push_body_line-clause-most
returns-in_err-push_body_line-clause-most g c =
    let input = g.I.Source.means in
    within_on (input c.args.input.now) (input c.reading.input) (input c.next_line.new.input) c.args.self.now.lines.count c.reading.self.lines.count c.reading.invariant.counts
    c.in_ok-next_line.ensures.most

pub returns-then-not-branch-clause-most : goal.returns-then-not-branch-clause-most
returns-then-not-branch-clause-most g c =
    let input = g.I.Source.means in
    within_on (input c.args.input.now) (input c.reading.input) (input c.next_line.new.input) c.args.self.now.lines.count c.reading.self.lines.count c.reading.invariant.counts
    c.in_ok-next_line.ensures.most

pub returns-clause-most : goal.returns-clause-most
returns-clause-most g c =
    let input = g.I.Source.means in
    within_on (input c.args.input.now) (input c.reading.input) (input c.next_line.new.input) c.args.self.now.lines.count c.reading.self.lines.count c.reading.invariant.counts
    c.in_ok-next_line.ensures.most
