use Rattle.std.proofs.Common.{◌≡◌, ◌∙◌, List, [], ℕ, string_bytes, refl, sym, ap, subst}
use Rattle.spec_world.specs.declared.event.Event.TheVariants as event
use Rattle.pr_text.specs.declared.script.order.Order.TheVariants as order
use Rattle.pr_text.specs.declared.script.order.Started.TheVariants as started
use Rattle.pr_text.specs.Orders.{order_of}
use Rattle.pr_text.specs.private.Plain.{IsPlain}
use Rattle.pr_text.specs.private.Started.{Starts}
use Rattle.pr_outside.proofs.Ended.{quiet, read_done, read_on}
use Rattle.pr_text.specs.private.LineReading.{ahead, IsBeyond}
use Rattle.pr_text.specs.private.Reading.{unread}
use Rattle.pr_text.proofs.Ahead.{at_exit, read_same}
use Rattle.pr_text.proofs.Orders.{finishes_whole, finishes_body}
use Rattle.pr_text.proofs.Plain.{plain_order}
use Rattle.pr_text.proofs.reader.reader.Reader.take_order.Goals as goal

pub returns-in_err-read_body-in-Scrape-clause-cut : goal.returns-in_err-read_body-in-Scrape-clause-cut
returns-in_err-read_body-in-Scrape-clause-cut g c =
    let starts : Starts c.args.line.now (started.Scrape c.in-Scrape.time c.in-Scrape.target) = subst (Starts c.args.line.now) c.in-Scrape.is c.in_ok-order.ensures in
    at_exit _ _ c.from_residual-in_err-read_body-in-Scrape.result c.in_err-read_body-in-Scrape.field-0.0 c.from_residual-in_err-read_body-in-Scrape.ensures.1
    c.in_err-read_body-in-Scrape.ensures.cut (λ cut. (starts.0, cut))

pub returns-in-Whole-clause-order : goal.returns-in-Whole-clause-order
returns-in-Whole-clause-order g c =
    let starts : Starts c.args.line.now (started.Whole c.in-Whole.order) = subst (Starts c.args.line.now) c.in-Whole.is c.in_ok-order.ensures in
    λ over. finishes_whole (ahead (unread c.args.self.now) (g.I.Source.means c.args.input.now).left) c.args.self.now.number c.args.line.now c.in-Whole.order over starts.0 starts.1

pub returns-in-Whole-clause-plain : goal.returns-in-Whole-clause-plain
returns-in-Whole-clause-plain g c =
    let starts : Starts c.args.line.now (started.Whole c.in-Whole.order) = subst (Starts c.args.line.now) c.in-Whole.is c.in_ok-order.ensures in
    subst IsPlain (sym starts.1) (plain_order c.args.line.now [])

pub returns-in_ok-read_body-in-Scrape-clause-order : goal.returns-in_ok-read_body-in-Scrape-clause-order
returns-in_ok-read_body-in-Scrape-clause-order g c =
    let input = g.I.Source.means in
    let line = c.args.line.now in
    let time = c.in-Scrape.time in
    let target = c.in-Scrape.target in
    let body = string_bytes c.in_ok-read_body-in-Scrape.field-0 in
    let starts : Starts line (started.Scrape time target) = subst (Starts line) c.in-Scrape.is c.in_ok-order.ensures in
    let is : order.Event (event.Scrape time target c.bytes_of-body.result) ≡ order_of line body =
    ap (λ (b : List ℕ). order.Event (event.Scrape time target b)) c.bytes_of-body.ensures ∙ sym (starts.1 body) in
    λ over. finishes_body (ahead (unread c.args.self.now) (input c.args.input.now).left) (ahead (unread c.read_body.new.self) (input c.read_body.new.input).left)
    c.args.self.now.number c.read_body.new.self.number line body (order.Event (event.Scrape time target c.bytes_of-body.result)) over starts.0 is
    c.in_ok-read_body-in-Scrape.ensures.body c.in_ok-read_body-in-Scrape.ensures.ended

pub returns-in_err-read_body-in-Scrape-clause-ends : goal.returns-in_err-read_body-in-Scrape-clause-ends
returns-in_err-read_body-in-Scrape-clause-ends g c =
    let input = g.I.Source.means in
    let start = (input c.args.input.now).course in
    let long = IsBeyond (input c.args.input.now) (input c.read_body.new.input) c.args.self.now.lines.count in
    read_on _ _ long long (input c.args.input.now) (input c.args.input.now) (input c.read_body.new.input) c.from_residual-in_err-read_body-in-Scrape.result
    c.in_err-read_body-in-Scrape.field-0.0 c.from_residual-in_err-read_body-in-Scrape.ensures.1 refl
    (c.in_err-read_body-in-Scrape.ensures.in_time start (read_same start c.args.self.now.lines.ended)) (λ is. is) c.in_err-read_body-in-Scrape.ensures.ends

pub returns-in_ok-read_body-in-Scrape-clause-ends : goal.returns-in_ok-read_body-in-Scrape-clause-ends
returns-in_ok-read_body-in-Scrape-clause-ends g c =
    let input = g.I.Source.means in
    let start = (input c.args.input.now).course in
    let read = c.in_ok-read_body-in-Scrape.ensures in
    read_done _ (IsBeyond (input c.args.input.now) (input c.read_body.new.input) c.args.self.now.lines.count) (input c.args.input.now) (input c.read_body.new.input)
    (record { number = c.args.self.now.number; order = order.Event (event.Scrape c.in-Scrape.time c.in-Scrape.target c.bytes_of-body.result) })
    (read.ends quiet).cause.0 (read.in_time start (read_same start c.args.self.now.lines.ended))
