use Rattle.std.proofs.Common.{◌≤◌, ◌+◌, [], ◌∷◌, List, take, arith, sym, ◌∙◌, subst}
use Rattle.pr_head.specs.spec_history.declared.entry.Entry.{Entry}
use Rattle.pr_head.specs.spec_history.Admission.{put_all}
use Rattle.pr_manager.specs.pr_expo.declared.exposition.Line.{Line}
use Rattle.pr_manager.specs.spec_world.Scrapes.{offered_entries, offers}
use Rattle.pr_engine.specs.private.Tallying.{Tallies}
use Rattle.pr_engine.specs.declared.scrape.tally.Tally.{Tally}
use Rattle.pr_head.proofs.IntakeIntake.{front_if, front_none, next_front, next_of, next_puts}
use Rattle.pr_engine.proofs.Tallying.{offered_parts, tallies_then}
use Rattle.pr_engine.proofs.scrape.tally.put_lines.Goals as goal

pub returns-in_err-begin-clause-front : goal.returns-in_err-begin-clause-front
returns-in_err-begin-clause-front c = λ history h.
    front_if c.from_residual.result c.args.head.now c.args.head.now history (offered_entries (offers c.args.target.now c.args.now c.args.lines.now))
    (front_none c.args.head.now history (offered_entries (offers c.args.target.now c.args.now c.args.lines.now)) h)

pub returns-in_err-put_line-clause-front : goal.returns-in_err-put_line-clause-front
returns-in_err-put_line-clause-front c = λ history h.
    let g : List Line → List Entry = λ lines. offered_entries (offers c.args.target.now c.args.now lines) in
    let i = c.loop-line.line-index in
    let p = c.loop-line.invariant.puts history h in
    front_if c.from_residual-in_err-put_line.result c.args.head.now c.put_line.new.head history (g c.args.lines.now)
    (next_front g (offered_parts c.args.target.now c.args.now) c.args.lines.now i c.line-item.result c.loop-line-test.true c.line-item.is
    c.args.head.now c.loop-line.head c.put_line.new.head history p.taken
    (c.in_err-put_line.ensures.front c.args.target.now (put_all history (g (take i c.args.lines.now))) c.loop-line.invariant.fit p.taken.holds))

pub loop-line-preserved : goal.loop-line-preserved
loop-line-preserved c = record {
  fit = c.in_ok-put_line.ensures.stays ∙ c.loop-line.invariant.fit;
  few =
      let before : c.loop-line.tally.dropped ≤ c.loop-line.line-index = c.loop-line.invariant.few in
      let more : c.put_line.new.tally.dropped ≤ c.loop-line.tally.dropped + 1 = c.in_ok-put_line.ensures.few in
      omega (arith, before, more);
  puts = λ history h.
      let g : List Line → List Entry = λ lines. offered_entries (offers c.args.target.now c.args.now lines) in
      let i = c.loop-line.line-index in
      let p = c.loop-line.invariant.puts history h in
      next_puts g (offered_parts c.args.target.now c.args.now) c.args.lines.now i c.line-item.result c.loop-line-test.true c.line-item.is
      c.args.head.now c.loop-line.head c.put_line.new.head c.args.rows.now.items c.loop-line.rows.items c.put_line.new.rows.items history p
      (c.in_ok-put_line.ensures.puts c.args.target.now (put_all history (g (take i c.args.lines.now))) c.loop-line.invariant.fit p.taken.holds);
  tallies = λ history h.
      let g : List Line → List Entry = λ lines. offered_entries (offers c.args.target.now c.args.now lines) in
      let i = c.loop-line.line-index in
      let p = c.loop-line.invariant.puts history h in
      let empty : Tally = record { dropped = 0; kept = c.in_ok-with_capacity.field-0 } in
      subst (λ (ls : List Line). Tallies empty c.put_line.new.tally c.args.target.now c.args.now ls history) (sym (next_of c.args.lines.now i c.line-item.result c.loop-line-test.true c.line-item.is))
      (tallies_then empty c.loop-line.tally c.put_line.new.tally c.args.target.now c.args.now (take i c.args.lines.now) (c.line-item.result ∷ []) history (c.loop-line.invariant.tallies history h)
      (c.in_ok-put_line.ensures.tallies c.args.target.now (put_all history (g (take i c.args.lines.now))) c.loop-line.invariant.fit p.taken.holds));
}
