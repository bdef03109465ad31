use Rattle.std.proofs.Common.{◌≡◌, ◌∙◌, ◌==◌, ◌+◌, length-append, arith, sym, Bool, true, false, not, List, ℕ, length, refl, ap, subst}
use Rattle.pr_outside.proofs.Ended.{quiet, read_done, read_memory, read_on}
use Rattle.pr_text.specs.Taken.{TookWithin}
use Rattle.pr_text.specs.private.LineReading.{held, ahead, IsBeyond, IsReadOn, KnowsCourse, TakesPart}
use Rattle.pr_text.proofs.Ahead.{at_exit, beyond_on, counts_fill, counts_on, joined_part, joined_fill, unended_part, line_fed, line_ended, line_cut, read_same, within_done, within_on}
use Rattle.pr_text.proofs.reader.lines.LineReader.next_line.Goals as goal

pub returns-in_err-fill-clause-cut : goal.returns-in_err-fill-clause-cut
returns-in_err-fill-clause-cut g c =
    let input = g.I.Source.means in
    let all = ahead (held c.args.self.now) (input c.args.input.now).left in
    let no : c.in_ok-take_part.field-0 ≡ false = c.if-not-branch.true in
    let part : TakesPart false (held c.joining.self) (held c.take_part.new.self) c.joining.line.items c.take_part.new.line.items =
    subst (λ (b : Bool). TakesPart b (held c.joining.self) (held c.take_part.new.self) c.joining.line.items c.take_part.new.line.items) no c.in_ok-take_part.ensures.part in
    let here = c.joining.invariant in
    at_exit _ _ c.from_residual-in_err-fill.result c.in_err-fill.field-0.0 c.from_residual-in_err-fill.ensures.1 c.in_err-fill.ensures.stopped
    (λ same. line_cut all (input c.joining.input).left (input c.fill.new.input).left (held c.take_part.new.self) c.take_part.new.line.items
    (joined_part all (input c.joining.input).left (held c.joining.self) (held c.take_part.new.self) c.joining.line.items c.take_part.new.line.items here.joined part)
    (part.all refl).1 same
    (unended_part false (held c.joining.self) (held c.take_part.new.self) c.joining.line.items c.take_part.new.line.items here.unended part))

pub returns-then-not-branch-2-clause-line : goal.returns-then-not-branch-2-clause-line
returns-then-not-branch-2-clause-line g c =
    let input = g.I.Source.means in
    let all = ahead (held c.args.self.now) (input c.args.input.now).left in
    let no : c.in_ok-take_part.field-0 ≡ false = c.if-not-branch.true in
    let part : TakesPart false (held c.joining.self) (held c.take_part.new.self) c.joining.line.items c.take_part.new.line.items =
    subst (λ (b : Bool). TakesPart b (held c.joining.self) (held c.take_part.new.self) c.joining.line.items c.take_part.new.line.items) no c.in_ok-take_part.ensures.part in
    let here = c.joining.invariant in
    let ends = c.in_ok-fill.ensures.none c.if-not-branch-2.true in
    line_ended all (input c.fill.new.input).left (held c.fill.new.self) c.take_part.new.line.items c.has_bytes.result
    (joined_fill all (input c.joining.input).left (input c.fill.new.input).left (held c.take_part.new.self) (held c.fill.new.self) c.take_part.new.line.items
    (joined_part all (input c.joining.input).left (held c.joining.self) (held c.take_part.new.self) c.joining.line.items c.take_part.new.line.items here.joined part)
    (part.all refl).1 c.in_ok-fill.ensures.taken)
    ends.1 ends.0
    (unended_part false (held c.joining.self) (held c.take_part.new.self) c.joining.line.items c.take_part.new.line.items here.unended part)
    (c.has_bytes.ensures ∙ ap (λ (l : List ℕ). not (length l == 0)) c.deref.ensures.value)

pub returns-clause-line : goal.returns-clause-line
returns-clause-line g c =
    let input = g.I.Source.means in
    let all = ahead (held c.args.self.now) (input c.args.input.now).left in
    let yes : c.in_ok-take_part.field-0 ≡ true = c.if-not-branch.false in
    let part : TakesPart true (held c.joining.self) (held c.take_part.new.self) c.joining.line.items c.take_part.new.line.items =
    subst (λ (b : Bool). TakesPart b (held c.joining.self) (held c.take_part.new.self) c.joining.line.items c.take_part.new.line.items) yes c.in_ok-take_part.ensures.part in
    line_fed all (input c.joining.input).left (held c.joining.self) (held c.take_part.new.self) c.joining.line.items c.take_part.new.line.items
    c.extend_from_slice.new.self.items c.joining.invariant.joined c.joining.invariant.unended part c.in_ok-extend_from_slice.ensures.items

-- the reads so far, and the next one

pub returns-in_err-take_part-clause-in_time : goal.returns-in_err-take_part-clause-in_time
returns-in_err-take_part-clause-in_time g c = λ first r. (c.joining.invariant.reads first r).in_time

pub returns-in_err-take_part-clause-ends : goal.returns-in_err-take_part-clause-ends
returns-in_err-take_part-clause-ends g c =
    let input = g.I.Source.means in
    let here = c.joining.invariant in
    read_memory Bool (IsBeyond (input c.args.input.now) (input c.joining.input) c.args.self.now.count) (input c.args.input.now) (input c.joining.input) c.from_residual.result
    c.from_residual.ensures.1 here.calm (here.reads (input c.args.input.now).course (read_same (input c.args.input.now).course c.args.self.now.ended)).in_time

pub returns-in_err-fill-clause-in_time : goal.returns-in_err-fill-clause-in_time
returns-in_err-fill-clause-in_time g c = λ first r.
    let same : c.take_part.new.self.ended ≡ c.joining.self.ended = c.in_ok-take_part.ensures.same.1 in
    c.in_err-fill.ensures.in_time first (subst (λ (b : Bool). IsReadOn first b (g.I.Source.means c.joining.input).course) (sym same) (c.joining.invariant.reads first r))

pub returns-in_err-fill-clause-ends : goal.returns-in_err-fill-clause-ends
returns-in_err-fill-clause-ends g c =
    let input = g.I.Source.means in
    let here = c.joining.invariant in
    let start = (input c.args.input.now).course in
    let same : c.take_part.new.self.ended ≡ c.joining.self.ended = c.in_ok-take_part.ensures.same.1 in
    let count : c.take_part.new.self.count ≡ c.joining.self.count = c.in_ok-take_part.ensures.same.0 in
    read_on Bool Bool (IsBeyond (input c.joining.input) (input c.fill.new.input) c.take_part.new.self.count) (IsBeyond (input c.args.input.now) (input c.fill.new.input) c.args.self.now.count) (input c.args.input.now)
    (input c.joining.input) (input c.fill.new.input) c.from_residual-in_err-fill.result c.in_err-fill.field-0.0 c.from_residual-in_err-fill.ensures.1 here.calm
    (c.in_err-fill.ensures.in_time start (subst (λ (b : Bool). IsReadOn start b (input c.joining.input).course) (sym same)
    (here.reads start (read_same start c.args.self.now.ended))))
    (λ long. beyond_on (input c.args.input.now) (input c.joining.input) (input c.fill.new.input) c.args.self.now.count c.joining.self.count here.counts
    (subst (IsBeyond (input c.joining.input) (input c.fill.new.input)) count long))
    c.in_err-fill.ensures.ends

pub returns-then-not-branch-2-clause-going : goal.returns-then-not-branch-2-clause-going
returns-then-not-branch-2-clause-going g c = λ first r.
    let same : c.take_part.new.self.ended ≡ c.joining.self.ended = c.in_ok-take_part.ensures.same.1 in
    c.in_ok-fill.ensures.going first (subst (λ (b : Bool). IsReadOn first b (g.I.Source.means c.joining.input).course) (sym same) (c.joining.invariant.reads first r))

pub returns-then-not-branch-2-clause-in_time : goal.returns-then-not-branch-2-clause-in_time
returns-then-not-branch-2-clause-in_time g c = λ first r.
    let same : c.take_part.new.self.ended ≡ c.joining.self.ended = c.in_ok-take_part.ensures.same.1 in
    c.in_ok-fill.ensures.in_time first (subst (λ (b : Bool). IsReadOn first b (g.I.Source.means c.joining.input).course) (sym same) (c.joining.invariant.reads first r))

pub returns-then-not-branch-2-clause-ends : goal.returns-then-not-branch-2-clause-ends
returns-then-not-branch-2-clause-ends g c =
    let input = g.I.Source.means in
    let here = c.joining.invariant in
    let start = (input c.args.input.now).course in
    let same : c.take_part.new.self.ended ≡ c.joining.self.ended = c.in_ok-take_part.ensures.same.1 in
    read_done Bool (IsBeyond (input c.args.input.now) (input c.fill.new.input) c.args.self.now.count) (input c.args.input.now) (input c.fill.new.input) c.has_bytes.result
    ((c.in_ok-fill.ensures.ends quiet).cause.0 ∙ here.calm)
    (c.in_ok-fill.ensures.in_time start (subst (λ (b : Bool). IsReadOn start b (input c.joining.input).course) (sym same)
    (here.reads start (read_same start c.args.self.now.ended))))

pub returns-in_err-extend_from_slice-clause-in_time : goal.returns-in_err-extend_from_slice-clause-in_time
returns-in_err-extend_from_slice-clause-in_time g c = λ first r. (c.joining.invariant.reads first r).in_time

pub returns-in_err-extend_from_slice-clause-ends : goal.returns-in_err-extend_from_slice-clause-ends
returns-in_err-extend_from_slice-clause-ends g c =
    let input = g.I.Source.means in
    let here = c.joining.invariant in
    read_memory Bool (IsBeyond (input c.args.input.now) (input c.joining.input) c.args.self.now.count) (input c.args.input.now) (input c.joining.input)
    c.from_residual-in_err-extend_from_slice.result c.from_residual-in_err-extend_from_slice.ensures.1 here.calm
    (here.reads (input c.args.input.now).course (read_same (input c.args.input.now).course c.args.self.now.ended)).in_time

pub returns-clause-going : goal.returns-clause-going
returns-clause-going g c = λ first r.
    let same : c.take_part.new.self.ended ≡ c.joining.self.ended = c.in_ok-take_part.ensures.same.1 in
    subst (λ (b : Bool). IsReadOn first b (g.I.Source.means c.joining.input).course) (sym same) (c.joining.invariant.reads first r)

pub returns-clause-in_time : goal.returns-clause-in_time
returns-clause-in_time g c = λ first r. (c.joining.invariant.reads first r).in_time

pub returns-clause-ends : goal.returns-clause-ends
returns-clause-ends g c =
    let input = g.I.Source.means in
    let here = c.joining.invariant in
    read_done Bool (IsBeyond (input c.args.input.now) (input c.joining.input) c.args.self.now.count) (input c.args.input.now) (input c.joining.input) true here.calm
    (here.reads (input c.args.input.now).course (read_same (input c.args.input.now).course c.args.self.now.ended)).in_time

pub returns-then-not-branch-2-clause-over : goal.returns-then-not-branch-2-clause-over
returns-then-not-branch-2-clause-over g c = λ first r.
    let same : c.take_part.new.self.ended ≡ c.joining.self.ended = c.in_ok-take_part.ensures.same.1 in
    c.in_ok-fill.ensures.over first (subst (λ (b : Bool). KnowsCourse first b (g.I.Source.means c.joining.input).course) (sym same) (c.joining.invariant.over first r))

pub returns-clause-over : goal.returns-clause-over
returns-clause-over g c = λ first r.
    let same : c.take_part.new.self.ended ≡ c.joining.self.ended = c.in_ok-take_part.ensures.same.1 in
    subst (λ (b : Bool). KnowsCourse first b (g.I.Source.means c.joining.input).course) (sym same) (c.joining.invariant.over first r)

-- no more than the limit and one piece

pub returns-in_err-take_part-clause-most : goal.returns-in_err-take_part-clause-most
returns-in_err-take_part-clause-most g c =
    let input = g.I.Source.means in
    within_done (input c.args.input.now) (input c.joining.input) c.args.self.now.count c.joining.self.count c.joining.invariant.counts c.joining.invariant.count

pub returns-in_err-fill-clause-most : goal.returns-in_err-fill-clause-most
returns-in_err-fill-clause-most g c =
    let input = g.I.Source.means in
    let count : c.take_part.new.self.count ≡ c.joining.self.count = c.in_ok-take_part.ensures.same.0 in
    within_on (input c.args.input.now) (input c.joining.input) (input c.fill.new.input) c.args.self.now.count c.joining.self.count c.joining.invariant.counts
    (subst (TookWithin (input c.joining.input) (input c.fill.new.input)) count c.in_err-fill.ensures.most)

pub returns-then-not-branch-2-clause-most : goal.returns-then-not-branch-2-clause-most
returns-then-not-branch-2-clause-most g c =
    let input = g.I.Source.means in
    let count : c.take_part.new.self.count ≡ c.joining.self.count = c.in_ok-take_part.ensures.same.0 in
    within_on (input c.args.input.now) (input c.joining.input) (input c.fill.new.input) c.args.self.now.count c.joining.self.count c.joining.invariant.counts
    (subst (TookWithin (input c.joining.input) (input c.fill.new.input)) count c.in_ok-fill.ensures.most)

pub returns-in_err-extend_from_slice-clause-most : goal.returns-in_err-extend_from_slice-clause-most
returns-in_err-extend_from_slice-clause-most g c =
    let input = g.I.Source.means in
    within_done (input c.args.input.now) (input c.joining.input) c.args.self.now.count c.joining.self.count c.joining.invariant.counts c.joining.invariant.count

pub returns-clause-most : goal.returns-clause-most
returns-clause-most g c =
    let input = g.I.Source.means in
    within_done (input c.args.input.now) (input c.joining.input) c.args.self.now.count c.joining.self.count c.joining.invariant.counts c.joining.invariant.count

pub joining-preserved : goal.joining-preserved
joining-preserved g c =
    let input = g.I.Source.means in
    let all = ahead (held c.args.self.now) (input c.args.input.now).left in
    let no : c.in_ok-take_part.field-0 ≡ false = c.if-not-branch.true in
    let part : TakesPart false (held c.joining.self) (held c.take_part.new.self) c.joining.line.items c.take_part.new.line.items =
    subst (λ (b : Bool). TakesPart b (held c.joining.self) (held c.take_part.new.self) c.joining.line.items c.take_part.new.line.items) no c.in_ok-take_part.ensures.part in
    let here = c.joining.invariant in
    let fill = c.in_ok-fill.ensures in
    let same : c.take_part.new.self.ended ≡ c.joining.self.ended = c.in_ok-take_part.ensures.same.1 in
    let count : c.take_part.new.self.count ≡ c.joining.self.count = c.in_ok-take_part.ensures.same.0 in
    let more : c.fill.new.self.count ≡ c.joining.self.count + length (held c.fill.new.self) = omega (arith, fill.count.0, count) in
    record {
      within = fill.within;
      bytes = omega (
        arith,
        more,
        here.bytes,
        ap length part.joined,
        length-append c.joining.line.items part.part,
        ap length (part.all refl).0,
      );
      count = fill.count.1;
      unended = unended_part false (held c.joining.self) (held c.take_part.new.self) c.joining.line.items c.take_part.new.line.items here.unended part;
      joined = joined_fill all (input c.joining.input).left (input c.fill.new.input).left (held c.take_part.new.self) (held c.fill.new.self) c.take_part.new.line.items
          (joined_part all (input c.joining.input).left (held c.joining.self) (held c.take_part.new.self) c.joining.line.items c.take_part.new.line.items here.joined part)
          (part.all refl).1 fill.taken;
      end = fill.end;
      counts = counts_on (input c.args.input.now) (input c.joining.input) (input c.fill.new.input) c.args.self.now.count c.joining.self.count
          c.fill.new.self.count here.counts
          (counts_fill (input c.joining.input) (input c.fill.new.input) (held c.fill.new.self) c.joining.self.count c.fill.new.self.count fill.taken more fill.took);
      reads = λ first r. fill.going first (subst (λ (b : Bool). IsReadOn first b (input c.joining.input).course) (sym same) (here.reads first r));
      over = λ first r. fill.over first (subst (λ (b : Bool). KnowsCourse first b (input c.joining.input).course) (sym same) (here.over first r));
      calm = (fill.ends quiet).cause.0 ∙ here.calm;
    }
