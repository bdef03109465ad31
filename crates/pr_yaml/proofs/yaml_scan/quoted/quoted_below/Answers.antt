use Rattle.std.proofs.Common.{sym, ◌∙◌, ap, arith}
use Rattle.pr_yaml.specs.Lines.{end_line}
use Rattle.pr_yaml.specs.declared.yaml_scan.scalar.Scalar.TheVariants.{Found, Broken}
use Rattle.pr_yaml.specs.declared.yaml_scan.fault.YamlKind.TheVariants.{Quote as OpenQuote}
use Rattle.pr_yaml.specs.declared.yaml_scan.quoted.QuotedLine.TheVariants.{Closed, OpenEnd, JoinedEnd, CutEnd, BadByte}
use Rattle.pr_yaml.proofs.PlainLines.{not_bare}
use Rattle.pr_yaml.proofs.QuotedLines.{over, past_bare, with_line, at_column}
use Rattle.pr_yaml.proofs.yaml_scan.quoted.quoted_below.Goals as goal

pub cut_fault-requires : goal.cut_fault-requires
cut_fault-requires c = not_bare c.in-Some.next.here (sym c.if-is_bare.ensures)

pub line_number-requires : goal.line_number-requires
line_number-requires c = not_bare c.in-Some.next.here (sym c.if-is_bare.ensures)

pub returns-in-Closed : goal.returns-in-Closed
returns-in-Closed c = ap (Found c.in-Closed.all) (c.along.ensures ∙ at_column c.in-Closed.taken c.in-Some.next c.in-Some.ensures.next.column)
    ∙ (sym (with_line c.args.quote c.loop-next.text.items c.loop-next.joined c.loop-next.empty (end_line c.args.p.now.line c.args.p.now.here c.args.p.now.below) c.loop-next.last c.in-Some.next c.push_quoted_break.new.text.items (Closed c.in-Closed.all c.in-Closed.taken) c.in-Some.ensures.next (sym c.if-is_bare.ensures)
    c.in_ok-push_quoted_break.ensures (sym c.in-Closed.is ∙ c.in_ok-all.ensures.value)) ∙ c.loop-next.invariant.value)

pub returns-in-CutEnd : goal.returns-in-CutEnd
returns-in-CutEnd c = c.cut_fault.ensures
    ∙ (sym (with_line c.args.quote c.loop-next.text.items c.loop-next.joined c.loop-next.empty (end_line c.args.p.now.line c.args.p.now.here c.args.p.now.below) c.loop-next.last c.in-Some.next c.push_quoted_break.new.text.items CutEnd c.in-Some.ensures.next (sym c.if-is_bare.ensures)
    c.in_ok-push_quoted_break.ensures (sym c.in-CutEnd.is ∙ c.in_ok-all.ensures.value)) ∙ c.loop-next.invariant.value)

pub returns-in-BadByte : goal.returns-in-BadByte
returns-in-BadByte c = ap (λ n. Broken n c.in-BadByte.kind) c.line_number.ensures
    ∙ (sym (with_line c.args.quote c.loop-next.text.items c.loop-next.joined c.loop-next.empty (end_line c.args.p.now.line c.args.p.now.here c.args.p.now.below) c.loop-next.last c.in-Some.next c.push_quoted_break.new.text.items (BadByte c.in-BadByte.kind) c.in-Some.ensures.next (sym c.if-is_bare.ensures)
    c.in_ok-push_quoted_break.ensures (sym c.in-BadByte.is ∙ c.in_ok-all.ensures.value)) ∙ c.loop-next.invariant.value)

pub loop-next-preserved-then-is_bare : goal.loop-next-preserved-then-is_bare
loop-next-preserved-then-is_bare c = record {
  few = omega (arith, c.loop-next.invariant.few, c.in-Some.ensures.next.line);
  value = sym (past_bare c.args.quote c.loop-next.text.items c.loop-next.joined c.loop-next.empty (end_line c.args.p.now.line c.args.p.now.here c.args.p.now.below) c.loop-next.last c.in-Some.next c.in-Some.ensures.next (sym c.if-is_bare.ensures)) ∙ c.loop-next.invariant.value;
}

pub loop-next-preserved-in-OpenEnd : goal.loop-next-preserved-in-OpenEnd
loop-next-preserved-in-OpenEnd c = record {
  few = omega arith;
  value = rw c.into_vec-text.ensures (sym (with_line c.args.quote c.loop-next.text.items c.loop-next.joined c.loop-next.empty (end_line c.args.p.now.line c.args.p.now.here c.args.p.now.below) c.loop-next.last c.in-Some.next c.push_quoted_break.new.text.items (OpenEnd c.in-OpenEnd.more) c.in-Some.ensures.next (sym c.if-is_bare.ensures)
      c.in_ok-push_quoted_break.ensures (sym c.in-OpenEnd.is ∙ c.in_ok-all.ensures.value)) ∙ c.loop-next.invariant.value);
}

pub loop-next-preserved : goal.loop-next-preserved
loop-next-preserved c = record {
  few = omega arith;
  value = rw c.into_vec-text-in-JoinedEnd.ensures (sym (with_line c.args.quote c.loop-next.text.items c.loop-next.joined c.loop-next.empty (end_line c.args.p.now.line c.args.p.now.here c.args.p.now.below) c.loop-next.last c.in-Some.next c.push_quoted_break.new.text.items (JoinedEnd c.in-JoinedEnd.more) c.in-Some.ensures.next (sym c.if-is_bare.ensures)
      c.in_ok-push_quoted_break.ensures (sym c.in-JoinedEnd.is ∙ c.in_ok-all.ensures.value)) ∙ c.loop-next.invariant.value);
}

pub returns : goal.returns
returns c = ap (λ n. Broken n OpenQuote) c.end_line.ensures ∙ (sym (over c.args.quote c.loop-next.text.items c.loop-next.joined c.loop-next.empty (end_line c.args.p.now.line c.args.p.now.here c.args.p.now.below) c.loop-next.last c.in_default.ensures.next) ∙ c.loop-next.invariant.value)
