use Rattle.std.proofs.Common.{◌∙◌, arith, ◌+◌, refl}
use Rattle.pr_yaml.proofs.QuotedLines.{past_byte, past_character, past_mark, line_over, quote_over, bad_byte, at_end}
use Rattle.pr_yaml.proofs.yaml_scan.quoted.quoted_line.Goals as goal
use Rattle.pr_yaml.proofs.yaml_scan.quoted.quoted_line.Goals.{in-Byte+in_ok-push-in-Byte, in-Character+in_ok-push_character-in-Character, in-Mark}

pub returns-in-LineOver-clause-value : goal.returns-in-LineOver-clause-value
returns-in-LineOver-clause-value c = rw c.new.ensures (line_over c.args.quote c.loop-at.within c.loop-at.text.items c.args.line.now c.loop-at.at (c.args.from + c.loop-at.at) (c.args.from + c.loop-at.at + 1) c.loop-at-test.true refl c.byte_step.result
    c.blanks_from-over.result.0 c.byte_step.ensures.value c.blanks_from-over.ensures.over c.in-LineOver.is ∙ c.loop-at.invariant.value)

pub returns-in-QuoteOver-clause-value : goal.returns-in-QuoteOver-clause-value
returns-in-QuoteOver-clause-value c = rw c.new-in-QuoteOver.ensures (quote_over c.args.quote c.loop-at.within c.loop-at.text.items c.args.line.now c.loop-at.at (c.args.from + c.loop-at.at) (c.args.from + c.loop-at.at + 1) c.loop-at-test.true refl
    c.byte_step.result c.blanks_from-over.result.0 c.byte_step.ensures.value c.blanks_from-over.ensures.over c.in-QuoteOver.is ∙ c.loop-at.invariant.value)

pub returns-in-Bad-clause-value : goal.returns-in-Bad-clause-value
returns-in-Bad-clause-value c = bad_byte c.args.quote c.loop-at.within c.loop-at.text.items c.args.line.now c.loop-at.at (c.args.from + c.loop-at.at) (c.args.from + c.loop-at.at + 1) c.loop-at-test.true refl
    c.byte_step.result c.blanks_from-over.result.0 c.byte_step.ensures.value c.blanks_from-over.ensures.over c.in-Bad.kind c.in-Bad.is ∙ c.loop-at.invariant.value

pub loop-at-preserved : goal.loop-at-preserved
loop-at-preserved c = elim c.match-byte_step.branch [
  | in-Byte+in_ok-push-in-Byte w ↦ record {
    within_line = omega arith;
    solid = c.blanks_from-over.ensures.solid;
    small = rw w.within-is tt;
    value = rw (w.text-is, w.within-is) (past_byte c.args.quote c.loop-at.within c.loop-at.text.items c.args.line.now c.loop-at.at (c.args.from + c.loop-at.at) (c.args.from + (c.loop-at.at + 1)) c.loop-at-test.true
        (omega arith) c.byte_step.result c.blanks_from-over.result.0 c.byte_step.ensures.value c.blanks_from-over.ensures.over w.in-Byte.byte w.push.new.self.items w.in-Byte.is w.in_ok-push-in-Byte.ensures.items ∙ c.loop-at.invariant.value);
  }
  | in-Character+in_ok-push_character-in-Character w ↦ record {
    within_line = omega arith;
    solid = c.blanks_from-over.ensures.solid;
    small = rw w.within-is tt;
    value = rw (w.text-is, w.within-is) (past_character c.args.quote c.loop-at.within c.loop-at.text.items c.args.line.now c.loop-at.at (c.args.from + c.loop-at.at) (c.args.from + (c.loop-at.at + 1)) c.loop-at-test.true
        (omega arith) c.byte_step.result c.blanks_from-over.result.0 c.byte_step.ensures.value c.blanks_from-over.ensures.over w.in-Character.character w.push_character.new.text.items w.in-Character.is w.in_ok-push_character-in-Character.ensures
        ∙ c.loop-at.invariant.value);
  }
  | in-Mark w ↦ record {
    within_line = omega arith;
    solid = c.blanks_from-over.ensures.solid;
    small = rw w.within-is w.in-Mark.ensures.small;
    value = rw (w.text-is, w.within-is) (past_mark c.args.quote c.loop-at.within c.loop-at.text.items c.args.line.now c.loop-at.at (c.args.from + c.loop-at.at) (c.args.from + (c.loop-at.at + 1)) c.loop-at-test.true
        (omega arith) c.byte_step.result c.blanks_from-over.result.0 c.byte_step.ensures.value c.blanks_from-over.ensures.over _ w.in-Mark.is ∙ c.loop-at.invariant.value);
  }
]

pub returns-clause-value : goal.returns-clause-value
returns-clause-value c = c.at_line_end.ensures.value ∙ rw c.new-2.ensures (at_end c.args.quote c.loop-at.within c.loop-at.text.items c.args.line.now c.loop-at.at (c.args.from + c.loop-at.at) (omega arith) ∙ c.loop-at.invariant.value)
