use Rattle.std.proofs.Common.{arith}
use Rattle.pr_forms.specs.Form.{rule}
use Rattle.pr_forms.proofs.Ways.{exit}
use Rattle.pr_parse.specs.Seen.{seen}
use Rattle.pr_parse.specs.Grammar.{production, Matchers, MoreMatchers, sign_and_text}
use Rattle.pr_parse.specs.GrammarTable.{table}
use Rattle.pr_parse.proofs.GrammarReading.{matchers_stop, matcher_bad, matcher_step, matcher_comma, no_matcher, no_more}
use Rattle.pr_parse.proofs.grammar.lists.matchers_in.Goals as goal

pub returns-in_err-matcher-clause-read : goal.returns-in_err-matcher-clause-read
returns-in_err-matcher-clause-read c =
    exit seen production table _ sign_and_text (rule (Matchers c.args.named)) (seen c.in-Some.following.now) _ _ c.in_err-matcher.field-0.0 c.from_residual.ensures.1
    (λ r h. matcher_bad (rule (Matchers c.args.named)) c.args.named _ _ _ c.in-Some.following.now c.in-Some._place c.in-Some.label.now r c.loop-place.invariant.list c.in-Some.ensures.read h) c.in_err-matcher.ensures.read

pub returns-in_default-after-clause-read : goal.returns-in_default-after-clause-read
returns-in_default-after-clause-read c =
    matchers_stop (rule (Matchers c.args.named)) (rule (MoreMatchers c.args.named)) _ _ c.in_ok-matcher.after_matcher.now
    (matcher_step (rule (Matchers c.args.named)) c.args.named _ c.loop-place.found.items c.push.new.self.items _ c.in-Some.following.now c.in_ok-matcher.after_matcher.now c.in-Some._place c.in-Some.label.now c.in_ok-matcher.matcher c.loop-place.invariant.list c.in-Some.ensures.read c.in_ok-matcher.ensures.read.0 c.in_ok-matcher.ensures.read.1 c.in_ok-push.ensures.items)
    (no_more c.args.named _ c.in_default-after.ensures.read)

pub loop-place-preserved : goal.loop-place-preserved
loop-place-preserved c = record {
  list = matcher_comma (rule (Matchers c.args.named)) c.args.named _ _ c.in_ok-matcher.after_matcher.now c.in-Some-after.after_comma.now c.in-Some-after._comma
      (matcher_step (rule (Matchers c.args.named)) c.args.named _ c.loop-place.found.items c.push.new.self.items _ c.in-Some.following.now c.in_ok-matcher.after_matcher.now c.in-Some._place c.in-Some.label.now c.in_ok-matcher.matcher c.loop-place.invariant.list c.in-Some.ensures.read c.in_ok-matcher.ensures.read.0 c.in_ok-matcher.ensures.read.1 c.in_ok-push.ensures.items)
      c.in-Some-after.ensures.read;
  shorter = omega (arith, c.in-Some-after.ensures.shorter, c.in_ok-matcher.ensures.shorter, c.in-Some.ensures.shorter, c.loop-place.invariant.shorter);
}

pub returns-clause-read : goal.returns-clause-read
returns-clause-read c = matchers_stop (rule (Matchers c.args.named)) (rule (Matchers c.args.named)) _ _ c.loop-place.rest.now c.loop-place.invariant.list (no_matcher c.args.named _ c.in_default.ensures.read)
