use Rattle.std.proofs.Common.{[], ◌∷◌, ◌++◌, ap, ◌∙◌, arith}
use Rattle.pr_forms.specs.Form.{rule}
use Rattle.pr_parse.specs.Grammar.{Labels, MoreLabels}
use Rattle.pr_parse.proofs.GrammarReading.{names_stop, names_step, names_comma, no_label, no_comma}
use Rattle.pr_parse.proofs.grammar.lists.names_in.Goals as goal

pub returns-in_default-after-clause-read : goal.returns-in_default-after-clause-read
returns-in_default-after-clause-read c =
    names_stop (rule Labels) (rule MoreLabels) _ _ c.in-Some.following.now
    (names_step (rule Labels) _ c.loop-place.found.items c.push.new.self.items _ c.in-Some.following.now c.in-Some._place c.in-Some.text.now c.loop-place.invariant.list c.in-Some.ensures.read
    (c.in_ok-push.ensures.items ∙ ap (λ n. c.loop-place.found.items ++ n ∷ []) c.in_ok-from_str.ensures))
    (no_comma _ c.in_default-after.ensures.read)

pub loop-place-preserved : goal.loop-place-preserved
loop-place-preserved c = record {
  list = names_comma (rule Labels) _ _ c.in-Some.following.now c.in-Some-after.after_comma.now c.in-Some-after._comma
      (names_step (rule Labels) _ c.loop-place.found.items c.push.new.self.items _ c.in-Some.following.now c.in-Some._place c.in-Some.text.now c.loop-place.invariant.list c.in-Some.ensures.read
      (c.in_ok-push.ensures.items ∙ ap (λ n. c.loop-place.found.items ++ n ∷ []) c.in_ok-from_str.ensures))
      c.in-Some-after.ensures.read;
  shorter = omega (arith, c.in-Some-after.ensures.shorter, c.in-Some.ensures.shorter, c.loop-place.invariant.shorter);
}

pub returns-clause-read : goal.returns-clause-read
returns-clause-read c = names_stop (rule Labels) (rule Labels) _ _ c.loop-place.rest.now c.loop-place.invariant.list (no_label _ c.in_default.ensures.read)
