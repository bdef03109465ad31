use Rattle.std.proofs.Common.{◌∙◌, ap, ◌++◌, List, ℕ}
use Rattle.std.specs.Prelude.{string_bytes}
use Rattle.pr_tmpl.proofs.FormatWays.{verb_reached}
use Rattle.pr_tmpl.proofs.quoted.before_in.Goals as goal

pub returns-in_default-clause-read : goal.returns-in_default-clause-read
returns-in_default-clause-read c = verb_reached c.args.text.now c.loop-before.rest.now c.in_ok-means.next.now (string_bytes c.loop-before.before) c.in_ok-means.means c.new.result c.in_ok-means.wanted c.loop-before.invariant.reaches c.in_ok-means.ensures.read c.in_default.not-Percent (c.new.ensures ∙ (c.in_ok-push_str.ensures.bytes ∙ ap (λ (xs : List ℕ). string_bytes c.loop-before.before ++ xs) c.as_str.ensures))
