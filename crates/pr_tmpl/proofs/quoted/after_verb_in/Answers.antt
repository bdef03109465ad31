use Rattle.std.proofs.Common.{◌∙◌, ap, ◌++◌, List, ℕ}
use Rattle.std.specs.Prelude.{string_bytes}
use Rattle.pr_tmpl.proofs.FormatWays.{text_reached}
use Rattle.pr_tmpl.proofs.quoted.after_verb_in.Goals as goal

pub returns-then-not-goes_on-clause-read : goal.returns-then-not-goes_on-clause-read
returns-then-not-goes_on-clause-read c = text_reached c.args.text.now c.loop-words.rest.now c.in_ok-means.next.now (string_bytes c.loop-words.words) c.in_ok-means.means c.new.result c.in_ok-means.goes_on c.loop-words.invariant.reaches c.in_ok-means.ensures.read c.if-not-goes_on.true (c.new.ensures ∙ (c.in_ok-push_str.ensures.bytes ∙ ap (λ (xs : List ℕ). string_bytes c.loop-words.words ++ xs) c.as_str.ensures))
