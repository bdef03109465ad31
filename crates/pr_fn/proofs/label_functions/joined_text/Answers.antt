use Rattle.std.proofs.Common.{ℕ, List, ◌-◌, take, drop, length, ap, sym, ◌∙◌}
use Rattle.spec_vectors.specs.LabelFunctions.{joined_text}
use Rattle.pr_match.specs.pr_labels.LabelSet.{text_at}
use Rattle.pr_fn.specs.private.Separated.{with_rest}
use Rattle.pr_fn.proofs.Separating.{first_and_rest, rest_separated}
use Rattle.pr_fn.proofs.label_functions.joined_text.Goals as goal

pub returns-in_ok-push_rest-in-len1-up : goal.returns-in_ok-push_rest-in-len1-up
returns-in_ok-push_rest-in-len1-up c =
    let names = c.args.names.now in
    let labels = c.args.labels.now in
    let separator = c.args.separator.now in
    let first = c.first-item.result in
    let rest = take (length names - 1) (drop 1 names) in
    let text = c.in_ok-text-in-len1-up.ensures.ok ∙ c.text_at.ensures ∙ ap (text_at labels) c.as_str.ensures in
    c.in_ok-push_rest-in-len1-up.ensures
    ∙ ap (λ (t : List ℕ). with_rest separator labels t rest) text
    ∙ rest_separated separator labels first rest
    ∙ ap (λ (ns : List (List ℕ)). joined_text separator ns labels) (sym (first_and_rest names first c.in-len1-up.len_at_least c.first-item.is))
