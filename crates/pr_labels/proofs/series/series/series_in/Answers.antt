use Rattle.std.proofs.Common.{ap, ◌∙◌, ◌++◌, [], ◌∷◌}
use Rattle.pr_words.specs.pr_forms.Form.{rule}
use Rattle.pr_labels.specs.SeriesGrammar.{Series}
use Rattle.pr_labels.proofs.SeriesReading.{only_braces, then_braces, alone, metric_read}
use Rattle.pr_labels.proofs.series.series.series_in.Goals as goal

pub returns-in_default : goal.returns-in_default
returns-in_default c = c.braces_in.ensures (rule Series) _ (only_braces _ c.empty-found.result.pairs.items c.empty-found.ensures c.in_default.ensures.read)

pub returns-then-starts_list : goal.returns-then-starts_list
returns-then-starts_list c =
    let metric = metric_read _ c.in-Some.after_first.now c.in_ok-name.after_name.now _ c.in-Some.first c.in_ok-metric_pair.field-0 c.in_ok-metric_pair.ensures c.in-Some.ensures.read c.in_ok-name.ensures.read in
    c.braces_in-then-starts_list.ensures (rule Series) _
    (then_braces _ c.in_ok-name.after_name.now c.blanks_in.result.now c.in_ok-metric_pair.field-0 c.add.new.self.pairs.items c.starts_list.result _ c.in_ok-metric_pair.ensures metric c.starts_list.ensures c.if-starts_list.true
    c.blanks_in.ensures.read (c.in_ok-add.ensures ∙ ap (λ x. x ++ c.in_ok-metric_pair.field-0 ∷ []) c.empty-found.ensures))

pub returns : goal.returns
returns c =
    let metric = metric_read _ c.in-Some.after_first.now c.in_ok-name.after_name.now _ c.in-Some.first c.in_ok-metric_pair.field-0 c.in_ok-metric_pair.ensures c.in-Some.ensures.read c.in_ok-name.ensures.read in
    alone _ c.in_ok-name.after_name.now c.in_ok-metric_pair.field-0 c.add.new.self.pairs.items c.starts_list.result metric c.starts_list.ensures c.if-starts_list.false
    (c.in_ok-add.ensures ∙ ap (λ x. x ++ c.in_ok-metric_pair.field-0 ∷ []) c.empty-found.ensures)
