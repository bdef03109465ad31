use Rattle.std.proofs.Common.{ap, ◌∙◌}
use Rattle.pr_words.specs.Names.{is_among}
use Rattle.pr_labels.specs.private.SeriesReader.{names_of}
use Rattle.pr_labels.proofs.SeriesReading.{label_named, listed_twice, no_sign, no_value, one_label, label_exit}
use Rattle.pr_labels.specs.declared.series.series.Part.TheVariants.{LabelFirst, LabelNext}
use Rattle.pr_labels.proofs.SeriesKnownNames.{begins_with}
use Rattle.pr_labels.proofs.series.series.label_in.Goals as goal

pub returns-then-has-clause-read : goal.returns-then-has-clause-read
returns-then-has-clause-read c =
    listed_twice (names_of c.args.before.now.pairs.items) _ c.in_ok-name.after_name.now _ c.has.result
    (label_named (names_of c.args.before.now.pairs.items) _ c.in-Some.after_first.now c.in_ok-name.after_name.now _ c.in-Some.first c.in-Some.ensures.read c.in_ok-name.ensures.read) (c.has.ensures ∙ ap (λ n. is_among n (names_of c.args.before.now.pairs.items)) c.as_str.ensures.value) c.if-has.true

pub returns-in_err-value-in-Ok-clause-read : goal.returns-in_err-value-in-Ok-clause-read
returns-in_err-value-in-Ok-clause-read c =
    label_exit _ (names_of c.args.before.now.pairs.items) _ c.in-Ok.after.now _ c.in_err-value-in-Ok.field-0.0 c.from_residual-in_err-value-in-Ok.ensures.1
    (λ end x. no_value (names_of c.args.before.now.pairs.items) _ c.in_ok-name.after_name.now _ c.has.result
    (label_named (names_of c.args.before.now.pairs.items) _ c.in-Some.after_first.now c.in_ok-name.after_name.now _ c.in-Some.first c.in-Some.ensures.read c.in_ok-name.ensures.read) (c.has.ensures ∙ ap (λ n. is_among n (names_of c.args.before.now.pairs.items)) c.as_str.ensures.value) c.if-has.false
    c.in-Ok.after.now end c.in-Ok.ensures.read x) c.in_err-value-in-Ok.ensures.read

pub returns-in-Ok-clause-read : goal.returns-in-Ok-clause-read
returns-in-Ok-clause-read c = rw c.new-name.ensures (one_label (names_of c.args.before.now.pairs.items) _ c.in_ok-name.after_name.now _ c.has.result
    (label_named (names_of c.args.before.now.pairs.items) _ c.in-Some.after_first.now c.in_ok-name.after_name.now _ c.in-Some.first c.in-Some.ensures.read c.in_ok-name.ensures.read)
    (c.has.ensures ∙ ap (λ n. is_among n (names_of c.args.before.now.pairs.items)) c.as_str.ensures.value) c.if-has.false
    c.in-Ok.after.now c.in_ok-value-in-Ok.rest.now c.in_ok-value-in-Ok.value c.in-Ok.ensures.read c.in_ok-value-in-Ok.ensures.read)

pub returns-clause-read : goal.returns-clause-read
returns-clause-read c =
    no_sign (names_of c.args.before.now.pairs.items) _ c.in_ok-name.after_name.now _ c.has.result
    (label_named (names_of c.args.before.now.pairs.items) _ c.in-Some.after_first.now c.in_ok-name.after_name.now _ c.in-Some.first c.in-Some.ensures.read c.in_ok-name.ensures.read) (c.has.ensures ∙ ap (λ n. is_among n (names_of c.args.before.now.pairs.items)) c.as_str.ensures.value) c.if-has.false
    c.in-Err.rest.now c.in-Err.ensures.read

pub returns-in-Ok-clause-name : goal.returns-in-Ok-clause-name
returns-in-Ok-clause-name c =
    rw c.new-name.ensures (begins_with LabelNext LabelFirst _ c.in-Some.after_first.now _ c.in_ok-name.after_name.now c.in-Some.first c.in-Some.ensures.read c.in_ok-name.ensures.read)
