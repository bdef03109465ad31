use Rattle.std.proofs.Common.{[], ap, ◌∙◌, ◌∷◌, ◌++◌}
use Rattle.pr_forms.specs.Form.{rule}
use Rattle.pr_forms.specs.Language.{FailsAt}
use Rattle.pr_forms.proofs.Carrying.{exit_with}
use Rattle.test_forms.specs.private.Words.{lists, Word}
use Rattle.test_forms.proofs.TextWays.{word_starts, word_goes_on, word_ends, word_quoted, word_bad}
use Rattle.test_forms.proofs.words.word_in.Goals as goal

pub returns-in_err-bytes : goal.returns-in_err-bytes
returns-in_err-bytes c = exit_with _ (FailsAt lists (rule Word) c.args.text.now) _ c.in_err-bytes.field-0.0 c.from_residual.ensures.1
    (word_bad c.args.text.now c.in_err-bytes.field-0.0 (c.in_default.ensures.read []) c.in_err-bytes.ensures)

pub returns-in_default : goal.returns-in_default
returns-in_default c = word_quoted _ c.in_ok-bytes.rest.now c.in_ok-bytes.bytes.items (c.in_default.ensures.read []) c.in_ok-bytes.ensures

pub loop-byte-init : goal.loop-byte-init
loop-byte-init c = word_starts _ c.in-Some.rest.now c.in-Some.first c.push.new.self.items (c.in-Some.ensures.read []) (c.in_ok-push.ensures.items ∙ ap (λ xs. xs ++ c.in-Some.first ∷ []) c.new-bytes.ensures.items)

pub loop-byte-preserved : goal.loop-byte-preserved
loop-byte-preserved c = word_goes_on _ _ c.in-Some-letter_in.after.now c.in-Some-letter_in.byte c.loop-byte.bytes.items c.push-in-Some-letter_in.new.self.items c.loop-byte.invariant
    (c.in-Some-letter_in.ensures.read c.loop-byte.bytes.items) c.in_ok-push-2.ensures.items

pub returns : goal.returns
returns c = word_ends _ _ c.loop-byte.bytes.items c.loop-byte.invariant (c.in_default-letter_in.ensures.read c.loop-byte.bytes.items)
