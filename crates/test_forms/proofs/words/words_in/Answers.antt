use Rattle.std.proofs.Common.{refl, [], ap, ◌∙◌, ◌∷◌, ◌++◌, arith}
use Rattle.pr_forms.specs.Form.{rule}
use Rattle.pr_forms.specs.Run.{run_rule, run_base, run_pair, run_second, run_nothing}
use Rattle.pr_forms.specs.Language.{seen}
use Rattle.pr_forms.proofs.Ways.{exit}
use Rattle.pr_forms.proofs.Carrying.{carry_on, carry_rule, carry_base, turns_value, turns_go_on, turn_fails, turns_end}
use Rattle.pr_forms.proofs.Public.{left_short}
use Rattle.test_forms.specs.private.Glyphs.{glyph_of}
use Rattle.test_forms.specs.private.Words.{lists, production, table, words, Words, Word}
use Rattle.test_forms.specs.private.TextReader.{bytes_of}
use Rattle.test_forms.proofs.WordsTable.{known}
use Rattle.test_forms.proofs.TextWays.{bytes_of-push}
use Rattle.test_forms.proofs.words.words_in.Goals as goal

pub returns-in_err-first : goal.returns-in_err-first
returns-in_err-first c = exit (seen lists) production table _ (rule Word) (rule Words) (seen lists c.args.text.now) _ _ c.in_err-first.field-0.0 c.from_residual.ensures.1
    (λ r h. run_rule (run_base (run_second run_nothing h))) c.in_err-first.ensures

pub loop-after-init : goal.loop-after-init
loop-after-init c = turns_value (words (c.in_ok-first.first.bytes.items ∷ [])) (words (bytes_of c.push.new.self.items))
    (ap (λ xs. words (bytes_of xs)) (c.in_ok-push.ensures.items ∙ ap (λ xs. xs ++ c.in_ok-first.first ∷ []) c.new-list.ensures.items))
    (carry_on carry_rule (carry_base (run_pair run_nothing c.in_ok-first.ensures)))

pub returns-in_err-next : goal.returns-in_err-next
returns-in_err-next c = exit (seen lists) production table _ (rule Word) (rule Words) (seen lists c.in-Some.after.now) _ _ c.in_err-next.field-0.0 c.from_residual-in_err-next.ensures.1
    (λ r h. turn_fails c.loop-after.invariant c.in-Some.ensures.read h) c.in_err-next.ensures

pub loop-after-smaller : goal.loop-after-smaller
loop-after-smaller c = omega (arith, c.in-Some.ensures.shorter, left_short glyph_of production table known Word c.in-Some.after.now c.in_ok-next.left.now _ c.in_ok-next.ensures refl)

pub loop-after-preserved : goal.loop-after-preserved
loop-after-preserved c = turns_value (words (bytes_of c.loop-after.list.items ++ c.in_ok-next.next.bytes.items ∷ [])) (words (bytes_of c.push-in-Some.new.self.items))
    (ap (λ xs. words (bytes_of xs)) c.in_ok-push-2.ensures.items ∙ ap words (bytes_of-push c.loop-after.list.items c.in_ok-next.next))
    (turns_go_on c.loop-after.invariant c.in-Some.ensures.read c.in_ok-next.ensures)

pub returns : goal.returns
returns c = turns_end c.loop-after.invariant c.in_default.ensures.read
