use Rattle.std.proofs.Common.{[]}
use Rattle.pr_forms.specs.Form.{rule, turns}
use Rattle.pr_forms.specs.Run.{run_rule, run_pair, run_first, run_second}
use Rattle.pr_forms.specs.Language.{seen}
use Rattle.pr_forms.proofs.Ways.{exit, take_pair, take_pair_bad, no_pair}
use Rattle.test_forms.specs.private.Quoted.{strings, production, table, content, joined, piece, Text}
use Rattle.test_forms.proofs.string.string_in.Goals as goal

pub returns-in_default : goal.returns-in_default
returns-in_default c = run_rule (no_pair c.in_default.ensures.read)

pub returns-in_err-bytes : goal.returns-in_err-bytes
returns-in_err-bytes c =
    exit (seen strings) production table _ (turns joined (content []) piece) (rule Text) (seen strings c.in-Some.body.now) _ _ c.in_err-bytes.field-0.0 c.from_residual.ensures.1
    (λ r h. run_rule (take_pair_bad c.in-Some.ensures.read (run_rule (run_first h)))) c.in_err-bytes.ensures

pub returns-in-Some-after_quote : goal.returns-in-Some-after_quote
returns-in-Some-after_quote c = run_rule (take_pair c.in-Some.ensures.read (run_rule (run_pair c.in_ok-bytes.ensures c.in-Some-after_quote.ensures.read.gives)))

pub returns-in-None : goal.returns-in-None
returns-in-None c = run_rule (take_pair_bad c.in-Some.ensures.read (run_rule (run_second c.in_ok-bytes.ensures c.in-None.ensures.read.gives)))
