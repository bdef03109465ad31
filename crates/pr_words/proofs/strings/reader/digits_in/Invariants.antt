use Rattle.std.proofs.Common.{◌≡◌, ◌≤◌, true, length}
use Rattle.pr_forms.specs.Form.{rule}
use Rattle.pr_words.specs.Strings.{fits, Digits}
use Rattle.pr_forms.specs.Language.{Leads}
use Rattle.pr_words.specs.private.Language.{text_strings}
use Rattle.pr_words.specs.private.Reader.{KeepsText}
use Rattle.pr_words.proofs.strings.reader.digits_in.Given as goal

abbrev pub invariant-loop-left : goal.invariant-loop-left
invariant-loop-left l = record {
  leads : Leads text_strings (rule (Digits l.limit l.digits 0)) l.text (rule (Digits l.limit l.left l.number)) l.rest;
  able : fits l.limit l.left l.number ≡ true;
  few : l.left ≤ l.digits;
  text : KeepsText l.text l.rest;
  shorter : length l.rest ≤ length l.text;
}

abbrev pub decreases-loop-left : goal.decreases-loop-left
decreases-loop-left l = l.left
