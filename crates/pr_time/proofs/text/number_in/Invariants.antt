use Rattle.std.proofs.Common.{◌≡◌, ℕ, List, ◌≤◌, ◌^◌, ◌+◌, length}
use Rattle.pr_forms.specs.Form.{Form}
use Rattle.pr_time.specs.declared.text.Letter.{Letter}
use Rattle.pr_time.specs.SpanText.{SpanValue, Rule}
use Rattle.pr_time.specs.private.SpanReader.{kept, Digits, Going}
use Rattle.pr_time.proofs.text.number_in.Given as goal

abbrev pub invariant-loop-digit : goal.invariant-loop-digit
invariant-loop-digit l = record {
  read : (f : Form Letter Rule SpanValue) (start : List ℕ) (n : ℕ) → l.first ≡ kept n → Digits f start n l.text → Going f start l.number l.rest;
  small : l.number ≤ 2 ^ 40 + 1;
  shorter : length l.rest ≤ length l.text;
}

abbrev pub decreases-loop-digit : goal.decreases-loop-digit
decreases-loop-digit l = length l.rest
