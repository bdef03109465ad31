use Rattle.std.proofs.Common.{sym, ◌∙◌, ap, ◌++◌, ◌∷◌, [], List, ℕ, arith}
use Rattle.std.specs.Prelude.{string_bytes}
use Rattle.pr_tmpl.proofs.TextKept.{letter_kind}
use Rattle.pr_tmpl.proofs.WordWays.{no_name_end, no_name, name_starts}
use Rattle.pr_tmpl.proofs.words.name_in.Goals as goal

pub returns-in_default-clause-read : goal.returns-in_default-clause-read
returns-in_default-clause-read c = no_name_end c.args.text.now c.in_default.ensures.read

pub returns-then-not-is_name_start-clause-read : goal.returns-then-not-is_name_start-clause-read
returns-then-not-is_name_start-clause-read c = no_name c.args.text.now c.in-Some.after_first.now c.in-Some.kind c.in-Some.first c.in-Some.ensures.read (sym c.is_name_start.ensures ∙ c.if-not-is_name_start.true)

pub loop-byte-init : goal.loop-byte-init
loop-byte-init c = record {
  leads = name_starts c.args.text.now c.in-Some.after_first.now c.in-Some.kind c.in-Some.first (string_bytes c.push_byte.new.out) c.in-Some.ensures.read (sym c.is_name_start.ensures ∙ c.if-not-is_name_start.false)
      (c.in_ok-push_byte.ensures ∙ ap (λ (xs : List ℕ). xs ++ c.in-Some.first ∷ []) c.new-name.ensures.bytes);
  shorter = omega (arith, c.in-Some.ensures.shorter);
  text = letter_kind c.in-Some.kind c.args.text.now c.in-Some.after_first.now (sym c.is_name_start.ensures ∙ c.if-not-is_name_start.false) c.in-Some.ensures.text;
}
