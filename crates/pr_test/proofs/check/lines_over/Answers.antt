use Rattle.std.proofs.Common.{ℕ, List, map, string_bytes, sym, subst, append-nil}
use Rattle.std.specs.List.{IsDistinct}
use Rattle.std.specs.Str.{bytes_eq}
use Rattle.pr_test.proofs.Apart.{rule_names_apart}
use Rattle.pr_checks.proofs.Behind.{memory_ends}
use Rattle.pr_test.proofs.Asked.{done_ends, stop_ends}
use Rattle.pr_test.proofs.check.lines_over.Goals as goal

pub lines_with-requires : goal.lines_with-requires
lines_with-requires g c =
    let apart = subst (λ (l : List _). IsDistinct bytes_eq (map string_bytes l)) (sym c.deref.ensures.value)
    (subst (λ (l : List (List ℕ)). IsDistinct bytes_eq l) (sym c.in_ok-names.ensures) (rule_names_apart c.args.name.now c.as_slice.result.now)) in
    let kept = c.in_ok-rules.ensures.kept in
    record { interval = c.requires; rules = kept.rules; apart = subst (λ (l : List (List ℕ)). IsDistinct bytes_eq l) (append-nil _) (kept.apart apart) }

pub returns-in_err-rules-clause-ends : goal.returns-in_err-rules-clause-ends
returns-in_err-rules-clause-ends g c =
    stop_ends _ _ (g.F.Files.means c.args.files.now) (g.F.Files.means c.load_rules.new.files) c.from_residual-in_err-rules.result c.in_err-rules.field-0.0
    c.from_residual-in_err-rules.ensures.1 c.in_err-rules.ensures.ends

pub returns-in_err-lines_with-clause-ends : goal.returns-in_err-lines_with-clause-ends
returns-in_err-lines_with-clause-ends g c =
    memory_ends _ _ (g.F.Files.means c.args.files.now) (g.F.Files.means c.load_rules.new.files) c.in_ok-rules.rules c.from_residual-in_err-lines_with.result
    c.from_residual-in_err-lines_with.ensures.1 c.in_ok-rules.ensures.ends

pub returns-clause-ends : goal.returns-clause-ends
returns-clause-ends g c =
    done_ends _ _ (g.F.Files.means c.args.files.now) (g.F.Files.means c.load_rules.new.files) c.in_ok-rules.rules c.in_ok-lines_with.field-0 c.in_ok-rules.ensures.ends
