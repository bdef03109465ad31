use Rattle.std.proofs.Common.{◌++◌, ap, sym, ◌∙◌}
use Rattle.pr_checks.specs.RulesLoaded.{and_rules, none_loaded, rules_held}
use Rattle.pr_checks.specs.declared.found.FoundContent.{FoundContent}
use Rattle.pr_checks.specs.private.RulesFound.{holding_of}
use Rattle.pr_checks.specs.private.RulesTaken.{rules_of}
use Rattle.pr_checks.proofs.RulesKept.{on_ok, wrong_kept}
use Rattle.pr_checks.proofs.RulesTaken.{wrong_taken}
use Rattle.pr_checks.proofs.loaded.take_found.Goals as goal

pub returns-in-Missing-clause-taken : goal.returns-in-Missing-clause-taken
returns-in-Missing-clause-taken c =
    let before = rules_of c.args.rules.now in
    on_ok _ _ _ _ c.take_unread.result
    (λ e. wrong_taken c.args.rules.now c.take_unread.new.rules _ e ∙ (λ i. and_rules before (none_loaded (c.as_str.ensures i ++ c.missing.ensures i)))
    ∙ ap (λ (x : FoundContent). and_rules before (rules_held c.args.found.name (holding_of x))) (sym c.in-Missing.is))
    c.take_unread.ensures

pub returns-in-Missing-clause-kept : goal.returns-in-Missing-clause-kept
returns-in-Missing-clause-kept c = on_ok _ _ _ _ c.take_unread.result (wrong_kept c.args.rules.now c.take_unread.new.rules _ c.args.found.name) c.take_unread.ensures

pub returns-in-TooLarge-clause-taken : goal.returns-in-TooLarge-clause-taken
returns-in-TooLarge-clause-taken c =
    let before = rules_of c.args.rules.now in
    on_ok _ _ _ _ c.take_unread-in-TooLarge.result
    (λ e. wrong_taken c.args.rules.now c.take_unread-in-TooLarge.new.rules _ e ∙ (λ i. and_rules before (none_loaded (c.as_str-in-TooLarge.ensures i ++ c.too_large.ensures i)))
    ∙ ap (λ (x : FoundContent). and_rules before (rules_held c.args.found.name (holding_of x))) (sym c.in-TooLarge.is))
    c.take_unread-in-TooLarge.ensures

pub returns-in-TooLarge-clause-kept : goal.returns-in-TooLarge-clause-kept
returns-in-TooLarge-clause-kept c = on_ok _ _ _ _ c.take_unread-in-TooLarge.result (wrong_kept c.args.rules.now c.take_unread-in-TooLarge.new.rules _ c.args.found.name) c.take_unread-in-TooLarge.ensures
