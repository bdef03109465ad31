use Rattle.pr_keep_sql.proofs.FoundLemmas.{not_free, ours_are_there}
use Rattle.pr_keep_sql.proofs.tables.standing_of.Goals as goal

pub returns-then-is_free-clause-first : goal.returns-then-is_free-clause-first
returns-then-is_free-clause-first c = (λ e. absurd cc, λ is. absurd (not_free c.args.schema.now is (c.is_free.ensures.0 c.if-is_free.true)))

pub returns-then-has_ours_first-clause-others : goal.returns-then-has_ours_first-clause-others
returns-then-has_ours_first-clause-others c = (λ e. absurd cc, λ other. absurd (other.1 (ours_are_there c.args.schema.now (c.has_ours_first.ensures.0 c.if-has_ours_first.true))))
