use Rattle.std.proofs.Common.{◌≡◌, refl, rules, subst, sym}
use Rattle.sqlite.specs.Held.{state}
use Rattle.pr_keep_sql.specs.private.Tables.{IsFree, IsOther}
use Rattle.pr_keep_sql.specs.private.Refusals.{IsReadingRefused, IsTransactionRefused}
use Rattle.pr_keep_sql.specs.private.Texts.{makings}
use Rattle.pr_keep_sql.specs.declared.tables.Standing.TheVariants.{Free, Ours, Others}
use Rattle.pr_keep_sql.proofs.RanLemmas.{neither, on_ok, on_ok_more}
use Rattle.pr_keep_sql.proofs.RefusalLemmas.{refusal_left, refusal_right}
use Rattle.pr_keep_sql.proofs.kept.Kept.ready.Goals as goal

pub returns-in-Free-clause-same : goal.returns-in-Free-clause-same
returns-in-Free-clause-same g c = λ clean taken up.
    let same : c.schema.result.now ≡ (state g.S.Store c.args.self.now.conn).now.schema = first_of (cc, search rules) in
    absurd (taken (subst IsFree same (c.in-Free.ensures.frees c.in-Free.is_first refl)))

pub returns-in-Free-clause-refused : goal.returns-in-Free-clause-refused
returns-in-Free-clause-refused g c =
    rw (← c.self.view_is) (λ clean rose. refusal_left (λ e. IsTransactionRefused g.S.Store makings e c.self.inside.conn c.make.new.self.conn) (λ e. IsReadingRefused g.S.Store e c.self.inside.conn c.make.new.self.conn) (c.make.ensures.refused clean rose))

pub returns-in-Ours-clause-refused : goal.returns-in-Ours-clause-refused
returns-in-Ours-clause-refused g c =
    rw (← c.self.view_is) (λ clean rose. refusal_right (λ e. IsTransactionRefused g.S.Store makings e c.self.inside.conn c.read.new.self.conn) (λ e. IsReadingRefused g.S.Store e c.self.inside.conn c.read.new.self.conn) (c.read.ensures.refused clean rose))

pub returns-in-Free-clause-others : goal.returns-in-Free-clause-others
returns-in-Free-clause-others g c = λ other.
    let same : c.schema.result.now ≡ (state g.S.Store c.args.self.now.conn).now.schema = first_of (cc, search rules) in
    absurd (let never : Free c.in-Free.is_first ≡ Others = c.in-Free.ensures.others.1 (subst IsOther (sym same) other) in cc)

pub returns-in-Ours-clause-others : goal.returns-in-Ours-clause-others
returns-in-Ours-clause-others g c = λ other.
    let same : c.schema.result.now ≡ (state g.S.Store c.args.self.now.conn).now.schema = first_of (cc, search rules) in
    absurd (let never : Ours c.in-Ours.is_first ≡ Others = c.in-Ours.ensures.others.1 (subst IsOther (sym same) other) in cc)

pub returns-in-Free-clause-read_ran : goal.returns-in-Free-clause-read_ran
returns-in-Free-clause-read_ran g c = λ clean.
    let same : c.schema.result.now ≡ (state g.S.Store c.args.self.now.conn).now.schema = first_of (cc, search rules) in
    on_ok c.make.result (λ taken. absurd (taken (subst IsFree same (c.in-Free.ensures.frees c.in-Free.is_first refl))))

pub returns-in-Ours-clause-made_ran : goal.returns-in-Ours-clause-made_ran
returns-in-Ours-clause-made_ran g c = λ clean.
    let same : c.schema.result.now ≡ (state g.S.Store c.args.self.now.conn).now.schema = first_of (cc, search rules) in
    on_ok c.read.result (λ free. absurd (neither (λ e. absurd (cc)) (λ e. absurd (cc)) (c.in-Ours.ensures.free (subst IsFree (sym same) free))))

pub returns-in-Ours-clause-read_ran : goal.returns-in-Ours-clause-read_ran
returns-in-Ours-clause-read_ran g c = rw (← c.self.view_is) (λ clean. on_ok_more c.read.result (c.read.ensures.ran clean) (λ read taken. read))

pub returns-in-Ours-clause-odd_ran : goal.returns-in-Ours-clause-odd_ran
returns-in-Ours-clause-odd_ran g c = rw (← c.self.view_is) (λ clean ours rose. c.read.ensures.odd_ran clean rose)
