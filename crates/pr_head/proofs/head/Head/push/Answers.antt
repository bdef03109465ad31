use Rattle.std.proofs.Common.{◌≡◌, ◌≤◌, Some, ap, sym, subst, ◌∙◌, Result, OnErr}
use Rattle.std.specs.List.{slice_get}
use Rattle.indexmap.specs.IndexMap.{set_value_at}
use Rattle.std.specs.declared.result.Result.TheVariants.{Ok, Err}
use Rattle.pr_head.specs.private.Stored.{after_push}
use Rattle.pr_head.specs.private.Index.{IsIndexed}
use Rattle.pr_head.specs.private.Oldest.{AreSince, IsSince}
use Rattle.pr_head.proofs.Oldest.{since_pushed, since_written}
use Rattle.pr_head.proofs.Simulation.{sets_written, value_at, value_same, written_same}
use Rattle.pr_head.proofs.head.Head.push.Goals as goal

on_err : {T E : Type 0} (r : Result T E) (P : Type 0) → P → OnErr r P
on_err (Ok x) P p = tt
on_err (Err e) P p = p

pub push-requires : goal.push-requires
push-requires c =
    let found = value_at c.self.inside.series.entries c.args.series c.index_mut.result.now c.index_mut.ensures.value in
    c.requires.later (found.0, c.index_mut.result.now) (subst (λ h. slice_get h c.args.series ≡ Some (found.0, c.index_mut.result.now)) c.self.view_is found.1)

pub returns-in_err-push-clause-err : goal.returns-in_err-push-clause-err
returns-in_err-push-clause-err c =
    let found = value_at c.self.inside.series.entries c.args.series c.index_mut.result.now c.index_mut.ensures.value in
    on_err c.from_residual.result _ (ap (set_value_at c.self.inside.series.entries c.args.series) c.in_err-push.ensures.err
    ∙ written_same c.self.inside.series.entries c.args.series (found.0, c.index_mut.result.now) found.1 ∙ c.self.view_is)

pub returns-clause-ok : goal.returns-clause-ok
returns-clause-ok c = λ e at.
    let there = subst (λ h. slice_get h c.args.series ≡ Some e) (sym c.self.view_is) at in
    ap (set_value_at c.self.inside.series.entries c.args.series) (c.in_ok-push.ensures.ok
    ∙ ap (λ s. after_push s c.args.sample.now) (sym (value_same c.self.inside.series.entries c.args.series c.index_mut.result.now e c.index_mut.ensures.value there)))
    ∙ ap (λ h. set_value_at h c.args.series (after_push e.1 c.args.sample.now)) c.self.view_is

-- no labels have changed, and no sample is older
pub invariant_of-self : goal.invariant_of-self
invariant_of-self c =
    let found = value_at c.self.inside.series.entries c.args.series c.index_mut.result.now c.index_mut.ensures.value in
    let same : set_value_at c.self.inside.series.entries c.args.series c.push.new.self ≡ c.self.inside.series.entries =
    ap (set_value_at c.self.inside.series.entries c.args.series) c.in_err-push.ensures.err ∙ written_same c.self.inside.series.entries c.args.series (found.0, c.index_mut.result.now) found.1 in (
      subst (IsIndexed c.self.inside.index.all c.self.inside.index.by_label) (sym (sets_written c.self.inside.series.entries c.args.series c.push.new.self)) c.self.invariant.0,
      subst (AreSince c.self.inside.oldest) (sym same) c.self.invariant.1,
    )

pub invariant_of-self-2 : goal.invariant_of-self-2
invariant_of-self-2 c = (
  subst (IsIndexed c.self.inside.index.all c.self.inside.index.by_label) (sym (sets_written c.self.inside.series.entries c.args.series c.push.new.self)) c.self.invariant.0,
  since_written c.earlier-self-inside.result c.self.inside.oldest c.self.inside.series.entries c.args.series c.push.new.self c.earlier-self-inside.ensures.first
      (subst (IsSince c.earlier-self-inside.result) (sym c.in_ok-push.ensures.ok)
      (since_pushed c.earlier-self-inside.result c.self.inside.oldest c.self.inside.series.entries c.args.series c.index_mut.result.now c.args.sample.now c.earlier-self-inside.ensures.first (subst (λ n. c.earlier-self-inside.result ≤ n) c.get.ensures.value c.earlier-self-inside.ensures.second)
      c.index_mut.ensures.value c.self.invariant.1))
      c.self.invariant.1,
)
