use Rattle.std.proofs.Common.{◌≡◌, ◌++◌, [], not, arith, List, ap, subst, ◌∙◌}
use Rattle.std.specs.Prelude.{filter, is_some}
use Rattle.pr_group.specs.private.Keeping.{KeptGroup}
use Rattle.pr_manager.specs.declared.naming.GroupName.{GroupName}
use Rattle.pr_manager.specs.private.Naming.{first_of, is_among, kept_under, name_of, names_of, value_of}
use Rattle.pr_manager.proofs.Loaded.{empty}
use Rattle.pr_manager.proofs.Parts.{gone_end, gone_then, waits_end, waits_then}
use Rattle.pr_manager.proofs.parting.part.Goals as goal

pub loop-old-preserved : goal.loop-old-preserved
loop-old-preserved g c =
    let news = names_of c.args.news.now in
    let at = c.loop-old in
    let rest = c.in-Some.ensures.steps.0 in
    record {
      waiting = λ q among.
          waits_then at.parted.waiting c.part_one.new.parted.waiting c.in_ok-name.name q c.in-Some.old c.next.new.self.rest.items (kept_under q c.args.olds.items) c.in_ok-name.ensures
          (c.in_ok-part_one.ensures.waiting q (c.in_ok-names.ensures q ∙ among))
          (subst (λ (l : List (KeptGroup g.row.R.Denot)). first_of (value_of at.parted.waiting q) (kept_under q l) ≡ kept_under q c.args.olds.items) rest (at.invariant.waiting q among));
      gone = gone_then (λ (k : KeptGroup g.row.R.Denot). is_among (name_of k) news) at.parted.gone.items c.part_one.new.parted.gone.items (is_some (value_of c.in_ok-names.names c.in_ok-name.name)) c.in-Some.old
          c.next.new.self.rest.items (filter (λ (k : KeptGroup g.row.R.Denot). not (is_among (name_of k) news)) c.args.olds.items)
          (c.in_ok-names.ensures c.in_ok-name.name ∙ ap (λ (n : GroupName). is_among n news) c.in_ok-name.ensures) c.in_ok-part_one.ensures.gone
          (subst (λ (l : List (KeptGroup g.row.R.Denot)). at.parted.gone.items ++ filter (λ (k : KeptGroup g.row.R.Denot). not (is_among (name_of k) news)) l
          ≡ filter (λ (k : KeptGroup g.row.R.Denot). not (is_among (name_of k) news)) c.args.olds.items) rest at.invariant.gone);
    }

pub returns-clause-waiting : goal.returns-clause-waiting
returns-clause-waiting g c = λ q among.
    let none : c.loop-old.old-iterator.rest.items ≡ [] =
    empty c.loop-old.old-iterator.rest.items (let fit = c.loop-old.old-iterator.rest.ok.0 in let few = c.in-None.ensures.steps.0 in omega (arith, fit, few)) in
    waits_end c.loop-old.parted.waiting q c.loop-old.old-iterator.rest.items (kept_under q c.args.olds.items) none (c.loop-old.invariant.waiting q among)

pub returns-clause-gone : goal.returns-clause-gone
returns-clause-gone g c =
    let none : c.loop-old.old-iterator.rest.items ≡ [] =
    empty c.loop-old.old-iterator.rest.items (let fit = c.loop-old.old-iterator.rest.ok.0 in let few = c.in-None.ensures.steps.0 in omega (arith, fit, few)) in
    gone_end (λ (k : KeptGroup g.row.R.Denot). not (is_among (name_of k) (names_of c.args.news.now))) c.loop-old.parted.gone.items c.loop-old.old-iterator.rest.items
    (filter (λ (k : KeptGroup g.row.R.Denot). not (is_among (name_of k) (names_of c.args.news.now))) c.args.olds.items) none c.loop-old.invariant.gone
