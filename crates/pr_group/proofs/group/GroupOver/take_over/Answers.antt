use Rattle.std.proofs.Common.{◌≡◌, ◌++◌, flat_map, refl, ap, ◌∙◌}
use Rattle.pr_rule.specs.spec_rules.declared.definitions.GroupDef.{GroupDef}
use Rattle.pr_rule.specs.spec_vectors.Vectors.{in_label_order}
use Rattle.pr_rule.specs.spec_rules.private.Laws.{numbers_taken}
use Rattle.pr_group.specs.private.Carrying.{previous_in}
use Rattle.pr_group.specs.private.Matching.{continues_def, spared}
use Rattle.pr_group.proofs.Going.{are_below, are_many, are_once, gone_as, moved}
use Rattle.pr_group.proofs.group.GroupOver.take_over.Goals as goal

pub carry_rules-requires-clause-once : goal.carry_rules-requires-clause-once
carry_rules-requires-clause-once g c = are_once c.in_ok-from.from.items c.deref-4.result.now c.as_slice-rules.result.now c.as_slice.result.now c.deref-4.ensures.value c.in_ok-from.ensures.answer

pub carry_rules-requires-clause-below : goal.carry_rules-requires-clause-below
carry_rules-requires-clause-below g c =
    let was : c.as_slice.result.now ≡ c.old.inside.def.value.rules = c.as_slice.ensures ∙ ap (λ (d : GroupDef). d.rules) c.deref-2.ensures in
    let older : c.as_slice-older.result.now ≡ c.old.inside.def.value.rules = c.as_slice-older.ensures ∙ ap (λ (d : GroupDef). d.rules) c.deref-3.ensures in
    are_below c.in_ok-from.from.items c.deref-4.result.now c.as_slice-rules.result.now c.as_slice.result.now c.as_slice-older.result.now c.old.inside.def.value.rules c.deref-4.ensures.value c.in_ok-from.ensures.answer was older

pub carry_rules-requires-clause-each : goal.carry_rules-requires-clause-each
carry_rules-requires-clause-each g c = are_many c.in_ok-from.from.items c.deref-4.result.now c.as_slice-rules.result.now c.as_slice.result.now c.deref-4.ensures.value c.in_ok-from.ensures.answer

pub returns : goal.returns
returns g c =
    let R = g.R.Ranges in
    let from = c.in_ok-from.from.items in
    let olds = c.old.inside.rules.items in
    let rules : c.as_slice-rules.result.now ≡ c.self.inside.def.value.rules = c.as_slice-rules.ensures ∙ ap (λ (d : GroupDef). d.rules) c.deref.ensures in
    let was : c.as_slice.result.now ≡ c.old.inside.def.value.rules = c.as_slice.ensures ∙ ap (λ (d : GroupDef). d.rules) c.deref-2.ensures in
    let older : c.as_slice-older.result.now ≡ c.old.inside.def.value.rules = c.as_slice-older.ensures ∙ ap (λ (d : GroupDef). d.rules) c.deref-3.ensures in
    moved R.fits R.last R.passed _ c.args.self.now _ c.args.old _ c.self.view_is c.old.view_is (record {
      from = from;
      numbers = c.in_ok-from.ensures.answer ∙ (λ i. numbers_taken continues_def (rules i) (was i));
      rules = gone_as R.fits R.last R.passed c.as_slice-rules.result.now c.self.inside.def.value.rules c.as_slice-older.result.now c.old.inside.def.value.rules olds c.deref-4.result.now from c.self.inside.rules.items c.carry_rules.new.own.items rules older c.deref-4.ensures.value
          (c.in_ok-carry_rules.ensures.gone_on olds c.in_ok-olds.ensures);
      size = c.carry_rules.ensures.size;
      new_size = c.self.invariant.1.0;
      old_size = c.old.invariant.1.0;
      left = c.in_ok-self-inside.ensures ∙ (λ i. in_label_order (c.as_slice-2.ensures i ++ flat_map previous_in ((c.deref-5.ensures.value ∙ c.in_ok-carry_rules.ensures.spared olds c.in_ok-olds.ensures ∙ ap (λ l. spared l olds) c.deref-4.ensures.value) i)));
      last_is = refl;
      waits_are = refl;
      def = refl;
      file = refl;
      step = refl;
      external = refl;
    })
