use Rattle.std.proofs.Common.{◌<◌, length, get_or, Some, None, refl, sym, ap, ◌∙◌}
use Rattle.std.proofs.lemmas.List.{length-map, length-set}
use Rattle.std.proofs.lemmas.Option.{slice_get-get_or, slice_get_read}
use Rattle.pr_group.proofs.Stepping.{gone_next, none_gone, still_many, within_all}
use Rattle.pr_group.proofs.carried.carry_rules.Goals as goal

pub loop-index-init : goal.loop-index-init
loop-index-init g c = record {
  size = refl;
  sizes = refl;
  gone = λ befores e. none_gone g.R.Ranges.fits g.R.Ranges.last g.R.Ranges.passed c.args.rules.now c.args.older.now c.args.own.now.items befores c.args.from.now c.args.olds.now.items e;
}

pub carry_named-requires-clause-code : goal.carry_named-requires-clause-code
carry_named-requires-clause-code g c = λ n e. c.requires.below c.loop-index.index n (slice_get-get_or c.args.from.now c.loop-index.index None c.loop-index-test.true ∙ ap Some e)

pub carry_named-requires-clause-there : goal.carry_named-requires-clause-there
carry_named-requires-clause-there g c = λ n e.
    within_all n (length c.args.older.now) (length c.args.olds.now.items) (length c.loop-index.olds.items) (c.requires.below c.loop-index.index n (slice_get-get_or c.args.from.now c.loop-index.index None c.loop-index-test.true ∙ ap Some e)) c.requires.olds c.loop-index.invariant.sizes

pub loop-index-preserved : goal.loop-index-preserved
loop-index-preserved g c =
    let R = g.R.Ranges in
    let i = c.loop-index.index in
    let rules = c.args.rules.now in
    let own = c.loop-index.own.items in
    let choice = get_or c.args.from.now i None in
    let definition = c.index-rules-index.result in
    let before = c.index_mut.result.now in
    let low : i < length rules = within_all i (length c.args.from.now) (length rules) (length rules) c.loop-index-test.true (sym c.requires.each) refl in
    let there : i < length own = within_all i (length rules) (length c.args.own.now.items) (length own) low c.requires.own c.loop-index.invariant.size in
    record {
      size = length-set own i c.carry_named.new.own ∙ c.loop-index.invariant.size;
      sizes = ap length c.carry_named.ensures.left ∙ still_many choice c.loop-index.olds.items ∙ c.loop-index.invariant.sizes;
      gone = λ befores e.
          gone_next R.fits R.last R.passed rules c.args.older.now c.args.own.now.items befores c.args.from.now i own _ c.loop-index.olds.items c.carry_named.new.olds.items definition before c.carry_named.new.own choice (c.loop-index.invariant.gone befores e)
          c.requires.once c.requires.below (sym (length-map befores Some) ∙ sym (ap length e) ∙ c.requires.olds) there (slice_get_read rules (length rules) i definition refl low c.index-rules-index.is) (slice_get-get_or c.args.from.now i None c.loop-index-test.true)
          (slice_get_read own (length own) i before refl there c.index_mut.ensures.value) c.in_ok-carry_named.ensures.goes_on refl c.carry_named.ensures.left;
    }
