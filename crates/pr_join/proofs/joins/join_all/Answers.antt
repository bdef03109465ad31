use Rattle.std.proofs.Common.{◌≡◌, suc, ◌+◌, ◌<◌, ap, sym, ◌∙◌, List, [], ◌∷◌, ◌++◌, take, drop, length, arith, refl}
use Rattle.std.proofs.lemmas.List.{take_more, take-append-drop}
use Rattle.std.proofs.Math.Seq.{drop-cons}
use Rattle.spec_vectors.specs.pr_num.declared.value.Num.{Num}
use Rattle.spec_vectors.specs.pr_labels.declared.item.Item.{Item}
use Rattle.spec_vectors.specs.Matching.{fault_of_outcomes, kept_pairs, outcomes_of}
use Rattle.pr_join.proofs.Pairing.{fault_at, taken_more}
use Rattle.pr_join.proofs.joins.join_all.Goals as goal

pub loop-many-preserved : goal.loop-many-preserved
loop-many-preserved g c = record {
  room = c.in_default.ensures.room;
  taken = λ f a.
      let how = c.args.how.now in
      let manys = c.args.manys.now in
      let ones = c.args.ones.now in
      let i = c.loop-many.many-index in
      let m = c.many-item.result in
      let within : i < length manys = omega arith in
      let front = c.loop-many.invariant.taken f a in
      let more : take (i + 1) manys ≡ take i manys ++ m ∷ [] = take_more manys i m within ∙ ap (λ (x : Item Num). take i manys ++ x ∷ []) (sym c.many-item.is) in
      rw more (taken_more how c.args.keep_name f ones (take i manys) m c.join_one.new.rows front.faultless (c.in_default.ensures.taken f (kept_pairs (outcomes_of how c.args.keep_name f (take i manys) ones)) a front.holds));
}

pub loop-many-init : goal.loop-many-init
loop-many-init g c = record {
  room = c.in_ok-rows.ensures.room;
  taken = λ f a. record { faultless = refl; holds = c.in_ok-rows.ensures.kept c.args.how.now };
}

pub returns-in-Err : goal.returns-in-Err
returns-in-Err g c = λ f a lacks.
    let how = c.args.how.now in
    let manys = c.args.manys.now in
    let ones = c.args.ones.now in
    let i = c.loop-many.many-index in
    let m = c.many-item.result in
    let within : i < length manys = omega arith in
    let front = c.loop-many.invariant.taken f a in
    let whole : take i manys ++ m ∷ drop (suc i) manys ≡ manys = ap (λ (r : List (Item Num)). take i manys ++ r) (ap (λ (x : Item Num). x ∷ drop (suc i) manys) c.many-item.is ∙ sym (drop-cons manys i m within)) ∙ take-append-drop i manys in
    ap (λ (ms : List (Item Num)). fault_of_outcomes how.card [] (outcomes_of how c.args.keep_name f ms ones)) (sym whole)
    ∙ fault_at how c.args.keep_name f ones (take i manys) m (drop (suc i) manys) c.in-Err.fault lacks front.faultless (c.in-Err.ensures.taken f (kept_pairs (outcomes_of how c.args.keep_name f (take i manys) ones)) a front.holds lacks)
