use Rattle.std.proofs.Common.{◌<◌, [], length, map, ap, sym, subst, ◌∙◌, unwrap_or, IfOk, Result}
use Rattle.std.specs.List.{All}
use Rattle.std.specs.Map.{values_of}
use Rattle.std.specs.Option.{option_copied}
use Rattle.std.specs.declared.result.Result.TheVariants.{Ok, Err}
use Rattle.pr_head.specs.private.Holds.{labels_at}
use Rattle.pr_head.specs.private.Index.{IsEnough, Numbered}
use Rattle.pr_head.proofs.Indexing.{alone}
use Rattle.pr_head.proofs.Selecting.{picked_known, select_chosen}
use Rattle.pr_head.proofs.index.Index.select.Goals as goal

if_ok : {T E : Type 0} {P Q : T → Type 0} (r : Result T E) → ((v : T) → P v → Q v) → IfOk r P → IfOk r Q
if_ok (Ok v) f p = f v p
if_ok (Err e) f p = tt

pub returns-in-Some-clause-known : goal.returns-in-Some-clause-known
returns-in-Some-clause-known c = λ sets indexed.
    let equal = c.args.equal.now in
    let es = unwrap_or (option_copied c.listing.result) [] in
    let listed = alone equal c.in-Some.label.now c.args.self.now.all c.args.self.now.by_label sets es c.in-Some.ensures.only c.in-Some.ensures.value (ap (λ o. unwrap_or o []) c.listing.ensures) indexed in
    if_ok c.all_of.result (λ v is. subst (All (λ i. i < length sets)) (sym (is ∙ ap (λ (l : Numbered). values_of l) (sym listed.1))) (picked_known equal sets es listed.0.numbers)) c.all_of.ensures

pub returns-in-Some-clause-sets : goal.returns-in-Some-clause-sets
returns-in-Some-clause-sets c = λ sets indexed.
    let equal = c.args.equal.now in
    let es = unwrap_or (option_copied c.listing.result) [] in
    let listed = alone equal c.in-Some.label.now c.args.self.now.all c.args.self.now.by_label sets es c.in-Some.ensures.only c.in-Some.ensures.value (ap (λ o. unwrap_or o []) c.listing.ensures) indexed in
    if_ok c.all_of.result (λ v is. ap (map (labels_at sets)) (is ∙ ap (λ (l : Numbered). values_of l) (sym listed.1)) ∙ select_chosen equal sets es listed.0) c.all_of.ensures

pub returns-in-None-clause-known : goal.returns-in-None-clause-known
returns-in-None-clause-known c = λ sets indexed.
    let equal = c.args.equal.now in
    let es = unwrap_or (option_copied c.fewest.result) [] in
    let asked : IsEnough equal sets es = c.fewest.ensures sets indexed in
    if_ok c.chosen_among.result (λ v is. subst (All (λ i. i < length sets)) (sym is) (picked_known equal sets es asked.numbers)) c.chosen_among.ensures

pub returns-in-None-clause-sets : goal.returns-in-None-clause-sets
returns-in-None-clause-sets c = λ sets indexed.
    let equal = c.args.equal.now in
    let es = unwrap_or (option_copied c.fewest.result) [] in
    let asked : IsEnough equal sets es = c.fewest.ensures sets indexed in
    if_ok c.chosen_among.result (λ v is. ap (map (labels_at sets)) is ∙ select_chosen equal sets es asked) c.chosen_among.ensures
