-- What is written of alerts is the same as long as what decides it is.
use Rattle.std.proofs.Common.{◌≡◌, ℕ, ◌+◌, ◌<◌, true, List, [], ◌∷◌, ◌++◌, fold, length, map, get_or, take, refl, sym, ap, ◌∙◌}
use Rattle.std.proofs.lemmas.List.{map-append, take_more}
use Rattle.pr_ast.specs.pr_num.declared.value.Num.{Num}
use Rattle.pr_labels.specs.declared.item.Item.{Item}
use Rattle.pr_labels.specs.Order.{labels_eq}
use Rattle.pr_labels.proofs.LabelOrder.{labels_decide}
use Rattle.spec_rules.specs.spec_alerts.declared.record.Record.{Record}
use Rattle.spec_rules.specs.spec_alerts.Records.{with_samples}
use Rattle.pr_rule.specs.declared.alert.written.AlertKey.{AlertKey}
use Rattle.pr_rule.specs.private.AlertsWritten.{alert_key}

-- an alert with such a key, of which nothing else is known
abbrev alert_with : Record → AlertKey → Record
alert_with r k = record r { labels = k.labels; state = k.state; active = k.active }

one_the_same : (items : List (Item Num)) (r other : Record) → alert_key r ≡ alert_key other → with_samples items r ≡ with_samples items other
one_the_same items r other h = ap (λ (k : AlertKey). with_samples items (alert_with r k)) h

pub all_the_same : (items : List (Item Num)) (rs others : List Record) → map alert_key rs ≡ map alert_key others → fold with_samples items rs ≡ fold with_samples items others
all_the_same items [] [] h = refl
all_the_same items [] (other ∷ others) h = cc
all_the_same items (r ∷ rs) [] h = cc
all_the_same items (r ∷ rs) (other ∷ others) h =
    let first : alert_key r ≡ alert_key other = cc in
    let rest : map alert_key rs ≡ map alert_key others = cc in
    ap (λ (is : List (Item Num)). fold with_samples is rs) (one_the_same items r other first) ∙ all_the_same (with_samples items other) rs others rest

-- a key with the parts of an alert is its key
pub same_key : (k : AlertKey) (r : Record) → k.state ≡ r.state → k.active ≡ r.active → labels_eq k.labels r.labels ≡ true → alert_key r ≡ k
same_key k r state active labels = λ i. record { labels = sym ((labels_decide k.labels r.labels).0 labels) i; state = sym state i; active = sym active i }

-- one more alert with its key
pub one_more_key : (list : List Record) (keys : List AlertKey) (place : ℕ) (r : Record) (k : AlertKey) → place < length list → place < length keys → r ≡ get_or list place r → k ≡ get_or keys place k
    → alert_key r ≡ k → map alert_key (take place list) ≡ take place keys → map alert_key (take (place + 1) list) ≡ take (place + 1) keys
one_more_key list keys place r k in_list in_keys at_r at_k is h =
    let next : alert_key (get_or list place r) ≡ get_or keys place k = ap alert_key (sym at_r) ∙ is ∙ at_k in
    ap (map alert_key) (take_more list place r in_list) ∙ map-append alert_key (take place list) (get_or list place r ∷ []) ∙ (λ i. h i ++ next i ∷ []) ∙ sym (take_more keys place k in_keys)
