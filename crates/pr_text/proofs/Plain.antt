-- The orders that lines spell are plain.
use Rattle.std.proofs.Common.{ℕ, Bool, true, false, cond, List, Option, Some, None, IfSome, codes}
use Rattle.std.specs.Option.{option_map}
use Rattle.std.specs.Str.{bytes_eq}
use Rattle.pr_words.specs.Fields.{without_trailing, first_field, after_field, last_field, before_last_field}
use Rattle.spec_world.specs.Loading.{FileToLoad}
use Rattle.spec_world.specs.pr_num.declared.value.Point.{Point}
use Rattle.spec_world.specs.pr_labels.declared.pair.Pair.{Pair}
use Rattle.spec_world.specs.spec_history.Points.{point_of}
use Rattle.spec_world.specs.declared.event.Event.{Event}
use Rattle.spec_world.specs.declared.event.Event.TheVariants as event
use Rattle.pr_text.specs.declared.script.order.Order.{Order}
use Rattle.pr_text.specs.Naming.{flush_in, flush_of, name_in, receiver_in, receiver_of}
use Rattle.pr_text.specs.Orders.{event_order, order_by, order_of, whole_order}
use Rattle.pr_text.specs.Reloads.{files_in, reload_in, reload_of, some_files}
use Rattle.pr_text.specs.Script.{add_in, add_of, alerts_in, eval_in, eval_of, fail_in, gone_in, group_event, occasion_of, query_in, query_of, restart_in, scrape_in, series_of, some_text, whole_event, written_time}
use Rattle.pr_text.specs.private.Plain.{HasNoFiles, IsPlain}

-- Events

abbrev NoFiles : Option Event → Type 0
NoFiles o = IfSome o HasNoFiles

no_files_cond : (b : Bool) (x y : Option Event) → NoFiles x → NoFiles y → NoFiles (cond b x y)
no_files_cond true x y p q = p
no_files_cond false x y p q = q

no_files_mapped : {A : Type 0} (o : Option A) (f : A → Event) → ((a : A) → HasNoFiles (f a)) → NoFiles (option_map f o)
no_files_mapped None f h = tt
no_files_mapped (Some a) f h = h a

add_has_none : (time : Option ℕ) (labels : Option (List Pair)) (point : Option Point) → NoFiles (add_of time labels point)
add_has_none None labels point = tt
add_has_none (Some time) None point = tt
add_has_none (Some time) (Some labels) None = tt
add_has_none (Some time) (Some labels) (Some point) = tt

query_has_none : (time : Option ℕ) (text : Option (List ℕ)) → NoFiles (query_of time text)
query_has_none None text = tt
query_has_none (Some time) None = tt
query_has_none (Some time) (Some text) = tt

eval_has_none : (time : Option ℕ) (file group : Option (List ℕ)) → NoFiles (eval_of time file group)
eval_has_none None file group = tt
eval_has_none (Some time) None group = tt
eval_has_none (Some time) (Some file) None = tt
eval_has_none (Some time) (Some file) (Some group) = tt

group_has_none : (word text : List ℕ) → NoFiles (group_event word text)
group_has_none word text =
    no_files_cond (bytes_eq word (codes "eval")) (eval_in text) (cond (bytes_eq word (codes "restart")) (restart_in text) (cond (bytes_eq word (codes "alerts")) (alerts_in text) None))
    (eval_has_none (written_time (first_field text)) (some_text (first_field (after_field text))) (some_text (after_field (after_field text))))
    (no_files_cond (bytes_eq word (codes "restart")) (restart_in text) (cond (bytes_eq word (codes "alerts")) (alerts_in text) None)
    (no_files_mapped (written_time text) (λ time. event.Restart time) (λ time. tt))
    (no_files_cond (bytes_eq word (codes "alerts")) (alerts_in text) None (no_files_mapped (written_time text) (λ time. event.Alerts time) (λ time. tt)) tt))

target_has_none : (word text : List ℕ) → NoFiles (cond (bytes_eq word (codes "fail")) (fail_in text) (cond (bytes_eq word (codes "gone")) (gone_in text) (group_event word text)))
target_has_none word text =
    no_files_cond (bytes_eq word (codes "fail")) (fail_in text) (cond (bytes_eq word (codes "gone")) (gone_in text) (group_event word text))
    (no_files_mapped (occasion_of text) (λ a. event.Fail a.time a.target) (λ a. tt))
    (no_files_cond (bytes_eq word (codes "gone")) (gone_in text) (group_event word text) (no_files_mapped (occasion_of text) (λ a. event.Gone a.time a.target) (λ a. tt)) (group_has_none word text))

event_has_none : (word text : List ℕ) → NoFiles (whole_event word text)
event_has_none word text =
    no_files_cond (bytes_eq word (codes "add")) (add_in text)
    (cond (bytes_eq word (codes "query")) (query_in text) (cond (bytes_eq word (codes "fail")) (fail_in text) (cond (bytes_eq word (codes "gone")) (gone_in text) (group_event word text))))
    (add_has_none (written_time (first_field text)) (series_of (before_last_field (after_field text))) (point_of (last_field (after_field text))))
    (no_files_cond (bytes_eq word (codes "query")) (query_in text) (cond (bytes_eq word (codes "fail")) (fail_in text) (cond (bytes_eq word (codes "gone")) (gone_in text) (group_event word text)))
    (query_has_none (written_time (first_field text)) (some_text (after_field text))) (target_has_none word text))

-- Orders

plain_cond : (b : Bool) (x y : Order) → IsPlain x → IsPlain y → IsPlain (cond b x y)
plain_cond true x y p q = p
plain_cond false x y p q = q

plain_event : (o : Option Event) → NoFiles o → IsPlain (event_order o)
plain_event None h = tt
plain_event (Some e) h = h

plain_reload : (time : Option ℕ) (files : Option (List FileToLoad)) → IsPlain (reload_of time files)
plain_reload None files = tt
plain_reload (Some time) None = tt
plain_reload (Some time) (Some files) = tt

plain_receiver : (name : Option (List ℕ)) → IsPlain (receiver_of name)
plain_receiver None = tt
plain_receiver (Some name) = tt

plain_flush : (name : Option (List ℕ)) → IsPlain (flush_of name)
plain_flush None = tt
plain_flush (Some name) = tt

plain_whole : (word text : List ℕ) → IsPlain (whole_order word text)
plain_whole word text =
    plain_cond (bytes_eq word (codes "reload")) (reload_in text)
    (cond (bytes_eq word (codes "receiver")) (receiver_in text) (cond (bytes_eq word (codes "flush")) (flush_in text) (event_order (whole_event word text))))
    (plain_reload (written_time (first_field text)) (some_files (files_in (after_field text))))
    (plain_cond (bytes_eq word (codes "receiver")) (receiver_in text) (cond (bytes_eq word (codes "flush")) (flush_in text) (event_order (whole_event word text)))
    (plain_receiver (name_in text))
    (plain_cond (bytes_eq word (codes "flush")) (flush_in text) (event_order (whole_event word text)) (plain_flush (name_in text))
    (plain_event (whole_event word text) (event_has_none word text))))

plain_by : (word text body : List ℕ) → IsPlain (order_by word text body)
plain_by word text body =
    plain_cond (bytes_eq word (codes "scrape")) (event_order (scrape_in body text)) (whole_order word text)
    (plain_event (scrape_in body text) (no_files_mapped (occasion_of text) (λ a. event.Scrape a.time a.target body) (λ a. tt))) (plain_whole word text)

pub plain_order : (line body : List ℕ) → IsPlain (order_of line body)
plain_order line body = plain_by (first_field (without_trailing line)) (after_field (without_trailing line)) body
