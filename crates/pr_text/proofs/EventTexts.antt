-- A line that spells an event is a text.
use Rattle.std.proofs.Common.{◌≡◌, ℕ, ◌^◌, Bool, true, false, cond, List, [], ◌∷◌, ◌++◌, ◌+◌, ◌<◌, Some, None, codes, subst, sym, refl, arith, nat_lt, eqb-true, take, drop, get_or, zero, suc}
use Rattle.std.specs.Prelude.{decimal, Option, Result, Ok, Err, is_some, ◌&&◌, ◌||◌, ◌==◌, length}
use Rattle.std.specs.List.{list_all, position}
use Rattle.std.proofs.lemmas.List.Quantifiers.{position-Some}
use Rattle.std.specs.Option.{option_map}
use Rattle.std.specs.Str.{IsUtf8, bytes_eq, is_utf8}
use Rattle.std.proofs.lemmas.Bool.Decides.{nat_tests}
use Rattle.std.proofs.lemmas.Fmt.{IsAscii-decimal}
use Rattle.std.proofs.lemmas.Slice.Eq.{bytes_eq-Decides}
use Rattle.std.proofs.lemmas.Str.{IsUtf8-append, IsUtf8-from_ascii, IsUtf8-from_is_utf8, IsUtf8-nil}
use Rattle.std.proofs.lemmas.Str.Ascii.{IsAscii-nil, IsAscii-cons}
use Rattle.spec_world.specs.pr_num.declared.text.NumFault.{NumFault}
use Rattle.spec_world.specs.pr_num.declared.value.Num.{Num}
use Rattle.spec_world.specs.pr_num.declared.value.Point.{Point}
use Rattle.spec_world.specs.pr_num.Reads.{reads}
use Rattle.spec_world.proofs.NumFormsOnly.{only_number_texts}
use Rattle.spec_world.specs.pr_labels.declared.pair.Pair.{Pair}
use Rattle.pr_words.specs.Fields.{without_trailing, first_field, after_field, last_field, before_last_field}
use Rattle.pr_words.proofs.Decimals.{printed_of_read}
use Rattle.spec_world.specs.pr_labels.SeriesReading.{series_labels}
use Rattle.spec_world.specs.spec_history.Points.{point_read, point_of}
use Rattle.pr_text.specs.Script.{is_comment_line, is_passed_over, written_time, series_of, some_text, add_of, query_of, add_in, query_in, target_by, target_of, occasion_by, occasion_of, scrape_in, eval_of, eval_in, restart_in, alerts_in, fail_in, gone_in, group_event, whole_event, takes_body, is_body_line}
use Rattle.pr_text.specs.declared.script.script.Occasion.{Occasion}
use Rattle.pr_text.proofs.Blocks.{both_left, both_right}
use Rattle.pr_text.proofs.FieldTexts.{trailing_text, first_text, last_text}
use Rattle.pr_text.proofs.NamedFiles.{split_at_place}
use Rattle.pr_text.proofs.NumberTexts.{number_ascii}
use Rattle.pr_words.proofs.PlainTexts.{plain_text}
use Rattle.spec_world.specs.declared.event.Event.{Event}
use Rattle.spec_world.specs.declared.event.Event.TheVariants.{Scrape, Fail, Gone, Restart, Alerts}
use Rattle.spec_world.specs.Loading.{FileToLoad}
use Rattle.pr_text.specs.Orders.{event_order, whole_order, order_by, order_of}
use Rattle.pr_text.specs.Reloads.{is_equals_sign, file_by, file_at, file_of, files_in, files_within, with_file, some_files, reload_of, reload_in}
use Rattle.pr_text.specs.Naming.{name_in, receiver_of, receiver_in, flush_of, flush_in}
use Rattle.pr_text.specs.declared.script.order.Order.{Order}
use Rattle.pr_text.specs.declared.script.order.Order.TheVariants as order

-- Fields

word_text : (text word : List ℕ) → list_all (λ b. nat_lt b 128) word ≡ true → bytes_eq text word ≡ true → IsUtf8 text
word_text text word plain h =
    subst IsUtf8 (sym ((bytes_eq-Decides text word).0 h)) (IsUtf8-from_is_utf8 word (plain_text word plain))

time_text : (text : List ℕ) (n : ℕ) → written_time text ≡ Some n → IsUtf8 text
time_text text n h =
    let p = printed_of_read (2 ^ 42) n text (omega arith) h in
    subst IsUtf8 (sym p.1) (IsUtf8-from_ascii (decimal n) (IsAscii-decimal n (omega (arith, p.0))))

number_text : (text : List ℕ) (r : Result Num NumFault) (p : Point) → r ≡ reads text → point_read r ≡ Some p → IsUtf8 text
number_text text (Ok v) p is h = IsUtf8-from_ascii text (number_ascii text (only_number_texts text (λ no. absurd (cc))))
number_text text (Err e) p is h = absurd (cc)

point_by : (text : List ℕ) (word : Bool) (p q : Point) → bytes_eq text (codes "stale") ≡ word → cond word (Some q) (point_read (reads text)) ≡ Some p → IsUtf8 text
point_by text true p q is h = word_text text (codes "stale") refl is
point_by text false p q is h = number_text text (reads text) p refl h

point_text : (text : List ℕ) (p : Point) → point_of text ≡ Some p → IsUtf8 text
point_text text p h = point_by text (bytes_eq text (codes "stale")) p _ refl h

given : {X : Type 0} (text : List ℕ) (test : Bool) (o : Option X) (x : X) → is_utf8 text ≡ test → cond test o None ≡ Some x → IsUtf8 text
given text true o x is h = IsUtf8-from_is_utf8 text is
given text false o x is h = absurd (cc)

series_text : (text : List ℕ) (labels : List Pair) → series_of text ≡ Some labels → IsUtf8 text
series_text text labels h = given text (is_utf8 text) (series_labels text) labels refl h

some_is_text : (text e : List ℕ) → some_text text ≡ Some e → IsUtf8 text
some_is_text [] e h = absurd (cc)
some_is_text (b ∷ bytes) e h = given (b ∷ bytes) (is_utf8 (b ∷ bytes)) (Some (b ∷ bytes)) e refl h

no_bytes : (bytes : List ℕ) → (length bytes == 0) ≡ true → IsUtf8 bytes
no_bytes [] h = IsUtf8-nil
no_bytes (b ∷ bytes) h = absurd (grind (arith, nat_tests))

-- Events

add_by : (text : List ℕ) (time : Option ℕ) (labels : Option (List Pair)) (point : Option Point) (e : Event)
    → written_time (first_field text) ≡ time → series_of (before_last_field (after_field text)) ≡ labels → point_of (last_field (after_field text)) ≡ point
    → add_of time labels point ≡ Some e → IsUtf8 text
add_by text None labels point e t s p h = absurd (cc)
add_by text (Some time) None point e t s p h = absurd (cc)
add_by text (Some time) (Some labels) None e t s p h = absurd (cc)
add_by text (Some time) (Some labels) (Some point) e t s p h =
    first_text text (time_text (first_field text) time t)
    (last_text (after_field text) (series_text (before_last_field (after_field text)) labels s) (point_text (last_field (after_field text)) point p))

query_by : (text : List ℕ) (time : Option ℕ) (expression : Option (List ℕ)) (e : Event)
    → written_time (first_field text) ≡ time → some_text (after_field text) ≡ expression → query_of time expression ≡ Some e → IsUtf8 text
query_by text None expression e t x h = absurd (cc)
query_by text (Some time) None e t x h = absurd (cc)
query_by text (Some time) (Some expression) e t x h =
    first_text text (time_text (first_field text) time t) (some_is_text (after_field text) expression x)

target_text : (text : List ℕ) (labels : Option (List Pair)) (target : List Pair) → series_of text ≡ labels → target_by labels ≡ Some target → IsUtf8 text
target_text text None target s h = absurd (cc)
target_text text (Some labels) target s h = series_text text labels s

occasion_by_text : (text : List ℕ) (time : Option ℕ) (target : Option (List Pair)) (o : Occasion)
    → written_time (first_field text) ≡ time → target_of (after_field text) ≡ target → occasion_by time target ≡ Some o → IsUtf8 text
occasion_by_text text None target o t s h = absurd (cc)
occasion_by_text text (Some time) None o t s h = absurd (cc)
occasion_by_text text (Some time) (Some target) o t s h =
    first_text text (time_text (first_field text) time t) (target_text (after_field text) (series_of (after_field text)) target refl s)

pub occasion_text : (text : List ℕ) (o : Occasion) → occasion_of text ≡ Some o → IsUtf8 text
occasion_text text o h = occasion_by_text text (written_time (first_field text)) (target_of (after_field text)) o refl refl h

mapped : (text : List ℕ) (f : Occasion → Event) (o : Option Occasion) (e : Event) → occasion_of text ≡ o → option_map f o ≡ Some e → IsUtf8 text
mapped text f None e is h = absurd (cc)
mapped text f (Some o) e is h = occasion_text text o is

eval_by : (text : List ℕ) (time : Option ℕ) (file group : Option (List ℕ)) (e : Event)
    → written_time (first_field text) ≡ time → some_text (first_field (after_field text)) ≡ file → some_text (after_field (after_field text)) ≡ group
    → eval_of time file group ≡ Some e → IsUtf8 text
eval_by text None file group e t f g h = absurd (cc)
eval_by text (Some time) None group e t f g h = absurd (cc)
eval_by text (Some time) (Some file) None e t f g h = absurd (cc)
eval_by text (Some time) (Some file) (Some group) e t f g h =
    first_text text (time_text (first_field text) time t)
    (first_text (after_field text) (some_is_text (first_field (after_field text)) file f) (some_is_text (after_field (after_field text)) group g))

timed : (text : List ℕ) (f : ℕ → Event) (o : Option ℕ) (e : Event) → written_time text ≡ o → option_map f o ≡ Some e → IsUtf8 text
timed text f None e is h = absurd (cc)
timed text f (Some n) e is h = time_text text n is

-- Reloads

file_by_text : (left right : List ℕ) (name file : Option (List ℕ)) (f : FileToLoad) → some_text left ≡ name → some_text right ≡ file
    → file_by name file ≡ Some f → IsUtf8 left × IsUtf8 right
file_by_text left right None file f n m h = absurd (cc)
file_by_text left right (Some name) None f n m h = absurd (cc)
file_by_text left right (Some name) (Some file) f n m h = (some_is_text left name n, some_is_text right file m)

-- a text in two parts, and a sign between them
signed_text : (field : List ℕ) (at : ℕ) → at < length field → get_or field at 0 < 128 → IsUtf8 (take at field) → IsUtf8 (drop (at + 1) field) → IsUtf8 field
signed_text field at lt small u v =
    let parts : take at field ++ (get_or field at 0 ∷ drop (at + 1) field) ≡ field = split_at_place at field lt in
    let sign : IsUtf8 (get_or field at 0 ∷ []) = IsUtf8-from_ascii (get_or field at 0 ∷ []) (IsAscii-cons (get_or field at 0) [] small IsAscii-nil) in
    subst IsUtf8 parts (IsUtf8-append (take at field) (get_or field at 0 ∷ drop (at + 1) field) u (IsUtf8-append (get_or field at 0 ∷ []) (drop (at + 1) field) sign v))

file_at_text : (field : List ℕ) (place : Option ℕ) (f : FileToLoad) → position is_equals_sign field ≡ place → file_at place field ≡ Some f → IsUtf8 field
file_at_text field None f is h = (file_by_text field field (some_text field) (some_text field) f refl refl h).0
file_at_text field (Some at) f is h =
    let there = position-Some is_equals_sign field at 0 is in
    let sign : get_or field at 0 ≡ 61 = eqb-true (get_or field at 0) 61 there.1 in
    let both = file_by_text (take at field) (drop (at + 1) field) (some_text (take at field)) (some_text (drop (at + 1) field)) f refl refl h in
    signed_text field at there.0 (omega (arith, sign)) both.0 both.1

file_text : (field : List ℕ) (f : FileToLoad) → file_of field ≡ Some f → IsUtf8 field
file_text field f h = file_at_text field (position is_equals_sign field) f refl h

first_file_text : (first : Option FileToLoad) (more : Option (List FileToLoad)) (files : List FileToLoad) (A : Type 0)
    → ((f : FileToLoad) (fs : List FileToLoad) → first ≡ Some f → more ≡ Some fs → A) → with_file first more ≡ Some files → A
first_file_text None more files A k h = absurd (cc)
first_file_text (Some f) None files A k h = absurd (cc)
first_file_text (Some f) (Some fs) files A k h = k f fs refl refl

files_text : (text : List ℕ) (most : ℕ) (files : List FileToLoad) → files_within text most ≡ Some files → IsUtf8 text
files_text [] most files h = IsUtf8-nil
files_text (b ∷ text) zero files h = absurd (cc)
files_text (b ∷ text) (suc most) files h =
    first_file_text (file_of (first_field (b ∷ text))) (files_within (after_field (b ∷ text)) most) files (IsUtf8 (b ∷ text))
    (λ f fs is more. first_text (b ∷ text) (file_text (first_field (b ∷ text)) f is) (files_text (after_field (b ∷ text)) most fs more)) h

abbrev IsGood : Order → Type 0
IsGood (order.Event e) = Unit {0}
IsGood (order.Reload time files) = Unit {0}
IsGood (order.Receiver name) = Unit {0}
IsGood (order.Flush name) = Unit {0}
IsGood order.Bad = ⊥

reload_by : (text : List ℕ) (time : Option ℕ) (files : Option (List FileToLoad))
    → written_time (first_field text) ≡ time → files_in (after_field text) ≡ files → IsGood (reload_of time (some_files files)) → IsUtf8 text
unfolding files_in
reload_by text None files t f h = absurd h
reload_by text (Some time) None t f h = absurd h
reload_by text (Some time) (Some files) t f h =
    first_text text (time_text (first_field text) time t) (files_text (after_field text) (length (after_field text)) files f)

-- Receivers

name_by : (text : List ℕ) (alone : Bool) (name : List ℕ) → (length (after_field text) == 0) ≡ alone → cond alone (some_text (first_field text)) None ≡ Some name → IsUtf8 text
name_by text true name is h = first_text text (some_is_text (first_field text) name h) (no_bytes (after_field text) is)
name_by text false name is h = absurd (cc)

name_text : (text name : List ℕ) → name_in text ≡ Some name → IsUtf8 text
name_text text name h = name_by text (length (after_field text) == 0) name refl h

receiver_by : (text : List ℕ) (name : Option (List ℕ)) → name_in text ≡ name → IsGood (receiver_of name) → IsUtf8 text
receiver_by text None is h = absurd h
receiver_by text (Some name) is h = name_text text name is

flush_by : (text : List ℕ) (name : Option (List ℕ)) → name_in text ≡ name → IsGood (flush_of name) → IsUtf8 text
flush_by text None is h = absurd h
flush_by text (Some name) is h = name_text text name is

-- A line is told by its first word, and what stands after it.
module _ (word text : List ℕ) where
  abbrev Told : Option Event → Type 0
  Told o = (e : Event) → o ≡ Some e → IsUtf8 word × IsUtf8 text

  named : (name : List ℕ) (test : Bool) (o p : Option Event) → list_all (λ b. nat_lt b 128) name ≡ true → bytes_eq word name ≡ test
      → ((e : Event) → o ≡ Some e → IsUtf8 text) → Told p → Told (cond test o p)
  named name true o p plain is f g e h = (word_text word name plain is, f e h)
  named name false o p plain is f g e h = g e h

  abbrev alerts_only : Option Event
  alerts_only = cond (bytes_eq word (codes "alerts")) (alerts_in text) None

  abbrev restart_on : Option Event
  restart_on = cond (bytes_eq word (codes "restart")) (restart_in text) alerts_only

  abbrev eval_on : Option Event
  eval_on = cond (bytes_eq word (codes "eval")) (eval_in text) restart_on

  abbrev gone_on : Option Event
  gone_on = cond (bytes_eq word (codes "gone")) (gone_in text) (group_event word text)

  abbrev fail_on : Option Event
  fail_on = cond (bytes_eq word (codes "fail")) (fail_in text) gone_on

  abbrev query_on : Option Event
  query_on = cond (bytes_eq word (codes "query")) (query_in text) fail_on

  alerts_told : Told alerts_only
  alerts_told =
      named (codes "alerts") (bytes_eq word (codes "alerts")) (alerts_in text) None refl refl
      (λ e h. timed text (λ time. Alerts time) (written_time text) e refl h) (λ e h. absurd (cc))

  restart_told : Told restart_on
  restart_told =
      named (codes "restart") (bytes_eq word (codes "restart")) (restart_in text) alerts_only refl refl
      (λ e h. timed text (λ time. Restart time) (written_time text) e refl h) alerts_told

  group_told : Told (group_event word text)
  group_told =
      named (codes "eval") (bytes_eq word (codes "eval")) (eval_in text) restart_on refl refl
      (λ e h. eval_by text (written_time (first_field text)) (some_text (first_field (after_field text))) (some_text (after_field (after_field text))) e refl refl refl h) restart_told

  gone_told : Told gone_on
  gone_told =
      named (codes "gone") (bytes_eq word (codes "gone")) (gone_in text) (group_event word text) refl refl
      (λ e h. mapped text (λ a. Gone a.time a.target) (occasion_of text) e refl h) group_told

  fail_told : Told fail_on
  fail_told =
      named (codes "fail") (bytes_eq word (codes "fail")) (fail_in text) gone_on refl refl
      (λ e h. mapped text (λ a. Fail a.time a.target) (occasion_of text) e refl h) gone_told

  query_told : Told query_on
  query_told =
      named (codes "query") (bytes_eq word (codes "query")) (query_in text) fail_on refl refl
      (λ e h. query_by text (written_time (first_field text)) (some_text (after_field text)) e refl refl h) fail_told

  whole_told : Told (whole_event word text)
  whole_told =
      named (codes "add") (bytes_eq word (codes "add")) (add_in text) query_on refl refl
      (λ e h. add_by text (written_time (first_field text)) (series_of (before_last_field (after_field text))) (point_of (last_field (after_field text))) e refl refl refl h) query_told

  good_event : (o : Option Event) → Told o → IsGood (event_order o) → IsUtf8 word × IsUtf8 text
  good_event None told h = absurd h
  good_event (Some e) told h = told e refl

  named_order : (name : List ℕ) (test : Bool) (o p : Order) → list_all (λ b. nat_lt b 128) name ≡ true → bytes_eq word name ≡ test
      → (IsGood o → IsUtf8 text) → (IsGood p → IsUtf8 word × IsUtf8 text) → IsGood (cond test o p) → IsUtf8 word × IsUtf8 text
  named_order name true o p plain is f g h = (word_text word name plain is, f h)
  named_order name false o p plain is f g h = g h

  scrape_good : (body : List ℕ) (o : Option Event) → scrape_in body text ≡ o → IsGood (event_order o) → IsUtf8 text
  scrape_good body None is h = absurd h
  scrape_good body (Some e) is h = mapped text (λ a. Scrape a.time a.target body) (occasion_of text) e refl is

  abbrev flush_on : Order
  flush_on = cond (bytes_eq word (codes "flush")) (flush_in text) (event_order (whole_event word text))

  abbrev receiver_on : Order
  receiver_on = cond (bytes_eq word (codes "receiver")) (receiver_in text) flush_on

  flush_told : IsGood flush_on → IsUtf8 word × IsUtf8 text
  flush_told =
      named_order (codes "flush") (bytes_eq word (codes "flush")) (flush_in text) (event_order (whole_event word text)) refl refl
      (flush_by text (name_in text) refl) (good_event (whole_event word text) whole_told)

  receiver_told : IsGood receiver_on → IsUtf8 word × IsUtf8 text
  receiver_told =
      named_order (codes "receiver") (bytes_eq word (codes "receiver")) (receiver_in text) flush_on refl refl
      (receiver_by text (name_in text) refl) flush_told

  reload_told : IsGood (whole_order word text) → IsUtf8 word × IsUtf8 text
  reload_told =
      named_order (codes "reload") (bytes_eq word (codes "reload")) (reload_in text) receiver_on refl refl
      (reload_by text (written_time (first_field text)) (files_in (after_field text)) refl refl) receiver_told

  order_told : (body : List ℕ) → IsGood (order_by word text body) → IsUtf8 word × IsUtf8 text
  order_told body h =
      named_order (codes "scrape") (bytes_eq word (codes "scrape")) (event_order (scrape_in body text)) (whole_order word text) refl refl
      (scrape_good body (scrape_in body text) refl) reload_told h

good_text : (line body : List ℕ) → IsGood (order_of line body) → IsUtf8 line
good_text line body h =
    let told = order_told (first_field (without_trailing line)) (after_field (without_trailing line)) body h in
    trailing_text line (first_text (without_trailing line) told.0 told.1)

bad_by : (line : List ℕ) (o : Order) → (IsGood o → IsUtf8 line) → (IsUtf8 line → ⊥) → o ≡ order.Bad
bad_by line (order.Event e) good bad = absurd (bad (good tt))
bad_by line (order.Reload time files) good bad = absurd (bad (good tt))
bad_by line (order.Receiver name) good bad = absurd (bad (good tt))
bad_by line (order.Flush name) good bad = absurd (bad (good tt))
bad_by line order.Bad good bad = refl

pub no_text_is_bad : (line body : List ℕ) → (IsUtf8 line → ⊥) → order_of line body ≡ order.Bad
no_text_is_bad line body bad = bad_by line (order_of line body) (good_text line body) bad

-- Lines that take a body, that are of one, and that ask for nothing

takes_by_text : (word text : List ℕ) (o : Option Occasion) → occasion_of text ≡ o → (bytes_eq word (codes "scrape") && is_some o) ≡ true → IsUtf8 word × IsUtf8 text
takes_by_text word text None is h = let no : false ≡ true = both_right (bytes_eq word (codes "scrape")) false h in absurd (cc)
takes_by_text word text (Some o) is h = (word_text word (codes "scrape") refl (both_left (bytes_eq word (codes "scrape")) true h), occasion_text text o is)

pub taking_text : (line : List ℕ) → takes_body line ≡ true → IsUtf8 line
unfolding takes_body
taking_text line h =
    let told = takes_by_text (first_field (without_trailing line)) (after_field (without_trailing line)) (occasion_of (after_field (without_trailing line))) refl h in
    trailing_text line (first_text (without_trailing line) told.0 told.1)

pub body_line_text : (line : List ℕ) → is_body_line line ≡ true → IsUtf8 line
body_line_text [] h = IsUtf8-nil
body_line_text (b ∷ text) h =
    let bar : b ≡ 124 = eqb-true b 124 (both_left (b == 124) (is_utf8 text) h) in
    IsUtf8-append (b ∷ []) text (IsUtf8-from_ascii (b ∷ []) (IsAscii-cons b [] (omega (arith, bar)) IsAscii-nil)) (IsUtf8-from_is_utf8 text (both_right (b == 124) (is_utf8 text) h))

passed_by_text : (line : List ℕ) (blank : Bool) → (length (without_trailing line) == 0) ≡ blank → (blank || (is_comment_line line && is_utf8 line)) ≡ true → IsUtf8 line
passed_by_text line true is h = trailing_text line (no_bytes (without_trailing line) is)
passed_by_text line false is h = IsUtf8-from_is_utf8 line (both_right (is_comment_line line) (is_utf8 line) h)

pub passed_text : (line : List ℕ) → is_passed_over line ≡ true → IsUtf8 line
passed_text line h = passed_by_text line (length (without_trailing line) == 0) refl h
