-- The lines of a script, and the events that they spell.
use Rattle.std.specs.Prelude.{ℕ, ◌^◌, Bool, false, ◌&&◌, ◌||◌, cond, ◌==◌, List, [], ◌∷◌, ◌++◌, length, flat_map, codes, Option, Some, None, is_some}
use Prim.Native.Char.{code}
use Rattle.std.specs.Option.{option_map}
use Rattle.std.specs.Str.{bytes_eq, is_utf8}
use Rattle.spec_world.specs.pr_num.declared.value.Point.{Point}
use Rattle.spec_world.specs.pr_labels.declared.pair.Pair.{Pair}
use Rattle.spec_world.specs.pr_labels.LabelSet.{metric_label, value_of}
use Rattle.spec_world.specs.pr_labels.SeriesReading.{series_labels}
use Rattle.pr_words.specs.Decimals.{plain_decimal}
use Rattle.pr_words.specs.Fields.{without_trailing, first_field, after_field, last_field, before_last_field}
use Rattle.spec_world.specs.spec_history.Points.{point_of}
use Rattle.pr_text.specs.declared.script.script.Occasion.{Occasion}
use Rattle.spec_world.specs.declared.event.Event.{Event}
use Rattle.spec_world.specs.declared.event.Event.TheVariants.{Add, Query, Scrape, Fail, Gone, Eval, Restart, Alerts}

-- a line that begins so is a comment
abbrev pub is_comment_line : List ℕ → Bool
is_comment_line [] = false
is_comment_line (b ∷ bytes) = b == code "#"

-- Nothing is asked by a line of blanks alone, and by a comment that is a text.
abbrev pub is_passed_over : List ℕ → Bool
is_passed_over line = length (without_trailing line) == 0 || (is_comment_line line && is_utf8 line)

-- a time in milliseconds: a plain decimal below 2^42
abbrev pub written_time : List ℕ → Option ℕ
written_time text = plain_decimal (2 ^ 42) text

-- a series: any series text
abbrev pub series_of : List ℕ → Option (List Pair)
series_of text = cond (is_utf8 text) (series_labels text) None

-- an expression, or a name: any text that is not empty
abbrev pub some_text : List ℕ → Option (List ℕ)
some_text [] = None
some_text (b ∷ bytes) = cond (is_utf8 (b ∷ bytes)) (Some (b ∷ bytes)) None

-- an event, where each part of it can be read
abbrev pub add_of : Option ℕ → Option (List Pair) → Option Point → Option Event
add_of None labels point = None
add_of (Some time) None point = None
add_of (Some time) (Some labels) None = None
add_of (Some time) (Some labels) (Some point) = Some (Add time labels point)

abbrev pub query_of : Option ℕ → Option (List ℕ) → Option Event
query_of None text = None
query_of (Some time) None = None
query_of (Some time) (Some text) = Some (Query time text)

-- a time, a series, and a point, which is the last field
abbrev pub add_in : List ℕ → Option Event
add_in text = add_of (written_time (first_field text)) (series_of (before_last_field (after_field text))) (point_of (last_field (after_field text)))

-- a time, and an expression
abbrev pub query_in : List ℕ → Option Event
query_in text = query_of (written_time (first_field text)) (some_text (after_field text))

-- a time, the name of a file, which is a field, and the name of a group, which is all that is left
abbrev pub eval_of : Option ℕ → Option (List ℕ) → Option (List ℕ) → Option Event
eval_of None file group = None
eval_of (Some time) None group = None
eval_of (Some time) (Some file) None = None
eval_of (Some time) (Some file) (Some group) = Some (Eval time file group)

abbrev pub eval_in : List ℕ → Option Event
eval_in text = eval_of (written_time (first_field text)) (some_text (first_field (after_field text))) (some_text (after_field (after_field text)))

-- a time, and nothing behind it
abbrev pub restart_in : List ℕ → Option Event
restart_in text = option_map (λ time. Restart time) (written_time text)

abbrev pub alerts_in : List ℕ → Option Event
alerts_in text = option_map (λ time. Alerts time) (written_time text)

-- a target: labels, at least one, of which none is a metric's name
abbrev pub target_by : Option (List Pair) → Option (List Pair)
target_by None = None
target_by (Some []) = None
target_by (Some (p ∷ labels)) = cond (is_some (value_of (p ∷ labels) metric_label)) None (Some (p ∷ labels))

abbrev pub target_of : List ℕ → Option (List Pair)
target_of text = target_by (series_of text)

-- when something happens, and to which target
abbrev pub occasion_by : Option ℕ → Option (List Pair) → Option Occasion
occasion_by None target = None
occasion_by (Some time) None = None
occasion_by (Some time) (Some target) = Some (record { time = time; target = target })

abbrev pub occasion_of : List ℕ → Option Occasion
occasion_of text = occasion_by (written_time (first_field text)) (target_of (after_field text))

-- a scrape has what its body lines give
abbrev pub scrape_in : List ℕ → List ℕ → Option Event
scrape_in body text = option_map (λ a. Scrape a.time a.target body) (occasion_of text)

abbrev pub fail_in : List ℕ → Option Event
fail_in text = option_map (λ a. Fail a.time a.target) (occasion_of text)

abbrev pub gone_in : List ℕ → Option Event
gone_in text = option_map (λ a. Gone a.time a.target) (occasion_of text)

-- an event about groups, or one that begins anew
abbrev pub group_event : List ℕ → List ℕ → Option Event
group_event word text =
    cond (bytes_eq word (codes "eval")) (eval_in text) (cond (bytes_eq word (codes "restart")) (restart_in text)
    (cond (bytes_eq word (codes "alerts")) (alerts_in text) None))

-- the event that a word and what stands after it spell, where it takes no body
abbrev pub whole_event : List ℕ → List ℕ → Option Event
whole_event word text =
    cond (bytes_eq word (codes "add")) (add_in text) (cond (bytes_eq word (codes "query")) (query_in text)
    (cond (bytes_eq word (codes "fail")) (fail_in text) (cond (bytes_eq word (codes "gone")) (gone_in text) (group_event word text))))

-- Body lines

abbrev pub takes_by : List ℕ → List ℕ → Bool
takes_by word text = bytes_eq word (codes "scrape") && is_some (occasion_of text)

-- a line that spells a scrape takes a body
unfoldable pub takes_body : List ℕ → Bool
takes_body line = takes_by (first_field (without_trailing line)) (after_field (without_trailing line))

-- A body line is `|`, and then a text.
abbrev pub is_body_line : List ℕ → Bool
is_body_line [] = false
is_body_line (b ∷ text) = b == code "|" && is_utf8 text

-- what a body line gives: its text, with the blanks at its end, and a line feed
abbrev pub body_text : List ℕ → List ℕ
body_text [] = []
body_text (b ∷ text) = text ++ codes "\n"

abbrev pub body_of : List (List ℕ) → List ℕ
body_of lines = flat_map body_text lines
