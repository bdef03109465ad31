-- Names: of labels, and of metrics.
use Rattle.std.specs.Prelude.{ℕ, Bool, false, ◌&&◌, ◌||◌, ◌==◌, List, [], ◌∷◌}
use Prim.Native.Char.{code}
use Rattle.std.specs.List.{list_all}
use Rattle.std.specs.Char.{is_ascii_digit}
use Rattle.pr_words.specs.Bytes.{is_letter, is_label_byte}

-- the name of a label: letters, underscores and digits, of which the first is no digit
abbrev pub is_label_name : List ℕ → Bool
is_label_name [] = false
is_label_name (b ∷ bs) = is_letter b && list_all is_label_byte bs

-- the name of a metric may have colons too
abbrev pub is_metric_letter : ℕ → Bool
is_metric_letter b = is_letter b || b == code ":"

abbrev pub is_metric_byte : ℕ → Bool
is_metric_byte b = is_metric_letter b || is_ascii_digit b

-- a classic name of a metric
abbrev pub is_metric_name : List ℕ → Bool
is_metric_name [] = false
is_metric_name (b ∷ bs) = is_metric_letter b && list_all is_metric_byte bs
