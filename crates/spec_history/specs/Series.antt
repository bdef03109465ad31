-- The series that a selector chooses, and what they show.
use Rattle.std.specs.Prelude.{Bool, List, [], filter, map, fold}
use Rattle.pr_num.specs.declared.value.Num.{Num}
use Rattle.pr_labels.specs.declared.pair.Pair.{Pair}
use Rattle.pr_labels.specs.declared.item.Item.{Item}
use Rattle.pr_labels.specs.Rising.{with_labels}
use Rattle.spec_history.specs.declared.entry.Entry.{Entry}

-- the label sets of the history that pass a test, in label order, each once
abbrev pub chosen : (List Pair → Bool) → List Entry → List (List Pair)
chosen test history = fold with_labels [] (filter test (map (λ e. e.labels) history))

-- an element: labels with a value
abbrev pub element : List Pair → Num → Item Num
element labels value = record { labels = labels; value = value }
