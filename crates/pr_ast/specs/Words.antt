-- The words of the query language, which are read in any case.
use Rattle.std.specs.Prelude.{ℕ, Bool, Option, Some, None, List, [], ◌∷◌, codes, if◌then◌else◌}
use Rattle.std.specs.Str.{str_eq_ignore_ascii_case}
use Rattle.pr_ast.specs.declared.lex.words.Word.{Word}
use Rattle.pr_ast.specs.declared.lex.words.Word.TheVariants.{And, Or, Unless, On, Ignoring, GroupLeft, GroupRight, Bool as BoolWord, Offset, By, Without, Sum, Avg, Min, Max, Count, Group, TopK, BottomK, Quantile, CountValues, Inf, NaN}

-- how each word is written
unfoldable pub word_text : Word → List ℕ
word_text And = codes "and"
word_text Or = codes "or"
word_text Unless = codes "unless"
word_text On = codes "on"
word_text Ignoring = codes "ignoring"
word_text GroupLeft = codes "group_left"
word_text GroupRight = codes "group_right"
word_text BoolWord = codes "bool"
word_text Offset = codes "offset"
word_text By = codes "by"
word_text Without = codes "without"
word_text Sum = codes "sum"
word_text Avg = codes "avg"
word_text Min = codes "min"
word_text Max = codes "max"
word_text Count = codes "count"
word_text Group = codes "group"
word_text TopK = codes "topk"
word_text BottomK = codes "bottomk"
word_text Quantile = codes "quantile"
word_text CountValues = codes "count_values"
word_text Inf = codes "inf"
word_text NaN = codes "nan"

-- operators' words, the names of aggregations, and two numbers
unfoldable pub words : List Word
words =
    And ∷ Or ∷ Unless ∷ On ∷ Ignoring ∷ GroupLeft ∷ GroupRight ∷ BoolWord ∷ Offset ∷ By ∷ Without
    ∷ Sum ∷ Avg ∷ Min ∷ Max ∷ Count ∷ Group ∷ TopK ∷ BottomK ∷ Quantile ∷ CountValues ∷ Inf ∷ NaN ∷ []

-- whether a text is the word, in any case
unfoldable pub is_word : List ℕ → Word → Bool
is_word text word = str_eq_ignore_ascii_case text (word_text word)

-- the first of these words that the text is
abbrev pub first_word : List ℕ → List Word → Option Word
first_word text [] = None
first_word text (word ∷ rest) = if is_word text word then Some word else first_word text rest

-- the word that a text is
unfoldable pub word_of : List ℕ → Option Word
word_of text = first_word text words
