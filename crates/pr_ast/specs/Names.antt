-- The names of operators, aggregations and functions.
use Rattle.std.specs.Prelude.{ℕ, Bool, Option, Some, None, List, [], ◌∷◌, codes, if◌then◌else◌}
use Rattle.std.specs.Str.{bytes_eq}
use Rattle.pr_ast.specs.Words.{word_text}
use Rattle.pr_ast.specs.Signs.{sign_text}
use Rattle.pr_ast.specs.declared.lex.words.Word.{Word}
use Rattle.pr_ast.specs.declared.lex.words.Word.TheVariants.{Or as OrWord, And as AndWord, Unless as UnlessWord, Sum as SumWord, Avg as AvgWord, Min as MinWord, Max as MaxWord, Count as CountWord, Group as GroupWord, TopK as TopKWord, BottomK as BottomKWord, Quantile as QuantileWord, CountValues as CountValuesWord}
use Rattle.pr_ast.specs.declared.lex.token.Sign.TheVariants.{Equal as EqualSign, NotEqual as NotEqualSign, LessEqual as LessEqualSign, Less as LessSign, GreaterEqual as GreaterEqualSign, Greater as GreaterSign, Plus, Minus, Star, Slash, Percent}
use Rattle.pr_ast.specs.declared.names.BinOp.{BinOp}
use Rattle.pr_ast.specs.declared.names.BinOp.TheVariants.{Or, And, Unless, Equal, NotEqual, LessEqual, Less, GreaterEqual, Greater, Add, Sub, Mul, Div, Rem}
use Rattle.pr_ast.specs.declared.names.AggOp.{AggOp}
use Rattle.pr_ast.specs.declared.names.AggOp.TheVariants.{Sum, Avg, Min, Max, Count, Group, TopK, BottomK, Quantile, CountValues}
use Rattle.pr_ast.specs.declared.names.Func.{Func}
use Rattle.pr_ast.specs.declared.names.Func.TheVariants.{Abs, Ceil, Floor, Sgn, Round, Clamp, ClampMin, ClampMax, Time, Vector, Scalar, Timestamp, Absent, AbsentOverTime, Minute, Hour, DayOfWeek, DayOfMonth, DayOfYear, DaysInMonth, Month, Year, LabelReplace, LabelJoin, HistogramQuantile, Rate, Increase, Delta, Irate, Idelta, Deriv, PredictLinear, Changes, Resets, SumOverTime, AvgOverTime, MinOverTime, MaxOverTime, CountOverTime, LastOverTime, PresentOverTime, QuantileOverTime}

-- how each operator is written: a word or a sign
unfoldable pub op_text : BinOp → List ℕ
op_text Or = word_text OrWord
op_text And = word_text AndWord
op_text Unless = word_text UnlessWord
op_text Equal = sign_text EqualSign
op_text NotEqual = sign_text NotEqualSign
op_text LessEqual = sign_text LessEqualSign
op_text Less = sign_text LessSign
op_text GreaterEqual = sign_text GreaterEqualSign
op_text Greater = sign_text GreaterSign
op_text Add = sign_text Plus
op_text Sub = sign_text Minus
op_text Mul = sign_text Star
op_text Div = sign_text Slash
op_text Rem = sign_text Percent

-- the word that names each aggregation
abbrev pub agg_word : AggOp → Word
agg_word Sum = SumWord
agg_word Avg = AvgWord
agg_word Min = MinWord
agg_word Max = MaxWord
agg_word Count = CountWord
agg_word Group = GroupWord
agg_word TopK = TopKWord
agg_word BottomK = BottomKWord
agg_word Quantile = QuantileWord
agg_word CountValues = CountValuesWord

-- the aggregation that a word names
abbrev pub agg_of : Word → Option AggOp
agg_of SumWord = Some Sum
agg_of AvgWord = Some Avg
agg_of MinWord = Some Min
agg_of MaxWord = Some Max
agg_of CountWord = Some Count
agg_of GroupWord = Some Group
agg_of TopKWord = Some TopK
agg_of BottomKWord = Some BottomK
agg_of QuantileWord = Some Quantile
agg_of CountValuesWord = Some CountValues
agg_of _ = None

-- the names of aggregations
abbrev pub agg_text : AggOp → List ℕ
agg_text op = word_text (agg_word op)

-- the names of functions
unfoldable pub func_text : Func → List ℕ
func_text Abs = codes "abs"
func_text Ceil = codes "ceil"
func_text Floor = codes "floor"
func_text Sgn = codes "sgn"
func_text Round = codes "round"
func_text Clamp = codes "clamp"
func_text ClampMin = codes "clamp_min"
func_text ClampMax = codes "clamp_max"
func_text Time = codes "time"
func_text Vector = codes "vector"
func_text Scalar = codes "scalar"
func_text Timestamp = codes "timestamp"
func_text Absent = codes "absent"
func_text AbsentOverTime = codes "absent_over_time"
func_text Minute = codes "minute"
func_text Hour = codes "hour"
func_text DayOfWeek = codes "day_of_week"
func_text DayOfMonth = codes "day_of_month"
func_text DayOfYear = codes "day_of_year"
func_text DaysInMonth = codes "days_in_month"
func_text Month = codes "month"
func_text Year = codes "year"
func_text LabelReplace = codes "label_replace"
func_text LabelJoin = codes "label_join"
func_text HistogramQuantile = codes "histogram_quantile"
func_text Rate = codes "rate"
func_text Increase = codes "increase"
func_text Delta = codes "delta"
func_text Irate = codes "irate"
func_text Idelta = codes "idelta"
func_text Deriv = codes "deriv"
func_text PredictLinear = codes "predict_linear"
func_text Changes = codes "changes"
func_text Resets = codes "resets"
func_text SumOverTime = codes "sum_over_time"
func_text AvgOverTime = codes "avg_over_time"
func_text MinOverTime = codes "min_over_time"
func_text MaxOverTime = codes "max_over_time"
func_text CountOverTime = codes "count_over_time"
func_text LastOverTime = codes "last_over_time"
func_text PresentOverTime = codes "present_over_time"
func_text QuantileOverTime = codes "quantile_over_time"

unfoldable pub funcs : List Func
funcs =
    Abs ∷ Ceil ∷ Floor ∷ Sgn ∷ Round ∷ Clamp ∷ ClampMin ∷ ClampMax ∷ Time ∷ Vector ∷ Scalar ∷ Timestamp ∷ Absent ∷ AbsentOverTime ∷ Minute ∷ Hour ∷ DayOfWeek ∷ DayOfMonth ∷ DayOfYear ∷ DaysInMonth ∷ Month ∷ Year ∷ LabelReplace ∷ LabelJoin ∷ HistogramQuantile ∷ Rate ∷ Increase ∷ Delta ∷ Irate ∷ Idelta ∷ Deriv ∷ PredictLinear ∷ Changes ∷ Resets ∷ SumOverTime ∷ AvgOverTime ∷ MinOverTime ∷ MaxOverTime ∷ CountOverTime ∷ LastOverTime ∷ PresentOverTime ∷ QuantileOverTime ∷ []

-- whether a text is the name of the function, letter by letter
unfoldable pub is_func : List ℕ → Func → Bool
is_func text func = bytes_eq text (func_text func)

-- the first of these functions whose name the text is
abbrev pub first_func : List ℕ → List Func → Option Func
first_func text [] = None
first_func text (func ∷ rest) = if is_func text func then Some func else first_func text rest

-- the function that a name is
unfoldable pub func_of : List ℕ → Option Func
func_of text = first_func text funcs
