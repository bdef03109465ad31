-- The complaints about the families of an exposition.
use Rattle.std.specs.Prelude.{ℕ, suc, ◌==◌, ◌&&◌, ◌||◌, not, nat_lt, Bool, true, false, cond, is_some, List, [], ◌∷◌, ◌++◌, filter, map, codes}
use Prim.Native.Char.{code}
use Rattle.std.specs.Char.{is_ascii_lowercase, is_ascii_uppercase}
use Rattle.std.specs.List.{list_any}
use Rattle.pr_labels.specs.LabelSet.{value_of}
use Rattle.pr_expo.specs.declared.expo_line.place.FamilyKind.{FamilyKind}
use Rattle.pr_expo.specs.declared.expo_line.place.FamilyKind.TheVariants.{Counter, Gauge, Histogram, Summary, Untyped}
use Rattle.pr_expo.specs.declared.exposition.Exposition.{Exposition}
use Rattle.pr_expo.specs.declared.exposition.Family.{Family}
use Rattle.pr_expo.specs.declared.exposition.Line.{Line}
use Rattle.pr_expo.specs.declared.exposition.LintKind.{LintKind}
use Rattle.pr_expo.specs.declared.exposition.LintKind.TheVariants.{NoHelp, SecondHelp, SecondType, LateType, CounterTotal, NotCounterTotal, Colon, Camel, LeLabel, QuantileLabel, WideValue}
use Rattle.pr_expo.specs.declared.exposition.Problem.{Problem}
use Rattle.pr_expo.specs.declared.marks.Marks.{Marks}
use Rattle.pr_expo.specs.Families.{ends_in}

abbrev pub has_total : Family → Bool
has_total f = ends_in (codes "_total") f.name

abbrev pub is_counter : FamilyKind → Bool
is_counter Counter = true
is_counter Gauge = false
is_counter Histogram = false
is_counter Summary = false
is_counter Untyped = false

abbrev pub is_histogram : FamilyKind → Bool
is_histogram Counter = false
is_histogram Gauge = false
is_histogram Histogram = true
is_histogram Summary = false
is_histogram Untyped = false

abbrev pub is_summary : FamilyKind → Bool
is_summary Counter = false
is_summary Gauge = false
is_summary Histogram = false
is_summary Summary = true
is_summary Untyped = false

abbrev pub is_other_typed : FamilyKind → Bool
is_other_typed Counter = false
is_other_typed Gauge = true
is_other_typed Histogram = true
is_other_typed Summary = true
is_other_typed Untyped = false

abbrev pub is_colon : ℕ → Bool
is_colon b = b == code ":"

abbrev pub begins_capital : List ℕ → Bool
begins_capital [] = false
begins_capital (b ∷ bs) = is_ascii_uppercase b

-- a small letter directly before a capital
abbrev pub is_camel : List ℕ → Bool
is_camel [] = false
is_camel (b ∷ bs) = (is_ascii_lowercase b && begins_capital bs) || is_camel bs

abbrev pub has_label : List ℕ → Line → Bool
has_label name line = is_some (value_of line.labels name)

abbrev pub is_wide : Line → Bool
is_wide line = not (is_some line.value)

abbrev pub lines_of_family : ℕ → List Line → List Line
lines_of_family place lines = filter (λ line. line.family == place) lines

-- what is seen on the samples of a family: a label `le`, a label `quantile`, a value that is too
-- wide
abbrev pub marks_of : List Line → Marks
marks_of own = record {
  le = list_any (has_label (codes "le")) own;
  quantile = list_any (has_label (codes "quantile")) own;
  wide = list_any is_wide own;
}

abbrev pub when : Bool → LintKind → List LintKind
when holds kind = cond holds (kind ∷ []) []

-- the complaints about a family, each at most once, in this order
abbrev pub kinds_by : Family → Marks → List LintKind
kinds_by f m = (((((((((
    when (f.helps == 0) NoHelp
    ++ when (nat_lt 1 f.helps) SecondHelp)
    ++ when (nat_lt 1 f.types) SecondType)
    ++ when f.late_type LateType)
    ++ when (is_counter f.kind && not (has_total f)) CounterTotal)
    ++ when (is_other_typed f.kind && has_total f) NotCounterTotal)
    ++ when (list_any is_colon f.name) Colon)
    ++ when (is_camel f.name) Camel)
    ++ when (not (is_histogram f.kind) && m.le) LeLabel)
    ++ when (not (is_summary f.kind) && m.quantile) QuantileLabel)
    ++ when m.wide WideValue

abbrev pub kinds_of : Family → List Line → List LintKind
kinds_of f own = kinds_by f (marks_of own)

abbrev pub problem : List ℕ → LintKind → Problem
problem name kind = record { family = name; kind = kind }

abbrev pub problems_of : List Line → ℕ → Family → List Problem
problems_of lines place f = map (problem f.name) (kinds_of f (lines_of_family place lines))

abbrev pub problems_from : List Line → ℕ → List Family → List Problem
problems_from lines place [] = []
problems_from lines place (f ∷ families) = problems_of lines place f ++ problems_from lines (suc place) families

-- The complaints about an exposition: by family, in order of first mention.
abbrev pub lint : Exposition → List Problem
lint e = problems_from e.lines 0 e.families
