-- What the trees that are read from texts are made of.
use Rattle.std.proofs.Common.{◌≡◌, ℕ, ◌≤◌, ◌^◌, Option, Some, None, Bool, true, false, List, [], ◌∷◌}
use Rattle.std.specs.Prelude.{pos, negsuc}
use Rattle.pr_num.specs.declared.value.Num.{Num}
use Rattle.pr_num.specs.declared.value.Num.TheVariants.{Finite, NaN, PosInf, NegInf}
use Rattle.pr_num.specs.Arithmetic.{IsFit}
use Rattle.pr_ast.specs.declared.lex.token.TokenKind.TheVariants.{Duration}
use Rattle.pr_ast.specs.private.Spelled.{IsNameText}
use Rattle.pr_labels.specs.declared.grouping.Grouping.{Grouping}
use Rattle.pr_labels.specs.declared.matching.Matching.{Matching}
use Rattle.pr_labels.specs.declared.matching.Card.{Card}
use Rattle.pr_labels.specs.declared.matching.Card.TheVariants.{OneToOne, ManyToOne, OneToMany}
use Rattle.pr_ast.specs.declared.place.Place.{Place}
use Rattle.pr_ast.specs.declared.names.Func.{Func}
use Rattle.pr_ast.specs.declared.names.BinOp.{BinOp}
use Rattle.pr_ast.specs.declared.names.AggOp.{AggOp}
use Rattle.pr_ast.specs.declared.selector.Selector.{Selector}
use Rattle.pr_ast.specs.declared.selector.MatchText.{MatchText}
use Rattle.pr_ast.specs.Tree.{Tree, number, text, select, range, sub, neg, binary, call, aggregate, none, more}
use Rattle.pr_parse.specs.declared.grammar.kind.TokenClass.TheVariants.{Function}
use Rattle.pr_parse.specs.Seen.{name_kind, kind_of}
use Rattle.pr_parse.specs.Grammar.{is_label, is_metric, is_span}

-- A name is read as a label; `named` says that a metric's name stands before.
pub record IsLabel (named : Bool) (n : List ℕ) : Type 0 where
  pub name : IsNameText false n
  pub is : is_label named (name_kind n) ≡ true

-- A name is read as a metric's, which may be that of a function.
pub data IsMetric (n : List ℕ) : Type 0 where
  metric_name : IsNameText false n → is_metric (name_kind n) ≡ true → IsMetric n
  function_name : (f : Func) → IsNameText false n → name_kind n ≡ Function f → IsMetric n

abbrev pub AllLabels : List (List ℕ) → Type 0
AllLabels [] = Unit {0}
AllLabels (n ∷ ns) = IsLabel false n × AllLabels ns

abbrev pub AllMatchers : Bool → List MatchText → Type 0
AllMatchers named [] = Unit {0}
AllMatchers named (m ∷ ms) = IsLabel named m.label × AllMatchers named ms

abbrev pub IsSelected : Option (List ℕ) → List MatchText → Type 0
IsSelected (Some name) ms = IsMetric name × AllMatchers true ms
IsSelected None ms = AllMatchers false ms

-- an offset, and a span in brackets, which is not 0
abbrev pub IsOffset : ℕ → Type 0
IsOffset ms = ms ≤ 2 ^ 40

pub record IsSpan (ms : ℕ) : Type 0 where
  pub some : is_span (kind_of (Duration ms)) ≡ true
  pub fits : ms ≤ 2 ^ 40

abbrev pub IsStep : Option ℕ → Type 0
IsStep None = Unit {0}
IsStep (Some ms) = IsSpan ms

pub record IsSelector (s : Selector) : Type 0 where
  pub selected : IsSelected s.name s.matchers
  pub offset : IsOffset s.offset

abbrev pub IsSide : Card → List (List ℕ) → Type 0
IsSide OneToOne include = include ≡ []
IsSide ManyToOne include = AllLabels include
IsSide OneToMany include = AllLabels include

pub record IsMatched (m : Matching) : Type 0 where
  pub names : AllLabels m.names
  pub side : IsSide m.card m.include

abbrev pub IsMatching : Option Matching → Type 0
IsMatching None = Unit {0}
IsMatching (Some m) = IsMatched m

-- A number has no sign: a minus before it is a node of its own.
abbrev pub IsUnsigned : Num → Type 0
IsUnsigned (Finite (pos n)) = IsFit (Finite (pos n))
IsUnsigned (Finite (negsuc n)) = ⊥
IsUnsigned NaN = Unit {0}
IsUnsigned PosInf = Unit {0}
IsUnsigned NegInf = ⊥

-- A tree is an expression, or else it is a list of arguments.
pub data IsReadable : Bool → Tree → Type 0 where
  a_number : {p : Place} {v : Num} → IsUnsigned v → IsReadable true (number p v)
  a_text : {p : Place} {t : List ℕ} → IsReadable true (text p t)
  a_select : {p : Place} {s : Selector} → IsSelector s → IsReadable true (select p s)
  a_range : {p : Place} {s : Selector} {span : ℕ} → IsSelector s → IsSpan span → IsReadable true (range p s span)
  a_sub : {p : Place} {t : Tree} {span offset : ℕ} {step : Option ℕ} → IsSpan span → IsStep step → IsOffset offset → IsReadable true t → IsReadable true (sub p t span step offset)
  a_neg : {p : Place} {t : Tree} → IsReadable true t → IsReadable true (neg p t)
  a_binary : {p : Place} {o : BinOp} {b : Bool} {m : Option Matching} {l r : Tree} → IsMatching m → IsReadable true l → IsReadable true r → IsReadable true (binary p o b m l r)
  a_call : {p : Place} {f : Func} {ts : Tree} → IsReadable false ts → IsReadable true (call p f ts)
  an_aggregate : {p : Place} {o : AggOp} {g : Grouping} {t : Tree} → AllLabels g.names → IsReadable true t → IsReadable true (aggregate p o g (more none t))
  a_parameter : {p : Place} {o : AggOp} {g : Grouping} {t u : Tree} → AllLabels g.names → IsReadable true t → IsReadable true u → IsReadable true (aggregate p o g (more (more none t) u))
  no_args : IsReadable false none
  more_args : {ts t : Tree} → IsReadable false ts → IsReadable true t → IsReadable false (more ts t)
