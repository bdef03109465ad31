-- The text of a tree as it is printed.
use Rattle.std.specs.Prelude.{ℕ, ◌==◌, Bool, true, false, Option, Some, None, List, [], ◌∷◌, ◌++◌, codes, flat_map, if◌then◌else◌}
use Rattle.pr_num.specs.Shown.{shown}
use Rattle.pr_time.specs.SpanShown.{shown_span}
use Rattle.pr_labels.specs.pr_words.Quoted.{quoted_text}
use Rattle.pr_ast.specs.Signs.{sign_text}
use Rattle.pr_ast.specs.declared.lex.token.Sign.TheVariants.{Assign, NotEqual as NotEqualSign, Like as LikeSign, NotLike as NotLikeSign}
use Rattle.pr_labels.specs.declared.matching.Matching.{Matching}
use Rattle.pr_labels.specs.declared.matching.Card.{Card}
use Rattle.pr_labels.specs.declared.matching.Card.TheVariants.{OneToOne, ManyToOne, OneToMany}
use Rattle.pr_ast.specs.declared.selector.Selector.{Selector}
use Rattle.pr_ast.specs.declared.selector.MatchText.{MatchText}
use Rattle.pr_ast.specs.declared.selector.MatchSign.{MatchSign}
use Rattle.pr_ast.specs.declared.selector.MatchSign.TheVariants.{Equal, NotEqual, Like, NotLike}
use Rattle.pr_ast.specs.Names.{op_text, agg_text, func_text}
use Rattle.pr_ast.specs.Tree.{Tree, number, text, select, range, sub, neg, binary, call, aggregate, none, more}

-- after a comma stands a blank
abbrev pub following_text : List ℕ → List ℕ
following_text t = codes ", " ++ t

-- names in parentheses
abbrev pub names_text : List (List ℕ) → List ℕ
names_text [] = []
names_text (n ∷ ns) = n ++ flat_map following_text ns

abbrev pub labels_text : List (List ℕ) → List ℕ
labels_text ns = codes "(" ++ (names_text ns ++ codes ")")

-- matchers in braces
abbrev pub match_sign_text : MatchSign → List ℕ
match_sign_text Equal = sign_text Assign
match_sign_text NotEqual = sign_text NotEqualSign
match_sign_text Like = sign_text LikeSign
match_sign_text NotLike = sign_text NotLikeSign

abbrev pub matcher_text : MatchText → List ℕ
matcher_text m = m.label ++ (match_sign_text m.op ++ quoted_text m.text)

abbrev pub following_matcher : MatchText → List ℕ
following_matcher m = codes ", " ++ matcher_text m

abbrev pub matchers_text : List MatchText → List ℕ
matchers_text [] = []
matchers_text (m ∷ ms) = matcher_text m ++ flat_map following_matcher ms

abbrev pub braces_text : List MatchText → List ℕ
braces_text ms = codes "{" ++ (matchers_text ms ++ codes "}")

-- a name with its matchers, where there are any; matchers alone always have their braces
abbrev pub selected_text : Option (List ℕ) → List MatchText → List ℕ
selected_text (Some name) [] = name
selected_text (Some name) (m ∷ ms) = name ++ braces_text (m ∷ ms)
selected_text None ms = braces_text ms

-- nothing is written for an offset of 0, and for a step that is not there
abbrev pub offset_text : ℕ → List ℕ
offset_text ms = if ms == 0 then [] else codes " offset " ++ shown_span ms

abbrev pub step_text : Option ℕ → List ℕ
step_text (Some ms) = shown_span ms
step_text None = []

abbrev pub select_text : Selector → List ℕ
select_text s = selected_text s.name s.matchers ++ offset_text s.offset

abbrev pub range_text : Selector → ℕ → List ℕ
range_text s span = selected_text s.name s.matchers ++ (codes "[" ++ (shown_span span ++ (codes "]" ++ offset_text s.offset)))

abbrev pub sub_text : ℕ → Option ℕ → ℕ → List ℕ
sub_text span step offset = codes "[" ++ (shown_span span ++ (codes ":" ++ (step_text step ++ (codes "]" ++ offset_text offset))))

-- how two vectors are matched: nothing where that is not said
abbrev pub side_text : Card → List (List ℕ) → List ℕ
side_text OneToOne include = []
side_text ManyToOne include = codes " group_left " ++ labels_text include
side_text OneToMany include = codes " group_right " ++ labels_text include

abbrev pub on_text : Bool → List ℕ
on_text true = codes " on "
on_text false = codes " ignoring "

abbrev pub matching_text : Option Matching → List ℕ
matching_text None = []
matching_text (Some m) = on_text m.on ++ (labels_text m.names ++ side_text m.card m.include)

abbrev pub bool_text : Bool → List ℕ
bool_text true = codes " bool"
bool_text false = []

-- a grouping stands before the arguments; `by` without names is not written
abbrev pub by_text : Bool → List (List ℕ) → List ℕ
by_text true [] = []
by_text true (n ∷ ns) = codes " by " ++ (labels_text (n ∷ ns) ++ codes " ")
by_text false ns = codes " without " ++ (labels_text ns ++ codes " ")

-- parentheses stand round each operand that is an operation of two operands or a negation
abbrev pub is_operation : Tree → Bool
is_operation (binary p o b m l r) = true
is_operation (neg p t) = true
is_operation _ = false

abbrev pub enclosed_text : Bool → List ℕ → List ℕ
enclosed_text true t = codes "(" ++ (t ++ codes ")")
enclosed_text false t = t

-- what stands before an argument that is not the first
abbrev pub comma_text : Tree → List ℕ
comma_text none = []
comma_text _ = codes ", "

abbrev pub comma_unless : Bool → List ℕ
comma_unless true = []
comma_unless false = codes ", "

abbrev pub tree_text : Tree → List ℕ
tree_text (number p v) = shown v
tree_text (text p t) = quoted_text t
tree_text (select p s) = select_text s
tree_text (range p s span) = range_text s span
tree_text (sub p t span step offset) = enclosed_text (is_operation t) (tree_text t) ++ sub_text span step offset
tree_text (neg p t) = codes "-" ++ enclosed_text (is_operation t) (tree_text t)
tree_text (binary p o b m l r) =
    enclosed_text (is_operation l) (tree_text l) ++ (codes " " ++ (op_text o ++ (bool_text b ++ (matching_text m ++ (codes " " ++ enclosed_text (is_operation r) (tree_text r))))))
tree_text (call p f ts) = func_text f ++ (codes "(" ++ (tree_text ts ++ codes ")"))
tree_text (aggregate p o g ts) = agg_text o ++ (by_text g.by g.names ++ (codes "(" ++ (tree_text ts ++ codes ")")))
tree_text none = []
tree_text (more ts t) = tree_text ts ++ (comma_text ts ++ tree_text t)
