-- The tokens of a tree as it is printed, put before those of what follows it.
use Rattle.std.specs.Prelude.{ℕ, suc, ◌==◌, Bool, true, false, Option, Some, None, List, [], ◌∷◌, codes, if◌then◌else◌, pos, negsuc}
use Rattle.pr_num.specs.declared.value.Num.{Num}
use Rattle.pr_num.specs.declared.value.Num.TheVariants.{Finite, NaN, PosInf, NegInf}
use Rattle.pr_ast.specs.Words.{word_text}
use Rattle.pr_ast.specs.declared.lex.words.Word.TheVariants.{Or as OrWord, And as AndWord, Unless as UnlessWord}
use Rattle.pr_ast.specs.declared.lex.token.TokenKind.{TokenKind}
use Rattle.pr_ast.specs.declared.lex.token.TokenKind.TheVariants.{Name, Number as NumberToken, Duration, Text as TextToken, Sign as SignToken}
use Rattle.pr_ast.specs.declared.lex.token.Sign.TheVariants.{LeftBrace, RightBrace, LeftParen, RightParen, LeftBracket, RightBracket, Comma, Colon, Assign, NotEqual as NotEqualSign, Like as LikeSign, NotLike as NotLikeSign, Equal as EqualSign, LessEqual as LessEqualSign, Less as LessSign, GreaterEqual as GreaterEqualSign, Greater as GreaterSign, Plus, Minus, Star, Slash, Percent}
use Rattle.pr_labels.specs.declared.matching.Matching.{Matching}
use Rattle.pr_labels.specs.declared.matching.Card.{Card}
use Rattle.pr_labels.specs.declared.matching.Card.TheVariants.{OneToOne, ManyToOne, OneToMany}
use Rattle.pr_ast.specs.declared.selector.Selector.{Selector}
use Rattle.pr_ast.specs.declared.selector.MatchText.{MatchText}
use Rattle.pr_ast.specs.declared.selector.MatchSign.{MatchSign}
use Rattle.pr_ast.specs.declared.selector.MatchSign.TheVariants.{Equal as EqualMatch, NotEqual as NotEqualMatch, Like as LikeMatch, NotLike as NotLikeMatch}
use Rattle.pr_ast.specs.declared.names.BinOp.{BinOp}
use Rattle.pr_ast.specs.declared.names.BinOp.TheVariants.{Or, And, Unless, Equal, NotEqual, LessEqual, Less, GreaterEqual, Greater, Add, Sub, Mul, Div, Rem}
use Rattle.pr_ast.specs.Names.{agg_text, func_text}
use Rattle.pr_ast.specs.private.Print.{is_operation}
use Rattle.pr_ast.specs.Tree.{Tree, number, text, select, range, sub, neg, binary, call, aggregate, none, more}

-- the token of an operator
abbrev pub op_kind : BinOp → TokenKind
op_kind Or = Name (word_text OrWord)
op_kind And = Name (word_text AndWord)
op_kind Unless = Name (word_text UnlessWord)
op_kind Equal = SignToken EqualSign
op_kind NotEqual = SignToken NotEqualSign
op_kind LessEqual = SignToken LessEqualSign
op_kind Less = SignToken LessSign
op_kind GreaterEqual = SignToken GreaterEqualSign
op_kind Greater = SignToken GreaterSign
op_kind Add = SignToken Plus
op_kind Sub = SignToken Minus
op_kind Mul = SignToken Star
op_kind Div = SignToken Slash
op_kind Rem = SignToken Percent

-- a number: its sign is a token of its own, and what is no finite number is a word
abbrev pub number_kinds : Num → List TokenKind → List TokenKind
number_kinds (Finite (pos n)) ks = NumberToken (Finite (pos n)) ∷ ks
number_kinds (Finite (negsuc n)) ks = SignToken Minus ∷ NumberToken (Finite (pos (suc n))) ∷ ks
number_kinds NaN ks = Name (codes "NaN") ∷ ks
number_kinds PosInf ks = SignToken Plus ∷ Name (codes "Inf") ∷ ks
number_kinds NegInf ks = SignToken Minus ∷ Name (codes "Inf") ∷ ks

-- names in parentheses
abbrev pub following_names : List (List ℕ) → List TokenKind → List TokenKind
following_names [] ks = ks
following_names (n ∷ ns) ks = SignToken Comma ∷ Name n ∷ following_names ns ks

abbrev pub names_kinds : List (List ℕ) → List TokenKind → List TokenKind
names_kinds [] ks = ks
names_kinds (n ∷ ns) ks = Name n ∷ following_names ns ks

abbrev pub labels_kinds : List (List ℕ) → List TokenKind → List TokenKind
labels_kinds ns ks = SignToken LeftParen ∷ names_kinds ns (SignToken RightParen ∷ ks)

-- matchers in braces
abbrev pub match_kind : MatchSign → TokenKind
match_kind EqualMatch = SignToken Assign
match_kind NotEqualMatch = SignToken NotEqualSign
match_kind LikeMatch = SignToken LikeSign
match_kind NotLikeMatch = SignToken NotLikeSign

abbrev pub matcher_kinds : MatchText → List TokenKind → List TokenKind
matcher_kinds m ks = Name m.label ∷ match_kind m.op ∷ TextToken m.text ∷ ks

abbrev pub following_matchers : List MatchText → List TokenKind → List TokenKind
following_matchers [] ks = ks
following_matchers (m ∷ ms) ks = SignToken Comma ∷ matcher_kinds m (following_matchers ms ks)

abbrev pub matchers_kinds : List MatchText → List TokenKind → List TokenKind
matchers_kinds [] ks = ks
matchers_kinds (m ∷ ms) ks = matcher_kinds m (following_matchers ms ks)

abbrev pub braces_kinds : List MatchText → List TokenKind → List TokenKind
braces_kinds ms ks = SignToken LeftBrace ∷ matchers_kinds ms (SignToken RightBrace ∷ ks)

abbrev pub selected_kinds : Option (List ℕ) → List MatchText → List TokenKind → List TokenKind
selected_kinds (Some name) [] ks = Name name ∷ ks
selected_kinds (Some name) (m ∷ ms) ks = Name name ∷ braces_kinds (m ∷ ms) ks
selected_kinds None ms ks = braces_kinds ms ks

-- what follows them
abbrev pub offset_kinds : ℕ → List TokenKind → List TokenKind
offset_kinds ms ks = if ms == 0 then ks else Name (codes "offset") ∷ Duration ms ∷ ks

abbrev pub step_kinds : Option ℕ → List TokenKind → List TokenKind
step_kinds (Some ms) ks = Duration ms ∷ ks
step_kinds None ks = ks

abbrev pub select_kinds : Selector → List TokenKind → List TokenKind
select_kinds s ks = selected_kinds s.name s.matchers (offset_kinds s.offset ks)

abbrev pub span_kinds : ℕ → ℕ → List TokenKind → List TokenKind
span_kinds span offset ks = SignToken LeftBracket ∷ Duration span ∷ SignToken RightBracket ∷ offset_kinds offset ks

abbrev pub sub_kinds : ℕ → Option ℕ → ℕ → List TokenKind → List TokenKind
sub_kinds span step offset ks = SignToken LeftBracket ∷ Duration span ∷ SignToken Colon ∷ step_kinds step (SignToken RightBracket ∷ offset_kinds offset ks)

-- what stands between an operator and its right side
abbrev pub side_kinds : Card → List (List ℕ) → List TokenKind → List TokenKind
side_kinds OneToOne include ks = ks
side_kinds ManyToOne include ks = Name (codes "group_left") ∷ labels_kinds include ks
side_kinds OneToMany include ks = Name (codes "group_right") ∷ labels_kinds include ks

abbrev pub on_kind : Bool → TokenKind
on_kind true = Name (codes "on")
on_kind false = Name (codes "ignoring")

abbrev pub matching_kinds : Option Matching → List TokenKind → List TokenKind
matching_kinds None ks = ks
matching_kinds (Some m) ks = on_kind m.on ∷ labels_kinds m.names (side_kinds m.card m.include ks)

abbrev pub bool_kinds : Bool → List TokenKind → List TokenKind
bool_kinds true ks = Name (codes "bool") ∷ ks
bool_kinds false ks = ks

-- a grouping
abbrev pub by_kinds : Bool → List (List ℕ) → List TokenKind → List TokenKind
by_kinds true [] ks = ks
by_kinds true (n ∷ ns) ks = Name (codes "by") ∷ labels_kinds (n ∷ ns) ks
by_kinds false ns ks = Name (codes "without") ∷ labels_kinds ns ks

-- parentheses round an operation
abbrev pub opening : Bool → List TokenKind → List TokenKind
opening true ks = SignToken LeftParen ∷ ks
opening false ks = ks

abbrev pub closing : Bool → List TokenKind → List TokenKind
closing true ks = SignToken RightParen ∷ ks
closing false ks = ks

-- a comma before an argument that is not the first
abbrev pub comma_kinds : Tree → List TokenKind → List TokenKind
comma_kinds none ks = ks
comma_kinds _ ks = SignToken Comma ∷ ks

abbrev pub tree_kinds : Tree → List TokenKind → List TokenKind
tree_kinds (number p v) ks = number_kinds v ks
tree_kinds (text p t) ks = TextToken t ∷ ks
tree_kinds (select p s) ks = select_kinds s ks
tree_kinds (range p s span) ks = selected_kinds s.name s.matchers (span_kinds span s.offset ks)
tree_kinds (sub p t span step offset) ks = opening (is_operation t) (tree_kinds t (closing (is_operation t) (sub_kinds span step offset ks)))
tree_kinds (neg p t) ks = SignToken Minus ∷ opening (is_operation t) (tree_kinds t (closing (is_operation t) ks))
tree_kinds (binary p o b m l r) ks =
    opening (is_operation l) (tree_kinds l (closing (is_operation l) (op_kind o ∷ bool_kinds b (matching_kinds m (opening (is_operation r) (tree_kinds r (closing (is_operation r) ks)))))))
tree_kinds (call p f ts) ks = Name (func_text f) ∷ SignToken LeftParen ∷ tree_kinds ts (SignToken RightParen ∷ ks)
tree_kinds (aggregate p o g ts) ks = Name (agg_text o) ∷ by_kinds g.by g.names (SignToken LeftParen ∷ tree_kinds ts (SignToken RightParen ∷ ks))
tree_kinds none ks = ks
tree_kinds (more ts t) ks = tree_kinds ts (comma_kinds ts (tree_kinds t ks))
