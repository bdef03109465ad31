-- The text of a printed tree is spelled by the tree's tokens.
use Rattle.std.proofs.Common.{◌≡◌, ℕ, ◌<◌, ◌^◌, ◌/◌, ◌%◌, ◌≤◌, Option, Some, None, Bool, true, false, List, [], ◌∷◌, ◌++◌, length, refl, ap, sym, ◌∙◌, subst, arith, append_assoc}
use Rattle.std.specs.Prelude.{◌==◌, codes, flat_map, if◌then◌else◌, pos, negsuc, decimal}
use Rattle.std.specs.List.{list_all}
use Rattle.std.proofs.lemmas.Bool.Decides.{nat_tests}
use Rattle.std.specs.Char.{is_ascii_digit}
use Rattle.pr_words.specs.Bytes.{is_whitespace}
use Rattle.pr_num.specs.declared.value.Num.{Num}
use Rattle.pr_num.specs.declared.value.Num.TheVariants.{Finite, NaN, PosInf, NegInf}
use Rattle.pr_num.specs.Arithmetic.{IsFit}
use Rattle.pr_num.specs.Shown.{shown, point_text}
use Rattle.pr_time.specs.SpanShown.{part_text, parts_text, shown_span}
use Rattle.pr_words.specs.Quoted.{quoted_text}
use Rattle.pr_ast.specs.Words.{word_text}
use Rattle.pr_ast.specs.declared.lex.words.Word.{Word}
use Rattle.pr_ast.specs.declared.lex.words.Word.TheVariants.{And as AndWord, Or as OrWord, Unless as UnlessWord}
use Rattle.pr_ast.specs.declared.lex.token.TokenKind.{TokenKind}
use Rattle.pr_ast.specs.declared.lex.token.TokenKind.TheVariants.{Name, Duration, Text as TextToken, Sign as SignToken}
use Rattle.pr_ast.specs.declared.lex.token.Sign.{Sign}
use Rattle.pr_ast.specs.declared.lex.token.Sign.TheVariants.{LeftBrace, RightBrace, LeftParen, RightParen, LeftBracket, RightBracket, Comma, Colon, Plus, Minus, Assign, NotEqual as NotEqualSign, Like as LikeSign, NotLike as NotLikeSign, Equal as EqualSign, LessEqual as LessEqualSign, Less as LessSign, GreaterEqual as GreaterEqualSign, Greater as GreaterSign, Star, Slash, Percent}
use Rattle.pr_ast.specs.Bytes.{starts_name}
use Rattle.pr_ast.specs.Signs.{sign_text}
use Rattle.pr_ast.specs.Tokens.{inside_after}
use Rattle.pr_ast.specs.private.Spelled.{Spells, all_spelled, a_blank, begins_blank, begins_other, ends_sign, IsNameText, name_text, ends_name, ends_number, ends_span}
use Rattle.pr_ast.proofs.Spelling.{name_spelled, sign_spelled, both_left}
use Rattle.pr_ast.proofs.SpelledTexts.{text_spelled}
use Rattle.pr_ast.proofs.SpelledNumbers.{printed_spelled, decimal_digits, decimal_some}
use Rattle.pr_ast.proofs.SpelledSpans.{span_spelled, in_a_row}
use Rattle.pr_labels.specs.declared.grouping.Grouping.{Grouping}
use Rattle.pr_labels.specs.declared.matching.Matching.{Matching}
use Rattle.pr_labels.specs.declared.matching.Card.{Card}
use Rattle.pr_labels.specs.declared.matching.Card.TheVariants.{OneToOne, ManyToOne, OneToMany}
use Rattle.pr_ast.specs.declared.place.Place.{Place}
use Rattle.pr_ast.specs.declared.selector.Selector.{Selector}
use Rattle.pr_ast.specs.declared.selector.MatchText.{MatchText}
use Rattle.pr_ast.specs.declared.selector.MatchSign.{MatchSign}
use Rattle.pr_ast.specs.declared.selector.MatchSign.TheVariants.{Equal as EqualMatch, NotEqual as NotEqualMatch, Like as LikeMatch, NotLike as NotLikeMatch}
use Rattle.pr_ast.specs.declared.names.Func.{Func}
use Rattle.pr_ast.specs.declared.names.Func.TheVariants.{Abs}
use Rattle.pr_ast.specs.declared.names.AggOp.{AggOp}
use Rattle.pr_ast.specs.declared.names.BinOp.{BinOp}
use Rattle.pr_ast.specs.declared.names.BinOp.TheVariants.{Or, And, Unless, Equal, NotEqual, LessEqual, Less, GreaterEqual, Greater, Add, Sub as SubOp, Mul, Div, Rem}
use Rattle.pr_ast.specs.Names.{agg_word, agg_text, func_text, op_text}
use Rattle.pr_ast.specs.Tree.{Tree, sub, neg, binary, call, aggregate, none, more}
use Rattle.pr_ast.specs.private.Print.{following_text, names_text, labels_text, match_sign_text, matcher_text, following_matcher, matchers_text, braces_text, selected_text, offset_text, step_text, select_text, range_text, sub_text, side_text, on_text, matching_text, bool_text, by_text, is_operation, enclosed_text, tree_text}
use Rattle.laws_language.specs.private.Kinds.{op_kind, number_kinds, following_names, names_kinds, labels_kinds, match_kind, matcher_kinds, following_matchers, matchers_kinds, braces_kinds, selected_kinds, offset_kinds, step_kinds, select_kinds, span_kinds, sub_kinds, side_kinds, on_kind, matching_kinds, bool_kinds, by_kinds, opening, closing, tree_kinds}
use Rattle.laws_language.proofs.Readable.{IsMetric, metric_name, function_name, AllLabels, AllMatchers, IsSelected, IsOffset, IsSpan, IsStep, IsSelector, IsSide, IsMatched, IsMatching, IsUnsigned, IsReadable, a_number, a_text, a_select, a_range, a_sub, a_neg, a_binary, a_call, an_aggregate, a_parameter, no_args, more_args}

-- a text that goes on no token that stands before it
record Breaks (inside : Bool) (rest : List ℕ) : Type 0 where
  name : ends_name inside rest ≡ true
  number : ends_number rest ≡ true
  span : ends_span rest ≡ true
  assign : begins_other 61 126 rest ≡ true
  compare : begins_other 61 61 rest ≡ true

abbrev K : Type 0
K = List TokenKind → List TokenKind

-- The text is spelled by these tokens before a text that goes on none; and before any text.
record Writes (i j : Bool) (a : List ℕ) (f : K) : Type 0 where
  spells : (rest : List ℕ) (ls : List TokenKind) → Breaks j rest → Spells j rest ls → Spells i (a ++ rest) (f ls)

record Frees (i j : Bool) (a : List ℕ) (f : K) : Type 0 where
  spells : (rest : List ℕ) (ls : List TokenKind) → Spells j rest ls → Spells i (a ++ rest) (f ls)

-- what follows the text goes on none of its tokens; it begins with no blank
abbrev Parts : Bool → Bool → List ℕ → Type 0
Parts j k b = (rest : List ℕ) → Breaks k rest → Breaks j (b ++ rest)

abbrev Firsts : List ℕ → Type 0
Firsts b = (rest : List ℕ) → begins_blank (b ++ rest) ≡ false

freed : {i j : Bool} {a : List ℕ} {f : K} → Frees i j a f → Writes i j a f
freed w = record { spells = λ rest ls k s. w.spells rest ls s }

chain : {i j k : Bool} {a b : List ℕ} {f g : K} → Writes i j a f → Writes j k b g → Parts j k b → Writes i k (a ++ b) (λ ls. f (g ls))
chain {i} {j} {k} {a} {b} {f} {g} w x p = record { spells = λ rest ls e s. subst (λ t. Spells i t (f (g ls))) (sym (append_assoc a b rest)) (w.spells (b ++ rest) (g ls) (p rest e) (x.spells rest ls e s)) }

before : {i j k : Bool} {a b : List ℕ} {f g : K} → Frees i j a f → Writes j k b g → Writes i k (a ++ b) (λ ls. f (g ls))
before {i} {j} {k} {a} {b} {f} {g} w x = record { spells = λ rest ls e s. subst (λ t. Spells i t (f (g ls))) (sym (append_assoc a b rest)) (w.spells (b ++ rest) (g ls) (x.spells rest ls e s)) }

spaced : {j : Bool} {b : List ℕ} {g : K} → Firsts b → Writes false j b g → Writes false j (codes " " ++ b) g
spaced h w = record { spells = λ rest ls e s. a_blank (h rest) (w.spells rest ls e s) }

same_text : {i j : Bool} {a b : List ℕ} {f : K} → a ≡ b → Writes i j a f → Writes i j b f
same_text {i} {j} {a} {b} {f} e w = subst (λ t. Writes i j t f) e w

-- one token
a_sign : (s : Sign) → ((rest : List ℕ) → ends_sign false s rest ≡ true) → inside_after false (SignToken s) ≡ false → Frees false false (sign_text s) (λ ls. SignToken s ∷ ls)
a_sign s e h = record { spells = λ rest ls x. sign_spelled false s rest ls (e rest) (subst (λ b. Spells b rest ls) (sym h) x) }

a_name : {i : Bool} (n : List ℕ) → IsNameText i n → Writes i i n (λ ls. Name n ∷ ls)
a_name {i} n h = record { spells = λ rest ls e s. name_spelled i n rest ls h e.name s }

a_span : {i : Bool} (ms : ℕ) → ms ≤ 2 ^ 40 → Writes i i (shown_span ms) (λ ls. Duration ms ∷ ls)
a_span {i} ms h = record { spells = λ rest ls e s. span_spelled i ms rest ls h e.span s }

a_string : (bytes : List ℕ) → Frees false false (quoted_text bytes) (λ ls. TextToken bytes ∷ ls)
a_string bytes = record { spells = λ rest ls s. text_spelled false bytes rest ls s }

nothing_written : Writes false false [] (λ ls. ls)
nothing_written = record { spells = λ rest ls e s. s }

left_paren : Frees false false (codes "(") (λ ls. SignToken LeftParen ∷ ls)
left_paren = a_sign LeftParen (λ rest. refl) refl

right_paren : Frees false false (codes ")") (λ ls. SignToken RightParen ∷ ls)
right_paren = a_sign RightParen (λ rest. refl) refl

left_brace : Frees false false (codes "{") (λ ls. SignToken LeftBrace ∷ ls)
left_brace = a_sign LeftBrace (λ rest. refl) refl

right_brace : Frees false false (codes "}") (λ ls. SignToken RightBrace ∷ ls)
right_brace = a_sign RightBrace (λ rest. refl) refl

comma : Frees false false (codes ",") (λ ls. SignToken Comma ∷ ls)
comma = a_sign Comma (λ rest. refl) refl

left_bracket : Frees false true (codes "[") (λ ls. SignToken LeftBracket ∷ ls)
left_bracket = record { spells = λ rest ls s. sign_spelled false LeftBracket rest ls refl s }

right_bracket : Frees true false (codes "]") (λ ls. SignToken RightBracket ∷ ls)
right_bracket = record { spells = λ rest ls s. sign_spelled true RightBracket rest ls refl s }

colon : Frees true true (codes ":") (λ ls. SignToken Colon ∷ ls)
colon = record { spells = λ rest ls s. sign_spelled true Colon rest ls refl s }

-- what bytes go on no token
breaks_end : Breaks false []
breaks_end = record { name = refl; number = refl; span = refl; assign = refl; compare = refl }

breaks_blank : (rest : List ℕ) → Breaks false (32 ∷ rest)
breaks_blank rest = record { name = refl; number = refl; span = refl; assign = refl; compare = refl }

breaks_comma : (rest : List ℕ) → Breaks false (44 ∷ rest)
breaks_comma rest = record { name = refl; number = refl; span = refl; assign = refl; compare = refl }

breaks_left : (rest : List ℕ) → Breaks false (40 ∷ rest)
breaks_left rest = record { name = refl; number = refl; span = refl; assign = refl; compare = refl }

breaks_right : (rest : List ℕ) → Breaks false (41 ∷ rest)
breaks_right rest = record { name = refl; number = refl; span = refl; assign = refl; compare = refl }

breaks_brace : (rest : List ℕ) → Breaks false (123 ∷ rest)
breaks_brace rest = record { name = refl; number = refl; span = refl; assign = refl; compare = refl }

breaks_end_brace : (rest : List ℕ) → Breaks false (125 ∷ rest)
breaks_end_brace rest = record { name = refl; number = refl; span = refl; assign = refl; compare = refl }

breaks_bracket : (rest : List ℕ) → Breaks false (91 ∷ rest)
breaks_bracket rest = record { name = refl; number = refl; span = refl; assign = refl; compare = refl }

breaks_end_bracket : (rest : List ℕ) → Breaks true (93 ∷ rest)
breaks_end_bracket rest = record { name = refl; number = refl; span = refl; assign = refl; compare = refl }

breaks_colon : (rest : List ℕ) → Breaks true (58 ∷ rest)
breaks_colon rest = record { name = refl; number = refl; span = refl; assign = refl; compare = refl }

-- what begins with no blank
no_blank_starts : (b : ℕ) → starts_name false b ≡ true → is_whitespace b ≡ false
no_blank_starts b h = grind (arith, nat_tests)

no_blank_digit : (b : ℕ) → is_ascii_digit b ≡ true → is_whitespace b ≡ false
no_blank_digit b h = grind (arith, nat_tests)

name_first : {n : List ℕ} → IsNameText false n → Firsts n
name_first (name_text {b} {bs} h e) rest = no_blank_starts b h

digits_first : (ds after : List ℕ) → 0 < length ds → list_all is_ascii_digit ds ≡ true → Firsts (ds ++ after)
digits_first [] after s d rest = absurd (omega arith)
digits_first (c ∷ ds) after s d rest = no_blank_digit c (both_left (is_ascii_digit c) (list_all is_ascii_digit ds) d)

number_first : (n : ℕ) → IsFit (Finite (pos n)) → Firsts (shown (Finite (pos n)))
unfolding shown
number_first n h =
    let small : n / 10 ^ 9 < 10 ^ 64 = omega arith in
    digits_first (decimal (n / 10 ^ 9)) (point_text (n % 10 ^ 9)) (decimal_some (n / 10 ^ 9) small) (decimal_digits (n / 10 ^ 9) small)

after_first : (a b : List ℕ) → Firsts a → Firsts (a ++ b)
after_first a b h rest = ap begins_blank (append_assoc a b rest) ∙ h (b ++ rest)

-- numbers
plus_sign : Frees false false (codes "+") (λ ls. SignToken Plus ∷ ls)
plus_sign = a_sign Plus (λ rest. refl) refl

minus_sign : Frees false false (codes "-") (λ ls. SignToken Minus ∷ ls)
minus_sign = a_sign Minus (λ rest. refl) refl

number_writes : (v : Num) → IsUnsigned v → Writes false false (shown v) (λ ls. number_kinds v ls)
unfolding shown
number_writes (Finite (pos n)) h = record { spells = λ rest ls e s. printed_spelled false n rest ls h e.number s }
number_writes (Finite (negsuc n)) h = absurd h
number_writes NaN h = a_name (codes "NaN") (name_text refl refl)
number_writes PosInf h = before plus_sign (a_name (codes "Inf") (name_text refl refl))
number_writes NegInf h = absurd h

number_starts : (v : Num) → IsUnsigned v → Firsts (shown v)
unfolding shown
number_starts (Finite (pos n)) h = number_first n h
number_starts (Finite (negsuc n)) h = absurd h
number_starts NaN h = λ rest. refl
number_starts PosInf h = λ rest. refl
number_starts NegInf h = absurd h

-- names in parentheses
following_parts : (ns : List (List ℕ)) → Parts false false (flat_map following_text ns)
following_parts [] rest k = k
following_parts (n ∷ ns) rest k = breaks_comma _

following_writes : (ns : List (List ℕ)) → AllLabels ns → Writes false false (flat_map following_text ns) (λ ls. following_names ns ls)
following_writes [] h = nothing_written
following_writes (n ∷ ns) h = before comma (spaced (after_first n (flat_map following_text ns) (name_first h.0.name)) (chain (a_name n h.0.name) (following_writes ns h.1) (following_parts ns)))

names_writes : (ns : List (List ℕ)) → AllLabels ns → Writes false false (names_text ns) (λ ls. names_kinds ns ls)
names_writes [] h = nothing_written
names_writes (n ∷ ns) h = chain (a_name n h.0.name) (following_writes ns h.1) (following_parts ns)

labels_writes : (ns : List (List ℕ)) → AllLabels ns → Writes false false (labels_text ns) (λ ls. labels_kinds ns ls)
labels_writes ns h = before left_paren (chain (names_writes ns h) (freed right_paren) (λ rest k. breaks_right rest))

-- matchers in braces
match_writes : (s : MatchSign) (bytes : List ℕ) → Writes false false (match_sign_text s ++ quoted_text bytes) (λ ls. match_kind s ∷ TextToken bytes ∷ ls)
match_writes EqualMatch bytes = record { spells = λ rest ls e s. sign_spelled false Assign (quoted_text bytes ++ rest) (TextToken bytes ∷ ls) refl (text_spelled false bytes rest ls s) }
match_writes NotEqualMatch bytes = before (a_sign NotEqualSign (λ rest. refl) refl) (freed (a_string bytes))
match_writes LikeMatch bytes = before (a_sign LikeSign (λ rest. refl) refl) (freed (a_string bytes))
match_writes NotLikeMatch bytes = before (a_sign NotLikeSign (λ rest. refl) refl) (freed (a_string bytes))

match_parts : (s : MatchSign) (bytes rest : List ℕ) → ends_name false ((match_sign_text s ++ quoted_text bytes) ++ rest) ≡ true
match_parts EqualMatch bytes rest = refl
match_parts NotEqualMatch bytes rest = refl
match_parts LikeMatch bytes rest = refl
match_parts NotLikeMatch bytes rest = refl

matcher_writes : (m : MatchText) → IsNameText false m.label → Writes false false (matcher_text m) (λ ls. matcher_kinds m ls)
matcher_writes m h = record {
  spells = λ rest ls e s.
      let w = match_writes m.op m.text in
      let t = match_sign_text m.op ++ quoted_text m.text in
      subst (λ x. Spells false x (matcher_kinds m ls)) (sym (append_assoc m.label t rest)) (name_spelled false m.label (t ++ rest) (match_kind m.op ∷ TextToken m.text ∷ ls) h (match_parts m.op m.text rest) (w.spells rest ls e s));
}

matchers_parts : (ms : List MatchText) → Parts false false (flat_map following_matcher ms)
matchers_parts [] rest k = k
matchers_parts (m ∷ ms) rest k = breaks_comma _

matcher_first : (m : MatchText) → IsNameText false m.label → Firsts (matcher_text m)
matcher_first m h = after_first m.label (match_sign_text m.op ++ quoted_text m.text) (name_first h)

more_matchers_write : (named : Bool) (ms : List MatchText) → AllMatchers named ms → Writes false false (flat_map following_matcher ms) (λ ls. following_matchers ms ls)
more_matchers_write named [] h = nothing_written
more_matchers_write named (m ∷ ms) h =
    before comma (spaced (after_first (matcher_text m) (flat_map following_matcher ms) (matcher_first m h.0.name)) (chain (matcher_writes m h.0.name) (more_matchers_write named ms h.1) (matchers_parts ms)))

matchers_write : (named : Bool) (ms : List MatchText) → AllMatchers named ms → Writes false false (matchers_text ms) (λ ls. matchers_kinds ms ls)
matchers_write named [] h = nothing_written
matchers_write named (m ∷ ms) h = chain (matcher_writes m h.0.name) (more_matchers_write named ms h.1) (matchers_parts ms)

braces_write : (named : Bool) (ms : List MatchText) → AllMatchers named ms → Writes false false (braces_text ms) (λ ls. braces_kinds ms ls)
braces_write named ms h = before left_brace (chain (matchers_write named ms h) (freed right_brace) (λ rest k. breaks_end_brace rest))

metric_text : {n : List ℕ} → IsMetric n → IsNameText false n
metric_text (metric_name t e) = t
metric_text (function_name f t e) = t

selected_write : (name : Option (List ℕ)) (ms : List MatchText) → IsSelected name ms → Writes false false (selected_text name ms) (λ ls. selected_kinds name ms ls)
selected_write None ms h = braces_write false ms h
selected_write (Some n) [] h = a_name n (metric_text h.0)
selected_write (Some n) (m ∷ ms) h = chain (a_name n (metric_text h.0)) (braces_write true (m ∷ ms) h.1) (λ rest k. breaks_brace _)

selected_first : (name : Option (List ℕ)) (ms : List MatchText) → IsSelected name ms → Firsts (selected_text name ms)
selected_first None ms h = λ rest. refl
selected_first (Some n) [] h = name_first (metric_text h.0)
selected_first (Some n) (m ∷ ms) h = after_first n (braces_text (m ∷ ms)) (name_first (metric_text h.0))

-- what follows them
offset_word : IsNameText false (codes "offset")
offset_word = name_text refl refl

part_first : (n : ℕ) (unit after : List ℕ) → n < 10 ^ 64 → (n ≡ 0 → begins_blank after ≡ false) → (b : Bool) → n == 0 ≡ b → begins_blank (part_text n unit ++ after) ≡ false
part_first n unit after small again true e = rw e (again (grind (arith, nat_tests)))
part_first n unit after small again false e = rw e (digits_first (decimal n) unit (decimal_some n small) (decimal_digits n small) after)

parts_first : (ms : ℕ) (rest : List ℕ) → ms ≤ 2 ^ 40 → 0 < ms → begins_blank (parts_text ms ++ rest) ≡ false
parts_first ms rest small some =
    let days = ms / 86400000 in let hours = ms % 86400000 / 3600000 in let minutes = ms % 3600000 / 60000 in let seconds = ms % 60000 / 1000 in let left = ms % 1000 in
    subst (λ t. begins_blank t ≡ false)
    (sym (in_a_row (part_text days (codes "d")) (part_text hours (codes "h")) (part_text minutes (codes "m")) (part_text seconds (codes "s")) (part_text left (codes "ms")) rest))
    (part_first days (codes "d") _ (omega arith) (λ d.
    part_first hours (codes "h") _ (omega arith) (λ h.
    part_first minutes (codes "m") _ (omega arith) (λ m.
    part_first seconds (codes "s") _ (omega arith) (λ s.
    part_first left (codes "ms") rest (omega arith) (λ z. absurd (omega (arith, d, h, m, s, z))) (left == 0) refl)
    (seconds == 0) refl)
    (minutes == 0) refl)
    (hours == 0) refl)
    (days == 0) refl)

shown_by : (ms : ℕ) (rest : List ℕ) (b : Bool) → ms ≤ 2 ^ 40 → ms == 0 ≡ b → begins_blank (shown_span ms ++ rest) ≡ false
shown_by ms rest true h e = rw e refl
shown_by ms rest false h e = rw e (parts_first ms rest h (grind (arith, nat_tests)))

shown_first : (ms : ℕ) → ms ≤ 2 ^ 40 → Firsts (shown_span ms)
shown_first ms h rest = shown_by ms rest (ms == 0) h refl

offset_by : (ms : ℕ) (z : Bool) → ms ≤ 2 ^ 40 → Writes false false (if z then [] else codes " offset " ++ shown_span ms) (λ ls. if z then ls else Name (codes "offset") ∷ Duration ms ∷ ls)
offset_by ms true h = nothing_written
offset_by ms false h = spaced (λ rest. refl) (chain (a_name (codes "offset") offset_word) (spaced (shown_first ms h) (a_span ms h)) (λ rest k. breaks_blank _))

offset_writes : (ms : ℕ) → ms ≤ 2 ^ 40 → Writes false false (offset_text ms) (λ ls. offset_kinds ms ls)
offset_writes ms h = offset_by ms (ms == 0) h

offset_breaks : (ms : ℕ) (z : Bool) → Parts false false (if z then [] else codes " offset " ++ shown_span ms)
offset_breaks ms true rest k = k
offset_breaks ms false rest k = breaks_blank _

offset_parts : (ms : ℕ) → Parts false false (offset_text ms)
offset_parts ms = offset_breaks ms (ms == 0)

select_writes : (s : Selector) → IsSelector s → Writes false false (select_text s) (λ ls. select_kinds s ls)
select_writes s h = chain (selected_write s.name s.matchers h.selected) (offset_writes s.offset h.offset) (offset_parts s.offset)

select_first : (s : Selector) → IsSelector s → Firsts (select_text s)
select_first s h = after_first (selected_text s.name s.matchers) (offset_text s.offset) (selected_first s.name s.matchers h.selected)

closed_span : (offset : ℕ) → IsOffset offset → Writes true false (codes "]" ++ offset_text offset) (λ ls. SignToken RightBracket ∷ offset_kinds offset ls)
closed_span offset h = before right_bracket (offset_writes offset h)

range_writes : (s : Selector) (span : ℕ) → IsSelector s → IsSpan span → Writes false false (range_text s span) (λ ls. selected_kinds s.name s.matchers (span_kinds span s.offset ls))
range_writes s span h w =
    chain (selected_write s.name s.matchers h.selected) (before left_bracket (chain (a_span span w.fits) (closed_span s.offset h.offset) (λ rest k. breaks_end_bracket _))) (λ rest k. breaks_bracket _)

range_first : (s : Selector) (span : ℕ) → IsSelector s → Firsts (range_text s span)
range_first s span h = after_first (selected_text s.name s.matchers) (codes "[" ++ (shown_span span ++ (codes "]" ++ offset_text s.offset))) (selected_first s.name s.matchers h.selected)

step_writes : (step : Option ℕ) (offset : ℕ) → IsStep step → IsOffset offset → Writes true false (step_text step ++ (codes "]" ++ offset_text offset)) (λ ls. step_kinds step (SignToken RightBracket ∷ offset_kinds offset ls))
step_writes None offset h o = closed_span offset o
step_writes (Some ms) offset h o = chain (a_span ms h.fits) (closed_span offset o) (λ rest k. breaks_end_bracket _)

sub_writes : (span : ℕ) (step : Option ℕ) (offset : ℕ) → IsSpan span → IsStep step → IsOffset offset → Writes false false (sub_text span step offset) (λ ls. sub_kinds span step offset ls)
sub_writes span step offset w h o = before left_bracket (chain (a_span span w.fits) (before colon (step_writes step offset h o)) (λ rest k. breaks_colon _))

-- what stands between an operator and its right side, with that
side_writes : (card : Card) (include : List (List ℕ)) (tail : List ℕ) (g : K) → IsSide card include → Writes false false (codes " " ++ tail) g → Writes false false (side_text card include ++ (codes " " ++ tail)) (λ ls. side_kinds card include (g ls))
side_writes OneToOne include tail g h w = w
side_writes ManyToOne include tail g h w =
    spaced (λ rest. refl) (chain (a_name (codes "group_left") (name_text refl refl)) (spaced (λ rest. refl) (chain (labels_writes include h) w (λ rest k. breaks_blank _))) (λ rest k. breaks_blank _))
side_writes OneToMany include tail g h w =
    spaced (λ rest. refl) (chain (a_name (codes "group_right") (name_text refl refl)) (spaced (λ rest. refl) (chain (labels_writes include h) w (λ rest k. breaks_blank _))) (λ rest k. breaks_blank _))

side_parts : (card : Card) (include : List (List ℕ)) (tail : List ℕ) → Parts false false (side_text card include ++ (codes " " ++ tail))
side_parts OneToOne include tail rest k = breaks_blank _
side_parts ManyToOne include tail rest k = breaks_blank _
side_parts OneToMany include tail rest k = breaks_blank _

on_word : (on : Bool) {b : List ℕ} {g : K} → Writes false false b g → Firsts b → Writes false false (on_text on ++ b) (λ ls. on_kind on ∷ g ls)
on_word true w f = spaced (λ rest. refl) (chain (a_name (codes "on") (name_text refl refl)) (spaced f w) (λ rest k. breaks_blank _))
on_word false w f = spaced (λ rest. refl) (chain (a_name (codes "ignoring") (name_text refl refl)) (spaced f w) (λ rest k. breaks_blank _))

matched_writes : (m : Matching) (tail : List ℕ) (g : K) → IsMatched m → Writes false false (codes " " ++ tail) g → Writes false false (matching_text (Some m) ++ (codes " " ++ tail)) (λ ls. matching_kinds (Some m) (g ls))
matched_writes m tail g h w =
    let s = side_writes m.card m.include tail g h.side w in
    let a : Writes false false (on_text m.on ++ (labels_text m.names ++ (side_text m.card m.include ++ (codes " " ++ tail)))) (λ ls. on_kind m.on ∷ labels_kinds m.names (side_kinds m.card m.include (g ls))) =
    on_word m.on (chain (labels_writes m.names h.names) s (side_parts m.card m.include tail)) (λ rest. refl) in
    same_text (shifted (on_text m.on) (labels_text m.names) (side_text m.card m.include) (codes " " ++ tail)) a
  where
    shifted : (a b c d : List ℕ) → a ++ (b ++ (c ++ d)) ≡ (a ++ (b ++ c)) ++ d
    shifted a b c d = ap (λ t. a ++ t) (sym (append_assoc b c d)) ∙ sym (append_assoc a (b ++ c) d)

matching_writes : (m : Option Matching) (tail : List ℕ) (g : K) → IsMatching m → Writes false false (codes " " ++ tail) g → Writes false false (matching_text m ++ (codes " " ++ tail)) (λ ls. matching_kinds m (g ls))
matching_writes None tail g h w = w
matching_writes (Some m) tail g h w = matched_writes m tail g h w

on_breaks : (on : Bool) (b : List ℕ) → Parts false false (on_text on ++ b)
on_breaks true b rest k = breaks_blank _
on_breaks false b rest k = breaks_blank _

matching_parts : (m : Option Matching) (tail : List ℕ) → Parts false false (matching_text m ++ (codes " " ++ tail))
matching_parts None tail rest k = breaks_blank _
matching_parts (Some m) tail rest k = parted m.on (labels_text m.names ++ side_text m.card m.include) (codes " " ++ tail) rest k
  where
    parted : (on : Bool) (b c : List ℕ) → Parts false false ((on_text on ++ b) ++ c)
    parted true b c rest k = breaks_blank _
    parted false b c rest k = breaks_blank _

bool_writes : (b : Bool) (tail : List ℕ) (g : K) → Writes false false tail g → Parts false false tail → Writes false false (bool_text b ++ tail) (λ ls. bool_kinds b (g ls))
bool_writes true tail g w p = spaced (λ rest. refl) (chain (a_name (codes "bool") (name_text refl refl)) w p)
bool_writes false tail g w p = w

bool_parts : (b : Bool) (tail : List ℕ) → Parts false false tail → Parts false false (bool_text b ++ tail)
bool_parts true tail p rest k = breaks_blank _
bool_parts false tail p rest k = p rest k

word_is_name : (w : Word) → IsNameText false (word_text w)
unfolding word_text
word_is_name AndWord = name_text refl refl
word_is_name _ = name_text refl refl

op_writes : (o : BinOp) → Writes false false (op_text o) (λ ls. op_kind o ∷ ls)
unfolding op_text
op_writes Or = a_name (word_text OrWord) (word_is_name OrWord)
op_writes And = a_name (word_text AndWord) (word_is_name AndWord)
op_writes Unless = a_name (word_text UnlessWord) (word_is_name UnlessWord)
op_writes Equal = freed (a_sign EqualSign (λ rest. refl) refl)
op_writes NotEqual = freed (a_sign NotEqualSign (λ rest. refl) refl)
op_writes LessEqual = freed (a_sign LessEqualSign (λ rest. refl) refl)
op_writes Less = record { spells = λ rest ls e s. sign_spelled false LessSign rest ls e.compare s }
op_writes GreaterEqual = freed (a_sign GreaterEqualSign (λ rest. refl) refl)
op_writes Greater = record { spells = λ rest ls e s. sign_spelled false GreaterSign rest ls e.compare s }
op_writes Add = freed (a_sign Plus (λ rest. refl) refl)
op_writes SubOp = freed (a_sign Minus (λ rest. refl) refl)
op_writes Mul = freed (a_sign Star (λ rest. refl) refl)
op_writes Div = freed (a_sign Slash (λ rest. refl) refl)
op_writes Rem = freed (a_sign Percent (λ rest. refl) refl)

op_first : (o : BinOp) → Firsts (op_text o)
unfolding op_text
op_first Or = name_first (word_is_name OrWord)
op_first And = name_first (word_is_name AndWord)
op_first Unless = name_first (word_is_name UnlessWord)
op_first Equal = λ rest. refl
op_first NotEqual = λ rest. refl
op_first LessEqual = λ rest. refl
op_first Less = λ rest. refl
op_first GreaterEqual = λ rest. refl
op_first Greater = λ rest. refl
op_first Add = λ rest. refl
op_first SubOp = λ rest. refl
op_first Mul = λ rest. refl
op_first Div = λ rest. refl
op_first Rem = λ rest. refl

-- What is known of an expression: it is spelled by its tokens, and begins with no blank.
record IsWritten (t : Tree) : Type 0 where
  writes : Writes false false (tree_text t) (λ ls. tree_kinds t ls)
  first : Firsts (tree_text t)

-- parentheses round an operation
enclosed_by : (b : Bool) (t : Tree) → IsWritten t → Writes false false (enclosed_text b (tree_text t)) (λ ls. opening b (tree_kinds t (closing b ls)))
enclosed_by true t h = before left_paren (chain h.writes (freed right_paren) (λ rest k. breaks_right rest))
enclosed_by false t h = h.writes

enclosed_first : (b : Bool) (t : Tree) → IsWritten t → Firsts (enclosed_text b (tree_text t))
enclosed_first true t h = λ rest. refl
enclosed_first false t h = h.first

binary_writes : (o : BinOp) (b : Bool) (m : Option Matching) (l r : Tree) (p : Place) → IsMatching m → IsWritten l → IsWritten r → IsWritten (binary p o b m l r)
binary_writes o b m l r p h i j =
    let right = enclosed_text (is_operation r) (tree_text r) in
    let end : K = λ ls. opening (is_operation r) (tree_kinds r (closing (is_operation r) ls)) in
    let w : Writes false false (codes " " ++ right) end = spaced (enclosed_first (is_operation r) r j) (enclosed_by (is_operation r) r j) in
    let matched = matching_writes m right end h w in
    let flagged = bool_writes b (matching_text m ++ (codes " " ++ right)) (λ ls. matching_kinds m (end ls)) matched (matching_parts m right) in
    let turned = chain (op_writes o) flagged (bool_parts b (matching_text m ++ (codes " " ++ right)) (matching_parts m right)) in
    let rest = codes " " ++ (op_text o ++ (bool_text b ++ (matching_text m ++ (codes " " ++ right)))) in
    record {
      writes = chain (enclosed_by (is_operation l) l i) (spaced (after_first (op_text o) (bool_text b ++ (matching_text m ++ (codes " " ++ right))) (op_first o)) turned) (λ rest k. breaks_blank _);
      first = after_first (enclosed_text (is_operation l) (tree_text l)) rest (enclosed_first (is_operation l) l i);
    }

neg_writes : (p : Place) (t : Tree) → IsWritten t → IsWritten (neg p t)
neg_writes p t h = record { writes = before minus_sign (enclosed_by (is_operation t) t h); first = λ rest. refl }

subquery_writes : (p : Place) (t : Tree) (span : ℕ) (step : Option ℕ) (offset : ℕ) → IsSpan span → IsStep step → IsOffset offset → IsWritten t → IsWritten (sub p t span step offset)
subquery_writes p t span step offset w s o h = record {
  writes = chain (enclosed_by (is_operation t) t h) (sub_writes span step offset w s o) (λ rest k. breaks_bracket _);
  first = after_first (enclosed_text (is_operation t) (tree_text t)) (sub_text span step offset) (enclosed_first (is_operation t) t h);
}

-- calls
func_is_name : (f : Func) → IsNameText false (func_text f)
unfolding func_text
func_is_name Abs = name_text refl refl
func_is_name _ = name_text refl refl

abbrev Arguments : Tree → Type 0
Arguments ts = Writes false false (tree_text ts) (λ ls. tree_kinds ts ls)

closed_arguments : (ts : Tree) → Arguments ts → Writes false false (codes "(" ++ (tree_text ts ++ codes ")")) (λ ls. SignToken LeftParen ∷ tree_kinds ts (SignToken RightParen ∷ ls))
closed_arguments ts h = before left_paren (chain h (freed right_paren) (λ rest k. breaks_right rest))

call_writes : (p : Place) (f : Func) (ts : Tree) → Arguments ts → IsWritten (call p f ts)
call_writes p f ts h = record {
  writes = chain (a_name (func_text f) (func_is_name f)) (closed_arguments ts h) (λ rest k. breaks_left _);
  first = after_first (func_text f) (codes "(" ++ (tree_text ts ++ codes ")")) (name_first (func_is_name f));
}

args_write : {ts : Tree} (t : Tree) → IsReadable false ts → Arguments ts → IsWritten t → Arguments (more ts t)
args_write t no_args a h = h.writes
args_write t (more_args {ts = us} {t = u} x y) a h = chain a (before comma (spaced h.first h.writes)) (λ rest k. breaks_comma _)

-- aggregations
by_writes : (by : Bool) (ns : List (List ℕ)) (b : List ℕ) (g : K) → AllLabels ns → Firsts b → Writes false false b g → Parts false false b → Writes false false (by_text by ns ++ b) (λ ls. by_kinds by ns (g ls))
by_writes true [] b g h f w p = w
by_writes true (n ∷ ns) b g h f w p =
    same_text (ap (λ t. codes " by " ++ t) (sym (append_assoc (labels_text (n ∷ ns)) (codes " ") b)))
    (spaced (λ rest. refl) (chain (a_name (codes "by") (name_text refl refl)) (spaced (λ rest. refl) (chain (labels_writes (n ∷ ns) h) (spaced f w) (λ rest k. breaks_blank _))) (λ rest k. breaks_blank _)))
by_writes false ns b g h f w p =
    same_text (ap (λ t. codes " without " ++ t) (sym (append_assoc (labels_text ns) (codes " ") b)))
    (spaced (λ rest. refl) (chain (a_name (codes "without") (name_text refl refl)) (spaced (λ rest. refl) (chain (labels_writes ns h) (spaced f w) (λ rest k. breaks_blank _))) (λ rest k. breaks_blank _)))

by_parts : (by : Bool) (ns : List (List ℕ)) (b : List ℕ) → Parts false false b → Parts false false (by_text by ns ++ b)
by_parts true [] b p rest k = p rest k
by_parts true (n ∷ ns) b p rest k = breaks_blank _
by_parts false ns b p rest k = breaks_blank _

aggregate_writes : (p : Place) (o : AggOp) (g : Grouping) (ts : Tree) → AllLabels g.names → Arguments ts → IsWritten (aggregate p o g ts)
aggregate_writes p o g ts h a =
    let tail = codes "(" ++ (tree_text ts ++ codes ")") in
    let end : K = λ ls. SignToken LeftParen ∷ tree_kinds ts (SignToken RightParen ∷ ls) in
    let name = word_is_name (agg_word o) in
    record {
      writes = chain (a_name (agg_text o) name) (by_writes g.by g.names tail end h (λ rest. refl) (closed_arguments ts a) (λ rest k. breaks_left _)) (by_parts g.by g.names tail (λ rest k. breaks_left _));
      first = after_first (agg_text o) (by_text g.by g.names ++ tail) (name_first name);
    }

abbrev Written : Bool → Tree → Type 0
Written true t = IsWritten t
Written false ts = Arguments ts

written : {b : Bool} {t : Tree} → IsReadable b t → Written b t
written (a_number {p} {v} h) = record { writes = number_writes v h; first = number_starts v h }
written (a_text {p} {t}) = record { writes = freed (a_string t); first = λ rest. refl }
written (a_select {p} {s} h) = record { writes = select_writes s h; first = select_first s h }
written (a_range {p} {s} {span} h w) = record { writes = range_writes s span h w; first = range_first s span h }
written (a_sub {p} {t} {span} {offset} {step} w s o h) = subquery_writes p t span step offset w s o (written h)
written (a_neg {p} {t} h) = neg_writes p t (written h)
written (a_binary {p} {o} {b} {m} {l} {r} n h k) = binary_writes o b m l r p n (written h) (written k)
written (a_call {p} {f} {ts} h) = call_writes p f ts (written h)
written (an_aggregate {p} {o} {g} {t} n h) = let i = written h in aggregate_writes p o g (more none t) n (args_write t no_args nothing_written i)
written (a_parameter {p} {o} {g} {t} {u} n h k) =
    let i = written h in let j = written k in
    aggregate_writes p o g (more (more none t) u) n (args_write u (more_args no_args h) (args_write t no_args nothing_written i) j)
written no_args = nothing_written
written (more_args {ts} {t} h k) = args_write t h (written h) (written k)

pub tree_spelled : (t : Tree) → IsReadable true t → Spells false (tree_text t ++ []) (tree_kinds t [])
tree_spelled t h = let w = written h in w.writes.spells [] [] breaks_end all_spelled
