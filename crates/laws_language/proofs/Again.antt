-- From the tokens of printed texts to parsing.
use Rattle.std.proofs.Common.{◌≡◌, ℕ, ◌+◌, ◌≤◌, max, true, false, List, [], ◌∷◌, map, length, refl, ap, sym, ◌∙◌, subst, arith}
use Rattle.std.specs.Prelude.{Result, Ok, Err}
use Rattle.pr_ast.specs.private.Spaced.{kinds}
use Rattle.pr_ast.specs.declared.lex.token.Token.{Token}
use Rattle.pr_ast.specs.Tokens.{HasTokens}
use Rattle.pr_ast.proofs.LexedLaws.{tokens_both}
use Rattle.pr_ast.specs.Tree.{Tree}
use Rattle.pr_ast.specs.private.Places.{IsSameButPlaces}
use Rattle.pr_ast.specs.private.Print.{tree_text}
use Rattle.pr_parse.specs.Seen.{seen_tokens, kinds_seen, kind_of}
use Rattle.pr_parse.specs.GrammarWhole.{Derives}
use Rattle.pr_parse.specs.Deep.{depth, fresh, after_kinds}
use Rattle.pr_parse.specs.Parsed.{parsed, parsed_lexed, gives_tree}
use Rattle.pr_parse.proofs.ParsedLaws.{tree_given}
use Rattle.pr_parse.specs.pr_types.declared.kind.ValueType.{ValueType}
use Rattle.pr_parse.specs.pr_types.declared.kind.TypeFault.{TypeFault}
use Rattle.pr_parse.specs.pr_types.Typed.{typed, checked, go_on, whole}
use Rattle.laws_language.specs.private.Kinds.{tree_kinds}
use Rattle.laws_language.proofs.Readable.{IsReadable}
use Rattle.laws_language.proofs.Origins.{derived_readable}
use Rattle.laws_language.proofs.Printed.{has_kinds, has_tree}
use Rattle.laws_language.proofs.Heights.{total, depth_total}
use Rattle.laws_language.proofs.Added.{part}
use Rattle.laws_language.proofs.Bounded.{printed}
use Rattle.laws_language.specs.private.TreeHeight.{tree_height}
use Rattle.laws_language.specs.private.Shallow.{IsShallow}

tree_of_text : (text : List ℕ) (tokens : List Token) (u : Tree) → HasTokens text tokens → Derives (seen_tokens tokens) u → depth (kinds_seen (seen_tokens tokens)) ≤ 100 → parsed text ≡ gives_tree u
unfolding parsed
tree_of_text text tokens u h d low = ap (parsed_lexed (length text)) ((tokens_both text tokens).1 h) ∙ tree_given (length text) (seen_tokens tokens) u d low

pub parsed_again : (text : List ℕ) (tokens : List Token) (t : Tree) → HasTokens text tokens → Derives (seen_tokens tokens) t → IsShallow (tree_text t) →
    (u : Tree) × ((parsed (tree_text t) ≡ gives_tree u) × IsSameButPlaces u t)
parsed_again text tokens t h d s =
    let x = has_tree text tokens s.tokens t h d s.has in
    (x.0, (tree_of_text (tree_text t) s.tokens x.0 s.has x.1.0 s.low, x.1.1))

-- the kinds of tokens
same_kinds : (ts : List Token) → kinds_seen (seen_tokens ts) ≡ map kind_of (kinds ts)
same_kinds [] = refl
same_kinds (t ∷ ts) = ap (λ ks. kind_of t.kind ∷ ks) (same_kinds ts)

-- the depth of a printed text
printed_depth : (t : Tree) (v : ValueType) → IsReadable true t → typed t ≡ Ok v → tree_height t ≤ 34 → depth (map kind_of (tree_kinds t [])) ≤ 100
printed_depth t v h e n =
    let x = printed t v h e in
    let a = depth_total (fresh false ∷ []) (map kind_of (tree_kinds t [])) in
    let b : total 0 (after_kinds (fresh false ∷ []) (map kind_of (tree_kinds t []))) ≡ total 0 (part (0 + x.operators) (max 0 x.closed) ∷ []) = ap (total 0) (x.adds.does 0 0 [] []) in
    let low = x.low in
    omega (arith, a, b, low, n)

pub typed_shallow : (text : List ℕ) (tokens : List Token) (t : Tree) (v : ValueType) → HasTokens text tokens → Derives (seen_tokens tokens) t → typed t ≡ Ok v → tree_height t ≤ 34 → IsShallow (tree_text t)
typed_shallow text tokens t v h d e n =
    let x = has_kinds text tokens t h d in
    let same : kinds_seen (seen_tokens x.0) ≡ map kind_of (tree_kinds t []) = same_kinds x.0 ∙ ap (map kind_of) x.1.1 in
    record { tokens = x.0; has = x.1.0; low = subst (λ ks. depth ks ≤ 100) (sym same) (printed_depth t v (derived_readable text tokens t h d) e n) }

checked_typed : (r : Result ValueType TypeFault) (t : Tree) (v : ValueType) → go_on (whole t) r ≡ Ok v → (w : ValueType) × (r ≡ Ok w)
checked_typed (Ok w) t v e = (w, refl)
checked_typed (Err f) t v e = absurd (cc)

pub checked_shallow : (text : List ℕ) (tokens : List Token) (t : Tree) (v : ValueType) → HasTokens text tokens → Derives (seen_tokens tokens) t → checked t ≡ Ok v → tree_height t ≤ 34 → IsShallow (tree_text t)
checked_shallow text tokens t v h d e n = let x = checked_typed (typed t) t v e in typed_shallow text tokens t x.0 h d x.1 n
