-- Printed trees have their tokens, and are read again.
use Rattle.std.proofs.Common.{◌≡◌, ℕ, List, [], true, refl, ◌∷◌, ap, sym, ◌∙◌, map, subst}
use Rattle.pr_ast.specs.declared.lex.token.Token.{Token}
use Rattle.pr_ast.specs.declared.lex.token.TokenKind.{TokenKind}
use Rattle.pr_ast.specs.Tokens.{HasTokens}
use Rattle.pr_ast.specs.private.Spaced.{kinds}
use Rattle.pr_ast.specs.Tree.{Tree}
use Rattle.pr_ast.specs.private.Places.{IsSameButPlaces, forget, nowhere}
use Rattle.pr_ast.specs.private.Print.{tree_text}
use Rattle.pr_parse.specs.Seen.{seen_tokens}
use Rattle.pr_parse.specs.GrammarWhole.{Derives}
use Rattle.laws_language.specs.private.Kinds.{tree_kinds}
use Rattle.laws_language.proofs.Readable.{IsReadable}
use Rattle.pr_ast.proofs.Forgotten.{forget_again}
use Rattle.pr_forms.specs.Form.{rule, Reads}
use Rattle.pr_parse.specs.Grammar.{production, expression, part}
use Rattle.pr_parse.proofs.PlacesLaw.{derived_elsewhere}
use Rattle.pr_ast.proofs.Spelling.{found}
use Rattle.pr_ast.proofs.Unique.{one_list}
use Rattle.laws_language.proofs.Reread.{reread, nowhere_token, seat, seats}
use Rattle.laws_language.proofs.Origins.{derived_readable}
use Rattle.laws_language.proofs.Written.{tree_spelled}
use Rattle.pr_ast.specs.private.Spelled.{Spells}
use Rattle.std.specs.Prelude.{false}
use Rattle.std.proofs.lemmas.List.{append-nil}

moved_kinds : (ks : List TokenKind) → kinds (map nowhere_token ks) ≡ ks
moved_kinds [] = refl
moved_kinds (k ∷ ks) = ap (λ x. k ∷ x) (moved_kinds ks)

moved_seen : (ks : List TokenKind) → seats ks ≡ seen_tokens (map nowhere_token ks)
moved_seen [] = refl
moved_seen (k ∷ ks) = ap (λ x. seat k ∷ x) (moved_seen ks)

-- tokens that stand nowhere have the tree
derived_nowhere : (t : Tree) → IsReadable true t → Derives (seen_tokens (map nowhere_token (tree_kinds t []))) (forget t)
derived_nowhere t h = let r = reread h in (nowhere, subst (λ ts. Reads production (rule expression) ts (part nowhere (forget t)) []) (moved_seen (tree_kinds t [])) (r.whole []))

spelled : (t : Tree) → IsReadable true t → Spells false (tree_text t) (tree_kinds t [])
spelled t h = subst (λ x. Spells false x (tree_kinds t [])) (append-nil (tree_text t)) (tree_spelled t h)

pub has_kinds : (text : List ℕ) (tokens : List Token) (t : Tree) → HasTokens text tokens → Derives (seen_tokens tokens) t →
    (again : List Token) × (HasTokens (tree_text t) again × (kinds again ≡ tree_kinds t []))
has_kinds text tokens t h d = let f = found 0 (spelled t (derived_readable text tokens t h d)) in (f.tokens, (f.are, f.kinds))

pub has_tree : (text : List ℕ) (tokens again : List Token) (t : Tree) → HasTokens text tokens → Derives (seen_tokens tokens) t → HasTokens (tree_text t) again →
    (u : Tree) × (Derives (seen_tokens again) u × IsSameButPlaces u t)
has_tree text tokens again t h d k =
    let x = has_kinds text tokens t h d in
    let same : x.0 ≡ again = one_list x.1.0 k in
    let e : kinds (map nowhere_token (tree_kinds t [])) ≡ kinds again = moved_kinds (tree_kinds t []) ∙ sym x.1.1 ∙ ap kinds same in
    let u = derived_elsewhere (map nowhere_token (tree_kinds t [])) again (forget t) e (derived_nowhere t (derived_readable text tokens t h d)) in
    (u.0, (u.1.0, u.1.1 ∙ forget_again t))
