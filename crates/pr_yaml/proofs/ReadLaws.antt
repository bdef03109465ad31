-- What a text is read as is its tree, or its first fault.
use Rattle.std.proofs.Common.{◌≡◌, ◌↔◌, ℕ, ◌≤◌, nat_le, List, [], ◌∷◌, length, drop, Option, Some, None, Bool, true, refl, ap, sym, ◌∙◌, subst, arith}
use Rattle.std.specs.Prelude.{MatchResult, IfOk, IfErr, Result, Ok, Err, slice_get}
use Rattle.std.proofs.lemmas.Bool.Decides.{nat_tests}
use Rattle.std.proofs.lemmas.List.{length-map}
use Rattle.pr_words.specs.pr_forms.Form.{rule, Begins, IsFirstBad, at_whole}
use Rattle.pr_words.proofs.FormsPlaces.{cut_short}
use Rattle.pr_yaml.specs.declared.yaml_scan.token.Token.{Token}
use Rattle.pr_yaml.specs.declared.yaml_scan.fault.YamlKind.{YamlKind}
use Rattle.pr_yaml.specs.declared.yaml_scan.fault.BadPlace.{BadPlace}
use Rattle.pr_yaml.specs.Tokens.{HasPlaces}
use Rattle.pr_yaml.specs.Scan.{scanned_places}
use Rattle.pr_yaml.proofs.ScanLaws.{is_function}
use Rattle.pr_yaml.specs.declared.node.Node.{Node}
use Rattle.pr_yaml.specs.declared.fault.YamlError.{YamlError}
use Rattle.pr_yaml.specs.declared.fault.YamlError.TheVariants.{Fault, Memory}
use Rattle.pr_yaml.specs.Tree.{Tree, tree_of}
use Rattle.pr_yaml.specs.Grammar.{Letter, letter_of, letters, YamlValue, or_absent, Whole, production}
use Rattle.pr_yaml.specs.Trees.{levels, stop, goes_on, tree_in}
use Rattle.pr_yaml.specs.Read.{gives_tree, gives_fault, at_end, at_stop, read_tokens, read_of, IsFaultOf}
use Rattle.pr_yaml.specs.private.Derived.{HasValue, IsTree, IsEndFault, IsFaultAt, HasFault, Refuses, Misses}
use Rattle.pr_yaml.proofs.WholeTrees.{stop_place, stop_is, tree_is, no_tree, tree_read}

-- from the tokens that a text has
pub read_is : (text : List ℕ) (tokens : List Token) (bad : Option BadPlace) → HasPlaces text tokens bad → read_of text ≡ read_tokens text tokens bad
unfolding read_of
read_is text tokens bad h = let e = (is_function text tokens bad).1 h in ap (λ x. read_tokens text x.0 x.1) e

-- the tokens of a text and its bad place
abbrev tokens_in : List ℕ → List Token
tokens_in text = (scanned_places text).0

abbrev bad_in : List ℕ → Option BadPlace
bad_in text = (scanned_places text).1

has_places : (text : List ℕ) → HasPlaces text (tokens_in text) (bad_in text)
has_places text = (is_function text (tokens_in text) (bad_in text)).0 refl

tokens_read : (text : List ℕ) (tokens : List Token) (bad : Option BadPlace) (place : ℕ) → stop true levels (letters tokens) ≡ place → read_tokens text tokens bad ≡ at_stop text tokens bad place (slice_get tokens place)
unfolding read_tokens
tokens_read text tokens bad place e = ap (λ p. at_stop text tokens bad p (slice_get tokens p)) e

-- tokens that are read whole can go on to their end
drop_all : (ts : List Letter) → drop (length ts) ts ≡ []
drop_all [] = refl
drop_all (t ∷ ts) = drop_all ts

whole_end : (ts : List Letter) (d : Bool) (room : ℕ) → Begins (production d) (rule (Whole room)) ts [] → IsFirstBad (production d) (rule (Whole room)) ts (length ts)
whole_end ts d room b = record {
  within = omega arith;
  before = λ k h. cut_short (production d) (rule (Whole room)) ts k (length ts) h (subst (λ r. Begins (production d) (rule (Whole room)) ts r) (sym (drop_all ts)) b);
  after = λ k lt le w. absurd (omega arith);
}

none_there : (ts : List Token) → slice_get ts (length ts) ≡ None
none_there [] = refl
none_there (t ∷ ts) = none_there ts

-- a tree by the function is one by the productions
some_tree : (text : List ℕ) (tokens : List Token) (bad : Option BadPlace) (found : Option Tree) (tree : Tree) → at_end text tokens bad found ≡ gives_tree tree → (bad ≡ None) × (found ≡ Some tree)
some_tree text tokens (Some b) found tree e = absurd cc
some_tree text tokens None (Some t) tree e = let same : t ≡ tree = cc in (refl, ap (λ x. Some x) same)
some_tree text tokens None None tree e = absurd cc

stop_tree : (text : List ℕ) (tokens : List Token) (bad : Option BadPlace) (place : ℕ) (o : Option Token) (tree : Tree) → at_stop text tokens bad place o ≡ gives_tree tree → (bad ≡ None) × (tree_in true levels (letters tokens) ≡ Some tree)
stop_tree text tokens bad place (Some t) tree e = absurd cc
stop_tree text tokens bad place None tree e = some_tree text tokens bad (tree_in true levels (letters tokens)) tree e

tree_there : (text : List ℕ) (tree : Tree) → read_of text ≡ gives_tree tree → IsTree text tree
tree_there text tree e =
    let places = has_places text in
    let f = tokens_read text (tokens_in text) (bad_in text) (stop true levels (letters (tokens_in text))) refl in
    let x = stop_tree text (tokens_in text) (bad_in text) _ _ tree (sym f ∙ (sym (read_is text (tokens_in text) (bad_in text) places) ∙ e)) in
    let v = tree_read true levels (letters (tokens_in text)) tree x.1 in
    record { tokens = tokens_in text; scan = subst (λ b. HasPlaces text (tokens_in text) b) x.0 places; value = v.0; whole = v.1.0; is = v.1.1 }

tree_given : (text : List ℕ) (tree : Tree) → IsTree text tree → read_of text ≡ gives_tree tree
tree_given text tree h =
    let end : stop true levels (letters h.tokens) ≡ length h.tokens = stop_is true levels (letters h.tokens) (length (letters h.tokens)) (whole_end (letters h.tokens) true levels (at_whole h.whole)) ∙ length-map h.tokens letter_of in
    let there : tree_in true levels (letters h.tokens) ≡ Some tree = tree_is true levels (letters h.tokens) h.value h.whole ∙ ap (λ x. Some x) h.is in
    read_is text h.tokens None h.scan ∙ (tokens_read text h.tokens None (length h.tokens) end ∙ (ap (at_stop text h.tokens None (length h.tokens)) (none_there h.tokens) ∙ ap (at_end text h.tokens None) there))

pub tree_both : (text : List ℕ) (tree : Tree) → (read_of text ≡ gives_tree tree) ↔ IsTree text tree
tree_both text tree = (tree_there text tree, tree_given text tree)

-- so is a fault
no_value : (tokens : List Token) → tree_in true levels (letters tokens) ≡ None → (v : YamlValue) → HasValue tokens v → ⊥
no_value tokens e v h = let x = tree_is true levels (letters tokens) v h in let y : None ≡ Some (or_absent 1 v) = sym e ∙ x in cc

end_fault : (text : List ℕ) (tokens : List Token) (bad : Option BadPlace) (found : Option Tree) (line : ℕ) (kind : YamlKind) → tree_in true levels (letters tokens) ≡ found → at_end text tokens bad found ≡ gives_fault line kind → IsEndFault text tokens bad line kind
end_fault text tokens (Some b) found line kind t e = (cc, cc)
end_fault text tokens None (Some u) line kind t e = absurd cc
end_fault text tokens None None line kind t e = (no_value tokens t, (cc, cc))

fault_at : (text : List ℕ) (tokens : List Token) (bad : Option BadPlace) (place : ℕ) (o : Option Token) (line : ℕ) (kind : YamlKind) → at_stop text tokens bad place o ≡ gives_fault line kind → IsFaultAt text tokens bad place o line kind
fault_at text tokens bad place (Some t) line kind e = (cc, cc)
fault_at text tokens bad place None line kind e = end_fault text tokens bad (tree_in true levels (letters tokens)) line kind refl e

fault_there : (text : List ℕ) (line : ℕ) (kind : YamlKind) → read_of text ≡ gives_fault line kind → HasFault text line kind
fault_there text line kind e =
    let places = has_places text in
    let f = tokens_read text (tokens_in text) (bad_in text) (stop true levels (letters (tokens_in text))) refl in
    record {
      tokens = tokens_in text;
      bad = bad_in text;
      scan = places;
      place = stop true levels (letters (tokens_in text));
      first = stop_place true levels (letters (tokens_in text));
      fault = fault_at text (tokens_in text) (bad_in text) _ _ line kind (sym f ∙ (sym (read_is text (tokens_in text) (bad_in text) places) ∙ e));
    }

end_given : (text : List ℕ) (tokens : List Token) (bad : Option BadPlace) (line : ℕ) (kind : YamlKind) → IsEndFault text tokens bad line kind → at_end text tokens bad (tree_in true levels (letters tokens)) ≡ gives_fault line kind
end_given text tokens (Some b) line kind h = let l = h.0 in let k = h.1 in rw (l, k) refl
end_given text tokens None line kind h = let t = no_tree true levels (letters tokens) h.0 in let l = h.1.0 in let k = h.1.1 in ap (at_end text tokens None) t ∙ rw (l, k) refl

given_at : (text : List ℕ) (tokens : List Token) (bad : Option BadPlace) (place : ℕ) (o : Option Token) (line : ℕ) (kind : YamlKind) → IsFaultAt text tokens bad place o line kind → at_stop text tokens bad place o ≡ gives_fault line kind
given_at text tokens bad place (Some t) line kind h = let l = h.0 in let k = h.1 in rw (l, k) refl
given_at text tokens bad place None line kind h = end_given text tokens bad line kind h

fault_given : (text : List ℕ) (line : ℕ) (kind : YamlKind) → HasFault text line kind → read_of text ≡ gives_fault line kind
fault_given text line kind h =
    read_is text h.tokens h.bad h.scan ∙ (tokens_read text h.tokens h.bad h.place (stop_is true levels (letters h.tokens) h.place h.first) ∙ given_at text h.tokens h.bad h.place (slice_get h.tokens h.place) line kind h.fault)

pub fault_both : (text : List ℕ) (line : ℕ) (kind : YamlKind) → (read_of text ≡ gives_fault line kind) ↔ HasFault text line kind
fault_both text line kind = (fault_there text line kind, fault_given text line kind)

-- each text is read as one thing
pub one_reading : (text : List ℕ) (t u : Tree) → IsTree text t → IsTree text u → t ≡ u
one_reading text t u h k = let e : gives_tree t ≡ gives_tree u = sym (tree_given text t h) ∙ tree_given text u k in cc

pub one_line : (text : List ℕ) (l m : ℕ) (k j : YamlKind) → HasFault text l k → HasFault text m j → l ≡ m
one_line text l m k j h i = let e : gives_fault l k ≡ gives_fault m j = sym (fault_given text l k h) ∙ fault_given text m j i in cc

pub one_kind : (text : List ℕ) (l m : ℕ) (k j : YamlKind) → HasFault text l k → HasFault text m j → k ≡ j
one_kind text l m k j h i = let e : gives_fault l k ≡ gives_fault m j = sym (fault_given text l k h) ∙ fault_given text m j i in cc

pub tree_or_fault : (text : List ℕ) (t : Tree) (l : ℕ) (k : YamlKind) → IsTree text t → HasFault text l k → ⊥
tree_or_fault text t l k h i = let e : gives_tree t ≡ gives_fault l k = sym (tree_given text t h) ∙ fault_given text l k i in cc

-- all tokens can go on where they are a beginning
beginning_of : (d : Bool) (room : ℕ) (ts : List Letter) (place : ℕ) → stop d room ts ≡ place → nat_le (length ts) place ≡ true → Begins (production d) (rule (Whole room)) ts []
beginning_of d room ts place e h =
    let p = stop_place d room ts in
    subst (λ r. Begins (production d) (rule (Whole room)) ts r) (drop_all ts) (p.before (length ts) (let k : length ts ≤ place = le_of (length ts) place h in omega (arith, k, e)))
  where
    le_of : (a b : ℕ) → nat_le a b ≡ true → a ≤ b
    le_of a b h = grind (arith, nat_tests)

pub goes_on_both : (d : Bool) (room : ℕ) (ts : List Letter) → (goes_on d room ts ≡ true) ↔ Begins (production d) (rule (Whole room)) ts []
goes_on_both d room ts = (beginning_of d room ts (stop d room ts) refl, λ b. ap (nat_le (length ts)) (stop_is d room ts (length ts) (whole_end ts d room b)) ∙ self (length ts))
  where
    self : (n : ℕ) → nat_le n n ≡ true
    self n = grind (arith, nat_tests)

-- what the public call says, from the function
pub answered_tree : (text : List ℕ) (r : Result Node YamlError) → MatchResult r (λ n. read_of text ≡ gives_tree (tree_of n)) (IsFaultOf (read_of text)) → IfOk r (λ n. IsTree text (tree_of n))
answered_tree text (Ok n) h = tree_there text (tree_of n) h
answered_tree text (Err e) h = tt

pub answered_only : (text : List ℕ) (r : Result Node YamlError) → MatchResult r (λ n. read_of text ≡ gives_tree (tree_of n)) (IsFaultOf (read_of text)) → (t : Tree) → IsTree text t → MatchResult r (λ n. tree_of n ≡ t) Misses
answered_only text (Ok n) h t i = one_reading text (tree_of n) t (tree_there text (tree_of n) h) i
answered_only text (Err (Fault line kind)) h t i = tree_or_fault text t line kind i (fault_there text line kind h)
answered_only text (Err Memory) h t i = tt

pub answered_fault : (text : List ℕ) (r : Result Node YamlError) → MatchResult r (λ n. read_of text ≡ gives_tree (tree_of n)) (IsFaultOf (read_of text)) → IfErr r (Refuses text)
answered_fault text (Ok n) h = tt
answered_fault text (Err (Fault line kind)) h = fault_there text line kind h
answered_fault text (Err Memory) h = tt
