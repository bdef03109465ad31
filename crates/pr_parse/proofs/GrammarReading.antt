-- The ways through lists and through what stands between an operator and its right side.
use Rattle.std.proofs.Common.{◌≡◌, ℕ, List, [], ◌∷◌, ◌++◌, Bool, true, false, Option, Some, None, refl, sym, ap, subst}
use Rattle.pr_forms.specs.Form.{token, pair, rule}
use Rattle.pr_forms.specs.Run.{good, bad, run_rule, run_left, run_pair, run_first, run_second, run_nothing}
use Rattle.pr_forms.specs.Language.{Gives, Takes, Lacks}
use Rattle.pr_forms.proofs.Steps.{next_pair}
use Rattle.pr_forms.proofs.Ways.{take_side, take_side_bad, other_side, value_is}
use Rattle.pr_ast.specs.declared.lex.token.Sign.TheVariants.{LeftParen, RightParen, Comma}
use Rattle.pr_ast.specs.declared.lex.words.Word.TheVariants.{Bool as BoolWord}
use Rattle.pr_ast.specs.pr_labels.declared.matching.Card.{Card}
use Rattle.pr_ast.specs.pr_labels.declared.matching.Card.TheVariants.{OneToOne}
use Rattle.pr_ast.specs.pr_labels.declared.matching.Matching.{Matching}
use Rattle.pr_ast.specs.declared.place.Place.{Place}
use Rattle.pr_ast.specs.declared.selector.MatchText.{MatchText}
use Rattle.pr_parse.specs.declared.grammar.kind.Lexed.{Lexed}
use Rattle.pr_parse.specs.declared.grammar.kind.Level.{Level}
use Rattle.pr_parse.specs.Seen.{Seen, seen}
use Rattle.pr_parse.specs.Grammar.{F, Labels, MoreLabels, Matchers, MoreMatchers, Included, Grouped, Matched, Modified, names, labels, matchers, match_text, word, at, sided, matches, included, grouped, operand, second_of, including, sign, the_word, label_at, side_at, matching_at, label_list, sign_and_text, tighter, names_closed}
use Rattle.pr_parse.specs.GrammarTable.{table, queries}
use Rattle.pr_parse.specs.private.GrammarReader.{HasNames, HasMatchers, HasSide}
use Rattle.pr_parse.proofs.Ways.{skip_nested}

append_none : {A : Type 0} (xs : List A) → xs ++ [] ≡ xs
append_none [] = refl
append_none (x ∷ xs) = ap (λ ys. x ∷ ys) (append_none xs)

append_next : {A : Type 0} (xs ys : List A) (x : A) → (xs ++ x ∷ []) ++ ys ≡ xs ++ x ∷ ys
append_next [] ys x = refl
append_next (z ∷ xs) ys x = ap (λ zs. z ∷ zs) (append_next xs ys x)

grown : {A : Type 0} (items xs ys : List A) (x : A) → items ≡ xs ++ x ∷ [] → items ++ ys ≡ xs ++ x ∷ ys
grown items xs ys x e = rw e (append_next xs ys x)

-- labels, one after another
pub names_stop : (f g : F) (ts : List Lexed) (done : List (List ℕ)) (rest : List Lexed) → HasNames f ts done g rest → Gives queries g rest (good (names []) (seen rest)) → Gives queries f ts (good (names done) (seen rest))
names_stop f g ts done rest l h = value_is (names (done ++ [])) (names done) (ap names (sym (append_none done))) (l.reads [] (seen rest) h)

pub no_label : (rest : List Lexed) → Lacks queries (token (label_at false)) rest → Gives queries (rule Labels) rest (good (names []) (seen rest))
no_label rest h = run_rule (other_side h run_nothing)

pub no_comma : (rest : List Lexed) → Lacks queries (sign Comma) rest → Gives queries (rule MoreLabels) rest (good (names []) (seen rest))
no_comma rest h = run_rule (other_side h run_nothing)

pub names_step : (f : F) (ts : List Lexed) (done items : List (List ℕ)) (rest mid : List Lexed) (p : Place) (n : List ℕ) →
    HasNames f ts done (rule Labels) rest → Takes queries (token (label_at false)) rest (word p n) mid → items ≡ done ++ n ∷ [] → HasNames f ts items (rule MoreLabels) mid
names_step f ts done items rest mid p n l x e = record {
  reads = λ ns end h. value_is (names (done ++ n ∷ ns)) (names (items ++ ns)) (ap names (grown items done ns n e)) (l.reads (n ∷ ns) end (run_rule (take_side x h)));
  fails = λ end h. l.fails end (run_rule (take_side_bad x h));
}

pub names_comma : (f : F) (ts : List Lexed) (done : List (List ℕ)) (mid next : List Lexed) (q : Place) →
    HasNames f ts done (rule MoreLabels) mid → Takes queries (sign Comma) mid (at q) next → HasNames f ts done (rule Labels) next
names_comma f ts done mid next q l x = record { reads = λ ns end h. l.reads ns end (run_rule (take_side x h)); fails = λ end h. l.fails end (run_rule (take_side_bad x h)) }

-- matchers, one after another
pub matchers_stop : (f g : F) (ts : List Lexed) (done : List MatchText) (rest : List Lexed) → HasMatchers f ts done g rest → Gives queries g rest (good (matchers []) (seen rest)) → Gives queries f ts (good (matchers done) (seen rest))
matchers_stop f g ts done rest l h = value_is (matchers (done ++ [])) (matchers done) (ap matchers (sym (append_none done))) (l.reads [] (seen rest) h)

pub no_matcher : (b : Bool) (rest : List Lexed) → Lacks queries (token (label_at b)) rest → Gives queries (rule (Matchers b)) rest (good (matchers []) (seen rest))
no_matcher b rest h = run_rule (other_side h run_nothing)

pub no_more : (b : Bool) (rest : List Lexed) → Lacks queries (sign Comma) rest → Gives queries (rule (MoreMatchers b)) rest (good (matchers []) (seen rest))
no_more b rest h = run_rule (other_side h run_nothing)

pub matcher_bad : (f : F) (b : Bool) (ts : List Lexed) (done : List MatchText) (rest mid : List Lexed) (p : Place) (n : List ℕ) (end : List Seen) →
    HasMatchers f ts done (rule (Matchers b)) rest → Takes queries (token (label_at b)) rest (word p n) mid → Gives queries sign_and_text mid (bad end) → Gives queries f ts (bad end)
matcher_bad f b ts done rest mid p n end l x h = l.fails end (run_rule (take_side_bad x (run_first h)))

pub matcher_step : (f : F) (b : Bool) (ts : List Lexed) (done items : List MatchText) (rest mid next : List Lexed) (p : Place) (n : List ℕ) (m : MatchText) →
    HasMatchers f ts done (rule (Matchers b)) rest → Takes queries (token (label_at b)) rest (word p n) mid → m.label ≡ n → Gives queries sign_and_text mid (good (match_text m.op m.text) (seen next)) →
    items ≡ done ++ m ∷ [] → HasMatchers f ts items (rule (MoreMatchers b)) next
matcher_step f b ts done items rest mid next p n m l x i g e =
    let y : Takes queries (token (label_at b)) rest (word p m.label) mid = subst (λ k. Takes queries (token (label_at b)) rest (word p k) mid) (sym i) x in
    record {
      reads = λ ms end h. value_is (matchers (done ++ m ∷ ms)) (matchers (items ++ ms)) (ap matchers (grown items done ms m e)) (l.reads (m ∷ ms) end (run_rule (take_side y (run_pair g h))));
      fails = λ end h. l.fails end (run_rule (take_side_bad y (run_second g h)));
    }

pub matcher_comma : (f : F) (b : Bool) (ts : List Lexed) (done : List MatchText) (mid next : List Lexed) (q : Place) →
    HasMatchers f ts done (rule (MoreMatchers b)) mid → Takes queries (sign Comma) mid (at q) next → HasMatchers f ts done (rule (Matchers b)) next
matcher_comma f b ts done mid next q l x = record { reads = λ ms end h. l.reads ms end (run_rule (take_side x h)); fails = λ end h. l.fails end (run_rule (take_side_bad x h)) }

-- what is included
pub included_none : (l : Level) (ts : List Lexed) (ns : List (List ℕ)) → ns ≡ [] → Lacks queries (sign LeftParen) ts → HasSide (rule (Included l)) ts (included ns) (rule (tighter l false)) ts
included_none l ts ns e x = rw e (record { reads = λ s end h. run_rule (skip_nested x (run_pair run_nothing h)); fails = λ end h. run_rule (skip_nested x (run_second run_nothing h)) })

pub included_some : (l : Level) (ts mid rest : List Lexed) (q r : Place) (ns : List (List ℕ)) → Takes queries (sign LeftParen) ts (at q) mid → Gives queries label_list ts (good (labels ns r) (seen rest)) →
    HasSide (rule (Included l)) ts (included ns) (rule (tighter l true)) rest
included_some l ts mid rest q r ns x g =
    let next = next_pair table including label_list (rule (tighter l true)) (seen ts) true refl (next_pair table second_of (sign LeftParen) (pair names_closed (rule Labels) (sign RightParen)) (seen ts) true refl x.next) in
    record { reads = λ s end h. run_rule (run_left next (run_pair g h)); fails = λ end h. run_rule (run_left next (run_second g h)) }

pub included_bad : (l : Level) (ts mid : List Lexed) (q : Place) (end : List Seen) → Takes queries (sign LeftParen) ts (at q) mid → Gives queries label_list ts (bad end) → Gives queries (rule (Included l)) ts (bad end)
included_bad l ts mid q end x g =
    run_rule (run_left (next_pair table including label_list (rule (tighter l true)) (seen ts) true refl (next_pair table second_of (sign LeftParen) (pair names_closed (rule Labels) (sign RightParen)) (seen ts) true refl x.next)) (run_first g))

-- which side has many
pub sides_none : (l : Level) (ts : List Lexed) (ns : List (List ℕ)) → ns ≡ [] → Lacks queries (token side_at) ts → HasSide (rule (Grouped l)) ts (grouped OneToOne ns) (rule (tighter l true)) ts
sides_none l ts ns e x = rw e (record { reads = λ s end h. run_rule (other_side x (run_pair run_nothing h)); fails = λ end h. run_rule (other_side x (run_second run_nothing h)) })

pub sides_some : (l : Level) (ts mid rest : List Lexed) (card : Card) (ns : List (List ℕ)) (g : F) → Takes queries (token side_at) ts (sided card) mid → HasSide (rule (Included l)) mid (included ns) g rest →
    HasSide (rule (Grouped l)) ts (grouped card ns) g rest
sides_some l ts mid rest card ns g x k = record { reads = λ s end h. run_rule (take_side x (k.reads s end h)); fails = λ end h. run_rule (take_side_bad x (k.fails end h)) }

-- how vectors are matched
pub matched_none : (l : Level) (ts : List Lexed) → Lacks queries (token matching_at) ts → HasSide (rule (Matched l)) ts (operand false None) (rule (tighter l true)) ts
matched_none l ts x = record { reads = λ s end h. run_rule (other_side x (run_pair run_nothing h)); fails = λ end h. run_rule (other_side x (run_second run_nothing h)) }

pub matched_some : (l : Level) (ts mid next rest : List Lexed) (on : Bool) (ns include : List (List ℕ)) (r : Place) (card : Card) (g : F) → Takes queries (token matching_at) ts (matches on) mid →
    Gives queries label_list mid (good (labels ns r) (seen next)) → HasSide (rule (Grouped l)) next (grouped card include) g rest →
    HasSide (rule (Matched l)) ts (operand false (Some (record { on = on; names = ns; card = card; include = include }))) g rest
matched_some l ts mid next rest on ns include r card g x y k = record {
  reads = λ s end h. run_rule (take_side x (run_pair y (k.reads s end h)));
  fails = λ end h. run_rule (take_side_bad x (run_second y (k.fails end h)));
}

-- whether `bool` stands there
pub modified_bool : (l : Level) (ts mid rest : List Lexed) (q : Place) (b : Bool) (m : Option Matching) (g : F) → b ≡ true → Takes queries (the_word BoolWord) ts (at q) mid → HasSide (rule (Matched l)) mid (operand false m) g rest →
    HasSide (rule (Modified l)) ts (operand b m) g rest
modified_bool l ts mid rest q b m g e x k = rw e (record { reads = λ s end h. run_rule (take_side x (k.reads s end h)); fails = λ end h. run_rule (take_side_bad x (k.fails end h)) })

pub modified_plain : (l : Level) (ts rest : List Lexed) (b : Bool) (m : Option Matching) (g : F) → b ≡ false → Lacks queries (the_word BoolWord) ts → HasSide (rule (Matched l)) ts (operand false m) g rest →
    HasSide (rule (Modified l)) ts (operand b m) g rest
modified_plain l ts rest b m g e x k = rw e (record { reads = λ s end h. run_rule (other_side x (k.reads s end h)); fails = λ end h. run_rule (other_side x (k.fails end h)) })
