-- Each series text, told by its parts, is read by the grammar.
use Rattle.std.proofs.Common.{◌≡◌, ℕ, List, [], ◌∷◌, ◌++◌, Some, None, true, false, refl, ap, sym, ◌∙◌, subst, arith}
use Rattle.std.specs.Prelude.{codes, if◌then◌else◌}
use Rattle.std.specs.List.{list_all}
use Rattle.std.proofs.lemmas.Bool.Decides.{nat_tests}
use Rattle.std.proofs.lemmas.List.{map-append}
use Rattle.pr_words.specs.Bytes.{is_blank, AreBlanks}
use Rattle.pr_words.specs.Names.{is_among}
use Rattle.pr_words.specs.pr_forms.Form.{rule, is_token, is_nothing, is_pair, is_left, is_right, is_stop, is_turn, is_rule}
use Rattle.pr_words.specs.Strings as strings
use Rattle.pr_words.specs.Strings.{kind_of, letter_of, IsString}
use Rattle.pr_words.proofs.FormsWithin.{reads_good}
use Rattle.pr_labels.proofs.SeriesTable.{strings_within}
use Rattle.pr_labels.specs.declared.pair.Pair.{Pair}
use Rattle.pr_labels.specs.Edits.{fault_after, first_fault}
use Rattle.pr_labels.specs.LabelSet.{metric_label, pair_of}
use Rattle.pr_labels.specs.SeriesGrammar.{listed, quoted, mark, same_sign, sign_at, blanks, ReadsSeries, Braces, Items, Item, After, InString}
use Rattle.pr_words.specs.declared.strings.kind.StringByte.TheVariants.{Blank}
use Rattle.pr_labels.proofs.LabelOrder.{both}
use Rattle.pr_labels.specs.private.SeriesReader.{names_of}
use Rattle.pr_labels.specs.private.SeriesParts.{IsPair, AreListed, no_pair, last_pair, one_pair, HasParts, name_alone, list_alone, name_and_list, IsSeriesText}
use Rattle.pr_labels.proofs.SeriesWritten.{Reading, next_of, label_name, metric_reads}

-- a blank is one to the grammar
blank_kind : (b : ℕ) → is_blank b ≡ same_sign Blank (kind_of b)
blank_kind b = grind (arith, nat_tests)

blank_sign : (b : ℕ) → same_sign Blank (kind_of b) ≡ true → sign_at Blank (letter_of b) ≡ Some mark
blank_sign b h = ap (λ t. if t then Some mark else None) h

pub blanks_read : (bs rest : List ℕ) → AreBlanks bs → Reading blanks (bs ++ rest) mark rest
blanks_read [] rest h = is_stop
blanks_read (b ∷ bs) rest h =
    let k = both (is_blank b) (list_all is_blank bs) h in
    is_turn {w = mark} (is_token (blank_sign b (sym (blank_kind b) ∙ k.0))) (blanks_read bs rest k.1)

value_read : (text bytes rest : List ℕ) → IsString text bytes rest → Reading (rule (InString strings.Text)) text (quoted (strings.content bytes)) rest
value_read text bytes rest d = reads_good strings_within text rest d

pair_read : (names : List (List ℕ)) (p : Pair) (ps : List Pair) (text rest end : List ℕ) → IsPair text p rest → is_among p.name names ≡ false →
    Reading (rule (After (names ++ p.name ∷ []))) rest (listed ps) end → Reading (rule (Item names)) text (listed (p ∷ ps)) end
pair_read names p ps text rest end i once d =
    subst (λ x. Reading (rule (Item names)) x (listed (p ∷ ps)) end) (sym i.is)
    (label_name names p.name (i.before ++ (codes "=" ++ (i.after ++ i.quoted))) (listed (p ∷ ps)) end i.name once
    (is_rule (is_pair {v = mark} (blanks_read i.before (codes "=" ++ (i.after ++ i.quoted)) i.blank_before)
    (is_pair (is_token {v = mark} refl) (is_pair {v = mark} (blanks_read i.after i.quoted i.blank_after) (is_pair (value_read i.quoted p.value rest i.value) d))))))

items_read : {text rest : List ℕ} {ps : List Pair} (before : List Pair) → AreListed text ps rest → fault_after before ps ≡ None → Reading (rule (Items (names_of before))) text (listed ps) rest
items_read before (no_pair bs rest h) f =
    is_rule (is_pair {v = mark} (blanks_read bs (codes "}" ++ rest) h) (is_rule (is_left (is_pair (is_token {v = mark} refl) is_nothing))))
items_read before (last_pair bs text behind rest p h i k) f =
    let n = next_of before p [] f in
    let after : Reading (rule (After (names_of before ++ p.name ∷ []))) (behind ++ (codes "}" ++ rest)) (listed []) rest =
    is_rule (is_pair {v = mark} (blanks_read behind (codes "}" ++ rest) k) (is_rule (is_right (is_pair (is_token {v = mark} refl) is_nothing)))) in
    is_rule (is_pair {v = mark} (blanks_read bs text h) (pair_read (names_of before) p [] text (behind ++ (codes "}" ++ rest)) rest i n.once after))
items_read before (one_pair bs text behind next rest p ps h i k more) f =
    let n = next_of before p ps f in
    let items : Reading (rule (Items (names_of before ++ p.name ∷ []))) next (listed ps) rest =
    subst (λ x. Reading (rule (Items x)) next (listed ps) rest) (map-append (λ q. q.name) before (p ∷ [])) (items_read (before ++ p ∷ []) more n.rest) in
    let after : Reading (rule (After (names_of before ++ p.name ∷ []))) (behind ++ (codes "," ++ next)) (listed ps) rest =
    is_rule (is_pair {v = mark} (blanks_read behind (codes "," ++ next) k) (is_rule (is_left (is_pair (is_token {v = mark} refl) items)))) in
    is_rule (is_pair {v = mark} (blanks_read bs text h) (pair_read (names_of before) p ps text (behind ++ (codes "," ++ next)) rest i n.once after))

list_read : {text : List ℕ} {ps : List Pair} (before : List Pair) → AreListed text ps [] → fault_after before ps ≡ None → Reading (rule (Braces (names_of before))) (codes "{" ++ text) (listed ps) []
list_read before l f = is_rule (is_pair (is_token {v = mark} refl) (items_read before l f))

parts_read : {text : List ℕ} {pairs : List Pair} → HasParts text pairs [] → first_fault pairs ≡ None → ReadsSeries text pairs
parts_read (name_alone name _ h) f = metric_reads name [] [] h (is_rule (is_right is_nothing))
parts_read (list_alone text _ ps l) f = is_rule (is_right (list_read [] l f))
parts_read (name_and_list name bs text _ ps h k l) f =
    metric_reads name (bs ++ (codes "{" ++ text)) ps h
    (is_rule (is_left (is_rule (is_pair {v = mark} (blanks_read bs (codes "{" ++ text) k) (list_read (pair_of metric_label name ∷ []) l (next_of [] (pair_of metric_label name) ps f).rest)))))

pub series_read : (text : List ℕ) (pairs : List Pair) → IsSeriesText text pairs → ReadsSeries text pairs
series_read text pairs s = parts_read s.parts s.once
