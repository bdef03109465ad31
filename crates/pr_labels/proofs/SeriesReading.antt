-- The ways of the functions that read a series text.
use Rattle.std.proofs.Common.{◌≡◌, ℕ, ◌<◌, List, [], ◌∷◌, ◌++◌, Bool, true, false, Option, Some, None, Result, Ok, Err, length, refl, ap, sym, ◌∙◌, subst, arith, append_assoc}
use Rattle.std.specs.Prelude.{encode_utf8, if◌then◌else◌, MatchOption, MatchResult, IfSome, option_map, is_some}
use Rattle.pr_words.specs.pr_forms.Table.{is_next, starts_of}
use Rattle.pr_words.proofs.FormsSteps.{next_pair}
use Rattle.std.specs.Result.{IsErrAnd}
use Rattle.std.specs.Borrow.{Bor}
use Rattle.pr_words.specs.pr_forms.private.Take.{IsMissed, IsTaken}
use Rattle.pr_words.specs.pr_forms.declared.reader.Fault.{Fault}
use Rattle.pr_words.specs.pr_forms.declared.reader.Fault.TheVariants.{Bad, Memory}
use Rattle.pr_words.proofs.FormsWithin.{gives_good, gives_bad}
use Rattle.pr_words.specs.pr_forms.Language.{Gives, Takes, Lacks, Leads, FailsAt}
use Rattle.pr_words.proofs.FormsCarrying.{leading, led}
use Rattle.pr_labels.proofs.SeriesTable.{strings_within}
use Rattle.std.proofs.lemmas.Str.{encode_ascii}
use Rattle.pr_words.specs.pr_forms.Form.{Form, token, nothing, pair, either, chosen, rule}
use Rattle.pr_words.specs.pr_forms.Run.{ReaderOutcome, good, bad, Runs, run_rule, run_left, run_right, run_pair, run_first, run_second, run_token, run_other, run_end, run_nothing, run_turn, run_stop, run_chosen, run_chosen_bad, run_unchosen, run_chosen_end}
use Rattle.pr_words.proofs.FormsDecided.{shrinks}
use Rattle.pr_words.specs.declared.strings.kind.StringByte.{StringByte}
use Rattle.pr_words.specs.declared.strings.kind.StringByte.TheVariants.{Open, Close, Comma, Equal, Blank, Other}
use Rattle.pr_words.specs.Strings as strings
use Rattle.pr_words.specs.StringTable as string_tables
use Rattle.pr_words.specs.Strings.{Letter, letter, kind_of, letter_of, seen}
use Rattle.pr_words.specs.private.Language.{text_strings}
use Rattle.pr_words.specs.private.Reader.{KeepsText}
use Rattle.pr_words.proofs.StringUtf8.{small_byte, keeps_after}
use Rattle.pr_labels.specs.LabelSet.{pair_of, metric_label}
use Rattle.std.proofs.lemmas.List.{map-append, append-nil}
use Rattle.pr_words.specs.Names.{is_among}
use Rattle.pr_words.proofs.FormsWays.{take_side, other_side}
use Rattle.pr_labels.specs.declared.pair.Pair.{Pair}
use Rattle.pr_labels.specs.declared.series.series.Part.{Part}
use Rattle.pr_labels.specs.declared.series.series.Part.TheVariants.{MetricFirst, MetricNext, LabelFirst, LabelNext}
use Rattle.pr_labels.specs.SeriesGrammar.{production, Rule, SeriesValue, mark, listed, quoted, blanks, sign, sign_at, same_sign, second_of, any_at, goes_on, nothing_follows, is_letter_kind, is_label_kind, name_start, name_byte, labelled, headed, Series, MetricByte, MetricRest, Tail, Braces, metric_start, metric_byte, is_metric_letter_kind, is_metric_kind, Item, Items, NameByte, NameRest, Named, After, Next, InString}
use Rattle.pr_labels.specs.private.SeriesReader.{series, in_part, IsOver, over_end, over_byte, IsPart, GoesOn, name_over, name_more, equals, names_of, Reaches, CanClose, starts_listed}
use Rattle.pr_labels.specs.SeriesTable.{table}

-- a byte at the front
pub at_end : (part : Part) (text : List ℕ) → length text ≡ 0 → IsOver part text
at_end part [] e = over_end
at_end part (b ∷ text) e = absurd (omega arith)

pub over : (part : Part) (text rest : List ℕ) (b : ℕ) → text ≡ b ∷ rest → in_part part (kind_of b) ≡ false → IsOver part text
over part text rest b e h = subst (IsOver part) (sym e) (over_byte h)

other_part : (part : Part) (k : StringByte) → in_part part k ≡ true → k ≡ Other → ⊥
other_part MetricFirst Other h e = cc
other_part MetricNext Other h e = cc
other_part LabelFirst Other h e = cc
other_part LabelNext Other h e = cc
other_part part k h e = cc

pub part_small : (part : Part) (b : ℕ) → in_part part (kind_of b) ≡ true → b < 128
part_small part b h = small_byte b (other_part part (kind_of b) h)

pub part_text : (part : Part) (text rest : List ℕ) (b : ℕ) → text ≡ b ∷ rest → in_part part (kind_of b) ≡ true → KeepsText text rest
part_text part text rest b e h = keeps_after text rest b e (part_small part b h)

-- the blanks
pub one_blank : (text at rest : List ℕ) → Leads series blanks text blanks at → Takes series (sign Blank) at mark rest → Leads series blanks text blanks rest
one_blank text at rest l x = leading (λ o k. led l (run_turn x.next x.gives k))

pub all_blanks : (text at : List ℕ) → Leads series blanks text blanks at → Lacks series (sign Blank) at → Gives series blanks text (good mark (seen at))
all_blanks text at l x = led l (run_stop x.next)

-- past a part that has no value alone
pub past : (f h : Form Letter Rule SeriesValue) (text rest : List ℕ) (v : SeriesValue) → Gives series f text (good v (seen rest)) → Leads series (pair second_of f h) text h rest
past f h text rest v x = leading (λ o k. both o k)
  where
    both : (o : ReaderOutcome Letter SeriesValue) → Gives series h rest o → Gives series (pair second_of f h) text o
    both (good w end) k = run_pair x k
    both (bad end) k = run_second x k

pub lead_on : (f g h : Form Letter Rule SeriesValue) (text at rest : List ℕ) → Leads series f text g at → Leads series g at h rest → Leads series f text h rest
lead_on f g h text at rest l k = leading (λ o j. led l (led k j))

pub equals_read : (text at mid rest : List ℕ) → Gives series blanks text (good mark (seen at)) → Takes series (sign Equal) at mark mid → Gives series blanks mid (good mark (seen rest)) → (h : Form Letter Rule SeriesValue) → Leads series (equals h) text h rest
equals_read text at mid rest a x b h =
    lead_on (equals h) (pair second_of (sign Equal) (pair second_of blanks h)) h text at rest (past blanks (pair second_of (sign Equal) (pair second_of blanks h)) text at mark a)
    (lead_on (pair second_of (sign Equal) (pair second_of blanks h)) (pair second_of blanks h) h at mid rest (past (sign Equal) (pair second_of blanks h) at mid mark x.gives) (past blanks h mid rest mark b))

pub no_equals : (text at : List ℕ) → Gives series blanks text (good mark (seen at)) → Lacks series (sign Equal) at → (h : Form Letter Rule SeriesValue) → Gives series (equals h) text (bad (seen at))
no_equals text at a x h = run_second a (run_first x.gives)

pub has_byte : (part : Part) (k : StringByte) (b : ℕ) (r t : Bool) → k ≡ kind_of b → r ≡ in_part part k → r ≡ t → in_part part (kind_of b) ≡ t
has_byte part k b r t e h i = ap (in_part part) (sym e) ∙ (sym h ∙ i)

-- one more byte of a name
pub more_name : (part : Part) (text rest name whole end new : List ℕ) (b ch : ℕ) → ch ≡ b → b < 128 → new ≡ name ++ encode_utf8 ch → IsPart part text b rest → GoesOn part new rest whole end → GoesOn part name text whole end
more_name part text rest name whole end new b ch e small k x g =
    let is : new ≡ name ++ b ∷ [] = k ∙ ap (λ y. name ++ y) (ap encode_utf8 e ∙ encode_ascii b small) in
    name_more x (subst (λ y. GoesOn part y rest whole end) is g)

-- the byte that chose a rule, and then another rule
enter : (n : Rule) (next : Rule) (q : Letter → Option Rule) (m : Letter → Bool) (t : Letter) (ts : List Letter) → production n ≡ pair second_of (token any_at) (rule next) → q t ≡ Some n →
    (o : ReaderOutcome Letter SeriesValue) → Runs production table (rule next) ts o → Runs production table (chosen q m) (t ∷ ts) o
enter n next q m t ts e h (good v end) k = run_chosen h (shrinks k).is (subst (λ f. Runs production table f (t ∷ ts) (good v end)) (sym e) (run_pair (run_token {p = any_at} {v = mark} refl) k))
enter n next q m t ts e h (bad end) k = run_chosen_bad h (subst (λ f. Runs production table f (t ∷ ts) (bad end)) (sym e) (run_second (run_token {p = any_at} {v = mark} refl) k))

-- one more byte of a label's name
label_byte : (names : List (List ℕ)) (name : List ℕ) (k : StringByte) (b : ℕ) → is_label_kind k ≡ true → name_byte names name (letter k b) ≡ Some (NameByte names (name ++ b ∷ []))
label_byte names name k b h = ap (λ x. if x then Some (NameByte names (name ++ b ∷ [])) else None) h

pub no_blank : (text : List ℕ) → Leads series blanks text blanks text
no_blank text = leading (λ o k. k)

-- a sign is ASCII
sign_kind : (wanted k : StringByte) (b : ℕ) → Some mark ≡ sign_at wanted (letter k b) → k ≡ Other → ⊥
sign_kind Open Other b e h = cc
sign_kind _ Other b e h = cc
sign_kind w k b e h = cc

pub sign_text : (wanted : StringByte) {X Y : Type 0} {P : Bor ℕ → Option X → Type 0} (first : Y → X) (rest : Y → List ℕ) (o : Option Y) (ts : List ℕ) →
    MatchOption o (IsMissed P ts) (λ y. IsTaken P (first y) ts (rest y)) → ((x : Bor ℕ) (r : Option X) → P x r → option_map (λ _. mark) r ≡ sign_at wanted (letter_of x.now)) →
    IfSome o (λ y. KeepsText ts (rest y))
sign_text wanted first rest None ts h step = tt
sign_text wanted first rest (Some y) ts h step = keeps_after ts (rest y) h.first.now h.is (small_byte h.first.now (sign_kind wanted (kind_of h.first.now) h.first.now (step h.first (Some (first y)) h.has)))

-- a string, as the grammar of series texts reads it
pub value_read : (text rest bytes value : List ℕ) → value ≡ bytes → Runs strings.production string_tables.table (rule strings.Text) (seen text) (good (strings.content bytes) (seen rest)) →
    Gives series (rule (InString strings.Text)) text (good (quoted (strings.content value)) (seen rest))
value_read text rest bytes value e k = subst (λ x. Gives series (rule (InString strings.Text)) text (good (quoted (strings.content x)) (seen rest))) (sym e) (gives_good strings_within text rest k)

value_fault : (text : List ℕ) (e : Fault ℕ) → FailsAt text_strings (rule strings.Text) text e → FailsAt series (rule (InString strings.Text)) text e
value_fault text (Bad rest) k = gives_bad strings_within text rest.now k
value_fault text Memory k = tt

pub value_exit : {X : Type 0} (P : X → Type 0) (text : List ℕ) (r : Result X (Fault ℕ)) (e : Fault ℕ) → IsErrAnd r (λ y. y ≡ e) → FailsAt text_strings (rule strings.Text) text e →
    MatchResult r P (FailsAt series (rule (InString strings.Text)) text)
value_exit P text (Ok x) e h k = absurd h
value_exit P text (Err y) e h k = subst (FailsAt series (rule (InString strings.Text)) text) (sym h) (value_fault text e k)

-- where the bytes of a name end
over_next : (names : List (List ℕ)) (name text : List ℕ) → IsOver LabelNext text → is_next {V = SeriesValue} table (chosen (name_byte names name) nothing_follows) (seen text) ≡ false
over_next names name [] x = refl
over_next names name (b ∷ text) (over_byte h) = ap (λ y. is_some (if y then Some (NameByte names (name ++ b ∷ [])) else None)) h

pub goes_label : (names : List (List ℕ)) (start text whole rest : List ℕ) → GoesOn LabelNext start text whole rest → Leads series (rule (NameRest names start)) text (rule (Named (is_among whole names) names whole)) rest
goes_label names start text whole rest (name_over x) = leading (λ o k. run_rule (run_right (over_next names start text x) k))
goes_label names start text whole rest (name_more {mid = mid} {b = b} x g) = subst (λ y. Leads series (rule (NameRest names start)) y (rule (Named (is_among whole names) names whole)) rest) (sym x.is) (leading (λ o k. run_rule (run_left (ap is_some (label_byte names start (kind_of b) b x.has))
    (enter (NameByte names (start ++ b ∷ [])) (NameRest names (start ++ b ∷ [])) (name_byte names start) nothing_follows (letter_of b) (seen mid) refl (label_byte names start (kind_of b) b x.has) o
    (led (goes_label names (start ++ b ∷ []) mid whole rest g) k)))))

letter_not_close : (k : StringByte) → is_letter_kind k ≡ true → same_sign Close k ≡ false
letter_not_close Close h = cc
letter_not_close k h = refl

first_label : (names : List (List ℕ)) (k : StringByte) (b : ℕ) → is_letter_kind k ≡ true → name_start names (letter k b) ≡ Some (NameByte names (b ∷ []))
first_label names k b h = ap (λ x. if x then Some (NameByte names (b ∷ [])) else None) h

pub label_named : (names : List (List ℕ)) (text after rest name : List ℕ) (b : ℕ) → IsPart LabelFirst text b after → GoesOn LabelNext (b ∷ []) after name rest →
    Leads series (rule (Item names)) text (rule (Named (is_among name names) names name)) rest
label_named names text after rest name b x g = subst (λ y. Leads series (rule (Item names)) y (rule (Named (is_among name names) names name)) rest) (sym x.is) (leading (λ o k. run_rule (run_right (next_pair table second_of (sign Close) (nothing (listed [])) (letter_of b ∷ seen after) false refl (not_closed (kind_of b) b (letter_not_close (kind_of b) x.has)))
    (enter (NameByte names (b ∷ [])) (NameRest names (b ∷ [])) (name_start names) nothing_follows (letter_of b) (seen after) refl (first_label names (kind_of b) b x.has) o
    (led (goes_label names (b ∷ []) after name rest g) k)))))
  where
    not_closed : (k : StringByte) (b : ℕ) → same_sign Close k ≡ false → starts_of {V = SeriesValue} table (sign Close) (letter k b) ≡ false
    not_closed k b h = ap (λ y. is_some (if y then Some mark else None)) h

named_twice : (names : List (List ℕ)) (name text : List ℕ) → Gives series (rule (Named true names name)) text (bad (seen text))
named_twice names name [] = run_rule run_end
named_twice names name (b ∷ text) = run_rule (run_other refl)

pub listed_twice : (names : List (List ℕ)) (text rest name : List ℕ) (twice : Bool) → Leads series (rule (Item names)) text (rule (Named (is_among name names) names name)) rest → twice ≡ is_among name names → twice ≡ true →
    Gives series (rule (Item names)) text (bad (seen rest))
listed_twice names text rest name twice l e h = led l (subst (λ y. Gives series (rule (Named y names name)) rest (bad (seen rest))) (sym (sym e ∙ h)) (named_twice names name rest))

module _ (names : List (List ℕ)) (text at name : List ℕ) (twice : Bool) (l : Leads series (rule (Item names)) text (rule (Named (is_among name names) names name)) at) (e : twice ≡ is_among name names) (once : twice ≡ false) where
  once_named : (o : ReaderOutcome Letter SeriesValue) → Gives series (rule (Named false names name)) at o → Gives series (rule (Item names)) text o
  once_named o k = led l (subst (λ y. Gives series (rule (Named y names name)) at o) (sym (sym e ∙ once)) k)

  pub no_sign : (rest : List ℕ) → ((h : Form Letter Rule SeriesValue) → Gives series (equals h) at (bad (seen rest))) → Gives series (rule (Item names)) text (bad (seen rest))
  no_sign rest k = once_named _ (run_rule (k (pair (labelled name) (rule (InString strings.Text)) (rule (After (names ++ name ∷ []))))))

  pub no_value : (after : List ℕ) (end : List Letter) → ((h : Form Letter Rule SeriesValue) → Leads series (equals h) at h after) → Gives series (rule (InString strings.Text)) after (bad end) → Gives series (rule (Item names)) text (bad end)
  no_value after end k x = once_named _ (run_rule (led (k (pair (labelled name) (rule (InString strings.Text)) (rule (After (names ++ name ∷ []))))) (run_first x)))

  pub one_label : (after rest value : List ℕ) → ((h : Form Letter Rule SeriesValue) → Leads series (equals h) at h after) → Gives series (rule (InString strings.Text)) after (good (quoted (strings.content value)) (seen rest)) →
      Reaches (rule (Item names)) text (pair_of name value ∷ []) (rule (After (names ++ name ∷ []))) rest
  one_label after rest value k x = record {
    reads = λ ps end j. once_named _ (run_rule (led (k (pair (labelled name) (rule (InString strings.Text)) (rule (After (names ++ name ∷ []))))) (run_pair x j)));
    fails = λ end j. once_named _ (run_rule (led (k (pair (labelled name) (rule (InString strings.Text)) (rule (After (names ++ name ∷ []))))) (run_second x j)));
  }

value_fails : (names : List (List ℕ)) (text after : List ℕ) (e : Fault ℕ) → ((end : List Letter) → Gives series (rule (InString strings.Text)) after (bad end) → Gives series (rule (Item names)) text (bad end)) →
    FailsAt series (rule (InString strings.Text)) after e → FailsAt series (rule (Item names)) text e
value_fails names text after (Bad rest) step k = step _ k
value_fails names text after Memory step k = tt

pub label_exit : {X : Type 0} (P : X → Type 0) (names : List (List ℕ)) (text after : List ℕ) (r : Result X (Fault ℕ)) (e : Fault ℕ) → IsErrAnd r (λ y. y ≡ e) →
    ((end : List Letter) → Gives series (rule (InString strings.Text)) after (bad end) → Gives series (rule (Item names)) text (bad end)) → FailsAt series (rule (InString strings.Text)) after e → MatchResult r P (FailsAt series (rule (Item names)) text)
label_exit P names text after (Ok x) e h step k = absurd h
label_exit P names text after (Err y) e h step k = subst (FailsAt series (rule (Item names)) text) (sym h) (value_fails names text after e step k)

-- what a list is read as
module _ (f : Form Letter Rule SeriesValue) (whole : List ℕ) where
  pub reach_lead : (done : List Pair) (g h : Form Letter Rule SeriesValue) (at rest : List ℕ) → Reaches f whole done g at → Leads series g at h rest → Reaches f whole done h rest
  reach_lead done g h at rest r l = record { reads = λ ps end k. r.reads ps end (led l k); fails = λ end k. r.fails end (led l k) }

  pub reach_on : (done more : List Pair) (g h : Form Letter Rule SeriesValue) (at rest : List ℕ) → Reaches f whole done g at → Reaches g at more h rest → Reaches f whole (done ++ more) h rest
  reach_on done more g h at rest r l = record {
    reads = λ ps end k. subst (λ x. Gives series f whole (good (listed x) end)) (sym (append_assoc done more ps)) (r.reads (more ++ ps) end (l.reads ps end k));
    fails = λ end k. r.fails end (l.fails end k);
  }

  pub reach_end : (done : List Pair) (g : Form Letter Rule SeriesValue) (at : List ℕ) (end : List Letter) → Reaches f whole done g at → Gives series g at (good (listed []) end) → Gives series f whole (good (listed done) end)
  reach_end done g at end r k = subst (λ x. Gives series f whole (good (listed x) end)) (append-nil done) (r.reads [] end k)

  reach_fault : (done : List Pair) (g : Form Letter Rule SeriesValue) (at : List ℕ) (e : Fault ℕ) → Reaches f whole done g at → FailsAt series g at e → FailsAt series f whole e
  reach_fault done g at (Bad rest) r k = r.fails _ k
  reach_fault done g at Memory r k = tt

  pub reach_exit : {X : Type 0} (P : X → Type 0) (done : List Pair) (g : Form Letter Rule SeriesValue) (at : List ℕ) (r : Result X (Fault ℕ)) (e : Fault ℕ) → IsErrAnd r (λ y. y ≡ e) →
      Reaches f whole done g at → FailsAt series g at e → MatchResult r P (FailsAt series f whole)
  reach_exit P done g at (Ok x) e h r k = absurd h
  reach_exit P done g at (Err y) e h r k = subst (FailsAt series f whole) (sym h) (reach_fault done g at e r k)

  pub first_item : (done : List Pair) (names : List (List ℕ)) (at rest : List ℕ) → Reaches f whole done (rule (Items names)) at → Gives series blanks at (good mark (seen rest)) → Reaches f whole done (rule (Item names)) rest
  first_item done names at rest r b = reach_lead done (rule (Items names)) (rule (Item names)) at rest r (leading (λ o k. run_rule (led (past blanks (rule (Item names)) at rest mark b) k)))

  -- after a label and the blanks behind it
  pub at_next : (done : List Pair) (names : List (List ℕ)) (p : Pair) (new : List Pair) (at after next : List ℕ) → Reaches f whole done (rule (Item names)) at →
      Reaches (rule (Item names)) at (p ∷ []) (rule (After (names ++ p.name ∷ []))) after → Gives series blanks after (good mark (seen next)) → names ≡ names_of done → new ≡ done ++ p ∷ [] → Reaches f whole new (rule (Next (names_of new))) next
  at_next done names p new at after next r l b e h =
      let k = reach_on done (p ∷ []) (rule (Item names)) (rule (After (names ++ p.name ∷ []))) at after r l in
      let j = reach_lead (done ++ p ∷ []) (rule (After (names ++ p.name ∷ []))) (rule (Next (names ++ p.name ∷ []))) after next k
      (leading (λ o i. run_rule (led (past blanks (rule (Next (names ++ p.name ∷ []))) after next mark b) i))) in
      let is : names ++ p.name ∷ [] ≡ names_of (done ++ p ∷ []) = ap (λ x. x ++ p.name ∷ []) e ∙ sym (map-append (λ q. q.name) done (p ∷ [])) in
      subst (λ x. Reaches f whole x (rule (Next (names_of x))) next) (sym h) (subst (λ x. Reaches f whole (done ++ p ∷ []) (rule (Next x)) next) is j)

  pub at_item : (done : List Pair) (names : List (List ℕ)) (next after rest : List ℕ) → Reaches f whole done (rule (Next names)) next → Takes series (sign Comma) next mark after → Gives series blanks after (good mark (seen rest)) →
      Reaches f whole done (rule (Item names)) rest
  at_item done names next after rest r x b = first_item done names after rest
      (reach_lead done (rule (Next names)) (rule (Items names)) next after r (leading (λ o k. run_rule (comma o k)))) b
    where
      comma : (o : ReaderOutcome Letter SeriesValue) → Gives series (rule (Items names)) after o → Gives series (either (pair second_of (sign Comma) (rule (Items names))) (pair second_of (sign Close) (nothing (listed [])))) next o
      comma (good v end) k = run_left (next_pair table second_of (sign Comma) (rule (Items names)) (seen next) true refl x.next) (run_pair x.gives k)
      comma (bad end) k = run_left (next_pair table second_of (sign Comma) (rule (Items names)) (seen next) true refl x.next) (run_second x.gives k)

  pub opened : (done : List Pair) (names : List (List ℕ)) (at rest : List ℕ) → Reaches f whole done (rule (Braces names)) at → Takes series (sign Open) at mark rest → Reaches f whole done (rule (Items names)) rest
  opened done names at rest r x = reach_lead done (rule (Braces names)) (rule (Items names)) at rest r (leading (λ o k. run_rule (led (past (sign Open) (rule (Items names)) at rest mark x.gives) k)))

  pub unopened : (done : List Pair) (names : List (List ℕ)) (at : List ℕ) → Reaches f whole done (rule (Braces names)) at → Lacks series (sign Open) at → Gives series f whole (bad (seen at))
  unopened done names at r x = r.fails _ (run_rule (run_first x.gives))

no_item : (names : List (List ℕ)) (text : List ℕ) → IsOver LabelFirst text → Gives series (chosen (name_start names) nothing_follows) text (bad (seen text))
no_item names [] x = run_chosen_end
no_item names (b ∷ text) (over_byte h) = run_unchosen (ap (λ y. if y then Some (NameByte names (b ∷ [])) else None) h)

pub item_closes : (names : List (List ℕ)) (text : List ℕ) → IsOver LabelFirst text → CanClose (rule (Item names)) text
item_closes names text x = record { closes = λ rest k. run_rule (take_side k run_nothing); fails = λ k. run_rule (other_side k (no_item names text x)) }

pub next_closes : (names : List (List ℕ)) (text : List ℕ) → Lacks series (sign Comma) text → CanClose (rule (Next names)) text
next_closes names text x = record { closes = λ rest k. run_rule (other_side x (run_pair k.gives run_nothing)); fails = λ k. run_rule (other_side x (run_first k.gives)) }

-- a metric's name
metric_byte_is : (name : List ℕ) (k : StringByte) (b : ℕ) → is_metric_kind k ≡ true → metric_byte name (letter k b) ≡ Some (MetricByte (name ++ b ∷ []))
metric_byte_is name k b h = ap (λ x. if x then Some (MetricByte (name ++ b ∷ [])) else None) h

metric_over : (name text : List ℕ) → IsOver MetricNext text → is_next {V = SeriesValue} table (chosen (metric_byte name) goes_on) (seen text) ≡ false
metric_over name [] x = refl
metric_over name (b ∷ text) (over_byte h) = ap (λ y. is_some (if y then Some (MetricByte (name ++ b ∷ [])) else None)) h

goes_metric : (start text whole rest : List ℕ) → GoesOn MetricNext start text whole rest → Leads series (rule (MetricRest start)) text (pair (headed whole) (nothing mark) (rule Tail)) rest
goes_metric start text whole rest (name_over x) = leading (λ o k. run_rule (run_right (metric_over start text x) k))
goes_metric start text whole rest (name_more {mid = mid} {b = b} x g) = subst (λ y. Leads series (rule (MetricRest start)) y (pair (headed whole) (nothing mark) (rule Tail)) rest) (sym x.is) (leading (λ o k. run_rule (run_left (ap is_some (metric_byte_is start (kind_of b) b x.has))
    (enter (MetricByte (start ++ b ∷ [])) (MetricRest (start ++ b ∷ [])) (metric_byte start) goes_on (letter_of b) (seen mid) refl (metric_byte_is start (kind_of b) b x.has) o
    (led (goes_metric (start ++ b ∷ []) mid whole rest g) k)))))

first_metric : (k : StringByte) (b : ℕ) → is_metric_letter_kind k ≡ true → metric_start (letter k b) ≡ Some (MetricByte (b ∷ []))
first_metric k b h = ap (λ x. if x then Some (MetricByte (b ∷ [])) else None) h

pub metric_read : (text after rest name : List ℕ) (b : ℕ) (p : Pair) → p ≡ pair_of metric_label name → IsPart MetricFirst text b after → GoesOn MetricNext (b ∷ []) after name rest → Reaches (rule Series) text (p ∷ []) (rule Tail) rest
metric_read text after rest name b p e x g = subst (λ q. Reaches (rule Series) text (q ∷ []) (rule Tail) rest) (sym e) (record {
  reads = λ ps end k. led lead (run_pair run_nothing k);
  fails = λ end k. led lead (run_second {v = mark} run_nothing k);
})
  where
    lead : Leads series (rule Series) text (pair (headed name) (nothing mark) (rule Tail)) rest
    lead = subst (λ y. Leads series (rule Series) y (pair (headed name) (nothing mark) (rule Tail)) rest) (sym x.is) (leading (λ o k. run_rule (run_left (ap is_some (first_metric (kind_of b) b x.has))
        (enter (MetricByte (b ∷ [])) (MetricRest (b ∷ [])) metric_start goes_on (letter_of b) (seen after) refl (first_metric (kind_of b) b x.has) o (led (goes_metric (b ∷ []) after name rest g) k)))))

no_metric : (text : List ℕ) → IsOver MetricFirst text → is_next {V = SeriesValue} table (chosen metric_start goes_on) (seen text) ≡ false
no_metric [] x = refl
no_metric (b ∷ text) (over_byte h) = ap (λ y. is_some (if y then Some (MetricByte (b ∷ [])) else None)) h

pub only_braces : (text : List ℕ) (pairs : List Pair) → pairs ≡ [] → IsOver MetricFirst text → Reaches (rule Series) text pairs (rule (Braces (names_of pairs))) text
only_braces text pairs e x = subst (λ y. Reaches (rule Series) text y (rule (Braces (names_of y))) text) (sym e)
    (record { reads = λ ps end k. run_rule (run_right (no_metric text x) k); fails = λ end k. run_rule (run_right (no_metric text x) k) })

pub then_braces : (text at rest : List ℕ) (p : Pair) (pairs : List Pair) (starts : Bool) (name : List ℕ) → p ≡ pair_of metric_label name → Reaches (rule Series) text (p ∷ []) (rule Tail) at → starts ≡ starts_listed at → starts ≡ true →
    Gives series blanks at (good mark (seen rest)) → pairs ≡ p ∷ [] → Reaches (rule Series) text pairs (rule (Braces (names_of pairs))) rest
then_braces text at rest p pairs starts name n r e h b i =
    let l = reach_lead (rule Series) text (p ∷ []) (rule Tail) (rule (Braces (metric_label ∷ []))) at rest r
    (leading (λ o k. run_rule (run_left (sym e ∙ h) (run_rule (led (past blanks (rule (Braces (metric_label ∷ []))) at rest mark b) k))))) in
    let is : metric_label ∷ [] ≡ names_of (p ∷ []) = ap (λ q. names_of (q ∷ [])) (sym n) in
    subst (λ y. Reaches (rule Series) text y (rule (Braces (names_of y))) rest) (sym i) (subst (λ y. Reaches (rule Series) text (p ∷ []) (rule (Braces y)) rest) is l)

pub alone : (text at : List ℕ) (p : Pair) (pairs : List Pair) (starts : Bool) → Reaches (rule Series) text (p ∷ []) (rule Tail) at → starts ≡ starts_listed at → starts ≡ false → pairs ≡ p ∷ [] →
    Gives series (rule Series) text (good (listed pairs) (seen at))
alone text at p pairs starts r e h i = subst (λ y. Gives series (rule Series) text (good (listed y) (seen at))) (sym i) (r.reads [] (seen at) (run_rule (run_right (sym e ∙ h) run_nothing)))
