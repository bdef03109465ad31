-- What the grammar of series texts reads has the parts of one.
use Rattle.std.proofs.Common.{◌≡◌, ℕ, List, [], ◌∷◌, ◌++◌, Some, Bool, true, false, length, ◌≤◌, refl, ap, sym, ◌∙◌, subst, append_assoc, append-nil, arith}
use Rattle.std.specs.Prelude.{codes, if◌then◌else◌, Option, None}
use Rattle.std.specs.List.{list_all}
use Rattle.std.proofs.lemmas.Bool.Decides.{nat_tests}
use Rattle.pr_words.specs.Bytes.{is_blank, is_letter, is_label_byte, AreBlanks}
use Rattle.pr_words.specs.pr_forms.Form.{Form, token, nothing, pair, either, turns, fold, chosen, rule, Reads, is_token, is_nothing, is_pair, is_left, is_right, is_stop, is_turn, is_fold, is_chosen, is_rule}
use Rattle.pr_words.proofs.FormsSuffixes.{Suffix, here, there, reads_suffix}
use Rattle.pr_words.specs.declared.strings.kind.StringByte.{StringByte}
use Rattle.pr_words.specs.declared.strings.kind.StringByte.TheVariants.{Open, Close, Comma, Equal, Blank}
use Rattle.pr_words.specs.Strings as strings
use Rattle.pr_words.specs.Strings.{Letter, letter, kind_of, letter_of, seen, IsString}
use Rattle.pr_words.specs.pr_forms.Within.{within, on_option, lifted}
use Rattle.pr_labels.specs.declared.pair.Pair.{Pair}
use Rattle.pr_labels.specs.LabelSet.{metric_label, pair_of}
use Rattle.pr_labels.specs.Names.{is_label_name, is_metric_name, is_metric_byte, is_metric_letter}
use Rattle.pr_labels.specs.SeriesGrammar.{production, Rule, SeriesValue, listed, quoted, mark, headed, labelled, same_sign, sign, sign_at, second_of, is_letter_kind, is_label_kind, is_metric_letter_kind, is_metric_kind, embedding, ReadsSeries, Series, MetricByte, MetricRest, Tail, Listed, Braces, Items, Item, NameByte, NameRest, Named, After, Next, InString}
use Rattle.pr_labels.specs.private.SeriesParts.{IsPair, AreListed, no_pair, last_pair, one_pair, HasParts, name_alone, list_alone, name_and_list, IsSeriesText}
use Rattle.pr_words.proofs.FormsByRules.{Each}
use Rattle.pr_labels.proofs.ByParts.{Built, of_token, of_nothing, of_pair, of_left, of_right, of_stop, of_turn, of_fold, of_choice, of_rule, built}
use Rattle.pr_labels.proofs.SeriesNames.{IsSeen, each_seen, letter_kind, label_kind, series_faultless}

-- the bytes of tokens
abbrev byte_of : Letter → ℕ
byte_of (letter k b) = b

abbrev text_of : List Letter → List ℕ
text_of [] = []
text_of (t ∷ ts) = byte_of t ∷ text_of ts

text_again : (text : List ℕ) → text_of (seen text) ≡ text
text_again [] = refl
text_again (b ∷ text) = ap (λ t. b ∷ t) (text_again text)

seen_letter : (t : Letter) → IsSeen t → letter_of (byte_of t) ≡ t
seen_letter (letter k b) e = ap (λ x. letter x b) (sym e)

seen_again : (ts : List Letter) → Each IsSeen ts → seen (text_of ts) ≡ ts
seen_again [] h = refl
seen_again (t ∷ ts) h = λ i. seen_letter t h.0 i ∷ seen_again ts h.1 i

each_suffix : {rest ts : List Letter} → Suffix rest ts → Each IsSeen ts → Each IsSeen rest
each_suffix here h = h
each_suffix (there s) h = each_suffix s h.1

-- What stands behind a pair: the closing brace, or a comma and the list behind it.
data Ending : List ℕ → List Pair → List ℕ → Type 0 where
  closes : (rest : List ℕ) → Ending (codes "}" ++ rest) [] rest
  goes : (next rest : List ℕ) (ps : List Pair) → AreListed next ps rest → Ending (codes "," ++ next) ps rest

record AfterPair (text : List ℕ) (ps : List Pair) (rest : List ℕ) : Type 0 where
  behind : List ℕ
  next : List ℕ
  is : text ≡ behind ++ next
  blank : AreBlanks behind
  ending : Ending next ps rest

-- What stands in a list where no blank does: the closing brace, or a pair and what is behind it.
data AtItem : List ℕ → List Pair → List ℕ → Type 0 where
  at_close : (rest : List ℕ) → AtItem (codes "}" ++ rest) [] rest
  at_pair : (text after rest : List ℕ) (p : Pair) (ps : List Pair) → IsPair text p after → AfterPair after ps rest → AtItem text (p ∷ ps) rest

-- the value of a name, from the sign on, and what is behind it
record AtSign (name : List ℕ) (text : List ℕ) (p : Pair) (ps : List Pair) (rest : List ℕ) : Type 0 where
  before : List ℕ
  after : List ℕ
  string : List ℕ
  end : List ℕ
  is : text ≡ before ++ (codes "=" ++ (after ++ string))
  name_is : p.name ≡ name
  blank_before : AreBlanks before
  blank_after : AreBlanks after
  value : IsString string p.value end
  behind : AfterPair end ps rest

-- the rest of a name, and what is behind it
record AtName (name : List ℕ) (text : List ℕ) (p : Pair) (ps : List Pair) (rest : List ℕ) : Type 0 where
  more : List ℕ
  next : List ℕ
  is : text ≡ more ++ next
  bytes : list_all is_label_byte more ≡ true
  sign : AtSign (name ++ more) next p ps rest

data NameTold (name : List ℕ) (text : List ℕ) : List Pair → List ℕ → Type 0 where
  name_told : {p : Pair} {ps : List Pair} {rest : List ℕ} → AtName name text p ps rest → NameTold name text (p ∷ ps) rest

data SignTold (name : List ℕ) (text : List ℕ) : List Pair → List ℕ → Type 0 where
  sign_told : {p : Pair} {ps : List Pair} {rest : List ℕ} → AtSign name text p ps rest → SignTold name text (p ∷ ps) rest

-- what may stand behind a metric's name
data AtTail : List ℕ → List Pair → List ℕ → Type 0 where
  no_tail : (rest : List ℕ) → AtTail rest [] rest
  list_tail : (bs text rest : List ℕ) (ps : List Pair) → AreBlanks bs → AreListed text ps rest → AtTail (bs ++ (codes "{" ++ text)) ps rest

record AtMetric (name : List ℕ) (text : List ℕ) (ps : List Pair) (rest : List ℕ) : Type 0 where
  more : List ℕ
  next : List ℕ
  others : List Pair
  is : text ≡ more ++ next
  bytes : list_all is_metric_byte more ≡ true
  pairs : ps ≡ pair_of metric_label (name ++ more) ∷ others
  tail : AtTail next others rest

-- what stands behind the first byte
abbrev rest_of : List ℕ → List ℕ
rest_of [] = []
rest_of (b ∷ text) = text

-- What each rule tells of the labels that it reads in the text before the rest.
abbrev Told : Rule → List ℕ → List Pair → List ℕ → Type 0
Told Series text ps rest = HasParts text ps rest
Told (MetricByte name) text ps rest = AtMetric name (rest_of text) ps rest
Told (MetricRest name) text ps rest = AtMetric name text ps rest
Told Tail text ps rest = AtTail text ps rest
Told Listed text ps rest = AtTail text ps rest
Told (Braces names) text ps rest = (inside : List ℕ) × (text ≡ codes "{" ++ inside) × AreListed inside ps rest
Told (Items names) text ps rest = AreListed text ps rest
Told (Item names) text ps rest = AtItem text ps rest
Told (NameByte names name) text ps rest = NameTold name (rest_of text) ps rest
Told (NameRest names name) text ps rest = NameTold name text ps rest
Told (Named twice names name) text ps rest = SignTold name text ps rest
Told (After names) text ps rest = AfterPair text ps rest
Told (Next names) text ps rest = Ending text ps rest
Told (InString n) text ps rest = Unit {0}

abbrev StringTold : strings.Rule → List Letter → SeriesValue → List Letter → Type 0
StringTold n ts v rest = (x : strings.StringValue) × (v ≡ quoted x) × Reads strings.production (rule n) ts x rest

abbrev ListTold : Rule → List Letter → SeriesValue → List Letter → Type 0
ListTold n ts v rest = Each IsSeen ts → Each IsSeen rest × ((ps : List Pair) → v ≡ listed ps → Told n (text_of ts) ps (text_of rest))

abbrev Holds : Rule → List Letter → SeriesValue → List Letter → Type 0
Holds (InString n) ts v rest = StringTold n ts v rest
Holds n ts v rest = ListTold n ts v rest

-- what a choice or a sign says
chosen_is : (test : Bool) (m n : Rule) → (if test then Some m else None) ≡ Some n → (test ≡ true) × (n ≡ m)
chosen_is true m n e = (refl, cc)
chosen_is false m n e = absurd (cc)

sign_is : (test : Bool) (w : SeriesValue) → (if test then Some mark else None) ≡ Some w → test ≡ true
sign_is true w e = refl
sign_is false w e = cc

open_byte : (b : ℕ) → same_sign Open (kind_of b) ≡ true → b ≡ 123
open_byte b h = grind (arith, nat_tests)

close_byte : (b : ℕ) → same_sign Close (kind_of b) ≡ true → b ≡ 125
close_byte b h = grind (arith, nat_tests)

comma_byte : (b : ℕ) → same_sign Comma (kind_of b) ≡ true → b ≡ 44
comma_byte b h = grind (arith, nat_tests)

equal_byte : (b : ℕ) → same_sign Equal (kind_of b) ≡ true → b ≡ 61
equal_byte b h = grind (arith, nat_tests)

blank_byte : (b : ℕ) → same_sign Blank (kind_of b) ≡ true → is_blank b ≡ true
blank_byte b h = grind (arith, nat_tests)

metric_first : (b : ℕ) → is_metric_letter_kind (kind_of b) ≡ is_metric_letter b
metric_first b = grind (arith, nat_tests)

metric_next : (b : ℕ) → is_metric_kind (kind_of b) ≡ is_metric_byte b
metric_next b = grind (arith, nat_tests)

-- the byte of a sign
signed : (s : StringByte) (t : Letter) (w : SeriesValue) → sign_at s t ≡ Some w → IsSeen t → same_sign s (kind_of (byte_of t)) ≡ true
signed s (letter k b) w e seen = ap (same_sign s) (sym seen) ∙ sign_is (same_sign s k) w e

-- blanks before what follows
record Blanked (ts mid : List Letter) : Type 0 where
  bs : List ℕ
  is : text_of ts ≡ bs ++ text_of mid
  are : AreBlanks bs
  each : Each IsSeen mid

blanked : {v w : SeriesValue} {ts mid : List Letter} → Built Holds (turns second_of v (sign Blank)) ts w mid → Each IsSeen ts → Blanked ts mid
blanked of_stop h = record { bs = []; is = refl; are = refl; each = h }
blanked (of_turn (of_token {t = t} {v = x} e) more) h =
    let rest = blanked more h.1 in
    let blank : is_blank (byte_of t) ≡ true = blank_byte (byte_of t) (signed Blank t x e h.0) in
    record { bs = byte_of t ∷ rest.bs; is = ap (λ y. byte_of t ∷ y) rest.is; are = rw blank rest.are; each = rest.each }

same_listed : (ps qs : List Pair) → listed ps ≡ listed qs → ps ≡ qs
same_listed ps qs e = cc

-- a part that ends a list
ended : (T : List Pair → Type 0) (ps : List Pair) → listed [] ≡ listed ps → T [] → T ps
ended T ps e h = subst T (same_listed [] ps e) h

-- metric names
more_metric : (name text : List ℕ) (b : ℕ) (ps : List Pair) (rest : List ℕ) → is_metric_byte b ≡ true → AtMetric (name ++ b ∷ []) text ps rest → AtMetric name (b ∷ text) ps rest
more_metric name text b ps rest h m = record {
  more = b ∷ m.more;
  next = m.next;
  others = m.others;
  is = ap (λ y. b ∷ y) m.is;
  bytes = rw h m.bytes;
  pairs = m.pairs ∙ ap (λ n. pair_of metric_label n ∷ m.others) (append_assoc name (b ∷ []) m.more);
  tail = m.tail;
}

headed_metric : (name : List ℕ) (w : SeriesValue) (text : List ℕ) (rest : List ℕ) → ((qs : List Pair) → w ≡ listed qs → AtTail text qs rest) → (ps : List Pair) → headed name mark w ≡ listed ps → AtMetric name text ps rest
headed_metric name (listed qs) text rest h ps e = record {
  more = [];
  next = text;
  others = qs;
  is = refl;
  bytes = refl;
  pairs = sym (same_listed (pair_of metric_label name ∷ qs) ps e) ∙ ap (λ n. pair_of metric_label n ∷ qs) (sym (append-nil name));
  tail = h qs refl;
}
headed_metric name (quoted v) text rest h ps e = absurd (cc)
headed_metric name mark text rest h ps e = absurd (cc)

tail_parts : (name text : List ℕ) (others : List Pair) (rest : List ℕ) → is_metric_name name ≡ true → AtTail text others rest → HasParts (name ++ text) (pair_of metric_label name ∷ others) rest
tail_parts name text others rest h (no_tail rest2) = name_alone name text h
tail_parts name text others rest h (list_tail bs inside rest2 ps k l) = name_and_list name bs inside rest2 ps h k l

metric_parts : (b : ℕ) (text : List ℕ) (ps : List Pair) (rest : List ℕ) → is_metric_letter b ≡ true → AtMetric (b ∷ []) text ps rest → HasParts (b ∷ text) ps rest
metric_parts b text ps rest h m =
    let name : is_metric_name (b ∷ m.more) ≡ true = rw h m.bytes in
    subst (λ x. HasParts (b ∷ x) ps rest) (sym m.is) (subst (λ x. HasParts (b ∷ (m.more ++ m.next)) x rest) (sym m.pairs) (tail_parts (b ∷ m.more) m.next m.others rest name m.tail))

-- names of labels
more_label : (name text : List ℕ) (b : ℕ) (ps : List Pair) (rest : List ℕ) → is_label_byte b ≡ true → NameTold (name ++ b ∷ []) text ps rest → NameTold name (b ∷ text) ps rest
more_label name text b ps rest h (name_told {p = p} {ps = qs} m) = name_told (record {
  more = b ∷ m.more;
  next = m.next;
  is = ap (λ y. b ∷ y) m.is;
  bytes = rw h m.bytes;
  sign = subst (λ n. AtSign n m.next p qs rest) (append_assoc name (b ∷ []) m.more) m.sign;
})

sign_label : (name text : List ℕ) (ps : List Pair) (rest : List ℕ) → SignTold name text ps rest → NameTold name text ps rest
sign_label name text ps rest (sign_told {p = p} {ps = qs} s) =
    name_told (record { more = []; next = text; is = refl; bytes = refl; sign = subst (λ n. AtSign n text p qs rest) (sym (append-nil name)) s })

label_item : (b : ℕ) (text : List ℕ) (ps : List Pair) (rest : List ℕ) → is_letter b ≡ true → NameTold (b ∷ []) text ps rest → AtItem (b ∷ text) ps rest
label_item b text ps rest h (name_told {p = p} {ps = qs} m) = at_pair (b ∷ text) m.sign.end rest p qs (record {
  before = m.sign.before;
  after = m.sign.after;
  quoted = m.sign.string;
  is = ap (λ y. b ∷ y) (m.is ∙ ap (λ y. m.more ++ y) m.sign.is) ∙ ap (λ n. n ++ (m.sign.before ++ (codes "=" ++ (m.sign.after ++ m.sign.string)))) (sym m.sign.name_is);
  name = ap is_label_name m.sign.name_is ∙ rw h m.bytes;
  blank_before = m.sign.blank_before;
  blank_after = m.sign.blank_after;
  value = m.sign.value;
}) m.sign.behind

-- the items of a list, from the blanks before them on
items_told : (bs text : List ℕ) (ps : List Pair) (rest : List ℕ) → AreBlanks bs → AtItem text ps rest → AreListed (bs ++ text) ps rest
items_told bs text ps rest h (at_close rest2) = no_pair bs rest2 h
items_told bs text ps rest h (at_pair text2 after rest2 p qs i a) = by_ending a.next qs rest2 a.ending (subst (λ x. IsPair text2 p x) a.is i) where
  by_ending : (next : List ℕ) (qs : List Pair) (rest : List ℕ) → Ending next qs rest → IsPair text2 p (a.behind ++ next) → AreListed (bs ++ text2) (p ∷ qs) rest
  by_ending next qs rest (closes rest3) k = last_pair bs text2 a.behind rest3 p h k a.blank
  by_ending next qs rest (goes inside rest3 ps3 l) k = one_pair bs text2 a.behind inside rest3 p ps3 h k a.blank l

-- a string as the grammar of strings reads it
inverse_token : {X Y : Type 0} (f : X → Y) (o : Option X) (y : Y) → on_option f o ≡ Some y → (x : X) × (y ≡ f x) × (o ≡ Some x)
inverse_token f (Some x) y e = (x, cc, refl)
inverse_token f None y e = absurd (cc)

abbrev AsString : Form Letter strings.Rule strings.StringValue → List Letter → SeriesValue → List Letter → Type 0
AsString f ts v rest = (x : strings.StringValue) × (v ≡ quoted x) × Reads strings.production f ts x rest

joined_is : (c : strings.StringValue → strings.StringValue → strings.StringValue) (v w : SeriesValue) (x y : strings.StringValue) → v ≡ quoted x → w ≡ quoted y → lifted embedding c v w ≡ quoted (c x y)
joined_is c v w x y e h = rw (e, h) refl

inverse_rule : {n : strings.Rule} {ts rest : List Letter} {x : strings.StringValue} → Reads strings.production (rule n) ts x rest → Reads strings.production (strings.production n) ts x rest
inverse_rule (is_rule d) = d

string_chosen : (q : Letter → Option strings.Rule) (m : Letter → Bool) (t : Letter) (n : Rule) (ts rest : List Letter) (v : SeriesValue) → on_option InString (q t) ≡ Some n → length rest ≤ length ts → Holds n (t ∷ ts) v rest →
    AsString (chosen q m) (t ∷ ts) v rest
string_chosen q m t n ts rest v e l p =
    let k = inverse_token InString (q t) n e in
    let x : StringTold k.0 (t ∷ ts) v rest = subst (λ r. Holds r (t ∷ ts) v rest) k.1 p in
    (x.0, x.1, is_chosen k.2 l (inverse_rule x.2))

module _ (C : SeriesValue → SeriesValue → SeriesValue) (c : strings.StringValue → strings.StringValue → strings.StringValue) (joins : (v w : SeriesValue) (x y : strings.StringValue) → v ≡ quoted x → w ≡ quoted y → C v w ≡ quoted (c x y))
    (H : Form Letter Rule SeriesValue) (g : Form Letter strings.Rule strings.StringValue) (each : (ts rest : List Letter) (v : SeriesValue) → Built Holds H ts v rest → AsString g ts v rest) where
  in_turns : (x : strings.StringValue) (w : SeriesValue) {ts rest : List Letter} {v : SeriesValue} → w ≡ quoted x → Built Holds (turns C w H) ts v rest → AsString (turns c x g) ts v rest
  in_turns x w e of_stop = (x, e, is_stop)
  in_turns x w e (of_turn {ts = ts} {mid = mid} {w = z} d k) =
      let y = each ts mid z d in
      let more = in_turns (c x y.0) (C w z) (joins w z x y.0 e y.1) k in
      (more.0, more.1, is_turn y.2 more.2)

in_string : (f : Form Letter strings.Rule strings.StringValue) (ts rest : List Letter) (v : SeriesValue) → Built Holds (within embedding f) ts v rest → AsString f ts v rest
in_string (token p) ts rest v (of_token {t = t} e) = let x = inverse_token quoted (p t) v e in (x.0, x.1, is_token x.2)
in_string (nothing x) ts rest v of_nothing = (x, refl, is_nothing)
in_string (pair c f g) ts rest u (of_pair {mid = mid} {v = v} {w = w} d k) =
    let x = in_string f ts mid v d in
    let y = in_string g mid rest w k in
    (c x.0 y.0, joined_is c v w x.0 y.0 x.1 y.1, is_pair x.2 y.2)
in_string (either f g) ts rest v (of_left d) = let x = in_string f ts rest v d in (x.0, x.1, is_left x.2)
in_string (either f g) ts rest v (of_right d) = let x = in_string g ts rest v d in (x.0, x.1, is_right x.2)
in_string (turns c x g) ts rest v d =
    in_turns (lifted embedding c) c (joined_is c) (within embedding g) g (λ us end w k. in_string g us end w k) x (quoted x) refl d
in_string (fold c f g) ts rest v (of_fold {mid = mid} {v = u} d k) =
    let x = in_string f ts mid u d in
    let y = in_turns (lifted embedding c) c (joined_is c) (within embedding g) g (λ us end w k. in_string g us end w k) x.0 u x.1 k in
    (y.0, y.1, is_fold x.2 y.2)
in_string (chosen q m) ts rest v (of_choice {t = t} {n = n} {ts = us} e l p) = string_chosen q m t n us rest v e l p
in_string (rule n) ts rest v (of_rule p) = p

-- the value of a label
value_told : (name : List ℕ) (v w : SeriesValue) (ts mid : List Letter) (text : List ℕ) (before after : List ℕ) (rest : List ℕ) → StringTold strings.Text ts v mid → Each IsSeen ts → Each IsSeen mid →
    ((qs : List Pair) → w ≡ listed qs → AfterPair (text_of mid) qs rest) → text ≡ before ++ (codes "=" ++ (after ++ text_of ts)) → AreBlanks before → AreBlanks after →
    (ps : List Pair) → labelled name v w ≡ listed ps → SignTold name text ps rest
value_told name v w ts mid text before after rest x h k a is b c ps e = by_value x.0 w x.2 a (ap (λ y. labelled name y w) (sym x.1) ∙ e) where
  by_value : (x : strings.StringValue) (w : SeriesValue) → Reads strings.production (rule strings.Text) ts x mid → ((qs : List Pair) → w ≡ listed qs → AfterPair (text_of mid) qs rest) → labelled name (quoted x) w ≡ listed ps → SignTold name text ps rest
  by_value (strings.content bytes) (listed qs) d a e = subst (λ y. SignTold name text y rest) (same_listed (pair_of name bytes ∷ qs) ps e) (sign_told (record {
    before = before;
    after = after;
    string = text_of ts;
    end = text_of mid;
    is = is;
    name_is = refl;
    blank_before = b;
    blank_after = c;
    value = subst (λ us. Reads strings.production (rule strings.Text) us (strings.content bytes) (seen (text_of mid))) (sym (seen_again ts h)) (subst (λ us. Reads strings.production (rule strings.Text) ts (strings.content bytes) us) (sym (seen_again mid k)) d);
    behind = a qs refl;
  }))
  by_value (strings.content bytes) (quoted u) d a e = absurd (cc)
  by_value (strings.content bytes) mark d a e = absurd (cc)
  by_value strings.mark w d a e = absurd (cc)

string_each : {n : strings.Rule} {ts mid : List Letter} {v : SeriesValue} → StringTold n ts v mid → Each IsSeen ts → Each IsSeen mid
string_each x h = each_suffix (reads_suffix x.2) h

-- one production at a time
step : (n : Rule) (ts : List Letter) (v : SeriesValue) (rest : List Letter) → Built Holds (production n) ts v rest → Holds n ts v rest
step Series ts v rest (of_left (of_choice {t = letter k b} {n = n} {ts = us} e l p)) = λ h.
    let c = chosen_is (is_metric_letter_kind k) (MetricByte (b ∷ [])) n e in
    let first : is_metric_letter b ≡ true = sym (metric_first b) ∙ (ap is_metric_letter_kind (sym h.0) ∙ c.0) in
    let m : ListTold (MetricByte (b ∷ [])) (letter k b ∷ us) v rest = subst (λ r. Holds r (letter k b ∷ us) v rest) c.1 p in
    ((m h).0, λ ps q. metric_parts b (text_of us) ps (text_of rest) first ((m h).1 ps q))
step Series ts v rest (of_right (of_rule p)) = λ h.
    let q = p h in
    (q.0, λ ps e. let x = q.1 ps e in subst (λ y. HasParts y ps (text_of rest)) (sym x.1) (list_alone x.0 (text_of rest) ps x.2))
step (MetricByte name) ts v rest (of_pair (of_token e) (of_rule p)) = λ h. let q = p h.1 in (q.0, λ ps e. q.1 ps e)
step (MetricRest name) ts v rest (of_left (of_choice {t = letter k b} {n = n} {ts = us} e l p)) = λ h.
    let c = chosen_is (is_metric_kind k) (MetricByte (name ++ b ∷ [])) n e in
    let next : is_metric_byte b ≡ true = sym (metric_next b) ∙ (ap is_metric_kind (sym h.0) ∙ c.0) in
    let m : ListTold (MetricByte (name ++ b ∷ [])) (letter k b ∷ us) v rest = subst (λ r. Holds r (letter k b ∷ us) v rest) c.1 p in
    ((m h).0, λ ps q. more_metric name (text_of us) b ps (text_of rest) next ((m h).1 ps q))
step (MetricRest name) ts v rest (of_right (of_pair {w = w} of_nothing (of_rule p))) = λ h.
    let q = p h in
    (q.0, λ ps e. headed_metric name w (text_of ts) (text_of rest) q.1 ps e)
step Tail ts v rest (of_left (of_rule p)) = p
step Tail ts v rest (of_right of_nothing) = λ h. (h, λ ps e. ended (λ qs. AtTail (text_of ts) qs (text_of ts)) ps e (no_tail (text_of ts)))
step Listed ts v rest (of_pair x (of_rule p)) = λ h.
    let b = blanked x h in
    let q = p b.each in
    (q.0, λ ps e. let y = q.1 ps e in subst (λ t. AtTail t ps (text_of rest)) (sym (b.is ∙ ap (λ t. b.bs ++ t) y.1)) (list_tail b.bs y.0 (text_of rest) ps b.are y.2))
step (Braces names) ts v rest (of_pair (of_token {t = t} {v = u} {rest = us} e) (of_rule p)) = λ h.
    let q = p h.1 in
    (q.0, λ ps f. (text_of us, ap (λ b. b ∷ text_of us) (open_byte (byte_of t) (signed Open t u e h.0)), q.1 ps f))
step (Items names) ts v rest (of_pair x (of_rule p)) = λ h.
    let b = blanked x h in
    let q = p b.each in
    (q.0, λ ps e. subst (λ t. AreListed t ps (text_of rest)) (sym b.is) (items_told b.bs _ ps (text_of rest) b.are (q.1 ps e)))
step (Item names) ts v rest (of_left (of_pair (of_token {t = t} {v = u} e) of_nothing)) = λ h. (
  h.1,
  λ ps f. ended (λ qs. AtItem (byte_of t ∷ text_of rest) qs (text_of rest)) ps f
      (subst (λ b. AtItem (b ∷ text_of rest) [] (text_of rest)) (sym (close_byte (byte_of t) (signed Close t u e h.0))) (at_close (text_of rest))),
)
step (Item names) ts v rest (of_right (of_choice {t = letter k b} {n = n} {ts = us} e l p)) = λ h.
    let c = chosen_is (is_letter_kind k) (NameByte names (b ∷ [])) n e in
    let first : is_letter b ≡ true = sym (letter_kind b) ∙ (ap is_letter_kind (sym h.0) ∙ c.0) in
    let m : ListTold (NameByte names (b ∷ [])) (letter k b ∷ us) v rest = subst (λ r. Holds r (letter k b ∷ us) v rest) c.1 p in
    ((m h).0, λ ps q. label_item b (text_of us) ps (text_of rest) first ((m h).1 ps q))
step (NameByte names name) ts v rest (of_pair (of_token e) (of_rule p)) = λ h. let q = p h.1 in (q.0, λ ps e. q.1 ps e)
step (NameRest names name) ts v rest (of_left (of_choice {t = letter k b} {n = n} {ts = us} e l p)) = λ h.
    let c = chosen_is (is_label_kind k) (NameByte names (name ++ b ∷ [])) n e in
    let next : is_label_byte b ≡ true = sym (label_kind b) ∙ (ap is_label_kind (sym h.0) ∙ c.0) in
    let m : ListTold (NameByte names (name ++ b ∷ [])) (letter k b ∷ us) v rest = subst (λ r. Holds r (letter k b ∷ us) v rest) c.1 p in
    ((m h).0, λ ps q. more_label name (text_of us) b ps (text_of rest) next ((m h).1 ps q))
step (NameRest names name) ts v rest (of_right (of_rule p)) = λ h. let q = p h in (q.0, λ ps e. sign_label name (text_of ts) ps (text_of rest) (q.1 ps e))
step (Named true names name) ts v rest (of_token e) = absurd (cc)
step (Named false names name) ts v rest (of_pair x (of_pair (of_token {t = t} {v = u} {rest = us} e) (of_pair {mid = from} y (of_pair {mid = end} {v = z} {w = w} (of_rule s) (of_rule p))))) = λ h.
    let b = blanked x h in
    let a = blanked y b.each.1 in
    let each = string_each s a.each in
    let q = p each in
    let equals : byte_of t ≡ 61 = equal_byte (byte_of t) (signed Equal t u e b.each.0) in
    (q.0, λ ps f. value_told name z w from end (text_of ts) b.bs a.bs (text_of rest) s a.each each q.1 (b.is ∙ (λ i. b.bs ++ (equals i ∷ a.is i))) b.are a.are ps f)
step (After names) ts v rest (of_pair {mid = mid} x (of_rule p)) = λ h.
    let b = blanked x h in
    let q = p b.each in
    (q.0, λ ps e. record { behind = b.bs; next = text_of mid; is = b.is; blank = b.are; ending = q.1 ps e })
step (Next names) ts v rest (of_left (of_pair (of_token {t = t} {v = u} {rest = us} e) (of_rule p))) = λ h.
    let q = p h.1 in
    (q.0, λ ps f. subst (λ b. Ending (b ∷ text_of us) ps (text_of rest)) (sym (comma_byte (byte_of t) (signed Comma t u e h.0))) (goes (text_of us) (text_of rest) ps (q.1 ps f)))
step (Next names) ts v rest (of_right (of_pair (of_token {t = t} {v = u} e) of_nothing)) = λ h. (
  h.1,
  λ ps f. ended (λ qs. Ending (byte_of t ∷ text_of rest) qs (text_of rest)) ps f
      (subst (λ b. Ending (b ∷ text_of rest) [] (text_of rest)) (sym (close_byte (byte_of t) (signed Close t u e h.0))) (closes (text_of rest))),
)
step (InString n) ts v rest x = let y = in_string (strings.production n) ts rest v x in (y.0, y.1, is_rule y.2)

rule_told : {n : Rule} {ts rest : List Letter} {v : SeriesValue} → Built Holds (rule n) ts v rest → Holds n ts v rest
rule_told (of_rule p) = p

pub series_known : (text : List ℕ) (pairs : List Pair) → ReadsSeries text pairs → IsSeriesText text pairs
series_known text pairs d =
    let told : ListTold Series (seen text) (listed pairs) [] = rule_told {n = Series} (built production Holds step d) in
    record { parts = subst (λ x. HasParts x pairs []) (text_again text) ((told (each_seen text)).1 pairs refl); once = series_faultless text pairs d }
