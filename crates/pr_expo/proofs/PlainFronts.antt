-- Where the plain front of a line leads: a name, and labels with no blank and no escape in them.
use Rattle.std.proofs.Common.{◌≡◌, refl, sym, ap, ◌∙◌, subst, ℕ, ◌<◌, List, [], ◌∷◌, ◌++◌, length, take, drop, Bool, true, false, ◌&&◌, not, Some, Result, Ok, Err, IfOk, Bor, encode_utf8, arith}
use Prim.Native.Char.{code}
use Rattle.std.specs.Char.{is_ascii_digit}
use Rattle.std.specs.List.{list_all, position_or_len}
use Rattle.std.specs.Str.{IsAscii, IsUtf8, chars}
use Rattle.std.proofs.lemmas.List.{take-append-drop}
use Rattle.std.proofs.lemmas.Str.{IsUtf8-drop, IsUtf8-from_ascii, chars-IsAscii, chars-append}
use Rattle.pr_labels.specs.pr_words.Bytes.{is_label_byte, is_letter}
use Rattle.pr_labels.specs.Names.{is_label_name, is_metric_byte, is_metric_letter, is_metric_name}
use Rattle.pr_expo.specs.declared.expo_line.place.LineHead.{LineHead}
use Rattle.pr_expo.specs.declared.expo_line.place.LineCursor.{LineCursor}
use Rattle.pr_expo.specs.declared.expo_line.place.LineCursor.TheVariants.{Start, InName, BeforeLabel, InLabel, BeforeQuote, InValue, AfterValue, BeforeNumber, InNumber}
use Rattle.pr_expo.specs.declared.expo_line.number.NumberPlace.TheVariants.{Whole}
use Rattle.pr_expo.specs.Line.{goes, stands_before, way, with_label}
use Rattle.pr_expo.specs.private.Runs.{begins_with, ends_plain, LeadsTo}
use Rattle.pr_expo.proofs.Leading.{both, metric_byte_small, no, starts_label, starts_name, starts_whole}
use Rattle.pr_expo.proofs.RunSteps.{all_before, ascii, digits_boundary, label_boundary, metric_boundary, plain_boundary, plain_run, run_goes_on}
use Rattle.pr_expo.proofs.Sound.{digit_small, label_small}
use Rattle.pr_expo.proofs.Ways.{goes_on}

-- one part behind another
pub on : (p q r : LineCursor) (text mid rest : List ℕ) → LeadsTo p text q mid → LeadsTo q mid r rest → LeadsTo p text r rest
on p q r text mid rest f g = record { is_text = g.is_text; leads = f.leads ∙ g.leads }

pub then_on : {E : Type 0} (p q : LineCursor) (text mid : List ℕ) (result : Result (LineCursor × Bor (List ℕ)) E) → LeadsTo p text q mid →
    IfOk result (λ x. LeadsTo q mid x.0 x.1.now) → IfOk result (λ x. LeadsTo p text x.0 x.1.now)
then_on p q text mid (Ok x) f h = on p q x.0 text mid x.1.now f h
then_on p q text mid (Err e) f h = h

-- nothing is taken
pub at_once : (p : LineCursor) (text : List ℕ) → IsUtf8 text → LeadsTo p text p text
at_once p text u = record { is_text = u; leads = refl }

-- a character
pub mark_leads : (place next : LineCursor) (c : ℕ) (text rest : List ℕ) → IsUtf8 text → text ≡ encode_utf8 c ++ rest → goes place c ≡ Some next → LeadsTo place text next rest
mark_leads place next c text rest u parts to = let g = goes_on place next c text rest (way place (chars text)) u parts refl to in record { is_text = g.0; leads = sym g.1 }

-- bytes of a class that has ASCII characters alone are the first characters of a text
small_front : (p : ℕ → Bool) → ((c : ℕ) → p c ≡ true → c < 128) → (text front rest : List ℕ) → front ≡ take (position_or_len (λ b. not (p b)) text) text →
    rest ≡ drop (position_or_len (λ b. not (p b)) text) text → (list_all p front ≡ true) × (chars text ≡ front ++ chars rest)
small_front p s text front rest f b =
    let all : list_all p front ≡ true = ap (list_all p) f ∙ all_before p text in
    let small : IsAscii front = ascii p s front all in
    let whole : text ≡ front ++ rest = sym (take-append-drop (position_or_len (λ b. not (p b)) text) text) ∙ (λ i. sym f i ++ sym b i) in
    (all, ap chars whole ∙ chars-append front rest (IsUtf8-from_ascii front small) ∙ ap (λ x. x ++ chars rest) (chars-IsAscii front small))

is_metric : (name : List ℕ) → list_all is_metric_byte name ≡ true → begins_with is_metric_letter name ≡ true → is_metric_name name ≡ true
is_metric [] h b = cc
is_metric (c ∷ cs) h b = ap (λ t. t && list_all is_metric_byte cs) b ∙ (both (is_metric_byte c) (list_all is_metric_byte cs) h).1

is_label : (name : List ℕ) → list_all is_label_byte name ≡ true → begins_with is_letter name ≡ true → is_label_name name ≡ true
is_label [] h b = cc
is_label (c ∷ cs) h b = ap (λ t. t && list_all is_label_byte cs) b ∙ (both (is_label_byte c) (list_all is_label_byte cs) h).1

pub name_leads : (text name rest : List ℕ) → IsUtf8 text → name ≡ take (position_or_len (λ b. not (is_metric_byte b)) text) text →
    rest ≡ drop (position_or_len (λ b. not (is_metric_byte b)) text) text → begins_with is_metric_letter name ≡ true → LeadsTo Start text (InName name) rest
name_leads text name rest u front back begins =
    let k = small_front is_metric_byte metric_byte_small text name rest front back in
    record {
      is_text = subst IsUtf8 (sym back) (IsUtf8-drop text (position_or_len (λ b. not (is_metric_byte b)) text) u (metric_boundary text u));
      leads = ap (way Start) k.1 ∙ starts_name name (is_metric name k.0 begins) (chars rest);
    }

pub label_leads : (head : LineHead) (text name rest : List ℕ) → IsUtf8 text → name ≡ take (position_or_len (λ b. not (is_label_byte b)) text) text →
    rest ≡ drop (position_or_len (λ b. not (is_label_byte b)) text) text → begins_with is_letter name ≡ true → LeadsTo (BeforeLabel head) text (InLabel head name) rest
label_leads head text name rest u front back begins =
    let k = small_front is_label_byte label_small text name rest front back in
    record {
      is_text = subst IsUtf8 (sym back) (IsUtf8-drop text (position_or_len (λ b. not (is_label_byte b)) text) u (label_boundary text u));
      leads = ap (way (BeforeLabel head)) k.1 ∙ starts_label head name (is_label name k.0 begins) (chars rest);
    }

-- the sign of a value and its quote
pub opened_leads : (head : LineHead) (name text mid rest : List ℕ) → IsUtf8 text → text ≡ encode_utf8 (code "=") ++ mid → mid ≡ encode_utf8 (code "\"") ++ rest →
    stands_before head name ≡ false → LeadsTo (InLabel head name) text (InValue head name []) rest
opened_leads head name text mid rest u sign quote s =
    let a = mark_leads (InLabel head name) (BeforeQuote head name) (code "=") text mid u sign (no (stands_before head name) _ _ s) in
    on (InLabel head name) (BeforeQuote head name) (InValue head name []) text mid rest a (mark_leads (BeforeQuote head name) (InValue head name []) (code "\"") mid rest a.is_text quote refl)

-- a value and its quote
pub value_leads : (head : LineHead) (name text value mid rest : List ℕ) → IsUtf8 text → value ≡ take (position_or_len ends_plain text) text →
    mid ≡ drop (position_or_len ends_plain text) text → mid ≡ encode_utf8 (code "\"") ++ rest → LeadsTo (InValue head name []) text (AfterValue (with_label head name value)) rest
value_leads head name text value mid rest u front back quote =
    let inside = InValue head name value in
    let g = run_goes_on (InValue head name []) inside text value mid (position_or_len ends_plain text) (way (InValue head name []) (chars text)) u (plain_boundary text) (plain_run text u) front back refl refl in
    on (InValue head name []) inside (AfterValue (with_label head name value)) text mid rest (record { is_text = g.0; leads = sym g.1 }) (mark_leads inside (AfterValue (with_label head name value)) (code "\"") mid rest g.0 quote refl)

-- the digits that a number begins with
first_whole : (head : LineHead) (digits cs : List ℕ) → 0 < length digits → list_all is_ascii_digit digits ≡ true → way (BeforeNumber head) (digits ++ cs) ≡ way (InNumber head Whole digits) cs
first_whole head [] cs some all = absurd (omega arith)
first_whole head (d ∷ ds) cs some all = starts_whole head d ds all cs

pub digits_lead : (head : LineHead) (text digits rest : List ℕ) → IsUtf8 text → digits ≡ take (position_or_len (λ b. not (is_ascii_digit b)) text) text →
    rest ≡ drop (position_or_len (λ b. not (is_ascii_digit b)) text) text → 0 < length digits → LeadsTo (BeforeNumber head) text (InNumber head Whole digits) rest
digits_lead head text digits rest u front back some =
    let k = small_front is_ascii_digit digit_small text digits rest front back in
    record {
      is_text = subst IsUtf8 (sym back) (IsUtf8-drop text (position_or_len (λ b. not (is_ascii_digit b)) text) u (digits_boundary text u));
      leads = ap (way (BeforeNumber head)) k.1 ∙ first_whole head digits (chars rest) some k.0;
    }
