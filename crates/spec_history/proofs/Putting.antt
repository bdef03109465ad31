-- What entries that are put one after another add, in parts.
use Rattle.std.proofs.Common.{◌≡◌, ℕ, ◌+◌, Bool, true, false, cond, List, [], ◌∷◌, ◌++◌, length, map, filter, refl, sym, ap, ◌∙◌, subst, append_assoc, append-nil}
use Rattle.std.specs.Prelude.{count_by}
use Rattle.std.specs.List.{zip}
use Rattle.std.proofs.lemmas.List.{length-append}
use Rattle.std.proofs.lemmas.List.Sums.{fold-append, sum_by-append, sum_by-cons}
use Rattle.spec_history.specs.private.Laws.{IsLawful}
use Rattle.spec_history.specs.Admission.{admit, put, put_by, put_all}
use Rattle.spec_history.specs.declared.append.Append.{Append}
use Rattle.spec_history.specs.declared.append.Append.TheVariants as append
use Rattle.spec_history.specs.declared.entry.Entry.{Entry}
use Rattle.spec_history.proofs.Lawful.{put_all_lawful}
use Rattle.spec_history.specs.Puts.{added_count, admitted, admissions, is_added}

-- what becomes of one entry
abbrev pub answer_to : List Entry → Entry → Append
answer_to history e = admit history e.labels e.time e.point

-- one more item that is picked, or passed over
pub picks : {P R : Type 0} (keep : P → Bool) (g : P → R) (p : P) (ps : List P) → map g (filter keep (p ∷ ps)) ≡ cond (keep p) (g p ∷ []) [] ++ map g (filter keep ps)
picks {P} {R} keep g p ps = by (keep p) where
  by : (b : Bool) → map g (cond b (p ∷ filter keep ps) (filter keep ps)) ≡ cond b (g p ∷ []) [] ++ map g (filter keep ps)
  by true = refl
  by false = refl

abbrev pub one_admitted : Append → Entry → List Entry
one_admitted answer e = cond (is_added answer) (e ∷ []) []

pub admitted_first : (history : List Entry) (e : Entry) (es : List Entry) → admitted history (e ∷ es) ≡ one_admitted (answer_to history e) e ++ admitted (put history e) es
admitted_first history e es = picks (λ p. is_added p.1) (λ p. p.0) (e, answer_to history e) (zip es (admissions (put history e) es))

pub admitted_parts : (history es more : List Entry) → admitted history (es ++ more) ≡ admitted history es ++ admitted (put_all history es) more
admitted_parts history [] more = refl
admitted_parts history (e ∷ es) more =
    let one = one_admitted (answer_to history e) e in
    admitted_first history e (es ++ more)
    ∙ ap (λ (l : List Entry). one ++ l) (admitted_parts (put history e) es more)
    ∙ sym (append_assoc one (admitted (put history e) es) (admitted (put_all (put history e) es) more))
    ∙ ap (λ (l : List Entry). l ++ admitted (put_all (put history e) es) more) (sym (admitted_first history e es))

put_adds : (answer : Append) (history : List Entry) (e : Entry) → put_by answer history e ≡ history ++ one_admitted answer e
put_adds append.Added history e = refl
put_adds append.Same history e = sym (append-nil history)
put_adds (append.OutOfOrder last) history e = sym (append-nil history)
put_adds (append.Conflict kept) history e = sym (append-nil history)

pub puts_admitted : (history entries : List Entry) → put_all history entries ≡ history ++ admitted history entries
puts_admitted history [] = sym (append-nil history)
puts_admitted history (e ∷ es) =
    let one = one_admitted (answer_to history e) e in
    puts_admitted (put history e) es
    ∙ ap (λ (l : List Entry). l ++ admitted (put history e) es) (put_adds (answer_to history e) history e)
    ∙ append_assoc history one (admitted (put history e) es)
    ∙ ap (λ (l : List Entry). history ++ l) (sym (admitted_first history e es))

one_counted : (answer : Append) (e : Entry) → length (one_admitted answer e) ≡ cond (is_added answer) 1 0
one_counted append.Added e = refl
one_counted append.Same e = refl
one_counted (append.OutOfOrder last) e = refl
one_counted (append.Conflict kept) e = refl

pub admitted_counted : (history entries : List Entry) → length (admitted history entries) ≡ added_count history entries
admitted_counted history [] = refl
admitted_counted history (e ∷ es) =
    ap length (admitted_first history e es)
    ∙ length-append (one_admitted (answer_to history e) e) (admitted (put history e) es)
    ∙ ap (λ (n : ℕ). n + length (admitted (put history e) es)) (one_counted (answer_to history e) e)
    ∙ ap (λ (n : ℕ). cond (is_added (answer_to history e)) 1 0 + n) (admitted_counted (put history e) es)
    ∙ sym (sum_by-cons (λ a. cond (is_added a) 1 0) (answer_to history e) (admissions (put history e) es))

-- entries that are put in two parts
pub puts_parts : (history es more : List Entry) → put_all history (es ++ more) ≡ put_all (put_all history es) more
puts_parts history es more = fold-append put history es more

pub answers_parts : (history es more : List Entry) → admissions history (es ++ more) ≡ admissions history es ++ admissions (put_all history es) more
answers_parts history [] more = refl
answers_parts history (e ∷ es) more = ap (λ (l : List Append). answer_to history e ∷ l) (answers_parts (put history e) es more)

pub counts_parts : {X : Type 0} (p : X → Bool) (xs ys : List X) → count_by p (xs ++ ys) ≡ count_by p xs + count_by p ys
counts_parts p xs ys = sum_by-append (λ x. cond (p x) 1 0) xs ys

pub admitted_lawful : (history entries : List Entry) → IsLawful history → IsLawful (history ++ admitted history entries)
admitted_lawful history entries lawful = subst IsLawful (puts_admitted history entries) (put_all_lawful history entries lawful)
