-- A string is open at a place exactly where its first quote would end it.
use Rattle.std.proofs.Common.{◌≡◌, ℕ, zero, suc, ◌+◌, ◌-◌, ◌<◌, ◌≤◌, List, [], ◌∷◌, ◌++◌, Bool, true, false, Some, None, length, take, drop, refl, ap, sym, ◌∙◌, subst, arith, length-append}
use Rattle.std.specs.Prelude.{Option, is_some}
use Rattle.std.proofs.lemmas.List.{drop-map, map-append, take-append-drop}
use Rattle.std.proofs.Math.Seq.{drop-append_seam}
use Rattle.pr_time.specs.pr_forms.Form.{rule, turns, Reads, is_rule, is_left, is_right, is_pair, is_token}
use Rattle.pr_time.specs.pr_forms.Reading.{reading}
use Rattle.pr_time.proofs.FormsEnding.{given_reads, reads_given}
use Rattle.pr_time.proofs.FormsParts.{other_rest}
use Rattle.pr_time.proofs.FormsSuffixes.{suffix_drop, suffix_length, reads_suffix}
use Rattle.pr_labels.specs.pr_words.declared.strings.kind.Mark.{Mark}
use Rattle.pr_labels.specs.pr_words.declared.strings.kind.Mark.TheVariants.{Double, Single, Back}
use Rattle.pr_labels.specs.pr_words.declared.strings.kind.StringByte.{StringByte}
use Rattle.pr_labels.specs.pr_words.declared.strings.kind.StringByte.TheVariants.{Quote}
use Rattle.pr_labels.specs.pr_words.Strings.{production, kind_of, Letter, letter, letter_of, seen, StringValue, content, mark, joined, first_of, Rule, Text, Quoted, quote_at, piece, IsOpenAt}
use Rattle.pr_labels.proofs.WordsStringTable.{known}
use Rattle.pr_labels.proofs.WordsStringEnds.{ends}
use Rattle.pr_labels.specs.pr_words.StringTable.{table, rank, steps}
use Rattle.pr_ast.specs.Lexed.{would_end}

-- whole pieces and then the last quote
record Closed (m : Mark) (ts : List Letter) : Type 0 where
  value : StringValue
  last : Letter
  pieces : Reads production (turns joined (content []) (piece m)) ts value (last ∷ [])

closed : (m : Mark) {ts : List Letter} {v : StringValue} → Reads production (rule (Quoted m)) ts v [] → Closed m ts
closed m (is_rule (is_pair {v = w} d (is_token {t = t} e))) = record { value = w; last = t; pieces = d }

record Opened (ts : List Letter) : Type 0 where
  quote : Mark
  first : Letter
  rest : List Letter
  is : ts ≡ first ∷ rest
  value : StringValue
  opens : quote_at quote first ≡ Some value
  inside : Closed quote rest

opened : {ts : List Letter} {v : StringValue} → Reads production (rule Text) ts v [] → Opened ts
opened (is_rule (is_left (is_pair (is_token {t = t} {v = w} {rest = us} e) d))) = record { quote = Double; first = t; rest = us; is = refl; value = w; opens = e; inside = closed Double d }
opened (is_rule (is_right (is_left (is_pair (is_token {t = t} {v = w} {rest = us} e) d)))) = record { quote = Single; first = t; rest = us; is = refl; value = w; opens = e; inside = closed Single d }
opened (is_rule (is_right (is_right (is_pair (is_token {t = t} {v = w} {rest = us} e) d)))) = record { quote = Back; first = t; rest = us; is = refl; value = w; opens = e; inside = closed Back d }

quote_known : (m : Mark) (k : StringByte) (b : ℕ) (w : StringValue) → quote_at m (letter k b) ≡ Some w → k ≡ Quote m
quote_known Double (Quote Double) b w e = refl
quote_known Single (Quote Single) b w e = refl
quote_known Back (Quote Back) b w e = refl
quote_known m k b w e = cc

quote_taken : (m : Mark) (k : StringByte) (b : ℕ) → k ≡ Quote m → quote_at m (letter k b) ≡ Some mark
quote_taken Double k b e = rw e refl
quote_taken Single k b e = rw e refl
quote_taken Back k b e = rw e refl

text_read : (m : Mark) (t : Letter) (ts : List Letter) (v : StringValue) → quote_at m t ≡ Some mark → Reads production (rule (Quoted m)) ts v [] → Reads production (rule Text) (t ∷ ts) v []
text_read Double t ts v e d = is_rule (is_left (is_pair (is_token e) d))
text_read Single t ts v e d = is_rule (is_right (is_left (is_pair (is_token e) d)))
text_read Back t ts v e d = is_rule (is_right (is_right (is_pair (is_token e) d)))

front_and_quote : (b : ℕ) (rest : List ℕ) (k : ℕ) → seen (take k rest ++ b ∷ []) ≡ seen (take k rest) ++ letter_of b ∷ []
front_and_quote b rest k = map-append letter_of (take k rest) (b ∷ [])

front_and_rest : (rest : List ℕ) (k : ℕ) → seen rest ≡ seen (take k rest) ++ seen (drop k rest)
front_and_rest rest k = ap seen (sym (take-append-drop k rest)) ∙ map-append letter_of (take k rest) (drop k rest)

last_is : (front : List Letter) (x last : Letter) (w v : StringValue) (m : Mark) → Reads production (turns joined w (piece m)) (front ++ x ∷ []) v (last ∷ []) → last ∷ [] ≡ x ∷ []
last_is front x last w v m d =
    let s = suffix_drop (reads_suffix d) in
    let l = length-append front (x ∷ []) in
    let e : length (front ++ x ∷ []) - 1 ≡ length front = omega (arith, l) in
    sym s ∙ (ap (λ k. drop k (front ++ x ∷ [])) e ∙ drop-append_seam front (x ∷ []))

module _ (b : ℕ) (rest : List ℕ) (k : ℕ) where
  to_open : {v : StringValue} → Reads production (rule Text) (letter_of b ∷ seen (take k rest ++ b ∷ [])) v [] → IsOpenAt (b ∷ rest) (suc k)
  to_open d =
      let o = opened d in
      let x = o.inside in
      let i = o.is in
      let f : letter_of b ≡ o.first = cc in
      let r : seen (take k rest ++ b ∷ []) ≡ o.rest = cc in
      let front = seen (take k rest) in
      let p = subst (λ ts. Reads production (turns joined (content []) (piece o.quote)) ts x.value (x.last ∷ [])) (sym r ∙ front_and_quote b rest k) x.pieces in
      let q = subst (λ ts. Reads production (turns joined (content []) (piece o.quote)) (front ++ letter_of b ∷ []) x.value ts) (last_is front (letter_of b) x.last (content []) x.value o.quote p) p in
      let g = other_rest production (turns joined (content []) (piece o.quote)) front (letter_of b ∷ []) (seen (drop k rest)) x.value q in
      let h = subst (λ ts. Reads production (turns joined (content []) (piece o.quote)) ts x.value (seen (drop k rest))) (sym (front_and_rest rest k)) g in
      record {
        quote = o.quote;
        rest = rest;
        opening = record { first = b; is = refl; opens = quote_known o.quote (kind_of b) b o.value (ap (quote_at o.quote) f ∙ o.opens) };
        value = x.value;
        pieces = subst (λ ts. Reads production (turns joined (content []) (piece o.quote)) (seen rest) x.value ts) (sym (drop-map letter_of k rest)) h;
      }

  of_open : IsOpenAt (b ∷ rest) (suc k) → (v : StringValue) × Reads production (rule Text) (letter_of b ∷ seen (take k rest ++ b ∷ [])) v []
  of_open o =
      let i = o.opening in
      let e = i.is in
      let f : b ≡ i.first = cc in
      let r : rest ≡ o.rest = cc in
      let m = o.quote in
      let front = seen (take k rest) in
      let p = subst (λ ts. Reads production (turns joined (content []) (piece m)) (seen ts) o.value (drop k (seen rest))) (sym r) o.pieces in
      let q = subst (λ ts. Reads production (turns joined (content []) (piece m)) ts o.value (seen (drop k rest))) (front_and_rest rest k)
      (subst (λ ts. Reads production (turns joined (content []) (piece m)) (seen rest) o.value ts) (drop-map letter_of k rest) p) in
      let g = other_rest production (turns joined (content []) (piece m)) front (seen (drop k rest)) (letter_of b ∷ []) o.value q in
      let t : quote_at m (letter_of b) ≡ Some mark = quote_taken m (kind_of b) b (ap kind_of f ∙ i.opens) in
      let d : Reads production (rule (Quoted m)) (front ++ letter_of b ∷ []) o.value [] = is_rule (is_pair g (is_token t)) in
      (o.value, text_read m (letter_of b) _ o.value t (subst (λ ts. Reads production (rule (Quoted m)) ts o.value []) (sym (front_and_quote b rest k)) d))

no_empty : {v : StringValue} → Reads production (rule Text) [] v [] → ⊥
no_empty d = let o = opened d in let e = o.is in cc

no_quote_alone : (t : Letter) {v : StringValue} → Reads production (rule Text) (t ∷ []) v [] → ⊥
no_quote_alone t d =
    let o = opened d in let e = o.is in
    let r : [] ≡ o.rest = cc in
    let x = o.inside in
    let s = suffix_length (reads_suffix x.pieces) in
    let l : length o.rest ≡ 0 = ap length (sym r) in
    omega (arith, s, l)

not_at_front : (text : List ℕ) → IsOpenAt text 0 → ⊥
not_at_front text o =
    let i = o.opening in let e = i.is in
    let s = suffix_length (reads_suffix o.pieces) in
    let l : length (seen text) ≡ suc (length (seen o.rest)) = ap (λ (ts : List ℕ). length (seen ts)) e in
    omega (arith, s, l)

given : (text : List ℕ) (n : ℕ) → would_end text n ≡ true → (v : StringValue) × Reads production (rule Text) (seen (take n text ++ take 1 text)) v []
given text n h = by_value (reading production table steps (rule Text) (seen (take n text ++ take 1 text))) refl
  where
    by_value : (o : Option StringValue) → reading production table steps (rule Text) (seen (take n text ++ take 1 text)) ≡ o → (v : StringValue) × Reads production (rule Text) (seen (take n text ++ take 1 text)) v []
    by_value (Some v) e = (v, given_reads production table known rank steps ends Text (seen (take n text ++ take 1 text)) v e)
    by_value None e = let k : false ≡ true = sym (ap is_some e) ∙ h in cc

pub is_open : (text : List ℕ) (n : ℕ) → would_end text n ≡ true → IsOpenAt text n
is_open [] zero h = absurd (no_empty (given [] zero h).1)
is_open [] (suc n) h = absurd (no_empty (given [] (suc n) h).1)
is_open (b ∷ rest) zero h = absurd (no_quote_alone (letter_of b) (given (b ∷ rest) zero h).1)
is_open (b ∷ rest) (suc k) h = to_open b rest k (given (b ∷ rest) (suc k) h).1

pub not_open : (text : List ℕ) (n : ℕ) → would_end text n ≡ false → IsOpenAt text n → ⊥
not_open [] n h o = let i = o.opening in let e = i.is in cc
not_open (b ∷ rest) zero h o = not_at_front (b ∷ rest) o
not_open (b ∷ rest) (suc k) h o =
    let d = of_open b rest k o in
    let e = reads_given production table known rank steps ends Text (letter_of b ∷ seen (take k rest ++ b ∷ [])) d.0 d.1 in
    let f : true ≡ false = sym (ap is_some e) ∙ h in cc
