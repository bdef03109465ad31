-- Whether whole pieces reach up to a place: what the loop over them keeps.
use Rattle.std.proofs.Common.{◌≡◌, ℕ, ◌-◌, ◌<◌, ◌≤◌, List, [], ◌∷◌, Bool, true, false, length, drop, refl, ap, sym, ◌∙◌, subst, arith, length-drop}
use Rattle.std.proofs.lemmas.List.{length-map}
use Rattle.std.specs.Prelude.{MatchBool, nat_eq}
use Rattle.pr_forms.specs.Form.{Form, turns, Reads, is_stop, is_turn}
use Rattle.pr_forms.specs.Table.{Decides}
use Rattle.pr_forms.specs.Run.{Runs, good, bad}
use Rattle.pr_forms.proofs.Sound.{meets, reads}
use Rattle.pr_forms.proofs.Decided.{decides_first, decides_turn}
use Rattle.pr_forms.proofs.Fronts.{same_good, none_good}
use Rattle.pr_forms.proofs.Suffixes.{Suffix, there, reads_suffix, suffix_drop, suffix_length}
use Rattle.pr_words.specs.declared.strings.kind.Mark.{Mark}
use Rattle.pr_words.specs.declared.strings.kind.StringByte.{StringByte}
use Rattle.pr_words.specs.declared.strings.kind.StringByte.TheVariants.{Quote}
use Rattle.pr_words.specs.Strings.{production, kind_of, letter_of, seen, Letter, StringValue, content, Rule, Quoted, piece, joined, IsOpening, IsOpenAt}
use Rattle.pr_forms.specs.Language.{Takes, Lacks}
use Rattle.pr_words.specs.private.Language.{text_strings}
use Rattle.pr_words.specs.private.Reader.{BreaksAt, HasNoOpening}
use Rattle.pr_forms.specs.declared.reader.Fault.{Fault}
use Rattle.pr_forms.specs.declared.reader.Fault.TheVariants.{Bad, Memory}
use Rattle.std.proofs.lemmas.Bool.Decides.{nat_tests}
use Rattle.pr_words.proofs.StringTable.{known}
use Rattle.pr_words.specs.StringTable.{table}

abbrev pub pieces_after : Mark → StringValue → Form Letter Rule StringValue
pieces_after m w = turns joined w (piece m)

decided : (m : Mark) → Decides table (piece m)
decided m = decides_turn table (decides_first table (known.decides (Quoted m)))

same_turn : (m : Mark) (w x y v : StringValue) (next mid r : List Letter) → (y ≡ x) × (mid ≡ next) → Reads production (pieces_after m (joined w y)) mid v r → Reads production (pieces_after m (joined w x)) next v r
same_turn m w x y v next mid r s e = subst (λ z. Reads production (pieces_after m (joined w z)) next v r) s.0 (subst (λ ts. Reads production (pieces_after m (joined w y)) ts v r) s.1 e)

pub step_on : (m : Mark) (w x v : StringValue) (rest next r : List Letter) → Runs production table (piece m) rest (good x next) → length r < length rest →
    Reads production (pieces_after m w) rest v r → Reads production (pieces_after m (joined w x)) next v r
step_on m w x v rest next r q lt is_stop = absurd (omega arith)
step_on m w x v rest next r q lt (is_turn d e) = same_turn m w x _ v next _ r (same_good production table known (decided m) (λ t. refl) q d) e

pub no_step : (m : Mark) (w v : StringValue) (rest at r : List Letter) → Runs production table (piece m) rest (bad at) → length r < length rest → Reads production (pieces_after m w) rest v r → ⊥
no_step m w v rest at r q lt is_stop = omega arith
no_step m w v rest at r q lt (is_turn d e) = none_good production table known (decided m) (λ t. refl) q d

pub no_opening : (text rest : List ℕ) (b : ℕ) (k : StringByte) → text ≡ b ∷ rest → k ≡ kind_of b → ((m : Mark) → k ≡ Quote m → ⊥) → HasNoOpening text
no_opening text rest b k e h n = λ m after x.
    let two : x.first ∷ after ≡ b ∷ rest = sym x.is ∙ e in
    let first : x.first ≡ b = cc in
    n m (h ∙ (ap kind_of (sym first) ∙ x.opens))

-- Whole pieces stand before the rest, and those that reach the target go on from it.
pub record Along (m : Mark) (body rest : List ℕ) (target : List Letter) : Type 0 where
  pub value : StringValue
  pub back : (v : StringValue) (r : List Letter) → Reads production (pieces_after m value) (seen rest) v r → Reads production (pieces_after m (content [])) (seen body) v r
  pub on : (v : StringValue) → Reads production (pieces_after m (content [])) (seen body) v target → Reads production (pieces_after m value) (seen rest) v target

pub along_start : (m : Mark) (body : List ℕ) (target : List Letter) → Along m body body target
along_start m body target = record { value = content []; back = λ v r d. d; on = λ v d. d }

seen_length : (xs : List ℕ) → length (seen xs) ≡ length xs
seen_length xs = length-map xs letter_of

below : (rest : List ℕ) (target : List Letter) (n : ℕ) → length target ≡ n → n < length rest → length target < length (seen rest)
below rest target n e lt = omega (arith, seen_length rest)

pub along_step : (m : Mark) (body rest next : List ℕ) (target : List Letter) (n : ℕ) (x : StringValue) → length target ≡ n → n < length rest → Along m body rest target → Takes text_strings (piece m) rest x next → Along m body next target
along_step m body rest next target n x e lt a t = record {
  value = joined a.value x;
  back = λ v r d. a.back v r (is_turn (reads (meets t.gives)) d);
  on = λ v d. step_on m a.value x v (seen rest) (seen next) target t.gives (below rest target n e lt) (a.on v d);
}

module _ (text : List ℕ) (place : ℕ) (short : place ≤ length text) where
  abbrev pub target : List Letter
  target = drop place (seen text)

  pub target_length : length target ≡ length text - place
  target_length = omega (arith, length-drop place (seen text), seen_length text)

  same_opening : (m q : Mark) (body rest : List ℕ) → IsOpening text m body → IsOpening text q rest → (m ≡ q) × (body ≡ rest)
  same_opening m q body rest x y =
      let e : x.first ∷ body ≡ y.first ∷ rest = sym x.is ∙ y.is in
      let first : x.first ≡ y.first = cc in
      let h : Quote m ≡ Quote q = sym x.opens ∙ (ap kind_of first ∙ y.opens) in
      (cc, cc)

  -- what an open string says of the pieces after its quote
  pub open_on : (m : Mark) (body : List ℕ) → IsOpening text m body → IsOpenAt text place → (v : StringValue) × Reads production (pieces_after m (content [])) (seen body) v target
  open_on m body o x =
      let s = same_opening m x.quote body x.rest o x.opening in (
        x.value,
        subst (λ q. Reads production (pieces_after q (content [])) (seen body) x.value target) (sym s.0)
            (subst (λ b. Reads production (pieces_after x.quote (content [])) (seen b) x.value target) (sym s.1) x.pieces),
      )

  pub not_without_opening : HasNoOpening text → IsOpenAt text place → ⊥
  not_without_opening h x = h x.quote x.rest x.opening

  pub not_past_bad : (m : Mark) (body rest : List ℕ) (at : List Letter) → IsOpening text m body → Along m body rest target → length text - place < length rest → Runs production table (piece m) (seen rest) (bad at) → IsOpenAt text place → ⊥
  not_past_bad m body rest at o a lt q x =
      let d = open_on m body o x in
      no_step m a.value d.0 (seen rest) at target q (below rest target _ target_length lt) (a.on d.0 d.1)

  pub not_past_none : (m : Mark) (body rest : List ℕ) → IsOpening text m body → Along m body rest target → length text - place < length rest → Lacks text_strings (piece m) rest → IsOpenAt text place → ⊥
  not_past_none m body rest o a lt q = not_past_bad m body rest (seen rest) o a lt q.gives

  pub not_past_break : (m : Mark) (body rest : List ℕ) (e : Fault ℕ) → IsOpening text m body → Along m body rest target → length text - place < length rest → BreaksAt (piece m) rest e → IsOpenAt text place → ⊥
  not_past_break m body rest (Bad at) o a lt q = not_past_bad m body rest (seen at.now) o a lt q.gives
  not_past_break m body rest Memory o a lt q = λ x. q

  pub not_passed : (m : Mark) (body rest : List ℕ) → IsOpening text m body → Along m body rest target → length rest < length text - place → IsOpenAt text place → ⊥
  not_passed m body rest o a lt x =
      let d = open_on m body o x in
      let s = suffix_length (reads_suffix (a.on d.0 d.1)) in
      omega (arith, s, seen_length rest, target_length)

  pub is_open : (m : Mark) (body rest : List ℕ) → IsOpening text m body → Along m body rest target → length rest ≡ length text - place → IsOpenAt text place
  is_open m body rest o a e = record { quote = m; rest = body; opening = o; value = a.value; pieces = subst (λ r. Reads production (pieces_after m (content [])) (seen body) a.value r) is here }
    where
      here : Reads production (pieces_after m (content [])) (seen body) a.value (seen rest)
      here = a.back a.value (seen rest) is_stop

      within : Suffix (seen rest) (seen text)
      within = subst (λ x. Suffix (seen rest) (seen x)) (sym o.is) (there (reads_suffix here))

      is : seen rest ≡ target
      is = let n : length (seen text) - length (seen rest) ≡ place = omega (arith, seen_length text, seen_length rest, e, short) in
          sym (suffix_drop within) ∙ ap (λ k. drop k (seen text)) n

  -- where the loop ends
  pub at_place : (m : Mark) (body rest : List ℕ) → IsOpening text m body → Along m body rest target → length rest ≤ length text - place →
      MatchBool (nat_eq (length rest) (length text - place)) (IsOpenAt text place) (IsOpenAt text place → ⊥)
  at_place m body rest o a le = by_test (nat_eq (length rest) (length text - place)) refl
    where
      by_test : (b : Bool) → nat_eq (length rest) (length text - place) ≡ b → MatchBool b (IsOpenAt text place) (IsOpenAt text place → ⊥)
      by_test true e = is_open m body rest o a (grind (arith, nat_tests))
      by_test false e = not_passed m body rest o a (grind (arith, nat_tests))
