-- A bad line is bad at its first bad place, and in the way that is told of it.
use Rattle.std.proofs.Common.{◌≡◌, refl, sym, ap, ◌∙◌, subst, ℕ, ◌-◌, List, [], ◌∷◌, ◌++◌, length, length-append, Bool, true, false, Option, Some, None, Ok, Err, append-nil, arith}
use Rattle.std.specs.Str.{IsUtf8, chars, is_utf8}
use Rattle.std.proofs.lemmas.Str.{IsUtf8-from_is_utf8, is_utf8-from_IsUtf8}
use Rattle.pr_expo.specs.declared.expo_line.place.ExpoKind.{ExpoKind}
use Rattle.pr_expo.specs.declared.expo_line.place.ExpoKind.TheVariants.{NotText}
use Rattle.pr_expo.specs.declared.expo_line.place.LineCursor.{LineCursor}
use Rattle.pr_expo.specs.declared.expo_line.place.LineCursor.TheVariants.{Start, InType}
use Rattle.pr_expo.specs.declared.expo_line.place.Read.{Read}
use Rattle.pr_expo.specs.Line.{Way, at_end, comes, end_fault, ends, fault_at, goes, line_read, outcome_of, stops, text_front, way, way_on}
use Rattle.pr_expo.specs.private.Grammar.{IsBadPlace, ReadsLine, way_read}
use Rattle.pr_expo.specs.private.Faults.{HasFault, IsBadBehind, IsBeginning, IsFault, IsFaultAt, Stop, StopsBehind, behind_list, behind_number, broken_byte, character_at, in_family, in_list, in_name, in_type, in_value, line_end, no_family, no_name, no_type, no_value, twice}
use Rattle.pr_expo.proofs.Completes.{IfType, completes}
use Rattle.pr_expo.proofs.FaultParts.{fault_of, kind_of, through, told_at, way_parts}
use Rattle.pr_expo.proofs.Fronts.{is_broken, is_whole}
use Rattle.pr_expo.proofs.Grammar.{front_is, left, left_on, line_reads, reads_so, stops_first, way_only}
use Rattle.pr_expo.proofs.Told.{Told}

-- A front that a way comes through is the beginning of a line, and the other way round.
reads_by : (text : List ℕ) (read : Read) (w : Way) → way Start text ≡ w → way_read w ≡ Some read → ReadsLine text read
reads_by text read (comes q) h e = reads_so text q read h e
reads_by text read (stops kind) h e = absurd cc

type_at : (q : LineCursor) (t : List ℕ) → Told q t → IfType q
type_at (InType name text) t s = s.0
type_at _ t s = tt

beginning : (front : List ℕ) (q : LineCursor) → way Start front ≡ comes q → IsBeginning front
beginning front q h =
    let k = completes q (type_at q front (told_at front q h)) in
    (k.rest, (k.read, reads_by (front ++ k.rest) k.read (way Start (front ++ k.rest)) refl (ap way_read (through front k.rest Start q h) ∙ k.led)))

-- where a way comes to that is read
came : (w : Way) (read : Read) → way_read w ≡ Some read → (q : LineCursor) × (w ≡ comes q)
came (comes q) read h = (q, refl)
came (stops kind) read h = absurd cc

comes_through : (front : List ℕ) → IsBeginning front → (q : LineCursor) × (way Start front ≡ comes q)
comes_through front b =
    let k = came (way Start (front ++ b.0)) b.1.0 (way_only (front ++ b.0) b.1.0 b.1.1) in
    let p = way_parts front b.0 Start k.0 k.1 in
    (p.0, p.1.0)

-- no line begins with a front from which a way does not go on
step_none : (q : LineCursor) (c : ℕ) (cs : List ℕ) → goes q c ≡ None → way q (c ∷ cs) ≡ stops (fault_at q)
step_none q c cs e = ap (λ o. way_on o (fault_at q) (λ next. way next cs)) e

step_some : (q next : LineCursor) (c : ℕ) → goes q c ≡ Some next → way q (c ∷ []) ≡ comes next
step_some q next c e = ap (λ o. way_on o (fault_at q) (λ next. way next [])) e

stopped : (front : List ℕ) (q : LineCursor) (c : ℕ) → way Start front ≡ comes q → goes q c ≡ None → IsBeginning (front ++ c ∷ []) → ⊥
stopped front q c h e b =
    let k = comes_through (front ++ c ∷ []) b in
    let stop : way Start (front ++ c ∷ []) ≡ stops (fault_at q) = through front (c ∷ []) Start q h ∙ step_none q c [] e in
    let both_ways : comes k.0 ≡ stops (fault_at q) = sym k.1 ∙ stop in cc

must_stop : (front : List ℕ) (q : LineCursor) (c : ℕ) → way Start front ≡ comes q → (IsBeginning (front ++ c ∷ []) → ⊥) → goes q c ≡ None
must_stop front q c h n = by (goes q c) refl where
  by : (o : Option LineCursor) → goes q c ≡ o → o ≡ None
  by None e = refl
  by (Some next) e = absurd (n (beginning (front ++ c ∷ []) next (through front (c ∷ []) Start q h ∙ step_some q next c e)))

must_end : (front : List ℕ) (q : LineCursor) → way Start front ≡ comes q → ((read : Read) → ReadsLine front read → ⊥) → ends q ≡ None
must_end front q h n = by (ends q) refl where
  by : (o : Option Read) → ends q ≡ o → o ≡ None
  by None e = refl
  by (Some read) e = absurd (n read (reads_so front q read h e))

-- where a way stops
record StopsIn (p : LineCursor) (t : List ℕ) (kind : ExpoKind) : Type 0 where
  front : List ℕ
  c : ℕ
  rest : List ℕ
  place : LineCursor
  parts : t ≡ front ++ c ∷ rest
  led : way p front ≡ comes place
  none : goes place c ≡ None
  is : fault_at place ≡ kind

on_stop : (p : LineCursor) (c : ℕ) (cs : List ℕ) (kind : ExpoKind) (o : Option LineCursor) → goes p c ≡ o → ((next : LineCursor) → way next cs ≡ stops kind → StopsIn next cs kind) →
    way_on o (fault_at p) (λ next. way next cs) ≡ stops kind → StopsIn p (c ∷ cs) kind
on_stop p c cs kind None e again h = record { front = []; c = c; rest = cs; place = p; parts = refl; led = refl; none = e; is = cc }
on_stop p c cs kind (Some next) e again h = let k = again next h in record {
  front = c ∷ k.front;
  c = k.c;
  rest = k.rest;
  place = k.place;
  parts = ap (λ x. c ∷ x) k.parts;
  led = ap (λ o. way_on o (fault_at p) (λ next. way next k.front)) e ∙ k.led;
  none = k.none;
  is = k.is;
}

stops_in : (t : List ℕ) (p : LineCursor) (kind : ExpoKind) → way p t ≡ stops kind → StopsIn p t kind
stops_in [] p kind h = absurd cc
stops_in (c ∷ cs) p kind h = on_stop p c cs kind (goes p c) refl (λ next k. stops_in cs next kind k) h

-- what is bad at the first bad place
pub line_faults : (line : List ℕ) (kind : ExpoKind) → line_read line ≡ Err kind → HasFault line kind
unfolding line_read
line_faults line kind h = by (is_utf8 line) (way Start (chars (text_front line))) refl refl h where
  at_stop : (k : ExpoKind) → k ≡ kind → StopsIn Start (chars (text_front line)) k → HasFault line kind
  at_stop k e s = record {
    front = s.front;
    stop = character_at s.c;
    place = record { begins = beginning s.front s.place s.led; stops = ((s.rest, s.parts), stopped s.front s.place s.c s.led s.none) };
    fault = subst (λ x. IsFault x false s.front) (s.is ∙ e) (fault_of false s.place s.front s.led (s.c, s.none));
  }

  at_line_end : (q : LineCursor) (o : Option Read) → ends q ≡ o → is_utf8 line ≡ true → way Start (chars (text_front line)) ≡ comes q → at_end q o ≡ Err kind → HasFault line kind
  at_line_end q (Some read) e u w k = absurd cc
  at_line_end q None e u w k =
      let text = IsUtf8-from_is_utf8 line u in
      let same : chars line ≡ chars (text_front line) = ap chars (sym (front_is line text)) in
      record {
        front = chars (text_front line);
        stop = line_end;
        place = record { begins = beginning (chars (text_front line)) q w; stops = (same, (text, unread)) };
        fault = subst (λ x. IsFault x true (chars (text_front line))) told (fault_of true q (chars (text_front line)) w e);
      } where
        told : end_fault q ≡ kind
        told = cc

        unread : (read : Read) → ReadsLine (chars (text_front line)) read → ⊥
        unread read d =
            let k : ends q ≡ Some read = ap way_read (sym w) ∙ way_only (chars (text_front line)) read d in
            let both_ways : None ≡ Some read = sym e ∙ k in cc

  by : (b : Bool) (w : Way) → is_utf8 line ≡ b → way Start (chars (text_front line)) ≡ w → outcome_of b w ≡ Err kind → HasFault line kind
  by true (stops k) u w e = let same : k ≡ kind = cc in at_stop k same (stops_in (chars (text_front line)) Start k w)
  by false (stops k) u w e = let same : k ≡ kind = cc in at_stop k same (stops_in (chars (text_front line)) Start k w)
  by true (comes q) u w e = at_line_end q (ends q) refl u w e
  by false (comes q) u w e = record {
    front = chars (text_front line);
    stop = broken_byte;
    place = record { begins = beginning (chars (text_front line)) q w; stops = (refl, λ t. let both_ways : true ≡ false = sym (is_utf8-from_IsUtf8 line t) ∙ u in cc) };
    fault = cc;
  }

-- what is bad at a place is what is told of it
ends_bad : (q : LineCursor) (b : Bool) (line : List ℕ) (w : Way) → way Start (chars (text_front line)) ≡ w → is_utf8 line ≡ b → line_read line ≡ outcome_of b w
unfolding line_read
ends_bad q b line w e u = (λ i. outcome_of (u i) (e i))

pub fault_reads : (line : List ℕ) (kind : ExpoKind) → HasFault line kind → line_read line ≡ Err kind
fault_reads line kind h = by h.stop h.place.stops h.fault where
  k : (q : LineCursor) × (way Start h.front ≡ comes q)
  k = comes_through h.front h.place.begins

  whole : (b : Bool) (x : ExpoKind) → outcome_of b (stops x) ≡ Err x
  whole true x = refl
  whole false x = refl

  by : (stop : Stop) → StopsBehind line h.front stop → IsFaultAt kind h.front stop → line_read line ≡ Err kind
  by (character_at c) s f =
      let e = must_stop h.front k.0 c k.1 s.1 in
      let stop : way Start (chars (text_front line)) ≡ stops (fault_at k.0) = ap (way Start) s.0.1 ∙ through h.front (c ∷ s.0.0) Start k.0 k.1 ∙ step_none k.0 c s.0.0 e in
      ends_bad k.0 (is_utf8 line) line (stops (fault_at k.0)) stop refl ∙ whole (is_utf8 line) (fault_at k.0) ∙ ap Err (kind_of kind false h.front k.0 f k.1)
  by broken_byte s f = ends_bad k.0 false line (comes k.0) (ap (way Start) s.0 ∙ k.1) (sym (is_broken line s.1)) ∙ ap Err (sym f)
  by line_end s f =
      let front : chars (text_front line) ≡ h.front = ap chars (front_is line s.1.0) ∙ s.0 in
      let e = must_end h.front k.0 k.1 s.1.1 in
      ends_bad k.0 true line (comes k.0) (ap (way Start) front ∙ k.1) (sym (is_whole line s.1.0)) ∙ ap (at_end k.0) e ∙ ap Err (kind_of kind true h.front k.0 f k.1)

-- the place is the first bad one of the grammar
on_left : (o : Option LineCursor) (kind : ExpoKind) (c : ℕ) (cs u : List ℕ) (q : LineCursor) → ((next : LineCursor) → way next cs ≡ comes q → left next (cs ++ u) ≡ left q u) →
    way_on o kind (λ next. way next cs) ≡ comes q → left_on o (c ∷ (cs ++ u)) (λ next. left next (cs ++ u)) ≡ left q u
on_left None kind c cs u q again h = absurd cc
on_left (Some next) kind c cs u q again h = again next h

left_through : (t u : List ℕ) (p q : LineCursor) → way p t ≡ comes q → left p (t ++ u) ≡ left q u
left_through [] u p q h = let same : p ≡ q = cc in ap (λ x. left x u) same
left_through (c ∷ cs) u p q h = on_left (goes p c) (fault_at p) c cs u q (λ next k. left_through cs u next q k) h

bad_at : (text front rest : List ℕ) → text ≡ front ++ rest → left Start text ≡ rest → IsBadPlace text (length front)
bad_at text front rest e l = subst (IsBadPlace text) size (stops_first text) where
  size : length text - length (left Start text) ≡ length front
  size = (λ i. length (e i) - length (l i)) ∙ omega (arith, length-append front rest)

pub place_is_bad : (line front : List ℕ) (stop : Stop) → IsBadBehind line front stop → IsBadPlace (chars (text_front line)) (length front)
place_is_bad line front stop h = by stop h.stops where
  k : (q : LineCursor) × (way Start front ≡ comes q)
  k = comes_through front h.begins

  at_the_end : (text : List ℕ) → text ≡ front → IsBadPlace text (length front)
  at_the_end text e =
      let parts : text ≡ front ++ [] = e ∙ sym (append-nil front) in
      bad_at text front [] parts (ap (left Start) parts ∙ left_through front [] Start k.0 k.1)

  by : (s : Stop) → StopsBehind line front s → IsBadPlace (chars (text_front line)) (length front)
  by (character_at c) s =
      let e = must_stop front k.0 c k.1 s.1 in
      bad_at (chars (text_front line)) front (c ∷ s.0.0) s.0.1
      (ap (left Start) s.0.1 ∙ left_through front (c ∷ s.0.0) Start k.0 k.1 ∙ ap (λ o. left_on o (c ∷ s.0.0) (λ next. left next s.0.0)) e)
  by broken_byte s = at_the_end (chars (text_front line)) s.0
  by line_end s = at_the_end (chars (text_front line)) (ap chars (front_is line s.1.0) ∙ s.0)

-- a bad line is no line
pub bad_is_unread : (line : List ℕ) (kind : ExpoKind) (read : Read) → line_read line ≡ Err kind → IsUtf8 line → ReadsLine (chars line) read → ⊥
bad_is_unread line kind read h u d = let both_ways : Err kind ≡ Ok read = sym h ∙ line_reads line read u d in cc

-- a byte that is no text
pub broken_reads : (line : List ℕ) → (IsUtf8 line → ⊥) → IsBeginning (chars (text_front line)) → line_read line ≡ Err NotText
broken_reads line n b = fault_reads line NotText (record { front = chars (text_front line); stop = broken_byte; place = record { begins = b; stops = (refl, n) }; fault = refl })

abbrev is_told : ExpoKind → Bool
is_told NotText = false
is_told _ = true

told_kind : (kind : ExpoKind) (is_end : Bool) (t : List ℕ) → IsFault kind is_end t → is_told kind ≡ true
told_kind kind is_end t (no_name u h) = refl
told_kind kind is_end t (in_name u h) = refl
told_kind kind is_end t (no_family e u h) = refl
told_kind kind is_end t (in_family u h) = refl
told_kind kind is_end t (no_type u h) = refl
told_kind kind is_end t (in_type e u h) = refl
told_kind kind is_end t (in_list e u w n) = refl
told_kind kind is_end t (twice e u h) = refl
told_kind kind is_end t (no_value u h) = refl
told_kind kind is_end t (behind_list e u h) = refl
told_kind kind is_end t (in_value e u h) = refl
told_kind kind is_end t (behind_number e u h) = refl

pub broken_only : (line : List ℕ) → line_read line ≡ Err NotText → (IsUtf8 line → ⊥) × IsBeginning (chars (text_front line))
broken_only line h = by f.stop f.place.stops f.fault where
  f : HasFault line NotText
  f = line_faults line NotText h

  by : (stop : Stop) → StopsBehind line f.front stop → IsFaultAt NotText f.front stop → (IsUtf8 line → ⊥) × IsBeginning (chars (text_front line))
  by (character_at c) s k = let never : false ≡ true = told_kind NotText false f.front k in absurd cc
  by broken_byte s k = (s.1, subst IsBeginning (sym s.0) f.place.begins)
  by line_end s k = let never : false ≡ true = told_kind NotText true f.front k in absurd cc
