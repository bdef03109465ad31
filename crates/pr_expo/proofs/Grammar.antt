-- One character ahead decides the grammar, and the way through a line is its run.
use Rattle.std.proofs.Common.{◌≡◌, refl, sym, ap, ◌∙◌, subst, ℕ, ◌-◌, List, [], ◌∷◌, length, Bool, true, false, ◌||◌, Option, Some, None}
use Rattle.std.specs.Prelude.{is_some, Ok}
use Rattle.pr_labels.specs.pr_forms.Form.{either, chosen, rule, IsFirstBad}
use Rattle.pr_labels.specs.pr_forms.Table.{empty_of, starts_of, more_of, parts_at, is_solid, Binds, IsDecided}
use Rattle.pr_labels.specs.pr_forms.Run.{Runs, ReaderOutcome, good, bad, left_of, run_rule, run_left, run_right, run_chosen, run_chosen_bad, run_pair, run_second, run_token, run_other, run_end, run_nothing}
use Rattle.pr_labels.proofs.FormsDecided.{shrinks}
use Rattle.pr_labels.proofs.FormsSound.{meets, reads}
use Rattle.pr_labels.proofs.FormsPlaces.{run_place, only_reading}
use Rattle.pr_expo.specs.declared.expo_line.place.LineCursor.{LineCursor}
use Rattle.pr_expo.specs.declared.expo_line.place.LineCursor.TheVariants.{Start}
use Rattle.pr_expo.specs.declared.expo_line.place.Read.{Read}
use Rattle.std.specs.Str.{IsUtf8, is_utf8, chars}
use Rattle.std.proofs.lemmas.Str.{IsUtf8-from_is_utf8}
use Rattle.pr_expo.specs.Line.{goes, ends, fault_at, Way, way, way_on, comes, stops, outcome_of, text_front, line_read}
use Rattle.pr_expo.specs.Line as lines
use Rattle.pr_expo.proofs.Fronts.{whole_front, is_whole}
use Rattle.pr_expo.specs.private.Grammar.{Rule, at, by, by_of, leads, anything, ending, production, way_read, IsBadPlace, ReadsLine}
use Rattle.pr_expo.specs.private.GrammarTable.{table}

ending_empty : (o : Option Read) → empty_of table (ending o) ≡ is_some o
ending_empty None = refl
ending_empty (Some read) = refl

ending_starts : (o : Option Read) (c : ℕ) → starts_of table (ending o) c ≡ false
ending_starts None c = refl
ending_starts (Some read) c = refl

or_none : (b : Bool) → (b || false) ≡ b
or_none true = refl
or_none false = refl

empty_known : (n : Rule) → empty_of table (production n) ≡ table.empty n
empty_known (at place) = ending_empty (ends place)
empty_known (by place) = refl

starts_known : (n : Rule) (c : ℕ) → starts_of table (production n) c ≡ table.starts n c
starts_known (at place) c = ap (λ b. is_some (leads place c) || b) (ending_starts (ends place) c) ∙ or_none (is_some (leads place c))
starts_known (by place) c = refl

more_known : (n : Rule) (c : ℕ) → more_of table (production n) c ≡ table.more n c
more_known (at place) c = refl
more_known (by place) c = refl

parts_end : (place : LineCursor) (o : Option Read) (c : ℕ) (b : Option Rule) → b ≡ leads place c → parts_at table (either (chosen (leads place) anything) (ending o)) c ≡ true
parts_end place None c None e = rw (← e) refl
parts_end place None c (Some n) e = rw (← e) refl
parts_end place (Some read) c None e = rw (← e) refl
parts_end place (Some read) c (Some n) e = rw (← e) refl

parts_known : (n : Rule) (c : ℕ) → parts_at table (production n) c ≡ true
parts_known (at place) c = parts_end place (ends place) c (leads place c) refl
parts_known (by place) c = refl

solid_end : (place : LineCursor) (o : Option Read) → is_solid table (either (chosen (leads place) anything) (ending o)) ≡ true
solid_end place None = refl
solid_end place (Some read) = refl

solid_known : (n : Rule) → is_solid table (production n) ≡ true
solid_known (at place) = solid_end place (ends place)
solid_known (by place) = refl

binds_end : (o : Option Read) → Binds table (ending o)
binds_end None = tt
binds_end (Some read) = tt

binds_known : (n : Rule) → Binds table (production n)
binds_known (at place) = (λ t n u e h. refl, binds_end (ends place))
binds_known (by place) = (tt, tt)

pub known : IsDecided production table
known = record { empty = empty_known; starts = starts_known; more = more_known; decides = λ n. record { at = parts_known n; solid = solid_known n; binds = binds_known n } }

-- what the reader of a place gives
abbrev at_end : Option Read → List ℕ → ReaderOutcome ℕ (Option Read)
at_end None text = bad text
at_end (Some read) text = good (Some read) text

abbrev run_on : Option LineCursor → ReaderOutcome ℕ (Option Read) → (LineCursor → ReaderOutcome ℕ (Option Read)) → ReaderOutcome ℕ (Option Read)
run_on None here on = here
run_on (Some next) here on = on next

abbrev run : LineCursor → List ℕ → ReaderOutcome ℕ (Option Read)
run place [] = at_end (ends place) []
run place (c ∷ cs) = run_on (goes place c) (at_end (ends place) (c ∷ cs)) (λ next. run next cs)

end_runs : (o : Option Read) (text : List ℕ) → Runs production table (ending o) text (at_end o text)
end_runs None [] = run_end
end_runs None (c ∷ cs) = run_other refl
end_runs (Some read) text = run_nothing

by_runs : (place next : LineCursor) (c : ℕ) (cs : List ℕ) (o : ReaderOutcome ℕ (Option Read)) → goes place c ≡ Some next →
    Runs production table (rule (at next)) cs o → Runs production table (chosen (leads place) anything) (c ∷ cs) o
by_runs place next c cs (good v rest) e q = run_chosen (ap by_of e) (shrinks q).is (run_pair (run_token refl) q)
by_runs place next c cs (bad rest) e q = run_chosen_bad (ap by_of e) (run_second (run_token refl) q)

step_runs : (place : LineCursor) (c : ℕ) (cs : List ℕ) (o : Option LineCursor) → goes place c ≡ o →
    ((next : LineCursor) → Runs production table (rule (at next)) cs (run next cs)) →
    Runs production table (rule (at place)) (c ∷ cs) (run_on o (at_end (ends place) (c ∷ cs)) (λ next. run next cs))
step_runs place c cs None e again = run_rule (run_right (ap (λ x. is_some (by_of x)) e) (end_runs (ends place) (c ∷ cs)))
step_runs place c cs (Some next) e again = run_rule (run_left (ap (λ x. is_some (by_of x)) e) (by_runs place next c cs (run next cs) e (again next)))

runs : (place : LineCursor) (text : List ℕ) → Runs production table (rule (at place)) text (run place text)
runs place [] = run_rule (run_right refl (end_runs (ends place) []))
runs place (c ∷ cs) = step_runs place c cs (goes place c) refl (λ next. runs next cs)

-- the characters from the first one on with which no line goes on from the place
abbrev pub left_on : Option LineCursor → List ℕ → (LineCursor → List ℕ) → List ℕ
left_on None text on = text
left_on (Some next) text on = on next

abbrev pub left : LineCursor → List ℕ → List ℕ
left place [] = []
left place (c ∷ cs) = left_on (goes place c) (c ∷ cs) (λ next. left next cs)

end_left : (o : Option Read) (text : List ℕ) → left_of (at_end o text) ≡ text
end_left None text = refl
end_left (Some read) text = refl

step_left : (place : LineCursor) (c : ℕ) (cs : List ℕ) (o : Option LineCursor) → ((next : LineCursor) → left_of (run next cs) ≡ left next cs) →
    left_of (run_on o (at_end (ends place) (c ∷ cs)) (λ next. run next cs)) ≡ left_on o (c ∷ cs) (λ next. left next cs)
step_left place c cs None again = end_left (ends place) (c ∷ cs)
step_left place c cs (Some next) again = again next

run_left_is : (place : LineCursor) (text : List ℕ) → left_of (run place text) ≡ left place text
run_left_is place [] = end_left (ends place) []
run_left_is place (c ∷ cs) = step_left place c cs (goes place c) (λ next. run_left_is next cs)

-- the first bad place is where the way through the characters stops
pub stops_first : (text : List ℕ) → IsBadPlace text (length text - length (left Start text))
stops_first text = subst (λ r. IsFirstBad production (rule (at Start)) text (length text - length r)) (run_left_is Start text) (run_place production table known (at Start) text (run Start text) (runs Start text))

-- a way that comes to a place where a line may end is a reading
step_good : (place q : LineCursor) (c : ℕ) (cs : List ℕ) (read : Read) (o : Option LineCursor) →
    ((next : LineCursor) → way next cs ≡ comes q → run next cs ≡ good (Some read) []) →
    way_on o (fault_at place) (λ next. way next cs) ≡ comes q →
    run_on o (at_end (ends place) (c ∷ cs)) (λ next. run next cs) ≡ good (Some read) []
step_good place q c cs read None again h = cc
step_good place q c cs read (Some next) again h = again next h

run_good : (place q : LineCursor) (text : List ℕ) (read : Read) → ends q ≡ Some read → way place text ≡ comes q → run place text ≡ good (Some read) []
run_good place q [] read e h = let same : place ≡ q = cc in ap (λ o. at_end o []) (ap ends same ∙ e)
run_good place q (c ∷ cs) read e h = step_good place q c cs read (goes place c) (λ next k. run_good next q cs read e k) h

pub reads_so : (text : List ℕ) (q : LineCursor) (read : Read) → way Start text ≡ comes q → ends q ≡ Some read → ReadsLine text read
reads_so text q read h e = reads (meets (subst (λ o. Runs production table (rule (at Start)) text o) (run_good Start q text read e h) (runs Start text)))

-- a reading is a way that comes to a place where a line may end
end_only : (o : Option Read) (read : Read) → at_end o [] ≡ good (Some read) [] → o ≡ Some read
end_only None read h = cc
end_only (Some r) read h = cc

end_never : (o : Option Read) (read : Read) (c : ℕ) (cs : List ℕ) → at_end o (c ∷ cs) ≡ good (Some read) [] → ⊥
end_never None read c cs h = cc
end_never (Some r) read c cs h = cc

step_only : (place : LineCursor) (c : ℕ) (cs : List ℕ) (read : Read) (o : Option LineCursor) →
    ((next : LineCursor) → run next cs ≡ good (Some read) [] → way_read (way next cs) ≡ Some read) →
    run_on o (at_end (ends place) (c ∷ cs)) (λ next. run next cs) ≡ good (Some read) [] →
    way_read (way_on o (fault_at place) (λ next. way next cs)) ≡ Some read
step_only place c cs read None again h = absurd (end_never (ends place) read c cs h)
step_only place c cs read (Some next) again h = again next h

run_only : (place : LineCursor) (text : List ℕ) (read : Read) → run place text ≡ good (Some read) [] → way_read (way place text) ≡ Some read
run_only place [] read h = end_only (ends place) read h
run_only place (c ∷ cs) read h = step_only place c cs read (goes place c) (λ next. run_only next cs read) h

pub way_only : (text : List ℕ) (read : Read) → ReadsLine text read → way_read (way Start text) ≡ Some read
way_only text read d = run_only Start text read (only_reading production table known (at Start) text (run Start text) (Some read) (runs Start text) d)

outcome_by : (w : Way) (read : Read) → way_read w ≡ Some read → outcome_of true w ≡ Ok read
outcome_by (comes place) read h = ap (lines.at_end place) h
outcome_by (stops kind) read h = cc

way_reads : (text : List ℕ) (read : Read) (w : Way) → way Start text ≡ w → outcome_of true w ≡ Ok read → ReadsLine text read
way_reads text read (comes place) e h = reads_so text place read e (ended (ends place) refl h) where
  ended : (o : Option Read) → ends place ≡ o → lines.at_end place o ≡ Ok read → ends place ≡ Some read
  ended None k j = cc
  ended (Some r) k j = cc
way_reads text read (stops kind) e h = cc

pub front_is : (line : List ℕ) → IsUtf8 line → text_front line ≡ line
front_is line u = sym (whole_front line line (refl, u))

-- a line of text reads as its characters do
pub line_reads : (line : List ℕ) (read : Read) → IsUtf8 line → ReadsLine (chars line) read → line_read line ≡ Ok read
unfolding line_read
line_reads line read u d =
    ap (λ b. outcome_of b (way Start (chars (text_front line)))) (sym (is_whole line u))
    ∙ ap (λ t. outcome_of true (way Start (chars t))) (front_is line u) ∙ outcome_by (way Start (chars line)) read (way_only (chars line) read d)

not_whole : (w : Way) (read : Read) → outcome_of false w ≡ Ok read → ⊥
not_whole (comes place) read h = cc
not_whole (stops kind) read h = cc

-- what is read is a line of text
pub line_is : (line : List ℕ) (read : Read) → line_read line ≡ Ok read → IsUtf8 line × ReadsLine (chars line) read
unfolding line_read
line_is line read h = by_text (is_utf8 line) refl where
  by_text : (b : Bool) → is_utf8 line ≡ b → IsUtf8 line × ReadsLine (chars line) read
  by_text true e =
      let u = IsUtf8-from_is_utf8 line e in (
        u,
        way_reads (chars line) read _ refl (sym (ap (λ t. outcome_of true (way Start (chars t))) (front_is line u))
            ∙ sym (ap (λ b. outcome_of b (way Start (chars (text_front line)))) e) ∙ h),
      )
  by_text false e = absurd (not_whole _ read (sym (ap (λ b. outcome_of b (way Start (chars (text_front line)))) e) ∙ h))
