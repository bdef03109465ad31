-- How far an exercise has come, event by event.
use Rattle.std.proofs.Common.{◌≡◌, ℕ, List, [], ◌∷◌, ◌++◌, Result, Ok, Err, IsErrAnd, refl, sym, ap, ◌∙◌, subst, append_assoc, append-nil, length, length-append, take_all, arith}
use Rattle.std.proofs.Math.Seq.{take-append_seam}
use Rattle.std.proofs.lemmas.List.{take-append-le}
use Rattle.pr_text.specs.spec_history.declared.entry.Entry.{Entry}
use Rattle.pr_outside.specs.Meant.{Store}
use Rattle.pr_text.specs.spec_rules.Settings.{of_a_run}
use Rattle.pr_text.proofs.WorldSteps.{history_is_rows}
use Rattle.pr_text.specs.spec_world.Step.{next, rows_of, world_after}
use Rattle.pr_text.specs.spec_world.World.{World, start}
use Rattle.pr_text.specs.spec_world.declared.event.Event.{Event}
use Rattle.pr_text.specs.spec_world.declared.report.Report.{Report}
use Rattle.pr_text.specs.spec_world.declared.report.Report.TheVariants.{Opened}
use Rattle.pr_exercise.specs.Summary.{lines_after, lines_told, report_lines}
use Rattle.pr_outside.specs.declared.status.status.Stop.{Stop}
use Rattle.pr_outside.specs.Stores.{TellsHistory}
use Rattle.pr_exercise.specs.private.Standing.{ExerciseComes, EndsCounted, ExerciseHalts, IsCounted, ExerciseStands}
use Rattle.pr_exercise.specs.private.Tallies.{counted_all, no_lines, tally_of}
use Rattle.pr_exercise.specs.declared.session.Session.{Session}
use Rattle.pr_exercise.specs.declared.tally.Tally.{Tally}
use Rattle.pr_exercise.proofs.Tallies.{counted_append}

-- the world that a run has come to
abbrev pub come : List Entry → List Event → World
come history done = world_after of_a_run (start history) done

after_append : (w : World) (done : List Event) (e : Event) → world_after of_a_run w (done ++ e ∷ []) ≡ (next of_a_run (world_after of_a_run w done) e).world
after_append w [] e = refl
after_append w (d ∷ done) e = after_append (next of_a_run w d).world done e

lines_append : (w : World) (done : List Event) (e : Event) → lines_after w (done ++ e ∷ []) ≡ lines_after w done ++ report_lines (next of_a_run (world_after of_a_run w done) e).report
lines_append w [] e = append-nil (report_lines (next of_a_run w e).report)
lines_append w (d ∷ done) e =
    ap (λ (l : List (List ℕ)). report_lines (next of_a_run w d).report ++ l) (lines_append (next of_a_run w d).world done e)
    ∙ sym (append_assoc (report_lines (next of_a_run w d).report) (lines_after (next of_a_run w d).world done) _)

told_append : (history : List Entry) (done : List Event) (e : Event) → lines_told history (done ++ e ∷ []) ≡ lines_told history done ++ report_lines (next of_a_run (come history done) e).report
told_append history done e =
    ap (λ (l : List (List ℕ)). report_lines (Opened (length history)) ++ l) (lines_append (start history) done e)
    ∙ sym (append_assoc (report_lines (Opened (length history))) (lines_after (start history) done) _)

come_is : (history : List Entry) (done : List Event) → (come history done).history ≡ history ++ rows_of of_a_run (start history) done
come_is history done = history_is_rows of_a_run (start history) done

-- a store that tells what it did after some events
pub halts_at : (history : List Entry) (done more : List Event) (store : Store) → TellsHistory store (come history done).history → ExerciseHalts history (done ++ more) store
halts_at history done more store t = record {
  answered = length done;
  within = omega (arith, length-append done more);
  tells = subst (TellsHistory store) (come_is history done ∙ ap (λ (es : List Event). history ++ rows_of of_a_run (start history) es) (sym (take-append_seam done more))) t;
}

pub halts_all : (history : List Entry) (events : List Event) (store : Store) → TellsHistory store (come history events).history → ExerciseHalts history events store
halts_all history events store t = record {
  answered = length events;
  within = omega arith;
  tells = subst (TellsHistory store) (come_is history events ∙ ap (λ (es : List Event). history ++ rows_of of_a_run (start history) es) (sym (take_all (length events) events (omega arith)))) t;
}

pub halts_more : (history : List Entry) (some more : List Event) (store : Store) → ExerciseHalts history some store → ExerciseHalts history (some ++ more) store
halts_more history some more store h = record {
  answered = h.answered;
  within = omega (arith, h.within, length-append some more);
  tells = subst (λ (es : List Event). TellsHistory store (history ++ rows_of of_a_run (start history) es)) (sym (take-append-le h.answered some more h.within)) h.tells;
}

-- the events are these, whichever way they are put together
pub halts_as : (history : List Entry) (some events : List Event) (store : Store) → some ≡ events → ExerciseHalts history some store → ExerciseHalts history events store
halts_as history some events store is h = subst (λ (es : List Event). ExerciseHalts history es store) is h

module _ {E : Type 0} (stands_for : E → Store → World → Type 0) (history : List Entry) where
  -- one more event was answered, and its lines are counted
  pub stands_on : (done : List Event) (e : Event) (s t : Session E) (a b : Store) (report : Report) → ExerciseStands stands_for history done s a → report ≡ (next of_a_run (come history done) e).report
      → stands_for t.kept b (next of_a_run (come history done) e).world → t.tally ≡ counted_all s.tally (report_lines report) → ExerciseStands stands_for history (done ++ e ∷ []) t b
  stands_on done e s t a b report here told world tally = record {
    world = subst (stands_for t.kept b) (sym (after_append (start history) done e)) world;
    tally = tally
        ∙ ap (λ (r : Report). counted_all s.tally (report_lines r)) told
        ∙ ap (λ (x : Tally). counted_all x (report_lines (next of_a_run (come history done) e).report)) here.tally
        ∙ sym (counted_append no_lines (lines_told history done) (report_lines (next of_a_run (come history done) e).report))
        ∙ ap tally_of (sym (told_append history done e));
  }

  -- it was answered, and its lines are not counted
  pub stands_uncounted : (done : List Event) (e : Event) (kept : E) (b : Store) → ((w : World) → stands_for kept b w → TellsHistory b w.history) → stands_for kept b (next of_a_run (come history done) e).world
      → ExerciseHalts history (done ++ e ∷ []) b
  stands_uncounted done e kept b tells world =
      halts_all history (done ++ e ∷ []) b (tells (come history (done ++ e ∷ [])) (subst (stands_for kept b) (sym (after_append (start history) done e)) world))

  -- the first line alone is counted
  pub stands_first : (s : Session E) (store : Store) (rows : ℕ) → rows ≡ length history → stands_for s.kept store (start history) → s.tally ≡ tally_of (report_lines (Opened rows))
      → ExerciseStands stands_for history [] s store
  stands_first s store rows is world tally = record {
    world = world;
    tally = tally ∙ ap (λ (n : ℕ). tally_of (report_lines (Opened n))) is ∙ ap tally_of (sym (append-nil (report_lines (Opened (length history)))));
  }

  pub come_err : {T : Type 0} (events : List Event) (s : Session E) (store : Store) (r : Result T Stop) (P : Stop → Type 0) → IsErrAnd r P → ExerciseHalts history events store → ExerciseComes stands_for history events s store r
  come_err events s store (Ok x) P h halts = absurd h
  come_err events s store (Err e) P h halts = halts

  pub come_halts : (T : Type 0) (events : List Event) (s : Session E) (store : Store) (e : Stop) → ExerciseComes {T = T} stands_for history events s store (Err e) → ExerciseHalts history events store
  come_halts T events s store e c = c

-- so many of the events that come behind others are answered
pub record Answered {E : Type 0} (stands_for : E → Store → World → Type 0) (history : List Entry) (done events rest : List Event) (s : Session E) (store : Store) : Type 0 where
  pub some : List Event
  pub split : some ++ rest ≡ events
  pub stands : ExerciseStands stands_for history (done ++ some) s store

module _ {E : Type 0} (stands_for : E → Store → World → Type 0) (history : List Entry) (done events : List Event) where
  pub answered_none : (rest : List Event) (s : Session E) (store : Store) → rest ≡ events → ExerciseStands stands_for history done s store → Answered stands_for history done events rest s store
  answered_none rest s store is here = record {
    some = [];
    split = is;
    stands = subst (λ (es : List Event). ExerciseStands stands_for history es s store) (sym (append-nil done)) here;
  }

  more_of : (some es rest old : List Event) → old ≡ es ++ rest → some ++ old ≡ events → (some ++ es) ++ rest ≡ events
  more_of some es rest old is split = append_assoc some es rest ∙ ap (λ (l : List Event). some ++ l) (sym is) ∙ split

  -- these were answered too
  pub answered_on : (es rest old : List Event) (s t : Session E) (a b : Store) → old ≡ es ++ rest → (here : Answered stands_for history done events old s a)
      → ExerciseStands stands_for history ((done ++ here.some) ++ es) t b → Answered stands_for history done events rest t b
  answered_on es rest old s t a b is here more = record {
    some = here.some ++ es;
    split = more_of here.some es rest old is here.split;
    stands = subst (λ (l : List Event). ExerciseStands stands_for history l t b) (append_assoc done here.some es) more;
  }

  -- of these some were
  pub answered_halts : (es rest old : List Event) (s : Session E) (a b : Store) → old ≡ es ++ rest → (here : Answered stands_for history done events old s a)
      → ExerciseHalts history ((done ++ here.some) ++ es) b → ExerciseHalts history (done ++ events) b
  answered_halts es rest old s a b is here halts =
      halts_as history (((done ++ here.some) ++ es) ++ rest) (done ++ events) b
      (ap (λ (l : List Event). l ++ rest) (append_assoc done here.some es)
      ∙ append_assoc done (here.some ++ es) rest
      ∙ ap (λ (l : List Event). done ++ l) (more_of here.some es rest old is here.split))
      (halts_more history ((done ++ here.some) ++ es) rest b halts)

  -- no more of them are
  pub answered_stays : (rest : List Event) (s : Session E) (store : Store) → ((w : World) → stands_for s.kept store w → TellsHistory store w.history)
      → Answered stands_for history done events rest s store → ExerciseHalts history (done ++ events) store
  answered_stays rest s store tells here =
      halts_as history ((done ++ here.some) ++ rest) (done ++ events) store
      (append_assoc done here.some rest ∙ ap (λ (l : List Event). done ++ l) here.split)
      (halts_at history (done ++ here.some) rest store (tells (come history (done ++ here.some)) here.stands.world))

  pub answered_all : (rest : List Event) (s : Session E) (store : Store) → rest ≡ [] → Answered stands_for history done events rest s store → ExerciseStands stands_for history (done ++ events) s store
  answered_all rest s store none here =
      subst (λ (es : List Event). ExerciseStands stands_for history (done ++ es) s store)
      (sym (append-nil here.some) ∙ ap (λ (es : List Event). here.some ++ es) (sym none) ∙ here.split) here.stands

pub empty : (events : List Event) → length events ≡ 0 → events ≡ []
empty [] h = refl
empty (e ∷ events) h = absurd (omega (arith, h))

-- all of them were, and their lines are counted
pub counted_in : {E : Type 0} (stands_for : E → Store → World → Type 0) (history : List Entry) (events : List Event) (s : Session E) (store : Store)
    → ((w : World) → stands_for s.kept store w → TellsHistory store w.history) → ExerciseStands stands_for history events s store → IsCounted history events store s.tally
counted_in stands_for history events s store tells here = record {
  tally = here.tally;
  tells = subst (TellsHistory store) (come_is history events) (tells (come history events) here.world);
}

pub counts_err : (history : List Entry) (events : List Event) (store : Store) (r : Result Tally Stop) (P : Stop → Type 0) → IsErrAnd r P → ExerciseHalts history events store → EndsCounted history events store r
counts_err history events store (Ok x) P h halts = absurd h
counts_err history events store (Err e) P h halts = halts
