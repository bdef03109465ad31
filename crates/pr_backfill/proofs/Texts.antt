-- The texts of evaluations, one after another, and the rows that they keep.
use Rattle.std.proofs.Common.{◌≡◌, ℕ, ◌+◌, ◌<◌, ◌≤◌, ◌-◌, List, [], ◌∷◌, ◌++◌, Option, Result, Ok, Err, IsErrAnd, OnOk, sym, ap, ◌∙◌, subst, append_assoc, append-nil, length, length-append, take, drop, map, arith}
use Rattle.std.proofs.Math.Seq.{take-append_seam}
use Rattle.std.proofs.lemmas.List.{map-append, take-append-drop, take-append-le, take_at}
use Rattle.std.proofs.lemmas.List.Concat.{flat_map-append}
use Rattle.std.specs.Io.KnownBytes.{Appends}
use Rattle.spec_rules.specs.spec_history.private.Laws.{IsLawful}
use Rattle.spec_rules.specs.spec_history.declared.entry.Entry.{Entry}
use Rattle.spec_rules.proofs.HistoryLawful.{after_parts}
use Rattle.pr_outside.specs.Meant.{Store}
use Rattle.pr_text.specs.spec_world.declared.report.Report.TheVariants.{Opened}
use Rattle.pr_engine.specs.private.Rows.{TellsOf}
use Rattle.pr_backfill.specs.declared.stepped.Stepped.{Stepped}
use Rattle.pr_backfill.specs.Filled.{FillStep, at_time, rows_filled}
use Rattle.pr_text.specs.Printed.{shown_report}
use Rattle.pr_backfill.specs.Text.{backfilled_line, begun_text, fill_text, step_text, steps_text}
use Rattle.pr_outside.specs.declared.status.status.Stop.{Stop}
use Rattle.pr_outside.proofs.StatusStreams.{appends_on}
use Rattle.pr_backfill.specs.private.Standing.{FillingFinishes, FillingHalts, FillingStands}

-- Texts

begun_append : (rows : ℕ) (done more : List FillStep) → begun_text rows (done ++ more) ≡ begun_text rows done ++ steps_text more
begun_append rows done more =
    ap (λ (t : List ℕ). shown_report (Opened rows) ++ t) (flat_map-append step_text done more)
    ∙ sym (append_assoc (shown_report (Opened rows)) (steps_text done) (steps_text more))

begun_one : (rows : ℕ) (done : List FillStep) (s : FillStep) → begun_text rows (done ++ s ∷ []) ≡ begun_text rows done ++ step_text s
begun_one rows done s = begun_append rows done (s ∷ []) ∙ ap (λ (t : List ℕ). begun_text rows done ++ t) (append-nil (step_text s))

fill_append : (rows : ℕ) (done more : List FillStep)
    → fill_text rows (done ++ more) ≡ begun_text rows done ++ (steps_text more ++ backfilled_line (length (rows_filled (done ++ more))))
fill_append rows done more =
    ap (λ (t : List ℕ). t ++ backfilled_line (length (rows_filled (done ++ more)))) (begun_append rows done more)
    ∙ append_assoc (begun_text rows done) (steps_text more) _

-- a text of fewer evaluations is not longer
pub begun_fewer : (rows n : ℕ) (steps : List FillStep) → length (begun_text rows (take n steps)) ≤ length (begun_text rows steps)
begun_fewer rows n steps =
    let front = take n steps in
    let rest = steps_text (drop n steps) in
    let whole : length (begun_text rows steps) ≡ length (begun_text rows front) + length rest =
    ap (λ (s : List FillStep). length (begun_text rows s)) (sym (take-append-drop n steps))
    ∙ ap length (begun_append rows front (drop n steps))
    ∙ length-append (begun_text rows front) rest in
    omega (arith, whole)

-- a front of a text, and what it lacks
front_and_rest : (before text behind : List ℕ) (n : ℕ) → (before ++ take n text) ++ (drop n text ++ behind) ≡ before ++ (text ++ behind)
front_and_rest before text behind n =
    append_assoc before (take n text) (drop n text ++ behind)
    ∙ ap (λ (t : List ℕ). before ++ t) (sym (append_assoc (take n text) (drop n text) behind) ∙ ap (λ (t : List ℕ). t ++ behind) (take-append-drop n text))

-- Rows

rows_append : (done more : List FillStep) → rows_filled (done ++ more) ≡ rows_filled done ++ rows_filled more
rows_append done more = flat_map-append (λ s. s.step.report.admitted) done more

pub kept_append : (history : List Entry) (done more : List FillStep) → history ++ rows_filled (done ++ more) ≡ (history ++ rows_filled done) ++ rows_filled more
kept_append history done more =
    ap (λ (l : List Entry). history ++ l) (rows_append done more) ∙ sym (append_assoc history (rows_filled done) (rows_filled more))

-- those of one more evaluation
pub kept_one : (history : List Entry) (done : List FillStep) (s : FillStep) → history ++ rows_filled (done ++ s ∷ []) ≡ (history ++ rows_filled done) ++ s.step.report.admitted
kept_one history done s = kept_append history done (s ∷ []) ∙ ap (λ (l : List Entry). (history ++ rows_filled done) ++ l) (append-nil s.step.report.admitted)

-- what is lawful with more is lawful without it
pub lawful_front : (history : List Entry) (done more : List FillStep) → IsLawful (history ++ rows_filled (done ++ more)) → IsLawful (history ++ rows_filled done)
lawful_front history done more lawful = (after_parts [] (history ++ rows_filled done) (rows_filled more) (subst IsLawful (kept_append history done more) lawful)).0

-- one more of the evaluations at a time
pub one_more : (time : ℕ) (done : List FillStep) (some rest : List Stepped) (s : Stepped)
    → done ++ map (at_time time) (some ++ s ∷ rest) ≡ ((done ++ map (at_time time) some) ++ at_time time s ∷ []) ++ map (at_time time) rest
one_more time done some rest s =
    ap (λ (l : List FillStep). done ++ l) (map-append (at_time time) some (s ∷ rest))
    ∙ sym (append_assoc done (map (at_time time) some) (at_time time s ∷ map (at_time time) rest))
    ∙ sym (append_assoc (done ++ map (at_time time) some) (at_time time s ∷ []) (map (at_time time) rest))

-- How far it has come

module _ (history : List Entry) (store : Store) (first taken : Option (List ℕ)) where
  -- A front of the whole text is written, and the rows of these evaluations are kept.
  halts_with : (kept more : List FillStep) (written rest : List ℕ) → TellsOf store (history ++ rows_filled kept) → Appends first taken written
      → written ++ rest ≡ fill_text (length history) (kept ++ more)
      → ((fewer : ℕ) → fewer + 1 ≡ length kept → length (begun_text (length history) (take fewer kept)) ≤ length written)
      → (length kept < length (kept ++ more) → length written ≤ length (begun_text (length history) kept)) → FillingHalts history (kept ++ more) store first taken
  halts_with kept more written rest tells text whole begins beyond = record {
    done = length kept;
    within = omega (arith, length-append kept more);
    tells = subst (λ (s : List FillStep). TellsOf store (history ++ rows_filled s)) (sym (take-append_seam kept more)) tells;
    count = length written;
    text = subst (Appends first taken) (sym (take-append_seam written rest) ∙ ap (take (length written)) whole) text;
    begins = λ fewer is.
        subst (λ (s : List FillStep). length (begun_text (length history) s) ≤ length written) (sym (take-append-le fewer kept more (omega (arith, is)))) (begins fewer is);
    beyond = λ less.
        subst (λ (s : List FillStep). length written ≤ length (begun_text (length history) s)) (sym (take-append_seam kept more)) (beyond less);
  }

  -- nothing more is done
  pub stands_still : (done more : List FillStep) → FillingStands history done store first taken → FillingHalts history (done ++ more) store first taken
  stands_still done more s =
      halts_with done more (begun_text (length history) done) _ s.tells s.text (sym (fill_append (length history) done more))
      (λ fewer is. begun_fewer (length history) fewer done) (λ less. omega arith)

  -- a front of the first line is written
  pub opened_so_far : (steps : List FillStep) (n : ℕ) → TellsOf store history → Appends first taken (take n (shown_report (Opened (length history)))) → FillingHalts history steps store first taken
  opened_so_far steps n tells text =
      let line = shown_report (Opened (length history)) in
      let sizes : length line ≡ length (take n line) + length (drop n line) = ap length (sym (take-append-drop n line)) ∙ length-append (take n line) (drop n line) in
      let begun : length (line ++ []) ≡ length line = ap length (append-nil line) in
      halts_with [] steps (take n line) (drop n line ++ (steps_text steps ++ backfilled_line (length (rows_filled steps))))
      (subst (TellsOf store) (sym (append-nil history)) tells) text
      (front_and_rest [] line (steps_text steps ++ backfilled_line (length (rows_filled steps))) n
      ∙ sym (append_assoc line (steps_text steps) (backfilled_line (length (rows_filled steps)))))
      (λ fewer is. absurd (omega (arith, is))) (λ less. omega (arith, sizes, begun))

  -- all of it is
  pub opened_whole : TellsOf store history → Appends first taken (shown_report (Opened (length history))) → FillingStands history [] store first taken
  opened_whole tells text = record {
    tells = subst (TellsOf store) (sym (append-nil history)) tells;
    text = subst (Appends first taken) (sym (append-nil (shown_report (Opened (length history))))) text;
  }

  -- one more evaluation is kept, and a front of what is told of it is written
  pub kept_so_far : (done more : List FillStep) (s : FillStep) (n : ℕ) → TellsOf store (history ++ rows_filled (done ++ s ∷ [])) → Appends first taken (begun_text (length history) done ++ take n (step_text s))
      → FillingHalts history ((done ++ s ∷ []) ++ more) store first taken
  kept_so_far done more s n tells text =
      let rows = length history in
      let told = step_text s in
      let size : length (done ++ s ∷ []) ≡ length done + 1 = length-append done (s ∷ []) in
      let written : length (begun_text rows done ++ take n told) ≡ length (begun_text rows done) + length (take n told) = length-append (begun_text rows done) (take n told) in
      let one : length (begun_text rows (done ++ s ∷ [])) ≡ length (begun_text rows done) + length told = ap length (begun_one rows done s) ∙ length-append (begun_text rows done) told in
      let sizes : length told ≡ length (take n told) + length (drop n told) = ap length (sym (take-append-drop n told)) ∙ length-append (take n told) (drop n told) in
      let behind = steps_text more ++ backfilled_line (length (rows_filled ((done ++ s ∷ []) ++ more))) in
      halts_with (done ++ s ∷ []) more (begun_text rows done ++ take n told) (drop n told ++ behind) tells text
      (front_and_rest (begun_text rows done) told behind n
      ∙ sym (append_assoc (begun_text rows done) told behind)
      ∙ ap (λ (t : List ℕ). t ++ behind) (sym (begun_one rows done s))
      ∙ sym (fill_append rows (done ++ s ∷ []) more))
      (λ fewer is.
      let before : length done ≡ fewer = omega (arith, is, size) in
      let kept : length (begun_text rows (take fewer (done ++ s ∷ []))) ≡ length (begun_text rows done) = ap (λ (l : List FillStep). length (begun_text rows l)) (take_at done (s ∷ []) fewer before) in
      omega (arith, kept, written))
      (λ less. omega (arith, written, one, sizes))

  -- all of that is
  pub kept_whole : (done : List FillStep) (s : FillStep) → TellsOf store (history ++ rows_filled (done ++ s ∷ [])) → Appends first taken (begun_text (length history) done ++ step_text s)
      → FillingStands history (done ++ s ∷ []) store first taken
  kept_whole done s tells text = record { tells = tells; text = subst (Appends first taken) (sym (begun_one (length history) done s)) text }

  -- all evaluations are kept and told, and a front of the last line is written
  pub ended_so_far : (all : List FillStep) (n : ℕ) → TellsOf store (history ++ rows_filled all)
      → Appends first taken (begun_text (length history) all ++ take n (backfilled_line (length (rows_filled all)))) → FillingHalts history all store first taken
  ended_so_far all n tells text =
      let rows = length history in
      let line = backfilled_line (length (rows_filled all)) in
      let written : length (begun_text rows all ++ take n line) ≡ length (begun_text rows all) + length (take n line) = length-append (begun_text rows all) (take n line) in
      let none : length (all ++ []) ≡ length all = ap length (append-nil all) in
      subst (λ (s : List FillStep). FillingHalts history s store first taken) (append-nil all)
      (halts_with all [] (begun_text rows all ++ take n line) (drop n line ++ []) tells text
      (front_and_rest (begun_text rows all) line [] n
      ∙ ap (λ (t : List ℕ). begun_text rows all ++ t) (append-nil line)
      ∙ ap (fill_text rows) (sym (append-nil all)))
      (λ fewer is. let less = begun_fewer rows fewer all in omega (arith, less, written)) (λ less. absurd (omega (arith, less, none))))

-- the last line is written, or a front of it
pub ended : (history : List Entry) (all : List FillStep) (a b : Store) (first mid taken : Option (List ℕ)) (r : Result Unit Stop) (rows kept : ℕ) → a.count ≡ length history → rows ≡ a.count → kept ≡ b.count - rows
    → FillingStands history all b first mid → OnOk r (Appends mid taken (backfilled_line kept)) → (n : ℕ) × Appends mid taken (take n (backfilled_line kept)) → FillingFinishes history all b first taken r
ended history all a b first mid taken r rows kept told was is s whole front = by r whole
  where
    count : kept ≡ length (rows_filled all)
    count = omega (arith, told, was, is, s.tells.count, length-append history (rows_filled all))

    line : backfilled_line kept ≡ backfilled_line (length (rows_filled all))
    line = ap backfilled_line count

    by : (r : Result Unit Stop) → OnOk r (Appends mid taken (backfilled_line kept)) → FillingFinishes history all b first taken r
    by (Ok x) w = record { tells = s.tells; text = appends_on first mid taken _ _ s.text (subst (Appends mid taken) line w) }
    by (Err e) w = ended_so_far history b first taken all front.0 s.tells (appends_on first mid taken _ _ s.text (subst (λ (t : List ℕ). Appends mid taken (take front.0 t)) line front.1))

pub finish_err : {T : Type 0} (history : List Entry) (steps : List FillStep) (store : Store) (first taken : Option (List ℕ)) (r : Result T Stop) (P : Stop → Type 0) → IsErrAnd r P → FillingHalts history steps store first taken
    → FillingFinishes history steps store first taken r
finish_err history steps store first taken (Ok x) P h halts = absurd h
finish_err history steps store first taken (Err e) P h halts = halts
