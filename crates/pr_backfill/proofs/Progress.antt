-- How far a filling has come, evaluation by evaluation and time by time.
use Rattle.std.proofs.Common.{◌≡◌, ℕ, ◌+◌, List, [], ◌∷◌, ◌++◌, Option, Result, Ok, Err, IsErrAnd, OnOk, refl, sym, ap, ◌∙◌, subst, append_assoc, append-nil, length, take, map}
use Rattle.std.specs.Io.KnownBytes.{Appends}
use Rattle.spec_rules.specs.spec_history.private.Laws.{IsLawful}
use Rattle.spec_rules.specs.spec_history.declared.entry.Entry.{Entry}
use Rattle.pr_outside.specs.private.Kept.{AppendsRows, KeepsRows}
use Rattle.pr_engine.specs.pr_head.private.Intake.{Series}
use Rattle.pr_outside.specs.Meant.{Store}
use Rattle.pr_engine.specs.pr_range.private.Asks.{LastAsks, Passed}
use Rattle.spec_rules.specs.spec_history.Rows.{encoded}
use Rattle.spec_rules.specs.Groups.{Group}
use Rattle.spec_rules.specs.Reloads.{LoadedFile}
use Rattle.spec_rules.specs.Settings.{of_a_run}
use Rattle.pr_engine.specs.private.Rows.{AreRead, TellsOf, HoldsAll}
use Rattle.pr_engine.proofs.StoreTelling.{tells_still, tells_more}
use Rattle.pr_backfill.specs.declared.stepped.Stepped.{Stepped}
use Rattle.pr_backfill.specs.Filled.{FillStep, at_time, filled, filled_from, groups_to_fill, round_at, rows_filled}
use Rattle.pr_backfill.specs.Text.{step_text}
use Rattle.pr_outside.specs.declared.status.status.Stop.{Stop}
use Rattle.pr_outside.proofs.StatusStreams.{appends_on}
use Rattle.pr_backfill.specs.declared.backfill_command.filling.Filling.{Filling}
use Rattle.pr_backfill.specs.private.Standing.{AreBefore, FillingComes, FillingHalts, KeepsFilling, FillingStands}
use Rattle.pr_backfill.specs.private.BackfillCommandTimes.{AreAfter}
use Rattle.pr_backfill.proofs.Rounds.{round_before, round_kept}
use Rattle.pr_backfill.proofs.Texts.{kept_append, kept_one, kept_so_far, kept_whole, lawful_front, one_more, stands_still}

module _ (history : List Entry) (first : Option (List ℕ)) where
  pub come_err : {T : Type 0} (steps : List FillStep) (store : Store) (taken : Option (List ℕ)) (r : Result T Stop) (P : Stop → Type 0) → IsErrAnd r P
      → ((more : List FillStep) → FillingHalts history (steps ++ more) store first taken) → FillingComes history steps store first taken r
  come_err steps store taken (Ok x) P h halts = absurd h
  come_err steps store taken (Err e) P h halts = halts

  -- nothing of these evaluations is done
  pub still : (done steps : List FillStep) (store : Store) (taken : Option (List ℕ)) → FillingStands history done store first taken → (more : List FillStep)
      → FillingHalts history ((done ++ steps) ++ more) store first taken
  still done steps store taken s more =
      subst (λ (l : List FillStep). FillingHalts history l store first taken) (sym (append_assoc done steps more)) (stands_still history store first taken done (steps ++ more) s)

  -- One evaluation

  -- its rows were refused
  pub refused : (done : List FillStep) (s : FillStep) (a b : Store) (taken : Option (List ℕ)) → FillingStands history done a first taken → KeepsRows a.rows b.rows → b.count ≡ a.count
      → (more : List FillStep) → FillingHalts history ((done ++ s ∷ []) ++ more) b first taken
  refused done s a b taken here same count =
      still done (s ∷ []) b taken (record { tells = tells_still a b (history ++ rows_filled done) same count here.tells; text = here.text })

  -- they were kept
  kept : (done : List FillStep) (s : FillStep) (a b : Store) (taken : Option (List ℕ)) → FillingStands history done a first taken → IsLawful (history ++ rows_filled (done ++ s ∷ []))
      → AreRead s.step.report.admitted → AppendsRows a.rows b.rows (map encoded s.step.report.admitted) → b.count ≡ a.count + length s.step.report.admitted
      → TellsOf b (history ++ rows_filled (done ++ s ∷ []))
  kept done s a b taken here lawful are appends count =
      let is = kept_one history done s in
      subst (TellsOf b) (sym is) (tells_more a b (history ++ rows_filled done) s.step.report.admitted here.tells are (subst IsLawful is lawful) appends count)

  -- and it was told, or a front of that
  pub kept_told : (done : List FillStep) (s : FillStep) (a b : Store) (mid taken : Option (List ℕ)) (r : Result Unit Stop) (entries : List Entry) → entries ≡ s.step.report.admitted
      → FillingStands history done a first mid → IsLawful (history ++ rows_filled (done ++ s ∷ [])) → AreRead entries → AppendsRows a.rows b.rows (map encoded entries)
      → b.count ≡ a.count + length entries → OnOk r (Appends mid taken (step_text s)) → (n : ℕ) × Appends mid taken (take n (step_text s)) → FillingComes history (done ++ s ∷ []) b first taken r
  kept_told done s a b mid taken r entries is here lawful are appends count whole front = by r whole
    where
      tells : TellsOf b (history ++ rows_filled (done ++ s ∷ []))
      tells = kept done s a b mid here lawful (subst AreRead is are) (subst (λ (es : List Entry). AppendsRows a.rows b.rows (map encoded es)) is appends)
          (subst (λ (es : List Entry). b.count ≡ a.count + length es) is count)

      by : (r : Result Unit Stop) → OnOk r (Appends mid taken (step_text s)) → FillingComes history (done ++ s ∷ []) b first taken r
      by (Ok x) told = kept_whole history b first taken done s tells (appends_on first mid taken _ _ here.text told)
      by (Err e) told = λ more. kept_so_far history b first taken done more s front.0 tells (appends_on first mid taken _ _ here.text front.1)

-- So many of the evaluations at a time are kept and told.
pub record HasKept (history : List Entry) (done : List FillStep) (time : ℕ) (steps rest : List Stepped) (store : Store) (first taken : Option (List ℕ)) : Type 0 where
  pub some : List Stepped
  pub split : some ++ rest ≡ steps
  pub stands : FillingStands history (done ++ map (at_time time) some) store first taken

module _ (history : List Entry) (done : List FillStep) (time : ℕ) (steps : List Stepped) (first : Option (List ℕ)) where
  pub none_kept : (rest : List Stepped) (store : Store) (taken : Option (List ℕ)) → rest ≡ steps → FillingStands history done store first taken → HasKept history done time steps rest store first taken
  none_kept rest store taken is s = record {
    some = [];
    split = is;
    stands = subst (λ (l : List FillStep). FillingStands history l store first taken) (sym (append-nil done)) s;
  }

  next_of : (some rest old : List Stepped) (s : Stepped) → old ≡ s ∷ rest → some ++ old ≡ steps
      → done ++ map (at_time time) steps ≡ ((done ++ map (at_time time) some) ++ at_time time s ∷ []) ++ map (at_time time) rest
  next_of some rest old s is split =
      ap (λ (l : List Stepped). done ++ map (at_time time) l) (sym split ∙ ap (λ (l : List Stepped). some ++ l) is) ∙ one_more time done some rest s

  -- the next one may be kept
  pub lawful_next : (rest old : List Stepped) (s : Stepped) (store : Store) (taken : Option (List ℕ)) → old ≡ s ∷ rest → (here : HasKept history done time steps old store first taken)
      → IsLawful (history ++ rows_filled (done ++ map (at_time time) steps)) → IsLawful (history ++ rows_filled ((done ++ map (at_time time) here.some) ++ at_time time s ∷ []))
  lawful_next rest old s store taken is here lawful =
      lawful_front history ((done ++ map (at_time time) here.some) ++ at_time time s ∷ []) (map (at_time time) rest)
      (subst (λ (l : List FillStep). IsLawful (history ++ rows_filled l)) (next_of here.some rest old s is here.split) lawful)

  -- it was
  pub one_kept : (rest old : List Stepped) (s : Stepped) (a b : Store) (mid taken : Option (List ℕ)) → old ≡ s ∷ rest → (here : HasKept history done time steps old a first mid)
      → FillingStands history ((done ++ map (at_time time) here.some) ++ at_time time s ∷ []) b first taken → HasKept history done time steps rest b first taken
  one_kept rest old s a b mid taken is here more = record {
    some = here.some ++ s ∷ [];
    split = append_assoc here.some (s ∷ []) rest ∙ ap (λ (l : List Stepped). here.some ++ l) (sym is) ∙ here.split;
    stands = subst (λ (l : List FillStep). FillingStands history l b first taken)
        (sym (one_more time done here.some [] s ∙ append-nil ((done ++ map (at_time time) here.some) ++ at_time time s ∷ []))) more;
  }

  -- it was not
  pub one_halts : (rest old : List Stepped) (s : Stepped) (a b : Store) (mid taken : Option (List ℕ)) → old ≡ s ∷ rest → (here : HasKept history done time steps old a first mid)
      → ((more : List FillStep) → FillingHalts history (((done ++ map (at_time time) here.some) ++ at_time time s ∷ []) ++ more) b first taken) → (more : List FillStep)
      → FillingHalts history ((done ++ map (at_time time) steps) ++ more) b first taken
  one_halts rest old s a b mid taken is here halts more =
      subst (λ (l : List FillStep). FillingHalts history l b first taken)
      (sym (append_assoc ((done ++ map (at_time time) here.some) ++ at_time time s ∷ []) (map (at_time time) rest) more)
      ∙ ap (λ (l : List FillStep). l ++ more) (sym (next_of here.some rest old s is here.split)))
      (halts (map (at_time time) rest ++ more))

  pub all_kept : (rest : List Stepped) (store : Store) (taken : Option (List ℕ)) → rest ≡ [] → HasKept history done time steps rest store first taken
      → FillingStands history (done ++ map (at_time time) steps) store first taken
  all_kept rest store taken none here =
      subst (λ (l : List Stepped). FillingStands history (done ++ map (at_time time) l) store first taken)
      (sym (append-nil here.some) ∙ ap (λ (l : List Stepped). here.some ++ l) (sym none) ∙ here.split) here.stands

-- The evaluations at a time are lawful, and come to what is told of them.
pub time_comes : (history : List Entry) (first : Option (List ℕ)) (done : List FillStep) (time : ℕ) (groups : List Group) (steps : List Stepped) (store : Store) (taken : Option (List ℕ)) (r : Result Unit Stop) (head : Series)
    → steps ≡ (round_at of_a_run time (history ++ rows_filled done) groups).told → HoldsAll head (round_at of_a_run time (history ++ rows_filled done) groups).history
    → (IsLawful (history ++ rows_filled (done ++ map (at_time time) steps)) → FillingComes history (done ++ map (at_time time) steps) store first taken r)
    → FillingComes history (done ++ map (at_time time) (round_at of_a_run time (history ++ rows_filled done) groups).told) store first taken r
time_comes history first done time groups steps store taken r head is holds comes =
    let round = round_at of_a_run time (history ++ rows_filled done) groups in
    let now : round.history ≡ history ++ rows_filled (done ++ map (at_time time) round.told) =
    round_kept of_a_run time (history ++ rows_filled done) groups ∙ sym (kept_append history done (map (at_time time) round.told)) in
    subst (λ (l : List Stepped). FillingComes history (done ++ map (at_time time) l) store first taken r) is
    (comes (subst (λ (l : List Stepped). IsLawful (history ++ rows_filled (done ++ map (at_time time) l))) (sym is) (subst IsLawful now holds.lawful)))

-- The evaluations at so many times are kept and told, and what is kept of groups stands for them after
-- these.
pub record HasFilled {R : Type 0} (fits : R → List Entry → Type 0) (last : R → LastAsks) (passed : R → Passed) (history : List Entry) (all : List FillStep) (times : List ℕ) (filling : Filling R) (store : Store) (first taken : Option (List ℕ)) : Type 0 where
  pub done : List FillStep
  pub groups : List Group
  pub split : done ++ filled_from of_a_run (history ++ rows_filled done) groups times ≡ all
  pub keeps : KeepsFilling fits last passed filling (history ++ rows_filled done) groups
  pub before : AreBefore times groups
  pub stands : FillingStands history done store first taken

module _ {R : Type 0} (fits : R → List Entry → Type 0) (last : R → LastAsks) (passed : R → Passed) (history : List Entry) (all : List FillStep) (first : Option (List ℕ)) where
  pub none_filled : (groups : List Group) (times : List ℕ) (filling : Filling R) (store : Store) (taken : Option (List ℕ)) → filled_from of_a_run history groups times ≡ all
      → KeepsFilling fits last passed filling history groups → AreBefore times groups → FillingStands history [] store first taken → HasFilled fits last passed history all times filling store first taken
  none_filled groups times filling store taken is keeps before s =
      let same = sym (append-nil history) in
      record {
        done = [];
        groups = groups;
        split = ap (λ (h : List Entry). filled_from of_a_run h groups times) (sym same) ∙ is;
        keeps = subst (λ (h : List Entry). KeepsFilling fits last passed filling h groups) same keeps;
        before = before;
        stands = s;
      }

  module _ (times old : List ℕ) (time : ℕ) (is : old ≡ time ∷ times) where
    -- the next time is after the last evaluations
    pub next_before : (groups : List Group) → AreBefore old groups → AreBefore (time ∷ times) groups
    next_before groups before = subst (λ (l : List ℕ). AreBefore l groups) is before

    next_is : (done : List FillStep) (groups : List Group) → done ++ filled_from of_a_run (history ++ rows_filled done) groups old ≡ all
        → let round = round_at of_a_run time (history ++ rows_filled done) groups in
        (done ++ map (at_time time) round.told) ++ filled_from of_a_run round.history round.groups times ≡ all
    next_is done groups split =
        append_assoc done _ _ ∙ ap (λ (l : List ℕ). done ++ filled_from of_a_run (history ++ rows_filled done) groups l) (sym is) ∙ split

    -- its evaluations were kept and told
    pub one_filled : (f g : Filling R) (a b : Store) (mid taken : Option (List ℕ)) → AreAfter time times → (here : HasFilled fits last passed history all old f a first mid)
        → let round = round_at of_a_run time (history ++ rows_filled here.done) here.groups in
        KeepsFilling fits last passed g round.history round.groups → FillingStands history (here.done ++ map (at_time time) round.told) b first taken → HasFilled fits last passed history all times g b first taken
    one_filled f g a b mid taken after here keeps more =
        let round = round_at of_a_run time (history ++ rows_filled here.done) here.groups in
        let done = here.done ++ map (at_time time) round.told in
        let now : round.history ≡ history ++ rows_filled done =
        round_kept of_a_run time (history ++ rows_filled here.done) here.groups ∙ sym (kept_append history here.done (map (at_time time) round.told)) in
        record {
          done = done;
          groups = round.groups;
          split = ap (λ (h : List Entry). done ++ filled_from of_a_run h round.groups times) (sym now) ∙ next_is here.done here.groups here.split;
          keeps = subst (λ (h : List Entry). KeepsFilling fits last passed g h round.groups) now keeps;
          before = round_before of_a_run time (history ++ rows_filled here.done) here.groups times after;
          stands = more;
        }

    -- they were not
    pub time_halts : (f : Filling R) (a b : Store) (mid taken : Option (List ℕ)) → (here : HasFilled fits last passed history all old f a first mid)
        → ((more : List FillStep) → FillingHalts history ((here.done ++ map (at_time time) (round_at of_a_run time (history ++ rows_filled here.done) here.groups).told) ++ more) b first taken)
        → (more : List FillStep) → FillingHalts history (all ++ more) b first taken
    time_halts f a b mid taken here halts more =
        let round = round_at of_a_run time (history ++ rows_filled here.done) here.groups in
        let done = here.done ++ map (at_time time) round.told in
        let later = filled_from of_a_run round.history round.groups times in
        subst (λ (l : List FillStep). FillingHalts history l b first taken)
        (sym (append_assoc done later more) ∙ ap (λ (l : List FillStep). l ++ more) (next_is here.done here.groups here.split))
        (halts (later ++ more))

  pub all_filled : (times : List ℕ) (filling : Filling R) (store : Store) (taken : Option (List ℕ)) → times ≡ [] → HasFilled fits last passed history all times filling store first taken
      → FillingStands history all store first taken
  all_filled times filling store taken none here =
      subst (λ (l : List FillStep). FillingStands history l store first taken)
      (sym (append-nil here.done) ∙ ap (λ (ts : List ℕ). here.done ++ filled_from of_a_run (history ++ rows_filled here.done) here.groups ts) (sym none) ∙ here.split) here.stands

-- all evaluations of a filling, over the history at its start
pub filled_is : (history : List Entry) (files : List LoadedFile) (times : List ℕ) → filled history files times ≡ filled_from of_a_run history (groups_to_fill files) times
unfolding filled
filled_is history files times = refl
