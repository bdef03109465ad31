-- What is told of an event says whether it was refused.
use Rattle.std.proofs.Common.{◌≡◌, ℕ, Bool, true, false, cond, List, [], ◌∷◌, Option, Some, None, Result, Ok, Err, IfErr, refl, ap}
use Rattle.std.specs.Prelude.{find, nat_lt}
use Rattle.pr_ast.specs.Tree.{Tree}
use Rattle.pr_rulefile.specs.declared.fields.problem.Problem.{Problem}
use Rattle.spec_vectors.specs.spec_history.declared.append.Append.{Append}
use Rattle.spec_vectors.specs.spec_history.declared.append.Append.TheVariants as append
use Rattle.spec_vectors.specs.spec_history.declared.entry.Entry.{Entry}
use Rattle.spec_vectors.specs.spec_history.Admission.{admit}
use Rattle.spec_rules.specs.spec_meaning.declared.fault.Fault.{Fault}
use Rattle.spec_rules.specs.spec_meaning.declared.value.Value.{Value}
use Rattle.spec_rules.specs.spec_meaning.declared.value.Value.TheVariants as value
use Rattle.spec_rules.specs.spec_meaning.Answers.{go_on}
use Rattle.spec_rules.specs.spec_meaning.Meaning.{meaning}
use Rattle.pr_rulefile.specs.File.{RuleReading, gives_file, gives_problems, rule_file_of}
use Rattle.spec_rules.specs.Definitions.{Group as Definition}
use Rattle.spec_rules.specs.Evaluations.{group_step}
use Rattle.spec_rules.specs.Groups.{Group, is_group_named}
use Rattle.spec_rules.specs.Reloads.{LoadedFile}
use Rattle.spec_rules.specs.Settings.{Settings}
use Rattle.spec_world.specs.declared.event.Event.{Event}
use Rattle.spec_world.specs.declared.event.Event.TheVariants.{Add, Query, Scrape, Fail, Gone, Eval, Reload, Restart, Alerts}
use Rattle.spec_world.specs.declared.event.NamedFile.{NamedFile}
use Rattle.spec_world.specs.declared.report.Report.{Report}
use Rattle.spec_world.specs.declared.report.Report.TheVariants as report
use Rattle.spec_world.specs.declared.scraped.BodyFault.{BodyFault}
use Rattle.spec_world.specs.declared.scraped.Scraped.{Scraped}
use Rattle.spec_world.specs.Loading.{Holding, holds, is_missing, is_too_large, FileToLoad, all_found, file_found, found_outcome, with_bytes, read_first, reload_asked}
use Rattle.spec_world.specs.Outcome.{EventOutcome, refuse, accept, unless_backwards}
use Rattle.spec_world.specs.private.Laws.{is_refusal}
use Rattle.spec_world.specs.Query.{expression_outcome, told_answer, told_value}
use Rattle.pr_rulefile.specs.pr_parse.Expressions.{ExpressionFault, expression_of}
use Rattle.spec_world.specs.Rounds.{all_loaded, eval_after, eval_by, evaluation_outcome, first_problem, groups_by, with_groups, reload_outcome_by, reload_outcome}
use Rattle.spec_world.specs.Step.{next, outcome, outcome_in_time, report_of, scrape_report, step_by, time_of}
use Rattle.spec_world.specs.Targets.{scrape_step}
use Rattle.spec_world.specs.World.{World}
use Rattle.spec_world.proofs.Steps.{after_last}

-- the report is a refusal exactly where the event is refused
abbrev Tells : EventOutcome → Type 0
Tells (refuse report) = is_refusal report ≡ true
Tells (accept report entries change) = is_refusal report ≡ false

refused_as_told : (w : World) (time : ℕ) (o : EventOutcome) → Tells o → is_refusal (step_by w time o).report ≡ (step_by w time o).refused
refused_as_told w time (refuse report) h = h
refused_as_told w time (accept report entries change) h = h

-- Samples, scrapes and queries

told_append : (a : Append) → is_refusal (report_of a) ≡ false
told_append append.Added = refl
told_append append.Same = refl
told_append (append.OutOfOrder last) = refl
told_append (append.Conflict kept) = refl

told_scrape : (f : Option BodyFault) (s : Scraped) → is_refusal (scrape_report f s) ≡ false
told_scrape None s = refl
told_scrape (Some f) s = refl

told_values : (v : Value) → is_refusal (told_value v) ≡ false
told_values (value.Scalar v) = refl
told_values (value.Vector items) = refl

told_answers : (r : Result Value Fault) → is_refusal (told_answer r) ≡ false
told_answers (Ok v) = told_values v
told_answers (Err f) = refl

told_expression : (s : Settings) (history : List Entry) (time : ℕ) (r : Result Tree ExpressionFault) → Tells (expression_outcome s history time r)
told_expression s history time (Ok tree) = told_answers (meaning s.subquery_step history tree time)
told_expression s history time (Err f) = refl

-- Groups

told_later : (b : Bool) (s : Settings) (w : World) (g : Group) (time last : ℕ)
    → Tells (cond b (evaluation_outcome w (group_step s g w.history time)) (refuse (report.NotLater last)))
told_later true s w g time last = refl
told_later false s w g time last = refl

told_after : (last : Option ℕ) (s : Settings) (w : World) (g : Group) (time : ℕ) → Tells (eval_after last s w g time)
told_after None s w g time = refl
told_after (Some last) s w g time = told_later (nat_lt last time) s w g time last

told_eval : (s : Settings) (w : World) (time : ℕ) (file name : List ℕ) (found : Option Group) → Tells (eval_by s w time file name found)
told_eval s w time file name None = refl
told_eval s w time file name (Some g) = told_after g.last s w g time

-- Files

abbrev Refuses : {A : Type 0} → Result A Report → Type 0
Refuses r = IfErr r (λ refusal. is_refusal refusal ≡ true)

refuses_on : {A B : Type 0} (f : A → Result B Report) (r : Result A Report) → Refuses r → ((a : A) → Refuses (f a)) → Refuses (go_on f r)
refuses_on f (Ok a) h k = k a
refuses_on f (Err refusal) h k = h

refuses_first : (name : List ℕ) (list : List Problem) → Refuses (first_problem name list)
refuses_first name [] = tt
refuses_first name (p ∷ ps) = refl

refuses_file : (name : List ℕ) (r : RuleReading) → Refuses (groups_by name r)
refuses_file name (gives_file groups) = tt
refuses_file name (gives_problems list) = refuses_first name list

refuses_loaded : (files : List NamedFile) → Refuses (all_loaded files)
refuses_loaded [] = tt
refuses_loaded (f ∷ files) =
    refuses_on (λ groups. go_on (λ rest. Ok (with_groups f groups ∷ rest)) (all_loaded files)) (groups_by f.name (rule_file_of f.bytes)) (refuses_file f.name (rule_file_of f.bytes))
    (λ groups. refuses_on (λ rest. Ok (with_groups f groups ∷ rest)) (all_loaded files) (refuses_loaded files) (λ rest. tt))

told_reload : (w : World) (time : ℕ) (r : Result (List LoadedFile) Report) → Refuses r → Tells (reload_outcome_by w time r)
told_reload w time (Ok files) h = refl
told_reload w time (Err refusal) h = h

told_files : (w : World) (time : ℕ) (files : List NamedFile) → Tells (reload_outcome w time files)
unfolding reload_outcome
told_files w time files = told_reload w time (all_loaded files) (refuses_loaded files)

refuses_read : (f : NamedFile) (r : Result (List Definition) Report) → Refuses r → Refuses (read_first f r)
refuses_read f (Ok groups) h = tt
refuses_read f (Err refusal) h = h

refuses_found : (n : FileToLoad) (h : Holding) → Refuses (file_found n h)
refuses_found n (holds bytes) = refuses_read (with_bytes n.name bytes) (groups_by n.name (rule_file_of bytes)) (refuses_file n.name (rule_file_of bytes))
refuses_found n is_missing = refl
refuses_found n is_too_large = refl

refuses_all : (content : List ℕ → Holding) (names : List FileToLoad) → Refuses (all_found content names)
refuses_all content [] = tt
refuses_all content (n ∷ names) =
    refuses_on (λ f. go_on (λ files. Ok (f ∷ files)) (all_found content names)) (file_found n (content n.file)) (refuses_found n (content n.file))
    (λ f. refuses_on (λ files. Ok (f ∷ files)) (all_found content names) (refuses_all content names) (λ files. tt))

-- All events

told_in_time : (s : Settings) (w : World) (e : Event) → Tells (outcome_in_time s w e)
told_in_time s w (Add time labels point) = told_append (admit w.history labels time point)
told_in_time s w (Query time text) = told_expression s w.history time (expression_of text)
told_in_time s w (Scrape time target body) = let step = scrape_step w.targets w.history target time body in told_scrape step.answer.fault step.answer
told_in_time s w (Fail time target) = refl
told_in_time s w (Gone time target) = refl
told_in_time s w (Eval time file group) = told_eval s w time file group (find (is_group_named file group) w.groups)
told_in_time s w (Reload time files) = told_files w time files
told_in_time s w (Restart time) = refl
told_in_time s w (Alerts time) = refl

pub refusal_is_told : (s : Settings) (w : World) (e : Event) → is_refusal (next s w e).report ≡ (next s w e).refused
unfolding next
refusal_is_told s w e = refused_as_told w (time_of e) (outcome s w e) (after_last Tells w.last (time_of e) (outcome_in_time s w e) (λ last. refl) (told_in_time s w e))

told_found : (s : Settings) (w : World) (time : ℕ) (r : Result (List NamedFile) Report) → Refuses r → Tells (found_outcome s w time r)
told_found s w time (Ok files) h = told_files w time files
told_found s w time (Err refusal) h = h

pub refused_files_are_told : (s : Settings) (w : World) (time : ℕ) (content : List ℕ → Holding) (names : List FileToLoad)
    → is_refusal (reload_asked s w time content names).report ≡ (reload_asked s w time content names).refused
unfolding reload_asked
refused_files_are_told s w time content names =
    let found = all_found content names in
    refused_as_told w time (unless_backwards w.last time (found_outcome s w time found))
    (after_last Tells w.last time (found_outcome s w time found) (λ last. refl) (told_found s w time found (refuses_all content names)))

-- a reload of files that are there
pub reload_of_found : (s : Settings) (w : World) (time : ℕ) (content : List ℕ → Holding) (names : List FileToLoad) (files : List NamedFile) → all_found content names ≡ Ok files
    → reload_asked s w time content names ≡ next s w (Reload time files)
unfolding reload_asked next
reload_of_found s w time content names files h = ap (λ r. step_by w time (unless_backwards w.last time (found_outcome s w time r))) h
