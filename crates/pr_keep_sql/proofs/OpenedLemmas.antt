-- What a store of a path tells and counts.
use Rattle.std.proofs.Common.{◌≡◌, ◌↔◌, inl, inr, Bool, true, false, MatchBool, ℕ, ◌^◌, ◌<◌, ◌≤◌, ◌&&◌, IsSome, IsTrue, Result, Ok, Err, Option, Some, None, List, [], IfOk, OnOk, OnErr, refl, sym, ap, subst, ◌∙◌, arith}
use Rattle.sqlite.specs.Effect.{Database, IsDatabase}
use Rattle.sqlite.specs.Files.{AreFoundIn}
use Rattle.sqlite.specs.Held.{Held, state}
use Rattle.sqlite.specs.Recovery.{Image}
use Rattle.sqlite.specs.Start.{FindsIn}
use Rattle.sqlite.specs.State.{HasCleanDisk, Opens, State}
use Rattle.sqlite.specs.Store.{Ghosts}
use Rattle.sqlite.specs.View.{doubt}
use Rattle.pr_outside.specs.Causes.{HasKeepCause}
use Rattle.pr_outside.specs.private.Kept.{KeepsRows, StartsRows}
use Rattle.pr_outside.specs.declared.keeping.KeepError.{KeepError}
use Rattle.pr_outside.specs.declared.keeping.KeepError.TheVariants.{Failed, Memory}
use Rattle.pr_outside.specs.spec_history.declared.row.Row.{Row as Line}
use Rattle.pr_outside.specs.private.Schedule.{one_more}
use Rattle.pr_keep_sql.specs.private.Counts.{CountsOnce, CountsOne, faults_of}
use Rattle.pr_keep_sql.specs.private.Kept.{Keeps, listed}
use Rattle.pr_keep_sql.specs.private.Opened.{IsFoundIn, TellsOf, rows_in, sound_in}
use Rattle.pr_keep_sql.specs.private.Store.{KeptStore, rows_of, sound_of}
use Rattle.pr_keep_sql.specs.private.Tables.{HasOursFirst, schema_of}
use Rattle.pr_keep_sql.specs.declared.opened.Opened.{Opened}
use Rattle.pr_keep_sql.specs.declared.opened.Opened.TheVariants.{File, Nothing}
use Rattle.pr_keep_sql.proofs.KeptLemmas.{clean_before, clean_disk, disk_clean}

same_rows : (rows : Option (List Line)) → KeepsRows rows rows
same_rows None = tt
same_rows (Some rows) = refl

any_start : (rows : Option (List Line)) → StartsRows None rows
any_start None = tt
any_start (Some rows) = tt

-- a start is the first, or leaves what is open
module _ {S X E : Type 0} (g : Ghosts S) (old new : Opened S) where
  pub starts_on : (r : Result X E) → OnOk r (old ≡ Nothing) → OnOk r (StartsRows (rows_in g old) (rows_in g new))
  starts_on (Ok x) first = rw first (any_start (rows_in g new))
  starts_on (Err e) first = tt

  pub stays_on : (r : Result X E) → OnErr r (new ≡ old) → OnErr r (KeepsRows (rows_in g old) (rows_in g new))
  stays_on (Ok x) same = tt
  stays_on (Err e) same = rw same (same_rows (rows_in g old))

both : (a b : Bool) → IsTrue a → IsTrue b → IsTrue (a && b)
both true true first second = refl
both true false first second = absurd cc
both false b first second = absurd cc

sound_parts : (a b : Bool) → IsTrue (a && b) → IsTrue a × IsTrue b
sound_parts true true sound = (refl, refl)
sound_parts true false sound = absurd cc
sound_parts false b sound = absurd cc

-- what keeps its word has its tables first, and a disk that returned what was written
pub is_sound : (first : Bool) (s : State) → IsTrue (first && s.is_clean) → IsTrue first × HasCleanDisk s
is_sound first s sound = let parts = sound_parts first s.is_clean sound in (parts.0, clean_disk s.is_clean parts.1)

-- and a file does so exactly then
pub sound_file : {S : Type 0} (g : Ghosts S) (opened : Opened S) (kept : KeptStore S) → opened ≡ File kept → IsTrue (sound_in g opened) ↔ (IsTrue kept.is_first × HasCleanDisk (state g kept.conn))
sound_file g opened kept same = rw same ((λ sound. is_sound kept.is_first (state g kept.conn) sound), (λ p. both kept.is_first (state g kept.conn).is_clean p.0 (disk_clean (state g kept.conn).is_clean p.1)))

-- a call that leaves which tables stand first
module _ {S : Type 0} (g : Ghosts S) (old new : KeptStore S) (same : new.is_first ≡ old.is_first) where
  pub was_sound : doubt (state g old.conn).is_clean ≤ doubt (state g new.conn).is_clean → IsTrue (sound_of g new) → IsTrue (sound_of g old)
  was_sound clean sound =
      let parts = sound_parts new.is_first (state g new.conn).is_clean sound in
      both old.is_first (state g old.conn).is_clean (sym same ∙ parts.0) (clean_before (state g old.conn).is_clean (state g new.conn).is_clean clean parts.1)

  pub told_on : {X E : Type 0} (r : Result X E) → (HasCleanDisk (state g new.conn) → OnOk r (IsTrue old.is_first → IsSome (rows_of g new))) → IsTrue (sound_of g new) → OnOk r (IsSome (rows_of g new))
  told_on (Ok x) told sound = let is = is_sound new.is_first (state g new.conn) sound in told is.1 (sym same ∙ is.0)
  told_on (Err e) told sound = tt

-- what is told of a connection that was found, once its tables are ready
pub tells_of : {S E : Type 0} (g : Ghosts S) (Finds : Database → Type 0) (c : Held S) (r : Result (KeptStore S) E) → (HasCleanDisk (state g c) → IsDatabase (state g c).now) → (HasCleanDisk (state g c) → Finds (state g c).now)
    → IfOk r (λ k. doubt (state g c).is_clean ≤ doubt (state g k.conn).is_clean)
    → IfOk r (λ k. HasCleanDisk (state g k.conn) → (state g c).now.schema ≡ schema_of [] → rows_of g k ≡ Some [])
    → IfOk r (λ k. HasCleanDisk (state g k.conn) → HasOursFirst (state g c).now.schema → Keeps (state g c).now (listed (state g c).now) × (rows_of g k ≡ Some (listed (state g c).now)))
    → IfOk r (λ k. HasCleanDisk (state g k.conn) → TellsOf Finds (rows_of g k))
tells_of g Finds c (Err e) is_sound is_found less over_nothing over_tables = tt
tells_of g Finds c (Ok k) is_sound is_found less over_nothing over_tables = λ clean.
    let early : HasCleanDisk (state g c) = omega (arith, less, clean) in
    record { db = (state g c).now; sound = is_sound early; found = is_found early; made = over_nothing clean; kept = over_tables clean }

-- what is open at last had no refusal
pub counts_first : (own now : ℕ) → own < 2 ^ 64 → now ≡ 0 → faults_of own now ≡ own
counts_first own now small none = omega (arith, none)

-- and what was not opened is counted
pub counts_refusal : (X : Type 0) (own before now : ℕ) (e : KeepError) → own < 2 ^ 64 → before ≡ 0 → HasKeepCause {T = X} before now (Err e) → HasKeepCause {T = X} own (faults_of own now) (Err e)
counts_refusal X own before now Failed small none h = (omega (arith, h.0, none), omega arith)
counts_refusal X own before now Memory small none h = omega (arith, h, none)

-- once
pub counts_one : (X : Type 0) (own refused odd now_refused now_odd : ℕ) (e : KeepError) → own < 2 ^ 64 → refused ≡ 0 → odd ≡ 0 → CountsOnce {T = X} refused odd now_refused now_odd (Err e)
    → CountsOne {T = X} own (faults_of own (faults_of now_refused now_odd)) (Err e)
counts_one X own refused odd now_refused now_odd Memory small none none_odd h = omega (arith, h.0, h.1, none, none_odd, small)
counts_one X own refused odd now_refused now_odd Failed small none none_odd (inl h) = omega (arith, h.0, h.1, none, none_odd, small)
counts_one X own refused odd now_refused now_odd Failed small none none_odd (inr h) = omega (arith, h.0, h.1, none, none_odd, small)

pub opening_counts : (X : Type 0) (want : Bool) (answer : KeepError) (own now : ℕ) → MatchBool want ((answer ≡ Memory) × (now ≡ own)) ((answer ≡ Failed) × (now ≡ one_more own)) → CountsOne {T = X} own now (Err answer)
opening_counts X true answer own now h = rw h.0 h.1
opening_counts X false answer own now h = rw h.0 h.1

-- an open by what the files held
pub found_in : (image : Image) (s : State) → Opens s → FindsIn image s → IsFoundIn image s.now
found_in image s opens finds =
    let same : s.committed.trees ≡ s.now.trees = ap (λ (d : Database). d.trees) (sym opens.clean) in
    record { found = subst (AreFoundIn image) same finds.reads; held = λ trees h. sym same ∙ finds.holds trees h }
