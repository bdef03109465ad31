-- Where a run stands between two orders, and where it is stopped within one.
use Rattle.std.specs.Prelude.{◌≡◌, ◌⊎◌, ℕ, ◌≤◌, ◌||◌, List, [], ◌∷◌, ◌++◌, length, take, Option, Result, Ok, Err}
use Rattle.std.specs.Io.KnownBytes.{Appends}
use Rattle.pr_queue.specs.spec_history.declared.entry.Entry.{Entry}
use Rattle.pr_text.specs.declared.script.order.Numbered.{Numbered}
use Rattle.pr_outside.specs.Meant.{Store}
use Rattle.pr_queue.specs.private.Standing as waiting
use Rattle.pr_text.specs.private.Reading.{Takes}
use Rattle.pr_outside.specs.Asks.{Asks}
use Rattle.pr_outside.specs.Outside.{Held, Outside}
use Rattle.pr_outside.specs.declared.status.status.Stop.{Stop}
use Rattle.pr_outside.specs.declared.status.status.Stop.TheVariants as stop
use Rattle.pr_text.specs.spec_world.Step.{Step}
use Rattle.pr_text.specs.spec_world.World.{World}
use Rattle.pr_text.specs.spec_world.declared.report.Report.{Report}
use Rattle.pr_run.specs.private.Keeping.{KeepsProgress, Progress, Run, unanswered, progress_after}
use Rattle.pr_outside.specs.Stores.{TellsHistory}
use Rattle.pr_run.specs.Replies.{Reply}
use Rattle.pr_run.specs.Told.{Turn, answers, asks_of, begun, told_of, turn}

-- orders were taken of the input, whose lines came before so many others
pub record Reached (first now : Option (List ℕ)) (lines : ℕ) : Type 0 where
  pub orders : List Numbered
  pub taken : Takes first now 0 lines orders

-- how far a run has come after orders
abbrev pub progress_of : Held → Progress → List Numbered → Progress
progress_of held p [] = p
progress_of held p (o ∷ orders) = progress_of held (progress_after held p o) orders

-- These orders are answered whole: what was written is what is told of them, the files were asked for
-- that they ask for, and the world after them is kept.
pub record RunStands {E : Type 0} (stands_for : E → Store → World → Type 0) (held : Held) (history : List Entry) (orders : List Numbered) (run : Run E) (before now : Outside) : Type 0 where
  pub keeps : KeepsProgress stands_for run now.store (progress_of held (unanswered history) orders)
  pub told : Appends before.out.taken now.out.taken (told_of history (answers held (begun history) orders))
  pub asked : Asks before.files.calls now.files.calls (length (asks_of (answers held (begun history) orders)))

-- Nothing was kept of an order, but so many of its files were asked for, between two numbers.
pub record StoreStays (history : List Entry) (least all : ℕ) (before now : Outside) : Type 0 where
  pub rows : TellsHistory now.store history
  pub count : ℕ
  pub asked : Asks before.files.calls now.files.calls count
  pub some : least ≤ count
  pub within : count ≤ all

-- What comes of an order in a world, by its step, by how many files it asks for, and by how the call
-- ended that was to answer it. No row is a bad one where rows are told.
abbrev pub WorldGives : {E : Type 0} → (E → Store → World → Type 0) → World → Step → ℕ → Outside → Outside → E → Result Report Stop → Type 0
WorldGives stands_for w step all before now kept (Ok report) =
    (report ≡ step.report) × stands_for kept now.store step.world × Asks before.files.calls now.files.calls all
WorldGives stands_for w step all before now kept (Err stop.Read) = ⊥
WorldGives stands_for w step all before now kept (Err stop.Load) = StoreStays w.history 1 all before now
WorldGives stands_for w step all before now kept (Err stop.Store) = StoreStays w.history 0 all before now
WorldGives stands_for w step all before now kept (Err (stop.BadRow index)) = ⊥
WorldGives stands_for w step all before now kept (Err stop.Write) = ⊥
WorldGives stands_for w step all before now kept (Err stop.Memory) = StoreStays w.history 0 all before now
WorldGives stands_for w step all before now kept (Err stop.TooLong) = ⊥

-- A reply was given, and none of its text is written.
pub record ReceiversReply {E : Type 0} (reply : Reply) (first run : Run E) (old new : List ℕ) : Type 0 where
  pub text : new ≡ old ++ reply.text
  pub receivers : waiting.StandsFor run.queues reply.receivers
  pub refused : run.refused ≡ (first.refused || reply.refused)
  pub kept : run.kept ≡ first.kept

-- An order was answered, and none of its text is written.
pub record AnswersOrder {E : Type 0} (stands_for : E → Store → World → Type 0) (held : Held) (p : Progress) (o : Numbered) (before now : Outside) (run : Run E) (old new : List ℕ) : Type 0 where
  pub text : new ≡ old ++ (turn held p.state o).answer.text
  pub keeps : KeepsProgress stands_for run now.store (progress_after held p o)
  pub asked : Asks before.files.calls now.files.calls (length (turn held p.state o).answer.asks)

-- An order was answered, and its text is written.
pub record SendsAnswer {E : Type 0} (stands_for : E → Store → World → Type 0) (held : Held) (p : Progress) (o : Numbered) (before now : Outside) (run : Run E) : Type 0 where
  pub told : Appends before.out.taken now.out.taken (turn held p.state o).answer.text
  pub keeps : KeepsProgress stands_for run now.store (progress_after held p o)
  pub asked : Asks before.files.calls now.files.calls (length (turn held p.state o).answer.asks)

-- An order was answered, and a part of its text is written, or nothing of it.
pub record WritesTurn (turn : Turn) (before now : Outside) : Type 0 where
  pub count : ℕ
  pub told : Appends before.out.taken now.out.taken (take count turn.answer.text)
  pub rows : TellsHistory now.store turn.state.world.history
  pub asked : Asks before.files.calls now.files.calls (length turn.answer.asks)

-- Nothing of it is written.
pub record WaitsBehind (turn : Turn) (history : List Entry) (least : ℕ) (before now : Outside) : Type 0 where
  pub told : Appends before.out.taken now.out.taken []
  pub stays : StoreStays history least (length turn.answer.asks) before now

-- what was done of an order where a call stopped it
abbrev pub LeavesFront : Turn → List Entry → Outside → Outside → Stop → Type 0
LeavesFront turn history before now stop.Read = ⊥
LeavesFront turn history before now stop.Load = WaitsBehind turn history 1 before now
LeavesFront turn history before now stop.Store = WaitsBehind turn history 0 before now
LeavesFront turn history before now (stop.BadRow index) = ⊥
LeavesFront turn history before now stop.Write = WritesTurn turn before now
LeavesFront turn history before now stop.Memory = WaitsBehind turn history 0 before now ⊎ WritesTurn turn before now
LeavesFront turn history before now stop.TooLong = ⊥

-- Whatever files hold, the rows that are told afterwards are those of a history and of more.
pub record IsGrown {E : Type 0} (stands_for : E → Store → World → Type 0) (history : List Entry) (store : Store) (kept : E) : Type 0 where
  pub world : World
  pub more : List Entry
  pub stands : stands_for kept store world
  pub grown : world.history ≡ history ++ more

pub record HasGrown (history : List Entry) (store : Store) : Type 0 where
  pub more : List Entry
  pub tells : TellsHistory store (history ++ more)

abbrev pub StoreGrows : {E T : Type 0} → (E → Store → World → Type 0) → List Entry → Store → E → Result T Stop → Type 0
StoreGrows stands_for history store kept (Ok done) = IsGrown stands_for history store kept
StoreGrows stands_for history store kept (Err s) = HasGrown history store
