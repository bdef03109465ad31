-- How a call ends, what stopped it, and where.
use Rattle.std.specs.Prelude.{ℕ, Bool, true, false, Result, Ok, Err}
use Rattle.pr_outside.specs.Courses.{IsInTime, GoesOn}
use Rattle.pr_outside.specs.Meant.{Input, Folder, Output}
use Rattle.pr_outside.specs.declared.course.Course.{Course}
use Rattle.pr_outside.specs.declared.files.FilesError.{FilesError}
use Rattle.pr_outside.specs.declared.files.FilesError.TheVariants as files
use Rattle.pr_outside.specs.declared.keeping.KeepError.{KeepError}
use Rattle.pr_outside.specs.declared.keeping.KeepError.TheVariants as keeping
use Rattle.pr_outside.specs.declared.streams.SinkError.{SinkError}
use Rattle.pr_outside.specs.declared.streams.SinkError.TheVariants as sink
use Rattle.pr_outside.specs.Outside.{Outside, NoneRose, InputRose, FilesRose, StoreRose, OutRose}
use Rattle.pr_outside.specs.Status.{IsReadOut, IsShort, IsTooLong}
use Rattle.pr_outside.specs.declared.status.status.Status.{Status}
use Rattle.pr_outside.specs.declared.status.status.Status.TheVariants as status
use Rattle.pr_outside.specs.declared.status.status.Stop.{Stop}
use Rattle.pr_outside.specs.declared.status.status.Stop.TheVariants.{Read, Load, Store, BadRow, Write, Memory, TooLong}

abbrev pub stop_of_sink : SinkError → Stop
stop_of_sink sink.Failed = Write
stop_of_sink sink.Memory = Memory

abbrev pub stop_of_files : FilesError → Stop
stop_of_files files.Failed = Load
stop_of_files files.Memory = Memory

abbrev pub stop_of_keeper : KeepError → Stop
stop_of_keeper keeping.Failed = Store
stop_of_keeper keeping.Memory = Memory

-- where a run stopped: at its input, be it at its end, at a refused read or since it is too long; at
-- the load of a file; at the store; at a bad row, with its index; at the output; or for want of
-- memory, which may be anywhere
pub data StopPlace : Type 0 where
  at_input : StopPlace
  at_file : StopPlace
  at_store : StopPlace
  at_row : ℕ → StopPlace
  at_output : StopPlace
  anywhere : StopPlace

abbrev pub place_of : {T : Type 0} → Result T Stop → StopPlace
place_of (Ok done) = at_input
place_of (Err Read) = at_input
place_of (Err Load) = at_file
place_of (Err Store) = at_store
place_of (Err (BadRow index)) = at_row index
place_of (Err Write) = at_output
place_of (Err Memory) = anywhere
place_of (Err TooLong) = at_input

-- The cause of an end. The count of an object whose call was refused has risen, and no other one;
-- a row is a bad one, where `bad` says so; and the input is too long, where `long` says so.
abbrev pub StopsBy : {T : Type 0} → (ℕ → Type 0) → Type 0 → Outside → Outside → Result T Stop → Type 0
StopsBy bad long before now (Ok done) = NoneRose before now
StopsBy bad long before now (Err Read) = InputRose before now
StopsBy bad long before now (Err Load) = FilesRose before now
StopsBy bad long before now (Err Store) = StoreRose before now
StopsBy bad long before now (Err (BadRow index)) = NoneRose before now × bad index
StopsBy bad long before now (Err Write) = OutRose before now
StopsBy bad long before now (Err Memory) = NoneRose before now
StopsBy bad long before now (Err TooLong) = NoneRose before now × long

-- An object whose last call is one that is refused may be called on after an end that is no stop.
abbrev pub IsCalled : {T : Type 0} → Course → Course → Result T Stop → Type 0
IsCalled before now (Ok done) = GoesOn before now
IsCalled before now (Err stop) = IsInTime before now

-- How anything ends between one call of the outside and a whole command, by which rows are bad, by
-- when the input is too long, and by what the four objects mean before and after: the end has its
-- cause, and no object was called after its last call.
pub record Ends {T : Type 0} (bad : ℕ → Type 0) (long : Type 0) (before now : Outside) (result : Result T Stop) : Type 0 where
  pub cause : StopsBy bad long before now result
  pub input : IsInTime before.input.course now.input.course
  pub files : IsCalled before.files.course now.files.course result
  pub out : IsCalled before.out.course now.out.course result

-- no row is bad, for a call that asks for none
abbrev pub no_row : ℕ → Type 0
no_row index = ⊥

-- A call of the output alone, of the files alone, or of the input alone, whatever the other objects
-- are.
abbrev pub WriteEnds : {T : Type 0} → Output → Output → Result T Stop → Type 0
WriteEnds before now result = (others : Outside) → Ends no_row ⊥ (record others { out = before }) (record others { out = now }) result

abbrev pub LoadEnds : {T : Type 0} → Folder → Folder → Result T Stop → Type 0
LoadEnds before now result = (others : Outside) → Ends no_row ⊥ (record others { files = before }) (record others { files = now }) result

abbrev pub ReadEnds : {T : Type 0} → Type 0 → Input → Input → Result T Stop → Type 0
ReadEnds long before now result = (others : Outside) → Ends no_row long (record others { input = before }) (record others { input = now }) result

-- A run that is not stopped has read its input out, and took few enough bytes; one whose input is too
-- long did not.
abbrev pub KnowsLength : {T : Type 0} → Input → Input → Result T Stop → Type 0
KnowsLength before now (Ok done) = IsShort before.left × IsReadOut before now
KnowsLength before now (Err Read) = Unit {0}
KnowsLength before now (Err Load) = Unit {0}
KnowsLength before now (Err Store) = Unit {0}
KnowsLength before now (Err (BadRow index)) = Unit {0}
KnowsLength before now (Err Write) = Unit {0}
KnowsLength before now (Err Memory) = Unit {0}
KnowsLength before now (Err TooLong) = IsTooLong before now

-- what holds where the input stopped a call
abbrev pub AtInput : {T : Type 0} → Result T Stop → Type 0 → Type 0
AtInput (Ok done) P = Unit {0}
AtInput (Err Read) P = P
AtInput (Err Load) P = Unit {0}
AtInput (Err Store) P = Unit {0}
AtInput (Err (BadRow index)) P = Unit {0}
AtInput (Err Write) P = Unit {0}
AtInput (Err Memory) P = Unit {0}
AtInput (Err TooLong) P = P

-- how the program ends after what stopped it
abbrev pub stop_status : Stop → Status
stop_status Read = status.ReadFault
stop_status Load = status.ReadFault
stop_status Store = status.StoreFault
stop_status (BadRow index) = status.StoreFault
stop_status Write = status.WriteFault
stop_status Memory = status.Memory
stop_status TooLong = status.TooLong

-- how the program ends after a command that refused something, or nothing
abbrev pub status_of : Result Bool Stop → Status
status_of (Ok true) = status.Problem
status_of (Ok false) = status.Done
status_of (Err stop) = stop_status stop
