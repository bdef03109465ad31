-- What becomes of the files of a reload, one after another. Private contracts cite this: a reader can
-- pass it over.
use Rattle.std.specs.Prelude.{◌≡◌, List, [], ◌∷◌, ◌++◌, map, Option, Some, None, Result, Ok, Err}
use Rattle.pr_outside.specs.Loading.{Holding, Made, goes_on, stops_at}
use Rattle.pr_text.specs.spec_world.Loading.{FileToLoad, file_found}
use Rattle.pr_text.specs.spec_world.declared.event.NamedFile.{NamedFile}
use Rattle.pr_text.specs.spec_world.declared.report.Report.{Report}
use Rattle.pr_run.specs.Told.{holding_of}
use Rattle.pr_run.specs.declared.files.Loaded.{Loaded}

-- a file, or its refusal
abbrev pub read_as : NamedFile → Option Report → Result NamedFile Report
read_as f None = Ok f
read_as f (Some refusal) = Err refusal

-- the files have the names that were asked for
abbrev pub HasNames : List FileToLoad → List NamedFile → Type 0
HasNames files loaded = map (λ (f : NamedFile). f.name) loaded ≡ map (λ (f : FileToLoad). f.name) files

-- the names of those that were loaded, and of the rest
abbrev pub AreNamed : List FileToLoad → List FileToLoad → List NamedFile → Type 0
AreNamed files rest loaded = map (λ (f : NamedFile). f.name) loaded ++ map (λ (f : FileToLoad). f.name) rest ≡ map (λ (f : FileToLoad). f.name) files

-- What holds of those that were loaded and the rest, unless one was refused.
abbrev pub fits_by : Option Report → List FileToLoad → List FileToLoad → List NamedFile → Type 0
fits_by None files rest loaded = AreNamed files rest loaded
fits_by (Some refusal) files rest loaded = Unit {0}

abbrev pub FitsLoaded : List FileToLoad → List FileToLoad → Loaded → Type 0
FitsLoaded files rest l = fits_by l.refusal files rest l.files

-- A file comes behind those that were loaded before it, and a refusal ends the loading.
abbrev pub with_found : Loaded → Result NamedFile Report → Made Loaded
with_found before (Ok f) = goes_on (record { files = before.files ++ f ∷ []; refusal = before.refusal })
with_found before (Err refusal) = stops_at (record { files = before.files; refusal = Some refusal })

abbrev pub with_file : FileToLoad → Loaded → Holding → Made Loaded
with_file n before holding = with_found before (file_found n (holding_of holding))

abbrev pub found_by : Option Report → List NamedFile → Result (List NamedFile) Report
found_by None loaded = Ok loaded
found_by (Some refusal) loaded = Err refusal

abbrev pub found_of : Loaded → Result (List NamedFile) Report
found_of l = found_by l.refusal l.files
