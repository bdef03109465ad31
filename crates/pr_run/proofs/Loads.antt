-- The files of a reload, one after another.
use Rattle.std.proofs.Common.{◌≡◌, ℕ, ◌+◌, List, [], ◌∷◌, ◌++◌, Option, Some, None, Result, Ok, Err, IfOk, refl, sym, ap, ◌∙◌, subst, length, map, append_assoc, append-nil, arith}
use Rattle.std.proofs.lemmas.List.{map-append}
use Rattle.pr_outside.specs.Meant.{Content}
use Rattle.pr_text.specs.spec_meaning.Answers.{go_on}
use Rattle.pr_outside.specs.Asks.{Asks, AsksBy}
use Rattle.pr_outside.specs.Outside.{AreTold, Held}
use Rattle.pr_outside.specs.declared.status.status.Stop.{Stop}
use Rattle.pr_outside.specs.Loading.{Walk, walk, walked}
use Rattle.pr_text.specs.spec_world.Loading.{FileToLoad, all_found, file_found}
use Rattle.pr_text.specs.spec_world.declared.event.NamedFile.{NamedFile}
use Rattle.pr_text.specs.spec_world.declared.report.Report.{Report}
use Rattle.pr_run.specs.private.Files.{AreNamed, FitsLoaded, HasNames, fits_by, found_by, found_of, with_file, with_found}
use Rattle.pr_run.specs.Told.{asks_after, asks_for, content_by}
use Rattle.pr_run.specs.declared.files.Loaded.{Loaded}

pub asks_on : (a b c n m : ℕ) → Asks a b n → Asks b c m → Asks a c (n + m)
asks_on a b c n m p q = (omega (arith, p.0, q.0), omega (arith, p.0, p.1, q.0, q.1))

pub asks_none : (a : ℕ) → Asks a a 0
asks_none a = (omega arith, omega arith)

-- What is made of all files, and which are asked for

abbrev pub loaded_so : List NamedFile → Loaded
loaded_so loaded = record { files = loaded; refusal = None }

abbrev pub walk_from : Held → List FileToLoad → Loaded → Walk Loaded
walk_from held files before = walk (λ (f : FileToLoad). f.file) with_file held files before

-- files were loaded before others
abbrev found_behind : List NamedFile → Result (List NamedFile) Report → Result (List NamedFile) Report
found_behind loaded (Ok more) = Ok (loaded ++ more)
found_behind loaded (Err refusal) = Err refusal

behind_none : (r : Result (List NamedFile) Report) → found_behind [] r ≡ r
behind_none (Ok more) = refl
behind_none (Err refusal) = refl

behind_on : (loaded : List NamedFile) (f : NamedFile) (r : Result (List NamedFile) Report)
    → found_behind (loaded ++ f ∷ []) r ≡ found_behind loaded (go_on (λ (fs : List NamedFile). Ok (f ∷ fs)) r)
behind_on loaded f (Ok more) = ap (λ (fs : List NamedFile). Ok fs) (append_assoc loaded (f ∷ []) more)
behind_on loaded f (Err refusal) = refl

-- by what the next file comes to
abbrev all_by : Held → List FileToLoad → Result NamedFile Report → Result (List NamedFile) Report
all_by held rest r = go_on (λ (f : NamedFile). go_on (λ (fs : List NamedFile). Ok (f ∷ fs)) (all_found (content_by held) rest)) r

found_next : (held : Held) (rest : List FileToLoad) (loaded : List NamedFile) (r : Result NamedFile Report)
    → ((l : List NamedFile) → found_of (walk_from held rest (loaded_so l)).made ≡ found_behind l (all_found (content_by held) rest))
    → found_of (walked (walk_from held rest) (with_found (loaded_so loaded) r)).made ≡ found_behind loaded (all_by held rest r)
found_next held rest loaded (Ok f) later = later (loaded ++ f ∷ []) ∙ behind_on loaded f (all_found (content_by held) rest)
found_next held rest loaded (Err refusal) later = refl

found_all : (held : Held) (files : List FileToLoad) (loaded : List NamedFile)
    → found_of (walk_from held files (loaded_so loaded)).made ≡ found_behind loaded (all_found (content_by held) files)
found_all held [] loaded = ap (λ (fs : List NamedFile). Ok fs) (sym (append-nil loaded))
found_all held (f ∷ files) loaded = found_next held files loaded (file_found f (content_by held f.file)) (found_all held files)

asks_next : (held : Held) (rest : List FileToLoad) (loaded : List NamedFile) (r : Result NamedFile Report)
    → ((l : List NamedFile) → (walk_from held rest (loaded_so l)).asks ≡ asks_for (content_by held) rest)
    → (walked (walk_from held rest) (with_found (loaded_so loaded) r)).asks ≡ asks_after r (asks_for (content_by held) rest)
asks_next held rest loaded (Ok f) later = later (loaded ++ f ∷ [])
asks_next held rest loaded (Err refusal) later = refl

asks_all : (held : Held) (files : List FileToLoad) (loaded : List NamedFile)
    → (walk_from held files (loaded_so loaded)).asks ≡ asks_for (content_by held) files
asks_all held [] loaded = refl
asks_all held (f ∷ files) loaded =
    ap (λ (l : List (List ℕ)). f.file ∷ l) (asks_next held files loaded (file_found f (content_by held f.file)) (asks_all held files))

-- What a walk comes to, over none at the start

module _ (held : Held) (files : List FileToLoad) (none : List NamedFile) (is_none : none ≡ []) where
  pub told_walk : (content : Content) → AreTold content held (asks_for (content_by held) files) → AreTold content held (walk_from held files (loaded_so none)).asks
  told_walk content told =
      subst (λ (l : List NamedFile). AreTold content held (walk_from held files (loaded_so l)).asks) (sym is_none) (subst (AreTold content held) (sym (asks_all held files [])) told)

  pub walk_found : (made : Loaded) (r : Result (List NamedFile) Report) → made ≡ (walk_from held files (loaded_so none)).made → r ≡ found_of made
      → r ≡ all_found (content_by held) files
  walk_found made r is found =
      found ∙ ap found_of is ∙ ap (λ (l : List NamedFile). found_of (walk_from held files (loaded_so l)).made) is_none ∙ found_all held files []
      ∙ behind_none (all_found (content_by held) files)

  pub walk_asked : (T : Type 0) (before now : ℕ) (r : Result T Stop) → AsksBy before now (length (walk_from held files (loaded_so none)).asks) r
      → AsksBy before now (length (asks_for (content_by held) files)) r
  walk_asked T before now r asked =
      subst (λ (l : List (List ℕ)). AsksBy before now (length l) r) (asks_all held files [])
      (subst (λ (l : List NamedFile). AsksBy before now (length (walk_from held files (loaded_so l)).asks) r) is_none asked)

-- the names
pub named_more : (files rest : List FileToLoad) (file : FileToLoad) (loaded : List NamedFile) (f : NamedFile) → AreNamed files (file ∷ rest) loaded → f.name ≡ file.name
    → AreNamed files rest (loaded ++ f ∷ [])
named_more files rest file loaded f h is =
    let names : List (List ℕ) = map (λ (x : NamedFile). x.name) loaded in
    let more : List (List ℕ) = map (λ (x : FileToLoad). x.name) rest in
    ap (λ (l : List (List ℕ)). l ++ more) (map-append (λ (x : NamedFile). x.name) loaded (f ∷ [])) ∙ append_assoc names (f.name ∷ []) more
    ∙ ap (λ (n : List ℕ). names ++ (n ∷ more)) is ∙ h

pub named_all : (files : List FileToLoad) (loaded : List NamedFile) → AreNamed files [] loaded → HasNames files loaded
named_all files loaded h = sym (append-nil (map (λ (x : NamedFile). x.name) loaded)) ∙ h

pub named_is : (r : Result NamedFile Report) (f : NamedFile) (name : List ℕ) → r ≡ Ok f → IfOk r (λ (x : NamedFile). x.name ≡ name) → f.name ≡ name
named_is r f name is h = subst (λ (q : Result NamedFile Report). IfOk q (λ (x : NamedFile). x.name ≡ name)) is h

pub names_begin : (files : List FileToLoad) (none : List NamedFile) → none ≡ [] → FitsLoaded files files (loaded_so none)
names_begin files none is_none = ap (λ (l : List NamedFile). map (λ (f : NamedFile). f.name) l ++ map (λ (f : FileToLoad). f.name) files) is_none

names_by : (files : List FileToLoad) (refusal : Option Report) (loaded : List NamedFile) → fits_by refusal files [] loaded
    → IfOk (found_by refusal loaded) (HasNames files)
names_by files None loaded fits = named_all files loaded fits
names_by files (Some refusal) loaded fits = tt

pub names_end : (files : List FileToLoad) (made : Loaded) (r : Result (List NamedFile) Report) → FitsLoaded files [] made → r ≡ found_of made → IfOk r (HasNames files)
names_end files made r fits found = subst (λ (q : Result (List NamedFile) Report). IfOk q (HasNames files)) (sym found) (names_by files made.refusal made.files fits)

-- one more file was loaded
pub fits_more : (files rest : List FileToLoad) (file : FileToLoad) (refusal : Option Report) (loaded : List NamedFile) (f : NamedFile)
    → fits_by refusal files (file ∷ rest) loaded → f.name ≡ file.name → fits_by refusal files rest (loaded ++ f ∷ [])
fits_more files rest file None loaded f h is = named_more files rest file loaded f h is
fits_more files rest file (Some refusal) loaded f h is = tt
