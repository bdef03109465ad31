-- What is kept of the lines so far while an exposition is read. Private contracts cite this: a
-- reader can pass it over.
use Rattle.std.specs.Prelude.{◌≡◌, ℕ, ◌+◌, ◌<◌, ◌≤◌, ◌^◌, ◌==◌, ◌||◌, true, false, unwrap_or, Result, Ok, Err, List, [], ◌∷◌, ◌++◌, length, filter, fold, if◌then◌else◌}
use Rattle.std.specs.Map.{lookup, keys_of}
use Rattle.std.specs.Str.{bytes_eq}
use Rattle.indexmap.specs.IndexMap.{insert_entry}
use Rattle.pr_labels.specs.pr_words.Names.{is_among}
use Rattle.pr_labels.specs.pr_words.Lines.{text_lines}
use Rattle.pr_expo.specs.declared.expo_line.place.FamilyKind.{FamilyKind}
use Rattle.pr_expo.specs.declared.expo_line.place.FamilyKind.TheVariants.{Untyped}
use Rattle.pr_expo.specs.declared.expo_line.place.Read.{Read}
use Rattle.pr_expo.specs.declared.expo_line.place.Read.TheVariants.{Nothing, Help, Typed, Sample}
use Rattle.pr_expo.specs.declared.exposition.Family.{Family}
use Rattle.pr_expo.specs.declared.exposition.Line.{Line}
use Rattle.pr_expo.specs.declared.known.Known.{Known}
use Rattle.pr_expo.specs.Line.{line_read}
use Rattle.pr_expo.specs.declared.exposition.ExpoError.{ExpoError}
use Rattle.pr_expo.specs.declared.exposition.ExpoError.TheVariants.{Fault, Memory}
use Rattle.pr_expo.specs.Text.{reads_from, text_reads}
use Rattle.pr_expo.specs.Families.{arrived, family_by_kinds, family_names, has_late_type, is_help, is_sampled, kind_of, sample_by, samples_by, types_of}

-- what was read before, and then the rest
abbrev pub after : List Read → Result (List Read) ExpoError → Result (List Read) ExpoError
after done (Err fault) = Err fault
after done (Ok reads) = Ok (done ++ reads)

-- names with what is known of each, in order of first mention
abbrev pub Entries : Type 0
Entries = List (List ℕ × Known)

abbrev pub nothing_known : Known
nothing_known = record { kind = Untyped; helps = 0; types = 0; late_type = false; sampled = false }

abbrev pub known_of : Entries → List ℕ → Known
known_of entries name = unwrap_or (lookup (bytes_eq name) entries) nothing_known

-- after a help text, a type, and a sample
abbrev pub with_help : Known → Known
with_help k = record k { helps = k.helps + 1 }

abbrev pub with_type : Known → FamilyKind → Known
with_type k kind = record k { kind = if k.types == 0 then kind else k.kind; types = k.types + 1; late_type = k.late_type || k.sampled }

abbrev pub with_sample : Known → Known
with_sample k = record k { sampled = true }

abbrev pub kept_kind : Entries → List ℕ → FamilyKind
kept_kind entries name = (known_of entries name).kind

-- the family of a sample
abbrev pub kept_family : Entries → List ℕ → List ℕ
kept_family entries name = family_by_kinds (kept_kind entries) name

abbrev pub put : Entries → List ℕ → Known → Entries
put entries name known = insert_entry bytes_eq entries name known

-- the entries after a line
abbrev pub entries_after : Entries → Read → Entries
entries_after entries Nothing = entries
entries_after entries (Help name) = put entries name (with_help (known_of entries name))
entries_after entries (Typed name kind) = put entries name (with_type (known_of entries name) kind)
entries_after entries (Sample m time) = put entries (kept_family entries m.head.name) (with_sample (known_of entries (kept_family entries m.head.name)))

-- the samples after a line
abbrev pub samples_kept : Entries → Read → List Line
samples_kept entries Nothing = []
samples_kept entries (Help name) = []
samples_kept entries (Typed name kind) = []
samples_kept entries (Sample m time) = sample_by (keys_of entries) (kept_family entries m.head.name) m time ∷ []

-- the family of an entry
abbrev pub family_from : List ℕ × Known → Family
family_from e = record { name = e.0; kind = e.1.kind; helps = e.1.helps; types = e.1.types; late_type = e.1.late_type }

-- what lines say of a name
abbrev pub known_by : List Read → List ℕ → Known
known_by before name = record {
  kind = kind_of before name;
  helps = length (filter (is_help name) before);
  types = length (types_of before name);
  late_type = has_late_type before name;
  sampled = is_sampled before name;
}

-- The entries and samples tell what the lines before say: the samples also whatever families more
-- lines mention.
pub record Tells (entries : Entries) (lines : List Line) (before : List Read) : Type 0 where
  pub names : keys_of entries ≡ family_names before
  pub each : (name : List ℕ) → known_of entries name ≡ known_by before name
  pub samples : (more : List (List ℕ)) → lines ≡ samples_by (fold arrived (family_names before) more) before

-- no count of the entries is the greatest number of 32 bits
abbrev pub HasRoom : Entries → Type 0
HasRoom entries = (name : List ℕ) → ((known_of entries name).helps + 1 < 2 ^ 32) × ((known_of entries name).types + 1 < 2 ^ 32)

-- a line was read, and what is kept is the old with that
pub record Notes (line : List ℕ) (old : Entries) (samples : List Line) (new : Entries) (more : List Line) : Type 0 where
  pub read : Read
  pub reads_so : line_read line ≡ Ok read
  pub entries : new ≡ entries_after old read
  pub lines : more ≡ samples ++ samples_kept old read

-- a line was not read, for a fault of its own
abbrev pub RefusesLine : List ℕ → ℕ → ExpoError → Type 0
RefusesLine line number (Fault at kind) = (at ≡ number) × (line_read line ≡ Err kind)
RefusesLine line number Memory = Unit {0}

-- The lines before one with this number were read, and the rest is still to be read.
pub record IsUnderWay (bytes : List ℕ) (entries : Entries) (lines : List Line) (number : ℕ) (rest : List ℕ) : Type 0 where
  pub before : List Read
  pub tells : Tells entries lines before
  pub reads_so : text_reads bytes ≡ after before (reads_from number (text_lines rest))
  pub counted : number ≡ length before + 1
  pub within : number + length rest ≤ length bytes + 1

-- no name twice
abbrev pub AreApart : List (List ℕ) → Type 0
AreApart [] = Unit {0}
AreApart (name ∷ names) = (is_among name names ≡ false) × AreApart names
