-- Where a line is bad, and how: by what stands before its first bad place, and what stands at it.
use Rattle.std.specs.Prelude.{◌≡◌, ℕ, ◌<◌, ◌⊎◌, Bool, true, false, List, [], ◌∷◌, ◌++◌, length, codes}
use Rattle.std.specs.List.{list_all}
use Rattle.std.specs.Str.{IsUtf8, chars}
use Rattle.pr_labels.specs.declared.pair.Pair.{Pair}
use Rattle.pr_labels.specs.Names.{is_label_name, is_metric_name}
use Rattle.pr_num.specs.private.Forms.{IsNumberText}
use Rattle.pr_labels.specs.pr_words.Fields.{is_field_byte}
use Rattle.pr_expo.specs.declared.expo_line.place.ExpoKind.{ExpoKind}
use Rattle.pr_expo.specs.declared.expo_line.place.ExpoKind.TheVariants.{NotText, BadName, BadLabels, DuplicateLabel, BadValue, BadTime, BadType}
use Rattle.pr_expo.specs.declared.expo_line.place.LineHead.{LineHead}
use Rattle.pr_expo.specs.declared.expo_line.place.Read.{Read}
use Rattle.pr_expo.specs.Line.{stands_before, text_front}
use Rattle.pr_expo.specs.private.Grammar.{ReadsLine}
use Rattle.pr_expo.specs.private.PlainLine.{◌▸◌, Blanks, Is, LabelList, Labels, SomeBlanks}
use Rattle.pr_expo.specs.private.Sound.{HasDistinctNames}

-- The place

-- some line begins with these characters
abbrev pub IsBeginning : List ℕ → Type 0
IsBeginning front = (more : List ℕ) × ((read : Read) × ReadsLine (front ++ more) read)

-- What stands at a place of a line: a character, a byte that is no text, or the line's end.
pub data Stop : Type 0 where
  character_at : ℕ → Stop
  broken_byte : Stop
  line_end : Stop

-- The line has these characters, then this, and no line goes on with it. At the first byte that is
-- no text none does, and at the end none where the characters are no line.
abbrev pub StopsBehind : List ℕ → List ℕ → Stop → Type 0
StopsBehind line front (character_at c) = ((cs : List ℕ) × (chars (text_front line) ≡ front ++ c ∷ cs)) × (IsBeginning (front ++ c ∷ []) → ⊥)
StopsBehind line front broken_byte = (chars (text_front line) ≡ front) × (IsUtf8 line → ⊥)
StopsBehind line front line_end = (chars line ≡ front) × (IsUtf8 line × ((read : Read) → ReadsLine front read → ⊥))

-- The first bad place of the line stands behind these characters: a line can begin with them, and
-- none with what stands there too.
pub record IsBadBehind (line front : List ℕ) (stop : Stop) : Type 0 where
  pub begins : IsBeginning front
  pub stops : StopsBehind line front stop

-- What stands before it

-- the name of a metric
abbrev pub Name : List ℕ → Type 0
Name text = is_metric_name text ≡ true

-- a text without blanks, and any text; both may be empty
abbrev pub NoBlanks : List ℕ → Type 0
NoBlanks text = list_all is_field_byte text ≡ true

abbrev pub Any : List ℕ → Type 0
Any text = Unit {0}

-- a comment up to its first word, and one that concerns a family
abbrev pub Comment : List ℕ → List ℕ → Type 0
Comment word = Blanks ▸ Is (codes "#") ▸ SomeBlanks ▸ Is word

abbrev pub FamilyComment : List ℕ → Type 0
FamilyComment text = Comment (codes "HELP") text ⊎ Comment (codes "TYPE") text

-- blanks, a name, and at once such a list of its labels
pub record HeadBy (L : List Pair → List ℕ → Type 0) (text : List ℕ) : Type 0 where
  pub head : LineHead
  pub name : is_metric_name head.name ≡ true
  pub names : HasDistinctNames head
  pub parts : (Blanks ▸ Is head.name ▸ L head.labels) text

-- labels in braces, and the list of a sample, which may be missing
pub record Braces (ps : List Pair) (text : List ℕ) : Type 0 where
  pub some : 0 < length text
  pub list : LabelList ps text

abbrev pub ListedHead : List ℕ → Type 0
ListedHead = HeadBy Braces

abbrev pub SampleHead : List ℕ → Type 0
SampleHead = HeadBy LabelList

-- a list up to where a label may begin: the brace, and a comma behind each label
pub data OpenList : List Pair → List ℕ → Type 0 where
  opened : (t : List ℕ) → Is (codes "{") t → OpenList [] t
  continued : (ps : List Pair) (t : List ℕ) → (Is (codes "{") ▸ Labels ps ▸ Is (codes ",")) t → OpenList ps t

-- within a list: behind its brace, and it is not whole yet
pub record IsWithinList (text : List ℕ) : Type 0 where
  pub behind : (Blanks ▸ Name ▸ Is (codes "{") ▸ Any) text
  pub unclosed : (ListedHead ▸ Any) text → ⊥

-- behind a label's name that is that of the metric's name, or one of a label before it
pub record IsBehindTwice (text : List ℕ) : Type 0 where
  pub head : LineHead
  pub label : List ℕ
  pub name : is_metric_name head.name ≡ true
  pub names : HasDistinctNames head
  pub is_label : is_label_name label ≡ true
  pub before : stands_before head label ≡ true
  pub parts : (Blanks ▸ Is head.name ▸ OpenList head.labels ▸ Blanks ▸ Is label) text

-- The kind

-- How a line is bad behind these characters, where a character stands there or, by the truth
-- value, the line ends.
pub data IsFault : ExpoKind → Bool → List ℕ → Type 0 where
  -- where the name of a sample should begin, and go on
  no_name : (text : List ℕ) → Blanks text → IsFault BadName false text
  in_name : (text : List ℕ) → (Blanks ▸ Name) text → IsFault BadName false text
  -- where the name of a family should begin, and go on
  no_family : (is_end : Bool) (text : List ℕ) → (FamilyComment ▸ Blanks) text → IsFault BadName is_end text
  in_family : (text : List ℕ) → (FamilyComment ▸ SomeBlanks ▸ Name) text → IsFault BadName false text
  -- at the end of a type line that is a family, and anywhere behind the family and blanks
  no_type : (text : List ℕ) → (Comment (codes "TYPE") ▸ SomeBlanks ▸ Name) text → IsFault BadType true text
  in_type : (is_end : Bool) (text : List ℕ) → (Comment (codes "TYPE") ▸ SomeBlanks ▸ Name ▸ SomeBlanks ▸ Any) text → IsFault BadType is_end text
  -- within a list
  in_list : (is_end : Bool) (text : List ℕ) → IsWithinList text → (IsBehindTwice text → ⊥) → IsFault BadLabels is_end text
  twice : (is_end : Bool) (text : List ℕ) → IsBehindTwice text → IsFault DuplicateLabel is_end text
  -- at the end of a line that is a name, right behind a list, and up to the end of the number
  no_value : (text : List ℕ) → (Blanks ▸ Name) text → IsFault BadValue true text
  behind_list : (is_end : Bool) (text : List ℕ) → ListedHead text → IsFault BadValue is_end text
  in_value : (is_end : Bool) (text : List ℕ) → (SampleHead ▸ SomeBlanks ▸ NoBlanks) text → IsFault BadValue is_end text
  -- anywhere behind the number and blanks
  behind_number : (is_end : Bool) (text : List ℕ) → (SampleHead ▸ SomeBlanks ▸ IsNumberText ▸ SomeBlanks ▸ Any) text → IsFault BadTime is_end text

-- A byte that is no text is bad as such; else it is told by what stands before the place.
abbrev pub IsFaultAt : ExpoKind → List ℕ → Stop → Type 0
IsFaultAt kind front (character_at c) = IsFault kind false front
IsFaultAt kind front broken_byte = kind ≡ NotText
IsFaultAt kind front line_end = IsFault kind true front

-- The line is bad in this way at its first bad place.
pub record HasFault (line : List ℕ) (kind : ExpoKind) : Type 0 where
  pub front : List ℕ
  pub stop : Stop
  pub place : IsBadBehind line front stop
  pub fault : IsFaultAt kind front stop
