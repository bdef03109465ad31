-- The line of a sample as a person reads it, part by part. Its text is a list of characters; what
-- is read of it is kept as bytes.
use Rattle.std.specs.Prelude.{◌≡◌, ℕ, ◌<◌, ◌==◌, true, false, Option, Some, None, List, [], ◌∷◌, ◌++◌, length, codes, encode_utf8}
use Prim.Native.Char.{code}
use Rattle.pr_labels.specs.pr_words.Bytes.{AreBlanks}
use Rattle.pr_labels.specs.declared.pair.Pair.{Pair}
use Rattle.pr_labels.specs.Names.{is_metric_name}
use Rattle.pr_num.specs.private.Forms.{IsNumberText}
use Rattle.pr_expo.specs.declared.expo_line.place.Measured.{Measured}
use Rattle.pr_expo.specs.Line.{escape}
use Rattle.pr_expo.specs.private.Sound.{HasDistinctNames, IsTime}

-- a text of two parts
pub record Then (P Q : List ℕ → Type 0) (text : List ℕ) : Type 0 where
  pub front : List ℕ
  pub rest : List ℕ
  pub parts : text ≡ front ++ rest
  pub first : P front
  pub second : Q rest

infixl 30 ◌▸◌
abbrev pub ◌▸◌ : (List ℕ → Type 0) → (List ℕ → Type 0) → List ℕ → Type 0
◌▸◌ P Q = Then P Q

-- this text, blanks, and one blank at least
abbrev pub Is : List ℕ → List ℕ → Type 0
Is wanted text = text ≡ wanted

abbrev pub Blanks : List ℕ → Type 0
Blanks = AreBlanks

pub record SomeBlanks (text : List ℕ) : Type 0 where
  pub some : 0 < length text
  pub blanks : Blanks text

-- What stands between the quotes of a value, with its bytes: each character stands for itself, but
-- behind a backslash for what it escapes.
pub data IsValueText : List ℕ → List ℕ → Type 0 where
  empty_value : IsValueText [] []
  character : (value text : List ℕ) (c : ℕ) → IsValueText value text → (c == code "\"") ≡ false → (c == code "\\") ≡ false → IsValueText (value ++ encode_utf8 c) (text ++ c ∷ [])
  escaped : (value text : List ℕ) (c : ℕ) → IsValueText value text → IsValueText (value ++ escape c) ((text ++ codes "\\") ++ c ∷ [])

-- a label, with blanks around it
abbrev pub Label : Pair → List ℕ → Type 0
Label p = Blanks ▸ Is p.name ▸ Blanks ▸ Is (codes "=") ▸ Blanks ▸ Is (codes "\"") ▸ IsValueText p.value ▸ Is (codes "\"") ▸ Blanks

-- labels with commas between
pub data Labels : List Pair → List ℕ → Type 0 where
  one : (p : Pair) (text : List ℕ) → Label p text → Labels (p ∷ []) text
  more : (ps : List Pair) (p : Pair) (front label text : List ℕ) → Labels ps front → Label p label → text ≡ (front ++ codes ",") ++ label → Labels (ps ++ p ∷ []) text

-- what may stand behind a name: nothing, or labels in braces, which may have a comma behind the
-- last
pub data LabelList : List Pair → List ℕ → Type 0 where
  no_list : LabelList [] []
  no_labels : (text : List ℕ) → (Is (codes "{") ▸ Blanks ▸ Is (codes "}")) text → LabelList [] text
  labels : (ps : List Pair) (text : List ℕ) → (Is (codes "{") ▸ Labels ps ▸ Is (codes "}")) text → LabelList ps text
  last_comma : (ps : List Pair) (text : List ℕ) → (Is (codes "{") ▸ Labels ps ▸ Is (codes ",") ▸ Blanks ▸ Is (codes "}")) text → LabelList ps text

-- what may stand behind the number: blanks, and a time between them
abbrev pub End : Option (List ℕ) → List ℕ → Type 0
End None = Blanks
End (Some time) = SomeBlanks ▸ Is time ▸ Blanks

-- blanks, the name, at once its list, blanks, the number, and the end
abbrev pub SampleText : Measured → Option (List ℕ) → List ℕ → Type 0
SampleText m time = Blanks ▸ Is m.head.name ▸ LabelList m.head.labels ▸ SomeBlanks ▸ Is m.number ▸ End time

-- The characters are the line of this sample, with the text of its time.
pub record IsSampleLine (text : List ℕ) (m : Measured) (time : Option (List ℕ)) : Type 0 where
  pub parts : SampleText m time text
  pub name : is_metric_name m.head.name ≡ true
  pub names : HasDistinctNames m.head
  pub number : IsNumberText m.number
  pub is_time : IsTime time
