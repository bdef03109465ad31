-- What stands at the front of a text: the letters that the pieces are read by.
use Rattle.std.specs.Prelude.{◌≡◌, ◌<◌, ◌≤◌, ◌-◌, nat_lt, ◌&&◌, Bool, true, ℕ, Some, None, List, [], ◌∷◌, ◌++◌, length, drop, map, codes}
use Rattle.std.specs.Str.{IsUtf8}
use Rattle.pr_labels.specs.pr_words.private.Reader.{KeepsText}
use Rattle.pr_labels.specs.pr_words.StringAnswer.{string_of, bad_string_place}
use Rattle.pr_tmpl.specs.declared.kind.TemplateByte.{TemplateByte}
use Rattle.pr_tmpl.specs.declared.letter.Letter.{Letter}
use Rattle.pr_tmpl.specs.declared.letter.Letter.TheVariants.{Plain, Escape, Broken}
use Rattle.pr_tmpl.specs.private.Reader.{BeginsText}
use Rattle.pr_tmpl.specs.Pieces.{Piece, plain, escape, broken, part, pieces, kind_of, kind_of_all, ascii_front, escape_bytes, escape_quoted, escape_parts}

-- The text begins with a byte that begins no escape.
pub record IsPlain (text : List ℕ) (kind : TemplateByte) (b : ℕ) (rest : List ℕ) : Type 0 where
  pub pieces_are : pieces text ≡ plain kind b ∷ pieces rest
  pub bytes_are : text ≡ b ∷ rest
  pub kind_is : kind ≡ kind_of b

-- The pieces are none, or begin with an escape.
pub data NoPlain : List Piece → Type 0 where
  no_piece : NoPlain []
  an_escape : {kind : TemplateByte} {raw means : List ℕ} {ps : List Piece} → NoPlain (escape kind raw means ∷ ps)
  a_break : {ps : List Piece} → NoPlain (broken ∷ ps)

abbrev pub HasNoPlain : List ℕ → Type 0
HasNoPlain text = NoPlain (pieces text)

-- One of so many bytes is ASCII and at the front.
pub record IsAscii (left : ℕ) (text : List ℕ) (b : ℕ) (rest : List ℕ) : Type 0 where
  pub some : 1 ≤ left
  pub small : b < 128
  pub is : ascii_front left text ≡ b ∷ ascii_front (left - 1) rest
  pub shorter : length rest < length text

abbrev pub HasNoAscii : ℕ → List ℕ → Type 0
HasNoAscii left text = ascii_front left text ≡ []

-- The text is a string of these bytes; it is none, and the place is its first bad one.
abbrev pub IsString : List ℕ → List ℕ → Type 0
IsString text bytes = string_of text ≡ Some bytes

pub record IsNoString (text : List ℕ) (place : ℕ) : Type 0 where
  pub is : string_of text ≡ None
  pub place_is : place ≡ bad_string_place text

-- What follows a backslash, and the text after that.
abbrev pub FollowsBackslash : List ℕ → Letter → List ℕ → Type 0
FollowsBackslash text (Plain kind b) rest = ⊥
FollowsBackslash text (Escape kind means) rest = (string_of (escape_quoted (escape_bytes text)) ≡ Some means.items) × (kind ≡ kind_of_all means.items) × (rest ≡ drop (length (escape_bytes text)) text)
FollowsBackslash text Broken rest = (string_of (escape_quoted (escape_bytes text)) ≡ None) × (rest ≡ drop (length (escape_parts (escape_bytes text))) text)

-- The text begins with an escape of that kind and meaning; with one that breaks off.
pub record IsEscape (text : List ℕ) (kind : TemplateByte) (means rest : List ℕ) : Type 0 where
  pub raw : List ℕ
  pub pieces_are : pieces text ≡ escape kind raw means ∷ pieces rest
  pub kind_is : kind ≡ kind_of_all means
  pub bytes_are : text ≡ raw ++ rest

pub record IsBreak (text rest : List ℕ) : Type 0 where
  pub parts : List ℕ
  pub pieces_are : pieces text ≡ broken ∷ (map part parts ++ pieces rest)
  pub bytes_are : text ≡ codes "\\" ++ (parts ++ rest)

-- The letter is what the text begins with, and the rest follows it.
abbrev pub IsLetter : List ℕ → Letter → List ℕ → Type 0
IsLetter text (Plain kind b) rest = IsPlain text kind b rest
IsLetter text (Escape kind means) rest = IsEscape text kind means.items rest
IsLetter text Broken rest = IsBreak text rest

-- The text begins with a byte of that kind that begins no escape.
pub record IsSign (kind : TemplateByte) (text rest : List ℕ) : Type 0 where
  pub byte : ℕ
  pub pieces_are : pieces text ≡ plain kind byte ∷ pieces rest
  pub shorter : length rest < length text

-- It does not.
abbrev pub IsNoSign : TemplateByte → List ℕ → Type 0
IsNoSign kind text = (b : ℕ) (ps : List Piece) → pieces text ≡ plain kind b ∷ ps → ⊥

-- all bytes of a word are ASCII
abbrev pub are_ascii : List ℕ → Bool
are_ascii [] = true
are_ascii (b ∷ bs) = nat_lt b 128 && are_ascii bs

-- What an escape means is UTF-8, and so is what follows it, where the text is; the text may be cut
-- before its backslash.
abbrev pub MeansText : List ℕ → Letter → List ℕ → Type 0
MeansText text (Escape kind means) rest = IsUtf8 means.items × KeepsText text rest
MeansText text _ rest = Unit {0}

abbrev pub LetterText : List ℕ → Letter → List ℕ → Type 0
LetterText text (Escape kind means) rest = IsUtf8 means.items × KeepsText text rest × BeginsText text
LetterText text _ rest = Unit {0}
