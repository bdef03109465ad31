-- What the functions that read a string say of themselves.
use Rattle.std.specs.Prelude.{◌≡◌, ℕ, ◌-◌, ◌≤◌, List, [], ◌∷◌, ◌++◌, true, length, encode_utf8}
use Rattle.std.specs.Str.{IsUtf8}
use Rattle.pr_forms.specs.Form.{Form}
use Rattle.pr_forms.specs.Run.{bad}
use Rattle.pr_forms.specs.Language.{Gives, is_started}
use Rattle.pr_forms.specs.declared.reader.Fault.{Fault}
use Rattle.pr_forms.specs.declared.reader.Fault.TheVariants.{Bad, Memory}
use Rattle.pr_words.specs.declared.strings.reader.Piece.{Piece}
use Rattle.pr_words.specs.declared.strings.reader.Piece.TheVariants.{Byte, Character}
use Rattle.pr_words.specs.Strings.{seen, Letter, Rule, StringValue, content, IsBadPlace, IsOpening}
use Rattle.pr_words.specs.private.Language.{text_strings}
use Rattle.pr_words.specs.declared.strings.kind.Mark.{Mark}

-- The form begins at the front, and fails where the rest begins.
pub record Breaks (f : Form Letter Rule StringValue) (text rest : List ℕ) : Type 0 where
  pub gives : Gives text_strings f text (bad (seen rest))
  pub next : is_started text_strings f text ≡ true

-- A reader that takes no memory breaks off at the fault's text.
abbrev pub BreaksAt : Form Letter Rule StringValue → List ℕ → Fault ℕ → Type 0
BreaksAt f text (Bad rest) = Breaks f text rest.now
BreaksAt f text Memory = ⊥

-- The text does not begin with a quote.
abbrev pub HasNoOpening : List ℕ → Type 0
HasNoOpening text = (quote : Mark) (rest : List ℕ) → IsOpening text quote rest → ⊥

-- a limit of characters and a number of digits, as escapes have them
pub record IsNumbering (limit digits : ℕ) : Type 0 where
  pub limited : limit ≤ 0x10FFFF
  pub few : digits ≤ 8

-- the bytes that a piece means
abbrev pub bytes_of : Piece → List ℕ
bytes_of (Byte b) = b ∷ []
bytes_of (Character c) = encode_utf8 c

-- The front that can go on as a string ends where the fault says.
abbrev pub Refuses : List ℕ → Fault ℕ → Type 0
Refuses text (Bad rest) = IsBadPlace text (length text - length rest.now)
Refuses text Memory = Unit {0}

-- What is left is no longer than the text.
abbrev pub IsNoLonger : List ℕ → Fault ℕ → Type 0
IsNoLonger text (Bad rest) = length rest.now ≤ length text
IsNoLonger text Memory = Unit {0}

-- Where one list of bytes is UTF-8, the other one is too.
abbrev pub KeepsText : List ℕ → List ℕ → Type 0
KeepsText text rest = IsUtf8 text → IsUtf8 rest

-- A front that the text goes on as UTF-8, the bytes and the rest go on too.
abbrev pub KeepsFront : List ℕ → List ℕ → List ℕ → Type 0
KeepsFront text bytes rest = (front : List ℕ) → IsUtf8 (front ++ text) → IsUtf8 (front ++ (bytes ++ rest))

-- Where the text is UTF-8, so are the bytes, and so is the rest.
abbrev pub SplitsText : List ℕ → List ℕ → List ℕ → Type 0
SplitsText text bytes rest = IsUtf8 text → IsUtf8 bytes × IsUtf8 rest

-- The fault is want of memory.
abbrev pub IsMemory : Fault ℕ → Type 0
IsMemory (Bad rest) = ⊥
IsMemory Memory = Unit {0}

-- A string that a text begins with is the one that is answered.
abbrev pub IsOnly : List ℕ → List ℕ → StringValue → List Letter → Type 0
IsOnly bytes rest v left = (v ≡ content bytes) × (left ≡ seen rest)
