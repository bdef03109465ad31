-- How words of the command line are copied.
use Rattle.std.specs.Prelude.{◌≡◌, ℕ, ◌<◌, ◌≤◌, List, length, map, take, slice_get, String, string_bytes, Option, Some, None, Result, Ok, Err}
use Rattle.std.specs.Global.{Global}
use Rattle.std.specs.declared.env.FillError.{FillError}
use Rattle.std.specs.declared.env.FillError.TheVariants as fill
use Rattle.pr_outside.specs.Words.{text_of, word_of}
use Rattle.pr_outside.specs.declared.status.words.Copied.{Copied}
use Rattle.pr_outside.specs.declared.status.words.Copied.TheVariants as copied
use Rattle.pr_outside.specs.declared.status.words.HeldWord.{HeldWord}

-- the bytes of words in memory
abbrev pub word_bytes : HeldWord → List ℕ
word_bytes word = word.bytes.items

abbrev pub held_bytes : List HeldWord → List (List ℕ)
held_bytes words = map word_bytes words

-- a word is longer than so many bytes
abbrev pub IsLonger : List (List ℕ) → ℕ → ℕ → Type 0
IsLonger all index size = (word : List ℕ) × (slice_get all index ≡ Some word) × (size < length word)

-- A word was asked for, with what was at the buffer's front afterwards; or there is none.
abbrev pub IsCopied : List (List ℕ) → ℕ → List ℕ → Result ℕ FillError → Type 0
IsCopied all index buf (Ok n) = slice_get all index ≡ Some (take n buf)
IsCopied all index buf (Err fill.NotPresent) = length all ≤ index
IsCopied all index buf (Err fill.TooLong) = IsLonger all index (length buf)

-- this word was copied, or is too long
abbrev pub IsCopiedFrom : List ℕ → List ℕ → Result ℕ FillError → Type 0
IsCopiedFrom word buf (Ok n) = word ≡ take n buf
IsCopiedFrom word buf (Err fill.NotPresent) = ⊥
IsCopiedFrom word buf (Err fill.TooLong) = length buf < length word

-- the same with the text of the word, of at most so many bytes
abbrev pub IsTaken : List (List ℕ) → ℕ → ℕ → Copied → Type 0
IsTaken all index size (copied.Word text) = (word : List ℕ) × (slice_get all index ≡ Some word) × (length word ≤ size) × (string_bytes text ≡ text_of word)
IsTaken all index size copied.NoWord = length all ≤ index
IsTaken all index size copied.TooLong = IsLonger all index size

-- the word of an index, or there is none
abbrev pub IsWord : List (List ℕ) → ℕ → Option (String Global) → Type 0
IsWord all index None = length all ≤ index
IsWord all index (Some text) = (word : List ℕ) × (slice_get all index ≡ Some word) × (string_bytes text ≡ word_of word)
