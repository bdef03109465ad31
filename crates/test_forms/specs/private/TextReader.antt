-- What the functions that read strings and words say of themselves.
use Rattle.std.specs.Prelude.{◌≡◌, ℕ, List, map, Option, Some, None, true}
use Rattle.std.specs.Borrow.{Bor}
use Rattle.pr_forms.specs.Run.{bad}
use Rattle.pr_forms.specs.Language.{seen, Gives, Takes, Lacks, is_started, IsFirstBad}
use Rattle.test_forms.specs.declared.words.Word.{Word as WordOf}
use Rattle.test_forms.specs.declared.words.WordsError.{WordsError}
use Rattle.test_forms.specs.declared.words.WordsError.TheVariants.{Bad, Memory}
use Rattle.test_forms.specs.private.Quoted.{strings, byte_value, piece}
use Rattle.test_forms.specs.private.Words.{lists, Words}

-- A piece is at the front of the text, or none is.
abbrev pub HasPiece : List ℕ → Option (ℕ × Bor (List ℕ)) → Type 0
HasPiece text (Some x) = Takes strings piece text (byte_value x.0) x.1.now
HasPiece text None = Lacks strings piece text

-- A piece begins at the front of the text, and breaks off where the rest begins.
pub record BreaksOff (text rest : List ℕ) : Type 0 where
  pub gives : Gives strings piece text (bad (seen strings rest))
  pub next : is_started strings piece text ≡ true

abbrev pub bytes_of : List WordOf → List (List ℕ)
bytes_of = map (λ w. w.bytes.items)

-- Why a text has no words: the first bad place, or want of memory, which alone keeps words from
-- being answered.
abbrev pub Refuses : List ℕ → WordsError → Type 0
Refuses text (Bad place) = IsFirstBad lists Words text place
Refuses text Memory = Unit {0}

abbrev pub Misses : WordsError → Type 0
Misses (Bad place) = ⊥
Misses Memory = Unit {0}
