-- How tokens lie in a text.
use Rattle.std.specs.Prelude.{◌≡◌, ℕ, ◌<◌, ◌≤◌, true, List, [], ◌∷◌, length, drop}
use Prim.Native.Char.{code}
use Rattle.pr_labels.specs.pr_words.Bytes.{is_whitespace}
use Rattle.pr_ast.specs.declared.lex.token.Token.{Token}
use Rattle.pr_ast.specs.declared.lex.part.Class.TheVariants.{Line}
use Rattle.pr_ast.specs.Bytes.{front_len}

-- What stands before the rest of a text is whitespace and comments. A comment goes from `#` up to the
-- line's end.
pub data AreGaps : List ℕ → List ℕ → Type 0 where
  no_gap : {rest : List ℕ} → AreGaps rest rest
  a_whitespace : {b : ℕ} {text rest : List ℕ} → is_whitespace b ≡ true → AreGaps text rest → AreGaps (b ∷ text) rest
  a_comment : {text rest : List ℕ} → AreGaps (drop (front_len Line text) text) rest → AreGaps (code "#" ∷ text) rest

-- From a place of the text up to its end lie these tokens, each with a byte at least, in their
-- order, none over another, and with nothing but whitespace and comments before, between and after
-- them.
pub data AreInOrder (text : List ℕ) : ℕ → List Token → Type 0 where
  none_left : {from : ℕ} → AreGaps (drop from text) [] → AreInOrder text from []
  next_token : {from : ℕ} {token : Token} {tokens : List Token} → from ≤ token.start → AreGaps (drop from text) (drop token.start text) → token.start < token.end →
      token.end ≤ length text → AreInOrder text token.end tokens → AreInOrder text from (token ∷ tokens)
