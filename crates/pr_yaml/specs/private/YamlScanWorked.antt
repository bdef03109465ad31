-- Short words for worked texts and laws.
use Rattle.std.specs.Prelude.{ℕ, ◌==◌, Option, Some, None, List, [], ◌∷◌, true, false, Bool, if◌then◌else◌}
use Prim.Native.Char.{code}
use Rattle.std.specs.List.{list_any}
use Rattle.pr_words.specs.Lines.{is_feed}
use Rattle.pr_yaml.specs.Tokens.{first_state}
use Rattle.pr_yaml.specs.Scan.{scan_from}
use Rattle.pr_yaml.specs.declared.yaml_scan.token.Token.{Token}
use Rattle.pr_yaml.specs.declared.yaml_scan.token.TokenKind.{TokenKind}
use Rattle.pr_yaml.specs.declared.yaml_scan.token.TokenKind.TheVariants.{Key, Text}
use Rattle.pr_yaml.specs.declared.yaml_scan.fault.YamlKind.{YamlKind}
use Rattle.pr_yaml.specs.declared.yaml_scan.fault.BadPlace.{BadPlace}

-- what an ASCII text without a byte order mark has
abbrev pub tokens_of : List ℕ → List Token × Option BadPlace
tokens_of text = scan_from (first_state text)

-- a token at its line and column
abbrev pub mark : ℕ → ℕ → TokenKind → Token
mark line column kind = record { line = line; column = column; kind = kind }

abbrev pub key : ℕ → ℕ → List ℕ → Token
key line column text = mark line column (Key text)

abbrev pub plain : ℕ → ℕ → List ℕ → Token
plain line column text = mark line column (Text text false)

abbrev pub quoted : ℕ → ℕ → List ℕ → Token
quoted line column text = mark line column (Text text true)

abbrev pub bad : ℕ → YamlKind → Option BadPlace
bad line kind = Some (record { fault = record { line = line; kind = kind }; start = None })

abbrev pub bad_start : ℕ → YamlKind → ℕ → Bool → Option BadPlace
bad_start line kind column may = Some (record { fault = record { line = line; kind = kind }; start = Some (record { column = column; key = may }) })

-- a text with a carriage return before each line feed
abbrev pub is_return : ℕ → Bool
is_return b = b == code "\r"

abbrev pub has_return : List ℕ → Bool
has_return = list_any is_return

abbrev pub with_returns : List ℕ → List ℕ
with_returns [] = []
with_returns (b ∷ rest) = if is_feed b then code "\r" ∷ (b ∷ with_returns rest) else b ∷ with_returns rest
