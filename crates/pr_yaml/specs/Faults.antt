-- The kind of a fault.
use Rattle.std.specs.Prelude.{ℕ, zero, suc, ◌+◌, ◌-◌, ◌||◌, ◌&&◌, nat_lt, Bool, true, false, Option, Some, None, List, [], ◌∷◌, ◌++◌, length, take, count_by, if◌then◌else◌}
use Rattle.std.specs.List.{list_all}
use Rattle.pr_words.specs.Lines.{is_feed}
use Rattle.pr_words.specs.Bytes.{is_blank}
use Rattle.pr_yaml.specs.Bytes.{without_mark}
use Rattle.pr_yaml.specs.declared.yaml_scan.token.Token.{Token}
use Rattle.pr_yaml.specs.declared.yaml_scan.token.TokenKind.{TokenKind}
use Rattle.pr_yaml.specs.declared.yaml_scan.token.TokenKind.TheVariants.{ListOpen, ListClose, MapOpen, MapClose}
use Rattle.pr_yaml.specs.declared.yaml_scan.fault.YamlKind.{YamlKind}
use Rattle.pr_yaml.specs.declared.yaml_scan.fault.YamlKind.TheVariants.{Flow, Indent, Extra, DuplicateKey, TooDeep}
use Rattle.pr_yaml.specs.declared.yaml_scan.fault.TokenStart.{TokenStart}
use Rattle.pr_yaml.specs.declared.yaml_scan.fault.BadPlace.{BadPlace}
use Rattle.pr_yaml.specs.Grammar.{letters, text_at, key_at}
use Rattle.pr_yaml.specs.Trees.{levels, goes_on}

-- Flows are open as long as their signs were opened more often than closed.
abbrev pub opens_flow : TokenKind → Bool
opens_flow ListOpen = true
opens_flow MapOpen = true
opens_flow _ = false

abbrev pub closes_flow : TokenKind → Bool
closes_flow ListClose = true
closes_flow MapClose = true
closes_flow _ = false

abbrev pub is_inside : List Token → Bool
is_inside before = nat_lt (count_by (λ t. closes_flow t.kind) before) (count_by (λ t. opens_flow t.kind) before)

-- the text from the start of a line on that stands so many lines below
unfoldable pub from_line : ℕ → List ℕ → List ℕ
from_line zero text = text
from_line (suc n) [] = []
from_line (suc n) (b ∷ rest) = if is_feed b then from_line n rest else from_line (suc n) rest

-- A token is the first of its line where nothing but blanks stands before its column. Columns count
-- after a byte order mark.
unfoldable pub is_first_of_line : List ℕ → ℕ → ℕ → Bool
is_first_of_line text line column = list_all is_blank (take column (from_line (line - 1) (without_mark text)))

-- the kind of a token that may not stand at its place: inside flows or not, first of its line or
-- not
abbrev pub place_kind : Bool → Bool → YamlKind
place_kind true first = Flow
place_kind false true = Indent
place_kind false false = Extra

-- The kind of the first token up to which the tokens cannot go on. They could, if keys might stand
-- twice; or else if there were room for one level more; or it may not stand there at all.
unfoldable pub token_kind : List ℕ → List Token → ℕ → Token → YamlKind
token_kind text tokens place t =
    if goes_on false levels (letters (take (suc place) tokens)) then DuplicateKey else
    (if goes_on true (levels + 1) (letters (take (suc place) tokens)) then TooDeep else
    place_kind (is_inside (take place tokens)) (is_first_of_line text t.line t.column))

-- An anchor and its like are so where a scalar could go on at that column, or a key where one may
-- stand. Else nothing may begin there.
unfoldable pub may_begin : List Token → ℕ → TokenStart → Bool
may_begin tokens line start =
    goes_on false (levels + 1) (letters tokens ++ text_at line start.column [] false ∷ [])
    || (start.key && goes_on false (levels + 1) (letters tokens ++ key_at line start.column [] ∷ []))

unfoldable pub scan_kind_by : List Token → ℕ → YamlKind → Option TokenStart → YamlKind
scan_kind_by tokens line kind None = kind
scan_kind_by tokens line kind (Some start) =
    if may_begin tokens line start then kind else place_kind (is_inside tokens) false

-- the kind of a bad place of the text after all tokens
abbrev pub scan_kind : List Token → BadPlace → YamlKind
scan_kind tokens bad = scan_kind_by tokens bad.fault.line bad.fault.kind bad.start

-- the line of the last byte of a text
unfoldable pub end_line_of : List ℕ → ℕ
end_line_of text = 1 + count_by is_feed (take (length text - 1) text)
