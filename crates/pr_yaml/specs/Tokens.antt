-- The tokens of a text, and its fault.
use Rattle.std.specs.Prelude.{◌≡◌, ℕ, ◌+◌, ◌==◌, nat_lt, ◌&&◌, ◌||◌, not, Bool, true, false, Option, Some, None, List, [], ◌∷◌, length, take, drop, if◌then◌else◌}
use Prim.Native.Char.{code}
use Rattle.pr_words.specs.Lines.{text_lines}
use Rattle.pr_yaml.specs.Bytes.{no_text, has_no_text, has_tab, ends_word, blanks_len, without_mark, legible}
use Rattle.pr_yaml.specs.Lines.{Cursor, along, next_line, line_start, end_line, document_sign}
use Rattle.pr_yaml.specs.Plain.{plain_len, plain_part, plain_ending, plain_below}
use Rattle.pr_yaml.specs.Quoted.{quoted_line, quoted_below, after_bytes, cut_fault}
use Rattle.pr_yaml.specs.Block.{chomp_of, after_chomp, header_fault, block_below}
use Rattle.pr_yaml.specs.declared.yaml_scan.token.Token.{Token}
use Rattle.pr_yaml.specs.declared.yaml_scan.token.TokenKind.{TokenKind}
use Rattle.pr_yaml.specs.declared.yaml_scan.token.TokenKind.TheVariants.{Dash, Key, Text, ListOpen, ListClose, MapOpen, MapClose, Comma}
use Rattle.pr_yaml.specs.declared.yaml_scan.fault.YamlKind.{YamlKind}
use Rattle.pr_yaml.specs.declared.yaml_scan.fault.YamlKind.TheVariants.{NotText, Tab, Anchor, Alias, Tag, ComplexKey, Directive, Documents, Indicator, Colon, Flow, Extra}
use Rattle.pr_yaml.specs.declared.yaml_scan.fault.ScanFault.{ScanFault}
use Rattle.pr_yaml.specs.declared.yaml_scan.fault.BadPlace.{BadPlace}
use Rattle.pr_yaml.specs.declared.yaml_scan.line.DocumentSign.{DocumentSign}
use Rattle.pr_yaml.specs.declared.yaml_scan.line.DocumentSign.TheVariants.{Begin, End}
use Rattle.pr_yaml.specs.declared.yaml_scan.plain.Ending.{Ending}
use Rattle.pr_yaml.specs.declared.yaml_scan.plain.Ending.TheVariants.{LineEnd, AtColon, AtNoText, AtOther}
use Rattle.pr_yaml.specs.declared.yaml_scan.quoted.Quote.{Quote}
use Rattle.pr_yaml.specs.declared.yaml_scan.quoted.Quote.TheVariants.{Single, Double}
use Rattle.pr_yaml.specs.declared.yaml_scan.block.Style.{Style}
use Rattle.pr_yaml.specs.declared.yaml_scan.block.Style.TheVariants.{Kept, Folded}
use Rattle.pr_yaml.specs.declared.yaml_scan.first.FlowMark.{FlowMark}
use Rattle.pr_yaml.specs.declared.yaml_scan.first.FlowMark.TheVariants.{ListOpen as ListOpenMark, ListClose as ListCloseMark, MapOpen as MapOpenMark, MapClose as MapCloseMark, Comma as CommaMark}
use Rattle.pr_yaml.specs.declared.yaml_scan.first.First.{First}
use Rattle.pr_yaml.specs.declared.yaml_scan.first.First.TheVariants.{FlowSign, QuoteMark, BlockMark, Property, Reserved, DashMark, NoToken, Other}
use Rattle.pr_yaml.specs.declared.yaml_scan.scalar.Scalar.{Scalar}
use Rattle.pr_yaml.specs.declared.yaml_scan.scalar.Scalar.TheVariants.{Found, Broken}
use Rattle.pr_yaml.specs.declared.yaml_scan.quoted.QuotedLine.{QuotedLine}
use Rattle.pr_yaml.specs.declared.yaml_scan.quoted.QuotedLine.TheVariants.{Closed, OpenEnd, JoinedEnd, CutEnd, BadByte}
use Rattle.pr_yaml.specs.declared.yaml_scan.quoted.Within.TheVariants.{InText}
use Rattle.pr_yaml.specs.declared.yaml_scan.state.Known.{Known}
use Rattle.pr_yaml.specs.declared.yaml_scan.state.State.{State}
use Rattle.pr_yaml.specs.declared.yaml_scan.state.Part.{Part}
use Rattle.pr_yaml.specs.declared.yaml_scan.state.Part.TheVariants.{Over, Gap, Token as TokenPart, Fault}
use Rattle.pr_yaml.specs.declared.yaml_scan.state.Document.{Document}
use Rattle.pr_yaml.specs.declared.yaml_scan.state.Document.TheVariants.{Implied, Begun, Ended}

-- What the tokens before a place say of it; the newest one stands first. How many of them open a
-- flow, and how many close one: the place is inside flows where more open than close.
abbrev pub opens : TokenKind → ℕ
opens ListOpen = 1
opens MapOpen = 1
opens _ = 0

abbrev pub closes : TokenKind → ℕ
closes ListClose = 1
closes MapClose = 1
closes _ = 0

abbrev pub open_count : List Token → ℕ
open_count [] = 0
open_count (t ∷ before) = opens t.kind + open_count before

abbrev pub close_count : List Token → ℕ
close_count [] = 0
close_count (t ∷ before) = closes t.kind + close_count before

-- the column of the last key or dash
abbrev pub or_before : TokenKind → ℕ → Option ℕ → Option ℕ
or_before Dash column earlier = Some column
or_before (Key text) column earlier = Some column
or_before _ column earlier = earlier

abbrev pub parent_of : List Token → Option ℕ
parent_of [] = None
parent_of (t ∷ before) = or_before t.kind t.column (parent_of before)

abbrev pub is_none : List Token → Bool
is_none [] = true
is_none (t ∷ before) = false

-- whether the place is inside flows, the column of the last key or dash, and whether there is no
-- token
abbrev pub known_of : List Token → Known
known_of before = record { inside = nat_lt (close_count before) (open_count before); parent = parent_of before; none = is_none before }

-- A place is fresh where it is the first of its line, but for dashes. A key stands there, or
-- anywhere in a flow.
abbrev pub is_fresh : State → Bool
is_fresh s = s.place.column == 0 || s.dashed

abbrev pub may_be_key : Known → State → Bool
may_be_key k s = is_fresh s || k.inside

abbrev pub fault_at : ℕ → YamlKind → Part
fault_at line kind = Fault (record { fault = record { line = line; kind = kind }; start = None })

-- the kind of a place where nothing may begin
abbrev pub other : Known → YamlKind
other k = if k.inside then Flow else Extra

-- a token at a place, after which the reader is at another one
unfoldable pub takes : TokenKind → Bool → Cursor → Document → Cursor → Part
takes kind dashed p document after = TokenPart (record { line = p.line; column = p.column; kind = kind }) (record { place = after; dashed = dashed; document = document })

unfoldable pub takes_text : Bool → Cursor → Document → Scalar → Part
takes_text quoted p document (Found text after) = takes (Text text quoted) false p document after
takes_text quoted p document (Broken line kind) = fault_at line kind

-- What a plain text comes to by what it ends before. Before a colon it is a key, or bad where the
-- place takes no key; at the line's end lines below may go on with it.
unfoldable pub plain_by : Ending → Bool → Bool → Option ℕ → Cursor → Document → Part
plain_by AtColon key inside parent p document =
    if key then takes (Key (plain_part inside p.here)) false p document (along (plain_len inside false p.here + 1) p) else fault_at p.line Colon
plain_by AtNoText key inside parent p document = fault_at p.line NotText
plain_by AtOther key inside parent p document = takes_text false p document (Found (plain_part inside p.here) (along (length (plain_part inside p.here)) p))
plain_by LineEnd key inside parent p document =
    takes_text false p document (plain_below inside parent (plain_part inside p.here) (along (length (plain_part inside p.here)) p) 0 (p.line + 1) p.below)

-- What a quoted text comes to. Where it closes on its first line and a colon comes next, the place
-- decides whether that makes it a key.
unfoldable pub colon_next : List ℕ → Bool
colon_next [] = false
colon_next (b ∷ rest) = b == code ":" && ends_word rest

unfoldable pub closed_by : Bool → Cursor → Document → List ℕ → Cursor → Part
closed_by key p document text after =
    if key && colon_next after.here then takes (Key text) false p document (along 1 after) else takes_text true p document (Found text after)

unfoldable pub quoted_by : Quote → Bool → Cursor → Document → QuotedLine → Part
quoted_by q key p document (Closed text taken) = closed_by key p document text (along taken p)
quoted_by q key p document (OpenEnd text) = takes_text true p document (quoted_below q text false 0 (end_line p.line p.here p.below) (p.line + 1) p.below)
quoted_by q key p document (JoinedEnd text) = takes_text true p document (quoted_below q text true 0 (end_line p.line p.here p.below) (p.line + 1) p.below)
quoted_by q key p document CutEnd = takes_text true p document (cut_fault (end_line p.line p.here p.below) p.line p.below)
quoted_by q key p document (BadByte kind) = fault_at p.line kind

unfoldable pub quoted_at : Quote → Bool → Cursor → Document → Part
quoted_at q key p document = quoted_by q key p document (after_bytes [] 1 (quoted_line q InText (drop 1 p.here)))

unfoldable pub block_by_header : Option YamlKind → Style → Bool → Option ℕ → Cursor → Document → Part
block_by_header (Some kind) style inside parent p document = fault_at p.line kind
block_by_header None style inside parent p document = takes_text true p document (block_below style (chomp_of (drop 1 p.here)) inside parent p)

-- What the first byte of a token decides.
unfoldable pub mark_of : ℕ → First
mark_of b =
    if b == code "&" then Property Anchor else (if b == code "*" then Property Alias else (if b == code "!" then Property Tag else (if b == code "%" then Property Directive else
    (if b == code "@" || b == code "`" then Reserved else (if b == code "#" then NoToken else Other)))))

-- a dash, `?` and `:` before a blank or the line's end
unfoldable pub word_mark_of : ℕ → First
word_mark_of b = if b == code "-" then DashMark else (if b == code "?" then Property ComplexKey else (if b == code ":" then NoToken else mark_of b))

unfoldable pub sign_mark_of : ℕ → Bool → First
sign_mark_of b alone =
    if b == code "\"" then QuoteMark Double else (if b == code "'" then QuoteMark Single else (if b == code "|" then BlockMark Kept else (if b == code ">" then BlockMark Folded else
    (if alone then word_mark_of b else mark_of b))))

abbrev pub flow_mark_of : ℕ → Option FlowMark
flow_mark_of b =
    if b == code "[" then Some ListOpenMark else (if b == code "]" then Some ListCloseMark else (if b == code "{" then Some MapOpenMark else
    (if b == code "}" then Some MapCloseMark else (if b == code "," then Some CommaMark else None))))

abbrev pub first_by : Option FlowMark → ℕ → Bool → First
first_by (Some mark) b alone = FlowSign mark
first_by None b alone = sign_mark_of b alone

unfoldable pub form_of : List ℕ → First
form_of [] = NoToken
form_of (b ∷ rest) = first_by (flow_mark_of b) b (ends_word rest)

abbrev pub flow_token : FlowMark → TokenKind
flow_token ListOpenMark = ListOpen
flow_token ListCloseMark = ListClose
flow_token MapOpenMark = MapOpen
flow_token MapCloseMark = MapClose
flow_token CommaMark = Comma

-- The token at a place that a byte of it begins. `s` is where the reader was before the blanks.
unfoldable pub token_at : First → Known → State → Cursor → Part
token_at (FlowSign mark) k s p = takes (flow_token mark) false p s.document (along 1 p)
token_at (QuoteMark q) k s p = quoted_at q (may_be_key k s) p s.document
token_at (BlockMark style) k s p = block_by_header (header_fault (other k) (after_chomp (drop 1 p.here))) style k.inside k.parent p s.document
token_at (Property kind) k s p = Fault (record { fault = record { line = p.line; kind = kind }; start = Some (record { column = p.column; key = may_be_key k s }) })
token_at Reserved k s p = fault_at p.line Indicator
token_at DashMark k s p = if is_fresh s && not k.inside then takes Dash true p s.document (along 1 p) else fault_at p.line (other k)
token_at NoToken k s p = fault_at p.line (other k)
token_at Other k s p = plain_by (plain_ending k.inside p.here) (may_be_key k s) k.inside k.parent p s.document

-- After the sign `...` there is no token. Outside flows no tab stands before the first token of a
-- line.
abbrev pub is_indented_by_tab : Known → State → Bool
is_indented_by_tab k s = s.place.column == 0 && (not k.inside && has_tab (take (blanks_len s.place.here) s.place.here))

unfoldable pub token_in : Document → Known → State → Cursor → Part
token_in Ended k s p = fault_at p.line Documents
token_in _ k s p = if is_indented_by_tab k s then fault_at p.line Tab else token_at (form_of p.here) k s p

-- the reader at the next line
abbrev pub to_next_line : State → Document → State
to_next_line s document = record { place = next_line s.place; dashed = false; document = document }

-- A comment stands at the start of a line or after a blank.
unfoldable pub after_blanks : Known → State → List ℕ → Part
after_blanks k s [] = if length s.place.below == 0 then Over else Gap (to_next_line s s.document)
after_blanks k s (b ∷ rest) =
    if b == code "#" && (s.place.column == 0 || nat_lt 0 (blanks_len s.place.here)) then
    (if has_no_text rest then fault_at s.place.line NotText else Gap (to_next_line s s.document)) else
    (if no_text b then fault_at s.place.line NotText else token_in s.document k s (along (blanks_len s.place.here) s.place))

-- `---` may stand once, before all tokens, and `...` ends the text.
abbrev pub may_stand : DocumentSign → Document → Known → Bool
may_stand Begin Implied k = k.none
may_stand Begin _ k = false
may_stand End Ended k = false
may_stand End _ k = true

abbrev pub document_after : DocumentSign → Document
document_after Begin = Begun
document_after End = Ended

unfoldable pub by_sign : Option DocumentSign → Known → State → Part
by_sign None k s = after_blanks k s (drop (blanks_len s.place.here) s.place.here)
by_sign (Some sign) k s =
    if may_stand sign s.document k then
    (if has_no_text s.place.here then fault_at s.place.line NotText else Gap (to_next_line s (document_after sign))) else
    fault_at s.place.line Documents

-- A document's sign stands outside flows, on a line of its own.
unfoldable pub sign_of : Known → State → Option DocumentSign
sign_of k s = if s.place.column == 0 && not k.inside then document_sign s.place.here else None

unfoldable pub part_at : Known → State → Part
part_at k s = by_sign (sign_of k s) k s

-- The tokens of a text from a state on, read one after the other, and the bad place that ends them,
-- where there is one.
pub data Scans : List Token → State → List Token → Option BadPlace → Type 0 where
  no_more : {before : List Token} {s : State} → part_at (known_of before) s ≡ Over → Scans before s [] None
  past_gap : {before tokens : List Token} {s : State} {end : Option BadPlace} (next : State) → part_at (known_of before) s ≡ Gap next → Scans before next tokens end → Scans before s tokens end
  one_more : {before tokens : List Token} {s : State} {end : Option BadPlace} (t : Token) (next : State) → part_at (known_of before) s ≡ TokenPart t next → Scans (t ∷ before) next tokens end →
      Scans before s (t ∷ tokens) end
  stopped : {before : List Token} {s : State} (f : BadPlace) → part_at (known_of before) s ≡ Fault f → Scans before s [] (Some f)

abbrev pub first_state : List ℕ → State
first_state text = record { place = line_start 1 (text_lines text); dashed = false; document = Implied }

-- A text has these tokens, and this bad place or none.
abbrev pub HasPlaces : List ℕ → List Token → Option BadPlace → Type 0
HasPlaces text tokens end = Scans [] (first_state (legible (without_mark text))) tokens end

-- the fault at a bad place
abbrev pub fault_of : Option BadPlace → Option ScanFault
fault_of None = None
fault_of (Some place) = Some place.fault

-- A text has these tokens, and this fault or none.
abbrev pub HasScan : List ℕ → List Token → Option ScanFault → Type 0
HasScan text tokens fault = (place : Option BadPlace) × (HasPlaces text tokens place × (fault_of place ≡ fault))
