-- The scan of a text as a function of it. The laws of this crate say that it is the one that
-- HasPlaces and HasScan tell.
use Rattle.std.specs.Prelude.{ℕ, zero, suc, ◌+◌, Option, Some, None, List, [], ◌∷◌, length}
use Rattle.pr_yaml.specs.Bytes.{legible, without_mark}
use Rattle.pr_yaml.specs.Lines.{Cursor}
use Rattle.pr_yaml.specs.Tokens.{part_at, known_of, first_state, fault_of}
use Rattle.pr_yaml.specs.declared.yaml_scan.token.Token.{Token}
use Rattle.pr_yaml.specs.declared.yaml_scan.fault.ScanFault.{ScanFault}
use Rattle.pr_yaml.specs.declared.yaml_scan.fault.BadPlace.{BadPlace}
use Rattle.pr_yaml.specs.declared.yaml_scan.state.State.{State}
use Rattle.pr_yaml.specs.declared.yaml_scan.state.Part.{Part}
use Rattle.pr_yaml.specs.declared.yaml_scan.state.Part.TheVariants.{Over, Gap, Token as TokenPart, Fault}

-- how much of a text is left at a place
abbrev pub lines_size : List (List ℕ) → ℕ
lines_size [] = 0
lines_size (l ∷ more) = 1 + (length l + lines_size more)

abbrev pub left : Cursor → ℕ
left p = length p.here + lines_size p.below

abbrev pub onto : Token → List Token × Option BadPlace → List Token × Option BadPlace
onto t (ts, end) = (t ∷ ts, end)

abbrev pub by_part : Part → (State → List Token × Option BadPlace) → (Token → State → List Token × Option BadPlace) → List Token × Option BadPlace
by_part Over after_gap after_token = ([], None)
by_part (Gap next) after_gap after_token = after_gap next
by_part (TokenPart t next) after_gap after_token = onto t (after_token t next)
by_part (Fault f) after_gap after_token = ([], Some f)

-- in so many parts
abbrev pub scan_in : ℕ → List Token → State → List Token × Option BadPlace
scan_in zero before s = ([], None)
scan_in (suc n) before s = by_part (part_at (known_of before) s) (λ next. scan_in n before next) (λ t next. scan_in n (t ∷ before) next)

-- Each part leaves less of the text, so these are enough.
abbrev pub scan_from : State → List Token × Option BadPlace
scan_from s = scan_in (suc (left s.place)) [] s

unfoldable pub scanned_places : List ℕ → List Token × Option BadPlace
scanned_places text = scan_from (first_state (legible (without_mark text)))

-- the tokens of a text and its fault
unfoldable pub scanned : List ℕ → List Token × Option ScanFault
scanned text = ((scanned_places text).0, fault_of (scanned_places text).1)
