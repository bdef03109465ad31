-- Plain texts.
use Rattle.std.specs.Prelude.{ℕ, ◌+◌, ◌==◌, ◌&&◌, ◌||◌, not, Bool, true, false, Option, List, [], ◌∷◌, ◌++◌, length, take, drop, if◌then◌else◌}
use Prim.Native.Char.{code}
use Rattle.pr_words.specs.Fields.{without_trailing}
use Rattle.pr_words.specs.Bytes.{is_blank}
use Rattle.pr_yaml.specs.Bytes.{no_text, has_tab, is_bare, ends_word, is_flow_sign, is_comment, blanks_len}
use Rattle.pr_yaml.specs.Lines.{Cursor, along, is_sign, is_deeper, folded_break}
use Rattle.pr_yaml.specs.declared.yaml_scan.fault.YamlKind.TheVariants.{Colon, NotText}
use Rattle.pr_yaml.specs.declared.yaml_scan.scalar.Scalar.{Scalar}
use Rattle.pr_yaml.specs.declared.yaml_scan.scalar.Scalar.TheVariants.{Found, Broken}
use Rattle.pr_yaml.specs.declared.yaml_scan.plain.Ending.{Ending}
use Rattle.pr_yaml.specs.declared.yaml_scan.plain.Ending.TheVariants.{LineEnd, AtColon, AtNoText, AtOther}

-- On its line a plain text ends before a `#` after a blank, before a colon that a blank or the
-- line's end follows, and in a flow before the flow's signs.
unfoldable pub stops : Bool → Bool → ℕ → List ℕ → Bool
stops inside after_blank b rest = no_text b || ((b == code "#" && after_blank) || ((b == code ":" && ends_word rest) || (inside && is_flow_sign b)))

unfoldable pub plain_len : Bool → Bool → List ℕ → ℕ
plain_len inside after_blank [] = 0
plain_len inside after_blank (b ∷ rest) = if stops inside after_blank b rest then 0 else 1 + plain_len inside (is_blank b) rest

-- what it has there, without the blanks at its end
unfoldable pub plain_part : Bool → List ℕ → List ℕ
plain_part inside here = without_trailing (take (plain_len inside false here) here)

-- what it ends before
abbrev pub ending_of : List ℕ → Ending
ending_of [] = LineEnd
ending_of (b ∷ rest) = if no_text b then AtNoText else (if b == code ":" then AtColon else AtOther)

unfoldable pub plain_ending : Bool → List ℕ → Ending
plain_ending inside here = ending_of (drop (plain_len inside false here) here)

-- A line that is not bare goes on with a plain text where it is deeper than the last key or dash.
-- It does not where a comment or, in a flow, a sign comes first; outside flows also not where a tab
-- stands in its indentation, and where it is a document's sign.
unfoldable pub begins_with_flow_sign : List ℕ → Bool
begins_with_flow_sign [] = false
begins_with_flow_sign (b ∷ rest) = is_flow_sign b

unfoldable pub is_kept_out : Bool → List ℕ → Bool
is_kept_out true line = begins_with_flow_sign (drop (blanks_len line) line)
is_kept_out false line = has_tab (take (blanks_len line) line) || is_sign line

unfoldable pub goes_on : Bool → Option ℕ → List ℕ → Bool
goes_on inside parent line = is_deeper parent (blanks_len line) && (not (is_comment (drop (blanks_len line) line)) && not (is_kept_out inside line))

-- how a line ends decides whether the text goes on below it
abbrev pub by_ending : Ending → Scalar → ℕ → List ℕ → Cursor → Scalar
by_ending LineEnd onward line text end = onward
by_ending AtColon onward line text end = Broken line Colon
by_ending AtNoText onward line text end = Broken line NotText
by_ending AtOther onward line text end = Found text end

-- what stands on a line after its blanks, and the place after a part of it
abbrev pub indented : List ℕ → List ℕ
indented line = drop (blanks_len line) line

abbrev pub after_part : Bool → ℕ → List ℕ → List (List ℕ) → Cursor
after_part inside line l below =
    along (blanks_len l + length (plain_part inside (indented l))) (record { line = line; column = 0; here = l; below = below })

-- A plain text goes on over lines: `text` ends at `end` on a line that it fills, and after that
-- line stand so many empty ones and then these, of which the first has the number `line`. A break
-- between two of its lines is folded.
unfoldable pub plain_below : Bool → Option ℕ → List ℕ → Cursor → ℕ → ℕ → List (List ℕ) → Scalar
plain_below inside parent text end empty line [] = Found text end
plain_below inside parent text end empty line (l ∷ more) =
    if is_bare l then plain_below inside parent text end (empty + 1) (line + 1) more else
    (if goes_on inside parent l then
    by_ending (plain_ending inside (indented l))
    (plain_below inside parent (text ++ (folded_break empty ++ plain_part inside (indented l))) (after_part inside line l more) 0 (line + 1) more)
    line (text ++ (folded_break empty ++ plain_part inside (indented l))) (after_part inside line l more)
    else Found text end)
