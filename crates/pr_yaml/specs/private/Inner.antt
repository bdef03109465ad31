-- What the reader counts on its way: no rule of the format.
use Rattle.std.specs.Prelude.{ℕ, ◌+◌, ◌≤◌, nat_lt, false, List}
use Rattle.pr_yaml.specs.Tokens.{opens, closes, open_count, close_count, or_before, parent_of, is_none}
use Rattle.pr_yaml.specs.declared.yaml_scan.token.Token.{Token}
use Rattle.pr_yaml.specs.declared.yaml_scan.state.Known.{Known}
use Rattle.pr_yaml.specs.declared.yaml_scan.state.TokenCounts.{TokenCounts}
use Rattle.pr_yaml.specs.declared.yaml_scan.quoted.Within.{Within}
use Rattle.pr_yaml.specs.declared.yaml_scan.quoted.Within.TheVariants.{InDigits}
use Rattle.pr_yaml.specs.declared.yaml_scan.quoted.ByteStep.{ByteStep}
use Rattle.pr_yaml.specs.declared.yaml_scan.quoted.ByteStep.TheVariants.{Mark}
use Rattle.pr_yaml.specs.declared.yaml_scan.quoted.QuotedLine.{QuotedLine}
use Rattle.pr_yaml.specs.declared.yaml_scan.quoted.QuotedLine.TheVariants.{Closed}

-- what the tokens before a place count
abbrev pub counts_of : List Token → TokenCounts
counts_of before = record { opened = open_count before; closed = close_count before; parent = parent_of before; none = is_none before }

abbrev pub counts_after : Token → TokenCounts → TokenCounts
counts_after t c = record { opened = opens t.kind + c.opened; closed = closes t.kind + c.closed; parent = or_before t.kind t.column c.parent; none = false }

-- what they say: whether the place is inside flows, the column of the last key or dash, and whether
-- there is no token
abbrev pub known_by : TokenCounts → Known
known_by c = record { inside = nat_lt c.closed c.opened; parent = c.parent; none = c.none }

-- The numbers that a reader keeps between digits are small.
abbrev pub IsSmall : Within → Type 0
IsSmall (InDigits left n) = (1 ≤ left) × ((left ≤ 8) × (n ≤ 0x10FFFF))
IsSmall _ = Unit {0}

abbrev pub IsSmallStep : ByteStep → Type 0
IsSmallStep (Mark w) = IsSmall w
IsSmallStep _ = Unit {0}

-- no more bytes are taken than there are
abbrev pub TakesAtMost : ℕ → QuotedLine → Type 0
TakesAtMost n (Closed text taken) = taken ≤ n
TakesAtMost n _ = Unit {0}
