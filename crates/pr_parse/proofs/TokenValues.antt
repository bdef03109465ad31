-- Which values come of a token, whatever it is.
use Rattle.std.proofs.Common.{ℕ, Bool, List}
use Rattle.pr_ast.specs.declared.place.Place.{Place}
use Rattle.pr_ast.specs.declared.selector.MatchSign.{MatchSign}
use Rattle.pr_ast.specs.declared.names.AggOp.{AggOp}
use Rattle.pr_ast.specs.declared.names.BinOp.{BinOp}
use Rattle.pr_parse.specs.Grammar.{QueryValue, at, operation, signed, matches, grouper, aggregator, quoted, match_sign}

pub data IsAt : QueryValue → Type 0 where
  is_at : {p : Place} → IsAt (at p)

pub data IsOperation : QueryValue → Type 0 where
  is_operation : {o : BinOp} → IsOperation (operation o)

pub data IsSigned : QueryValue → Type 0 where
  is_signed : {b : Bool} {p : Place} → IsSigned (signed b p)

pub data IsMatches : QueryValue → Type 0 where
  is_matches : {b : Bool} → IsMatches (matches b)

pub data IsGrouper : QueryValue → Type 0 where
  is_grouper : {b : Bool} → IsGrouper (grouper b)

pub data IsAggregator : QueryValue → Type 0 where
  is_aggregator : {o : AggOp} {p : Place} → IsAggregator (aggregator o p)

pub data IsQuoted : QueryValue → Type 0 where
  is_quoted : {t : List ℕ} → IsQuoted (quoted t)

pub data IsMatchSign : QueryValue → Type 0 where
  is_match_sign : {s : MatchSign} → IsMatchSign (match_sign s)
