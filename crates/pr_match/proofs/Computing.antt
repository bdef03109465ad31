-- What computes the definitions of patterns on texts that are written out.
use Rattle.std.specs.Prelude.{⊤}
use Rattle.regex.specs.Patterns.{find_str}
use Rattle.regex.proofs.OnLiterals.{regex_on_literals}
use Rattle.regex_hir.specs.Find.{first_from, slot_of}
use Rattle.regex_hir.specs.Text.{is_boundary, byte_before, has_bytes_at}
use Rattle.regex_hir.specs.Re.{attempt}
use Rattle.regex_hir.specs.Looks.{holds, holds_between}
use Rattle.pr_match.specs.Pattern.{is_readable, is_pattern, first_match, matches_whole, expanded}

unfoldable pub computing : ⊤
unfolding regex_on_literals find_str first_from slot_of is_boundary byte_before has_bytes_at attempt holds holds_between is_readable is_pattern first_match matches_whole expanded
computing = tt
