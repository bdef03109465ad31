-- Which fault of the definition a call tells.
use Rattle.std.specs.Prelude.{Option, Some, None}
use Rattle.spec_vectors.specs.declared.match_fault.MatchFault.{MatchFault}
use Rattle.spec_vectors.specs.declared.match_fault.MatchFault.TheVariants as fault
use Rattle.pr_join.specs.declared.join_fault.JoinFault.{JoinFault}
use Rattle.pr_join.specs.declared.join_fault.JoinFault.TheVariants.{ManyToMany, NotUnique, TooWide, Memory}

-- want of memory tells nothing of the definition's answer
abbrev pub match_told : JoinFault → Option MatchFault
match_told (ManyToMany key) = Some (fault.ManyToMany key)
match_told (NotUnique labels) = Some (fault.NotUnique labels)
match_told TooWide = Some fault.TooWide
match_told Memory = None
