use Rattle.pr_expo.proofs.Leading.{line_is_sample}
use Rattle.pr_expo.proofs.Shapes.{sample_is_line}
use Rattle.pr_expo.proofs.expo_line.laws.samples_are_read_from_their_lines.Goals as goal

pub returns-clause-read : goal.returns-clause-read
returns-clause-read c = λ line m time u is. line_is_sample line m time u is

pub returns-clause-only : goal.returns-clause-only
returns-clause-only c = λ line m time h. sample_is_line line m time h
