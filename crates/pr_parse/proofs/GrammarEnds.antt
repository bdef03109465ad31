-- The grammar ends: so what a text is, is a function of it.
use Rattle.std.proofs.Common.{◌≡◌, suc, nat_le, Bool, true, false, refl}
use Rattle.pr_forms.specs.Reading.{EndsIn, Ends}
use Rattle.pr_parse.specs.declared.grammar.kind.Level.{Level}
use Rattle.pr_parse.specs.declared.grammar.kind.Level.TheVariants.{Or, And, Comparison, Sum, Product}
use Rattle.pr_parse.specs.declared.grammar.kind.Before.TheVariants.{Selector as Selectors, Range as Ranges, Other as Others}
use Rattle.pr_parse.specs.Grammar.{production, tighter, Rule, Binary, Modified, Matched, Grouped, Included, Unary, Postfix, Operand, Labels, MoreLabels, Matchers, MoreMatchers, Braced, Selection, Tail, Arguments, Aggregation, Parameters, After, InSelector, SelectorSpan, InOther, Step, Closing, Shift}
use Rattle.pr_parse.specs.GrammarTable.{table, rank, steps}

-- the operands of each level are reached in time
low : (l : Level) (p : Bool) → nat_le (rank (tighter l p)) 21 ≡ true
low Or p = refl
low And p = refl
low Comparison p = refl
low Sum p = refl
low Product p = refl

high : (l : Level) (p : Bool) → nat_le (rank (tighter l p)) 39 ≡ true
high Or p = refl
high And p = refl
high Comparison p = refl
high Sum p = refl
high Product p = refl

ends_known : (n : Rule) → EndsIn table rank steps (rank n) (production n)
ends_known (Binary Or p) = (refl, (tt, refl))
ends_known (Binary And p) = (refl, (tt, refl))
ends_known (Binary Comparison p) = (refl, (tt, refl))
ends_known (Binary Sum p) = (refl, (tt, refl))
ends_known (Binary Product p) = (refl, (tt, refl))
ends_known (Modified l) = ((tt, refl), refl)
ends_known (Matched l) = ((tt, ((tt, (refl, tt)), refl)), (tt, low l true))
ends_known (Grouped l) = ((tt, refl), (tt, low l true))
ends_known (Included l) = (((tt, (refl, tt)), high l true), (tt, low l false))
ends_known (Unary p) = ((tt, refl), refl)
ends_known (Postfix true) = (((tt, (refl, tt)), refl), refl)
ends_known (Postfix false) = refl
ends_known Operand = ((tt, refl), ((tt, refl), ((tt, refl), (((tt, refl), refl), ((tt, (refl, tt)), refl)))))
ends_known Labels = ((tt, refl), tt)
ends_known MoreLabels = ((tt, refl), tt)
ends_known (Matchers named) = ((tt, ((tt, tt), refl)), tt)
ends_known (MoreMatchers named) = ((tt, refl), tt)
ends_known Braced = ((tt, (refl, tt)), tt)
ends_known Selection = (refl, refl)
ends_known Tail = ((tt, ((refl, tt), refl)), refl)
ends_known Arguments = (((tt, refl), (tt, refl)), tt)
ends_known Aggregation = (((tt, (tt, (refl, tt))), (tt, (refl, tt))), ((tt, (refl, tt)), ((tt, (tt, (refl, tt))), tt)))
ends_known Parameters = (refl, ((tt, refl), tt))
ends_known (After Selectors) = ((tt, refl), ((tt, refl), tt))
ends_known (After Ranges) = ((tt, refl), refl)
ends_known (After Others) = ((tt, refl), tt)
ends_known InSelector = (tt, refl)
ends_known SelectorSpan = ((tt, refl), (tt, refl))
ends_known InOther = (tt, (tt, refl))
ends_known Step = ((tt, refl), refl)
ends_known Closing = (tt, refl)
ends_known Shift = (tt, refl)

below_known : (n : Rule) → nat_le (suc (rank n)) steps ≡ true
below_known (Binary Or p) = refl
below_known (Binary And p) = refl
below_known (Binary Comparison p) = refl
below_known (Binary Sum p) = refl
below_known (Binary Product p) = refl
below_known (After Selectors) = refl
below_known (After Ranges) = refl
below_known (After Others) = refl
below_known _ = refl

pub ends : Ends production table rank steps
ends = record { some = refl; below = below_known; ends = ends_known }
