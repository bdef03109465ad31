-- Each rule of the grammar leads from its spot to its spot.
use Rattle.std.proofs.Common.{Bool, true, false, refl}
use Rattle.pr_parse.specs.declared.grammar.kind.Level.{Level}
use Rattle.pr_parse.specs.declared.grammar.kind.Level.TheVariants as level
use Rattle.pr_parse.specs.declared.grammar.kind.Before.TheVariants.{Selector as Selectors, Range as Ranges, Other as Others}
use Rattle.pr_ast.specs.declared.lex.token.Sign.TheVariants.{RightParen, RightBrace, Colon}
use Rattle.pr_ast.specs.declared.lex.words.Word.TheVariants.{Bool as BoolWord}
use Rattle.pr_forms.specs.Form.{rule}
use Rattle.pr_parse.specs.Grammar.{Rule, Binary, Modified, Matched, Grouped, Included, Unary, Postfix, Operand, Labels, MoreLabels, Matchers, MoreMatchers, Braced, Selection, Tail, Arguments, Aggregation, Parameters, After, InSelector, SelectorSpan, InOther, Step, Closing, Shift, F, production, sign_at, word_at, matching_at, grouping_at, minus_at, side_at, tighter, label_list, group, parameters}
use Rattle.laws_language.proofs.Spots.{Spot, open_spot, fresh, marked, listed, braced, GoesBetween}
use Rattle.laws_language.proofs.SpotMoves.{from_fresh, to_open}
use Rattle.laws_language.proofs.SpotTable as t

-- what an operand stands after: where a parenthesis may come first, no word of labels
abbrev pub by_flag : Bool → Spot
by_flag true = fresh
by_flag false = open_spot

abbrev pub from : Rule → Spot
from (Binary l p) = by_flag p
from (Modified l) = fresh
from (Matched l) = fresh
from (Grouped l) = fresh
from (Included l) = marked
from (Unary p) = by_flag p
from (Postfix p) = by_flag p
from Labels = listed
from MoreLabels = listed
from (Matchers named) = braced
from (MoreMatchers named) = braced
from Tail = fresh
from Arguments = fresh
from Aggregation = fresh
from Parameters = fresh
from _ = open_spot

abbrev pub to : Rule → Spot
to Labels = listed
to MoreLabels = listed
to (Matchers named) = braced
to (MoreMatchers named) = braced
to _ = open_spot

abbrev Fine : Spot → F → Spot → Type 0
Fine a f b = GoesBetween from to a f b

operand_after : (l : Level) (p : Bool) → Fine (by_flag p) (rule (tighter l p)) open_spot
operand_after level.Or true = (refl, refl)
operand_after level.Or false = (refl, refl)
operand_after level.And true = (refl, refl)
operand_after level.And false = (refl, refl)
operand_after level.Comparison true = (refl, refl)
operand_after level.Comparison false = (refl, refl)
operand_after level.Sum true = (refl, refl)
operand_after level.Sum false = (refl, refl)
operand_after level.Product true = (refl, refl)
operand_after level.Product false = (refl, refl)

bare_operand : (l : Level) → Fine marked (rule (tighter l false)) open_spot
bare_operand level.Or = (refl, refl)
bare_operand level.And = (refl, refl)
bare_operand level.Comparison = (refl, refl)
bare_operand level.Sum = (refl, refl)
bare_operand level.Product = (refl, refl)

labels_lead : Fine marked label_list fresh
labels_lead = (listed, (t.labels_start, (listed, ((refl, refl), t.labels_end))))

labels_lead_on : Fine marked label_list open_spot
labels_lead_on = (listed, (t.labels_start, (listed, ((refl, refl), to_open (sign_at RightParen) t.labels_end))))

group_leads : Fine fresh group fresh
group_leads = (marked, (from_fresh grouping_at t.a_grouping, labels_lead))

group_leads_on : Fine fresh group open_spot
group_leads_on = (marked, (from_fresh grouping_at t.a_grouping, labels_lead_on))

parameters_lead : Fine fresh parameters fresh
parameters_lead = (fresh, (t.left_paren, (open_spot, ((refl, refl), t.right_paren))))

parameters_lead_on : Fine fresh parameters open_spot
parameters_lead_on = (fresh, (t.left_paren, (open_spot, ((refl, refl), to_open (sign_at RightParen) t.right_paren))))

pub rules_lead : (n : Rule) → Fine (from n) (production n) (to n)
rules_lead (Binary l p) = (operand_after l p, (fresh, (t.an_operator l, (refl, refl))))
rules_lead (Modified l) = ((fresh, (from_fresh (word_at BoolWord) t.bool_word, (refl, refl))), (refl, refl))
rules_lead (Matched l) = ((marked, (from_fresh matching_at t.a_matching, (fresh, (labels_lead, (refl, refl))))), (fresh, (refl, operand_after l true)))
rules_lead (Grouped l) = ((marked, (from_fresh side_at t.a_side, (refl, refl))), (fresh, (refl, operand_after l true)))
rules_lead (Included l) = ((fresh, (labels_lead, operand_after l true)), (marked, (refl, bare_operand l)))
rules_lead (Unary true) = ((fresh, (from_fresh minus_at t.a_minus, (refl, refl))), (refl, refl))
rules_lead (Unary false) = ((fresh, (t.a_minus, (refl, refl))), (refl, refl))
rules_lead (Postfix true) = ((fresh, ((fresh, (t.left_paren, (open_spot, ((refl, refl), t.right_paren)))), (refl, refl))), (refl, refl))
rules_lead (Postfix false) = (refl, refl)
rules_lead Operand = (
  (fresh, (t.a_literal, (refl, refl))),
  (
    (fresh, (t.a_metric, (refl, refl))),
    (
      (fresh, (t.a_function, (refl, refl))),
      (
        (open_spot, ((fresh, (t.an_aggregation, (refl, refl))), (refl, refl))),
        (fresh, ((braced, (t.left_brace, (braced, ((refl, refl), t.right_brace)))), (refl, refl))),
      ),
    ),
  ),
)
rules_lead Labels = ((listed, (t.a_label, (refl, refl))), refl)
rules_lead MoreLabels = ((listed, (t.label_comma, (refl, refl))), refl)
rules_lead (Matchers named) = ((braced, (t.a_matcher_label named, (braced, ((braced, (t.a_match, t.a_text)), (refl, refl))))), refl)
rules_lead (MoreMatchers named) = ((braced, (t.matcher_comma, (refl, refl))), refl)
rules_lead Braced = ((braced, (t.left_brace, (braced, ((refl, refl), to_open (sign_at RightBrace) t.right_brace)))), refl)
rules_lead Selection = (open_spot, ((refl, refl), (refl, refl)))
rules_lead Tail = ((fresh, (t.left_paren, (fresh, ((open_spot, ((refl, refl), t.right_paren)), (refl, refl))))), (refl, refl))
rules_lead Arguments = (((fresh, (refl, (refl, refl))), (fresh, (t.comma, (refl, refl)))), refl)
rules_lead Aggregation = ((fresh, (group_leads, parameters_lead_on)), (fresh, (parameters_lead, (group_leads_on, refl))))
rules_lead Parameters = (open_spot, ((refl, refl), ((fresh, (t.comma, (refl, refl))), refl)))
rules_lead (After Selectors) = ((fresh, (t.left_bracket, (refl, refl))), ((fresh, (t.offset_word, (refl, refl))), refl))
rules_lead (After Ranges) = ((fresh, (t.offset_word, (refl, refl))), (refl, refl))
rules_lead (After Others) = ((fresh, (t.left_bracket, (refl, refl))), refl)
rules_lead InSelector = (fresh, (t.a_span, (refl, refl)))
rules_lead SelectorSpan = ((fresh, (t.right_bracket, (refl, refl))), (fresh, (t.colon, (refl, refl))))
rules_lead InOther = (fresh, (t.a_span, (fresh, (from_fresh (sign_at Colon) t.colon, (refl, refl)))))
rules_lead Step = ((fresh, (t.a_span, (refl, refl))), (refl, refl))
rules_lead Closing = (fresh, (t.right_bracket, (refl, refl)))
rules_lead Shift = (fresh, (t.a_shift, (refl, refl)))
