-- The grammar of templates ends: so the parts of a text are a function of it.
use Rattle.std.proofs.Common.{◌≡◌, ℕ, suc, nat_le, Option, Some, None, false, true, List, refl, ap}
use Rattle.pr_labels.specs.pr_forms.Form.{rule}
use Rattle.pr_labels.specs.pr_forms.Reading.{EndsIn, Ends, reading}
use Rattle.pr_labels.proofs.FormsEnding.{given_reads, reads_given, given_place}
use Rattle.pr_tmpl.specs.declared.template.Part.{Part}
use Rattle.pr_tmpl.specs.Pieces.{pieces}
use Rattle.pr_tmpl.specs.TemplateText.{production, TemplateValue, parts, piped, operand, call, bytes, verb, format, mark, Rule, Text, PlainPiece, Brace, Opened, PieceAfterBrace, SecondBrace, First, FromOperand, FromCall, AnOperand, Literal, Dollared, Dotted, ValueWord, LabelsWord, ExternalWord, ExternalLabelsWord, UrlWord, Content, Breaking, Name, NameByte, NameRest, ACall, PrintfWord, HumanizeWord, Scale, PercentageWord, DurationWord, Formatted, Before, Wanted, Places, LetterF, AfterVerb, SecondPercent, After, Next, Barred, Closing, IsTemplate, IsBadPiece}
use Rattle.pr_tmpl.specs.TemplateTable.{table, rank, steps}
use Rattle.pr_tmpl.specs.TemplateReading.{parts_in, template_parts, bad_piece}
use Rattle.pr_tmpl.proofs.TemplateTable.{known}
use Rattle.pr_tmpl.proofs.Chosen.{in_text, after_brace, at_first, at_operand, after_dollar, after_dot, after_external, at_name, in_name, at_call, at_scale, at_next}

-- the rule reads a byte within so many steps
abbrev At : ℕ → Rule → Type 0
At b n = (table.empty n ≡ false) × (nat_le (rank n) b ≡ true)

ends_known : (n : Rule) → EndsIn table rank steps (rank n) (production n)
ends_known Text = (λ t n e. in_text (At 2) t n e (refl, refl) (refl, refl), tt)
ends_known PlainPiece = (tt, refl)
ends_known Brace = (tt, refl)
ends_known Opened = (λ t n e. after_brace (At 2) t n e (refl, refl) (refl, refl), tt)
ends_known PieceAfterBrace = (tt, refl)
ends_known SecondBrace = (tt, (tt, refl))
ends_known First = λ t n e. at_first (At 5) t n e (refl, refl) (refl, refl)
ends_known FromOperand = (refl, refl)
ends_known FromCall = (refl, (tt, (tt, refl)))
ends_known AnOperand = λ t n e. at_operand (At 2) t n e (refl, refl) (refl, refl) (refl, refl)
ends_known Literal = (tt, refl)
ends_known Dollared = (tt, λ t n e. after_dollar (At 9) t n e (refl, refl) (refl, refl) (refl, refl))
ends_known Dotted = (tt, λ t n e. after_dot (At 9) t n e (refl, refl) (refl, refl) (refl, refl))
ends_known ValueWord = (tt, (tt, (tt, (tt, (tt, tt)))))
ends_known LabelsWord = (tt, (tt, (tt, (tt, (tt, (tt, (tt, refl)))))))
ends_known ExternalWord = (tt, (tt, (tt, (tt, (tt, (tt, (tt, (tt, λ t n e. after_external (At 9) t n e (refl, refl) (refl, refl)))))))))
ends_known ExternalLabelsWord = (tt, (tt, (tt, (tt, (tt, (tt, (tt, refl)))))))
ends_known UrlWord = (tt, (tt, (tt, tt)))
ends_known Name = λ t n e. at_name (At 2) t n e (λ name. (refl, refl))
ends_known (NameByte name) = (tt, refl)
ends_known (NameRest name) = (λ t n e. in_name (At 2) name t n e (λ whole. (refl, refl)), tt)
ends_known ACall = λ t n e. at_call (At 2) t n e (refl, refl) (refl, refl)
ends_known PrintfWord = (tt, (tt, (tt, (tt, (tt, (tt, (tt, (tt, refl))))))))
ends_known Content = ((tt, refl), ((tt, refl), (tt, tt)))
ends_known Breaking = (tt, refl)
ends_known Formatted = (tt, refl)
ends_known Before = ((tt, refl), ((tt, refl), (tt, refl)))
ends_known Wanted = ((tt, refl), ((tt, refl), ((tt, refl), (tt, refl))))
ends_known Places = ((tt, refl), (tt, refl))
ends_known LetterF = ((tt, refl), (tt, refl))
ends_known AfterVerb = ((tt, refl), ((tt, refl), ((tt, refl), (tt, tt))))
ends_known SecondPercent = ((tt, refl), (tt, refl))
ends_known HumanizeWord = (tt, (tt, (tt, (tt, (tt, (tt, (tt, (tt, refl))))))))
ends_known Scale = (λ t n e. at_scale (At 2) t n e (refl, refl) (refl, refl), tt)
ends_known PercentageWord = (tt, (tt, (tt, (tt, (tt, (tt, (tt, (tt, (tt, (tt, tt))))))))))
ends_known DurationWord = (tt, (tt, (tt, (tt, (tt, (tt, (tt, (tt, tt))))))))
ends_known After = (tt, refl)
ends_known Next = λ t n e. at_next (At 2) t n e (refl, refl) (refl, refl)
ends_known Barred = (tt, (tt, (refl, refl)))
ends_known Closing = (tt, (tt, refl))

below_known : (n : Rule) → nat_le (suc (rank n)) steps ≡ true
below_known Text = refl
below_known _ = refl

pub ends : Ends production table rank steps
ends = record { some = refl; below = below_known; ends = ends_known }

value_given : (o : Option TemplateValue) (ps : List Part) → parts_in o ≡ Some ps → o ≡ Some (parts ps)
value_given None ps e = absurd (cc)
value_given (Some (parts qs)) ps e = cc
value_given (Some (piped cs qs)) ps e = absurd (cc)
value_given (Some (operand o)) ps e = absurd (cc)
value_given (Some (call c)) ps e = absurd (cc)
value_given (Some (bytes bs)) ps e = absurd (cc)
value_given (Some (verb v)) ps e = absurd (cc)
value_given (Some (format bs v cs)) ps e = absurd (cc)
value_given (Some mark) ps e = absurd (cc)

-- what the function gives is the reading of the text, and each reading is given
pub parts_read : (text : List ℕ) (ps : List Part) → template_parts text ≡ Some ps → IsTemplate text ps
unfolding template_parts
parts_read text ps e = given_reads production table known rank steps ends Text (pieces text) (parts ps) (value_given (reading production table steps (rule Text) (pieces text)) ps e)

pub parts_given : (text : List ℕ) (ps : List Part) → IsTemplate text ps → template_parts text ≡ Some ps
unfolding template_parts
parts_given text ps d = ap parts_in (reads_given production table known rank steps ends Text (pieces text) (parts ps) d)

pub place_given : (text : List ℕ) → IsBadPiece text (bad_piece text)
unfolding bad_piece
place_given text = given_place production table known rank steps ends Text (pieces text)
