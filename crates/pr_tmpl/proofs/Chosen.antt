-- The rules that a piece may choose: what holds of each of them holds of the chosen one.
use Rattle.std.proofs.Common.{◌≡◌, ℕ, List, [], ◌∷◌, ◌++◌, Some, None, Bool, true, false, subst}
use Rattle.std.specs.Prelude.{if◌then◌else◌}
use Rattle.pr_tmpl.specs.declared.kind.TemplateByte.TheVariants.{Quote, Open, Close, Bar, Dollar, Point, SmallE, SmallH, SmallL, SmallP, SmallV, CapitalD, CapitalE, CapitalL, CapitalP, CapitalU, CapitalV}
use Rattle.pr_tmpl.specs.Pieces.{Piece, plain}
use Rattle.pr_tmpl.specs.TemplateText.{Rule, PlainPiece, Brace, PieceAfterBrace, SecondBrace, FromOperand, FromCall, Literal, Dollared, Dotted, ValueWord, LabelsWord, ExternalWord, ExternalLabelsWord, UrlWord, NameByte, PrintfWord, HumanizeWord, PercentageWord, DurationWord, Barred, Closing, is_name_part, is_name_start, text_rule, opened_rule, first_rule, operand_rule, dollar_rule, dot_rule, external_rule, name_start, name_byte, call_rule, scale_rule, next_rule}

module _ (P : Rule → Type 0) where
  one : (x n : Rule) → Some x ≡ Some n → P x → P n
  one x n e h = let same : x ≡ n = cc in subst P same h

  none : (n : Rule) → None ≡ Some n → P n
  none n e = absurd (cc)

  only : (test : Bool) (x n : Rule) → (if test then Some x else None) ≡ Some n → P x → P n
  only true x n e h = one x n e h
  only false x n e h = none n e

  pub in_text : (t : Piece) (n : Rule) → text_rule t ≡ Some n → P Brace → P PlainPiece → P n
  in_text (plain Open b) n e h k = one Brace n e h
  in_text _ n e h k = one PlainPiece n e k

  pub after_brace : (t : Piece) (n : Rule) → opened_rule t ≡ Some n → P SecondBrace → P PieceAfterBrace → P n
  after_brace (plain Open b) n e h k = one SecondBrace n e h
  after_brace _ n e h k = one PieceAfterBrace n e k

  pub at_first : (t : Piece) (n : Rule) → first_rule t ≡ Some n → P FromOperand → P FromCall → P n
  at_first (plain Quote b) n e h k = one FromOperand n e h
  at_first (plain Dollar b) n e h k = one FromOperand n e h
  at_first (plain Point b) n e h k = one FromOperand n e h
  at_first (plain SmallP b) n e h k = one FromCall n e k
  at_first (plain SmallH b) n e h k = one FromCall n e k
  at_first _ n e h k = none n e

  pub at_operand : (t : Piece) (n : Rule) → operand_rule t ≡ Some n → P Literal → P Dollared → P Dotted → P n
  at_operand (plain Quote b) n e h k l = one Literal n e h
  at_operand (plain Dollar b) n e h k l = one Dollared n e k
  at_operand (plain Point b) n e h k l = one Dotted n e l
  at_operand _ n e h k l = none n e

  pub after_dollar : (t : Piece) (n : Rule) → dollar_rule t ≡ Some n → P ValueWord → P LabelsWord → P ExternalWord → P n
  after_dollar (plain SmallV b) n e h k l = one ValueWord n e h
  after_dollar (plain SmallL b) n e h k l = one LabelsWord n e k
  after_dollar (plain SmallE b) n e h k l = one ExternalWord n e l
  after_dollar _ n e h k l = none n e

  pub after_dot : (t : Piece) (n : Rule) → dot_rule t ≡ Some n → P ValueWord → P LabelsWord → P ExternalWord → P n
  after_dot (plain CapitalV b) n e h k l = one ValueWord n e h
  after_dot (plain CapitalL b) n e h k l = one LabelsWord n e k
  after_dot (plain CapitalE b) n e h k l = one ExternalWord n e l
  after_dot _ n e h k l = none n e

  pub after_external : (t : Piece) (n : Rule) → external_rule t ≡ Some n → P ExternalLabelsWord → P UrlWord → P n
  after_external (plain CapitalL b) n e h k = one ExternalLabelsWord n e h
  after_external (plain CapitalU b) n e h k = one UrlWord n e k
  after_external _ n e h k = none n e

  pub at_name : (t : Piece) (n : Rule) → name_start t ≡ Some n → ((name : List ℕ) → P (NameByte name)) → P n
  at_name (plain k b) n e h = only (is_name_start k) (NameByte (b ∷ [])) n e (h (b ∷ []))
  at_name _ n e h = none n e

  pub in_name : (name : List ℕ) (t : Piece) (n : Rule) → name_byte name t ≡ Some n → ((whole : List ℕ) → P (NameByte whole)) → P n
  in_name name (plain k b) n e h = only (is_name_part k) (NameByte (name ++ b ∷ [])) n e (h (name ++ b ∷ []))
  in_name name _ n e h = none n e

  pub at_call : (t : Piece) (n : Rule) → call_rule t ≡ Some n → P PrintfWord → P HumanizeWord → P n
  at_call (plain SmallP b) n e h k = one PrintfWord n e h
  at_call (plain SmallH b) n e h k = one HumanizeWord n e k
  at_call _ n e h k = none n e

  pub at_scale : (t : Piece) (n : Rule) → scale_rule t ≡ Some n → P PercentageWord → P DurationWord → P n
  at_scale (plain CapitalP b) n e h k = one PercentageWord n e h
  at_scale (plain CapitalD b) n e h k = one DurationWord n e k
  at_scale _ n e h k = none n e

  pub at_next : (t : Piece) (n : Rule) → next_rule t ≡ Some n → P Barred → P Closing → P n
  at_next (plain Bar b) n e h k = one Barred n e h
  at_next (plain Close b) n e h k = one Closing n e k
  at_next _ n e h k = none n e
