-- One piece ahead decides the grammar of templates.
use Rattle.std.proofs.Common.{◌≡◌, Bool, true, false, refl}
use Rattle.pr_labels.specs.pr_forms.Table.{empty_of, starts_of, more_of, parts_at, is_solid, Binds, IsDecided}
use Rattle.pr_labels.proofs.FormsDecided.{plain_binds}
use Rattle.pr_tmpl.proofs.Chosen.{at_operand, after_dollar, after_dot, after_external, at_name, in_name, at_call, at_scale}
use Rattle.pr_tmpl.specs.declared.kind.TemplateByte.TheVariants.{Blank}
use Rattle.pr_tmpl.specs.Pieces.{Piece, plain, escape}
use Rattle.pr_tmpl.specs.TemplateText.{production, Rule, Text, PlainPiece, Opened, PieceAfterBrace, SecondBrace, First, FromOperand, FromCall, AnOperand, Dollared, Dotted, LabelsWord, ExternalWord, ExternalLabelsWord, Content, Breaking, Name, NameByte, NameRest, ACall, PrintfWord, HumanizeWord, Scale, Formatted, Before, Wanted, Places, LetterF, AfterVerb, SecondPercent, After, Next, Barred, name_goes_on, scale_goes_on, nothing_follows}
use Rattle.pr_tmpl.specs.TemplateTable.{table}

starts_known : (n : Rule) (t : Piece) → starts_of table (production n) t ≡ table.starts n t
starts_known Text (plain Blank b) = refl
starts_known Text (escape Blank raw means) = refl
starts_known Opened (plain Blank b) = refl
starts_known Opened (escape Blank raw means) = refl
starts_known PlainPiece (plain Blank b) = refl
starts_known PlainPiece (escape Blank raw means) = refl
starts_known PieceAfterBrace (plain Blank b) = refl
starts_known PieceAfterBrace (escape Blank raw means) = refl
starts_known (NameRest name) (plain Blank b) = refl
starts_known (NameRest name) (escape Blank raw means) = refl
starts_known Content (plain Blank b) = refl
starts_known Content (escape Blank raw means) = refl
starts_known Breaking (plain Blank b) = refl
starts_known Breaking (escape Blank raw means) = refl
starts_known Before (plain Blank b) = refl
starts_known Before (escape Blank raw means) = refl
starts_known Wanted (plain Blank b) = refl
starts_known Wanted (escape Blank raw means) = refl
starts_known Places (plain Blank b) = refl
starts_known Places (escape Blank raw means) = refl
starts_known LetterF (plain Blank b) = refl
starts_known LetterF (escape Blank raw means) = refl
starts_known AfterVerb (plain Blank b) = refl
starts_known AfterVerb (escape Blank raw means) = refl
starts_known SecondPercent (plain Blank b) = refl
starts_known SecondPercent (escape Blank raw means) = refl
starts_known Formatted (plain Blank b) = refl
starts_known Formatted (escape Blank raw means) = refl
starts_known Scale (plain Blank b) = refl
starts_known Scale (escape Blank raw means) = refl
starts_known Text _ = refl
starts_known Opened _ = refl
starts_known PlainPiece _ = refl
starts_known PieceAfterBrace _ = refl
starts_known (NameRest name) _ = refl
starts_known Content _ = refl
starts_known Breaking _ = refl
starts_known Before _ = refl
starts_known Wanted _ = refl
starts_known Places _ = refl
starts_known LetterF _ = refl
starts_known AfterVerb _ = refl
starts_known SecondPercent _ = refl
starts_known Formatted _ = refl
starts_known Scale _ = refl
starts_known _ t = refl

empty_known : (n : Rule) → empty_of table (production n) ≡ table.empty n
empty_known Text = refl
empty_known _ = refl

more_known : (n : Rule) (t : Piece) → more_of table (production n) t ≡ table.more n t
more_known HumanizeWord (plain Blank b) = refl
more_known HumanizeWord (escape Blank raw means) = refl
more_known LabelsWord (plain Blank b) = refl
more_known LabelsWord (escape Blank raw means) = refl
more_known ExternalLabelsWord (plain Blank b) = refl
more_known ExternalLabelsWord (escape Blank raw means) = refl
more_known ExternalWord (plain Blank b) = refl
more_known ExternalWord (escape Blank raw means) = refl
more_known Dollared (plain Blank b) = refl
more_known Dollared (escape Blank raw means) = refl
more_known Dotted (plain Blank b) = refl
more_known Dotted (escape Blank raw means) = refl
more_known (NameByte name) (plain Blank b) = refl
more_known (NameByte name) (escape Blank raw means) = refl
more_known (NameRest name) (plain Blank b) = refl
more_known (NameRest name) (escape Blank raw means) = refl
more_known Content (plain Blank b) = refl
more_known Content (escape Blank raw means) = refl
more_known Breaking (plain Blank b) = refl
more_known Breaking (escape Blank raw means) = refl
more_known Before (plain Blank b) = refl
more_known Before (escape Blank raw means) = refl
more_known Wanted (plain Blank b) = refl
more_known Wanted (escape Blank raw means) = refl
more_known Places (plain Blank b) = refl
more_known Places (escape Blank raw means) = refl
more_known LetterF (plain Blank b) = refl
more_known LetterF (escape Blank raw means) = refl
more_known AfterVerb (plain Blank b) = refl
more_known AfterVerb (escape Blank raw means) = refl
more_known SecondPercent (plain Blank b) = refl
more_known SecondPercent (escape Blank raw means) = refl
more_known Formatted (plain Blank b) = refl
more_known Formatted (escape Blank raw means) = refl
more_known Scale (plain Blank b) = refl
more_known Scale (escape Blank raw means) = refl
more_known PrintfWord (plain Blank b) = refl
more_known PrintfWord (escape Blank raw means) = refl
more_known HumanizeWord _ = refl
more_known LabelsWord _ = refl
more_known ExternalLabelsWord _ = refl
more_known ExternalWord _ = refl
more_known Dollared _ = refl
more_known Dotted _ = refl
more_known (NameByte name) _ = refl
more_known (NameRest name) _ = refl
more_known Content _ = refl
more_known Breaking _ = refl
more_known Before _ = refl
more_known Wanted _ = refl
more_known Places _ = refl
more_known LetterF _ = refl
more_known AfterVerb _ = refl
more_known SecondPercent _ = refl
more_known Formatted _ = refl
more_known Scale _ = refl
more_known PrintfWord _ = refl
more_known _ t = refl

parts_known : (n : Rule) (t : Piece) → parts_at table (production n) t ≡ true
parts_known Text (plain Blank b) = refl
parts_known Text (escape Blank raw means) = refl
parts_known Opened (plain Blank b) = refl
parts_known Opened (escape Blank raw means) = refl
parts_known SecondBrace (plain Blank b) = refl
parts_known SecondBrace (escape Blank raw means) = refl
parts_known FromOperand (plain Blank b) = refl
parts_known FromOperand (escape Blank raw means) = refl
parts_known FromCall (plain Blank b) = refl
parts_known FromCall (escape Blank raw means) = refl
parts_known (NameRest name) (plain Blank b) = refl
parts_known (NameRest name) (escape Blank raw means) = refl
parts_known PrintfWord (plain Blank b) = refl
parts_known PrintfWord (escape Blank raw means) = refl
parts_known After (plain Blank b) = refl
parts_known After (escape Blank raw means) = refl
parts_known Barred (plain Blank b) = refl
parts_known Barred (escape Blank raw means) = refl
parts_known Scale (plain Blank b) = refl
parts_known Scale (escape Blank raw means) = refl
parts_known Content (plain Blank b) = refl
parts_known Content (escape Blank raw means) = refl
parts_known Breaking (plain Blank b) = refl
parts_known Breaking (escape Blank raw means) = refl
parts_known Before (plain Blank b) = refl
parts_known Before (escape Blank raw means) = refl
parts_known Wanted (plain Blank b) = refl
parts_known Wanted (escape Blank raw means) = refl
parts_known Places (plain Blank b) = refl
parts_known Places (escape Blank raw means) = refl
parts_known LetterF (plain Blank b) = refl
parts_known LetterF (escape Blank raw means) = refl
parts_known AfterVerb (plain Blank b) = refl
parts_known AfterVerb (escape Blank raw means) = refl
parts_known SecondPercent (plain Blank b) = refl
parts_known SecondPercent (escape Blank raw means) = refl
parts_known Formatted (plain Blank b) = refl
parts_known Formatted (escape Blank raw means) = refl
parts_known Text _ = refl
parts_known Opened _ = refl
parts_known SecondBrace _ = refl
parts_known FromOperand _ = refl
parts_known FromCall _ = refl
parts_known (NameRest name) _ = refl
parts_known PrintfWord _ = refl
parts_known After _ = refl
parts_known Barred _ = refl
parts_known Scale _ = refl
parts_known Content _ = refl
parts_known Breaking _ = refl
parts_known Before _ = refl
parts_known Wanted _ = refl
parts_known Places _ = refl
parts_known LetterF _ = refl
parts_known AfterVerb _ = refl
parts_known SecondPercent _ = refl
parts_known Formatted _ = refl
parts_known _ t = refl

solid_known : (n : Rule) → is_solid table (production n) ≡ true
solid_known Text = refl
solid_known _ = refl

-- What may go on after each rule that a piece chooses may go on after the choice.
abbrev Bound : (Piece → Bool) → Piece → Rule → Type 0
Bound goes u n = table.more n u ≡ true → goes u ≡ true

over : (goes : Piece → Bool) (u : Piece) → false ≡ true → goes u ≡ true
over goes u e = absurd (cc)

binds_known : (n : Rule) → Binds table (production n)
binds_known Text = (λ t n u e h. refl, tt)
binds_known Opened = (λ t n u e h. refl, tt)
binds_known First = λ t n u e h. refl
binds_known Next = λ t n u e h. refl
binds_known AnOperand = λ t n u e. at_operand (Bound name_goes_on u) t n e (λ h. over name_goes_on u h) (λ h. h) (λ h. h)
binds_known Dollared = (tt, λ t n u e. after_dollar (Bound name_goes_on u) t n e (λ h. over name_goes_on u h) (λ h. h) (λ h. h))
binds_known Dotted = (tt, λ t n u e. after_dot (Bound name_goes_on u) t n e (λ h. over name_goes_on u h) (λ h. h) (λ h. h))
binds_known ExternalWord = (tt, (tt, (tt, (tt, (tt, (tt, (tt, (tt, λ t n u e. after_external (Bound name_goes_on u) t n e (λ h. h) (λ h. over name_goes_on u h)))))))))
binds_known Name = λ t n u e. at_name (Bound name_goes_on u) t n e (λ name h. h)
binds_known (NameRest name) = (λ t n u e. in_name (Bound name_goes_on u) name t n e (λ whole h. h), tt)
binds_known ACall = λ t n u e. at_call (Bound scale_goes_on u) t n e (λ h. over scale_goes_on u h) (λ h. h)
binds_known Scale = (λ t n u e. at_scale (Bound nothing_follows u) t n e (λ h. h) (λ h. h), tt)
binds_known n = plain_binds table (production n) refl

pub known : IsDecided production table
known = record { empty = empty_known; starts = starts_known; more = more_known; decides = λ n. record { at = parts_known n; solid = solid_known n; binds = binds_known n } }
