-- What the reading of a string says of the text.
use Rattle.std.proofs.Common.{◌≡◌, ℕ, ◌-◌, List, Result, Ok, Err, length, refl, sym, subst}
use Rattle.std.proofs.lemmas.Result.{MatchResult-weaker}
use Rattle.std.specs.Prelude.{MatchResult, IfOk, IfErr}
use Rattle.std.specs.Result.{IsErrAnd}
use Rattle.pr_forms.specs.Form.{rule, Reads}
use Rattle.pr_forms.specs.Run.{good, bad}
use Rattle.pr_forms.specs.declared.reader.Fault.{Fault}
use Rattle.pr_forms.specs.declared.reader.Fault.TheVariants.{Bad, Memory}
use Rattle.pr_forms.proofs.Public.{rest_place, bad_place, left_short}
use Rattle.pr_forms.proofs.Sound.{meets, reads}
use Rattle.pr_forms.proofs.Decided.{rule_decides}
use Rattle.pr_forms.proofs.Fronts.{same_good, none_good}
use Rattle.pr_words.specs.declared.strings.kind.Mark.{Mark}
use Rattle.pr_words.specs.Strings.{production, letter_of, seen, Letter, StringValue, content, Text, Quoted, piece, IsString, IsBadPlace}
use Rattle.pr_forms.specs.Language.{Gives, Leads, FailsAt}
use Rattle.pr_words.specs.private.Language.{text_strings}
use Rattle.pr_words.specs.private.Reader.{BreaksAt, Refuses, IsMemory, IsNoLonger, IsOnly}
use Rattle.pr_words.proofs.StringTable.{known}
use Rattle.pr_words.proofs.StringReading.{Pieces, broken_piece}
use Rattle.pr_words.specs.StringTable.{table}

-- where the reading stops, no string stands at the front
pub unread : (text at : List ℕ) → Gives text_strings (rule Text) text (bad (seen at)) → (v : StringValue) (left : List Letter) → Reads production (rule Text) (seen text) v left → ⊥
unread text at q v left d = none_good production table known (rule_decides table Text) (λ t. refl) q d

pub unread_place : (text at : List ℕ) → Gives text_strings (rule Text) text (bad (seen at)) → IsBadPlace text (length text - length at)
unread_place text at q = bad_place letter_of production table known Text text at q

module _ {X : Type 0} (bytes rest : X → List ℕ) (text : List ℕ) (r : Result X (Fault ℕ)) where
  abbrev pub IsRead : Type 0
  IsRead = MatchResult r (λ x. Gives text_strings (rule Text) text (good (content (bytes x)) (seen (rest x)))) (FailsAt text_strings (rule Text) text)

  pub tree : IsRead → IfOk r (λ x. IsString text (bytes x) (rest x))
  tree h = MatchResult-weaker r h (λ x q. reads (meets q)) (λ e q. tt)

  only_fault : (v : StringValue) (left : List Letter) → Reads production (rule Text) (seen text) v left → (e : Fault ℕ) → FailsAt text_strings (rule Text) text e → IsMemory e
  only_fault v left d (Bad at) q = unread text at.now q v left d
  only_fault v left d Memory q = tt

  pub only : IsRead → (v : StringValue) (left : List Letter) → Reads production (rule Text) (seen text) v left → MatchResult r (λ x. IsOnly (bytes x) (rest x) v left) IsMemory
  only h v left d = MatchResult-weaker r h (λ x q. same_good production table known (rule_decides table Text) (λ t. refl) q d) (only_fault v left d)

  place_fault : (e : Fault ℕ) → FailsAt text_strings (rule Text) text e → Refuses text e
  place_fault (Bad at) q = unread_place text at.now q
  place_fault Memory q = tt

  within_fault : (e : Fault ℕ) → FailsAt text_strings (rule Text) text e → IsNoLonger text e
  within_fault (Bad at) q = left_short letter_of production table known Text text at.now _ q refl
  within_fault Memory q = tt

  pub no_longer : IsRead → IfErr r (IsNoLonger text)
  no_longer h = MatchResult-weaker r h (λ x q. tt) within_fault

  pub place : IsRead → MatchResult r (λ x. IsBadPlace text (length text - length (rest x))) (Refuses text)
  place h = MatchResult-weaker r h (λ x q. rest_place letter_of production table known Text text (rest x) (content (bytes x)) q) place_fault

  lead_fault : (m : Mark) (after : List ℕ) → Leads text_strings (rule Text) text (rule (Quoted m)) after → (e : Fault ℕ) → FailsAt text_strings (rule (Quoted m)) after e → FailsAt text_strings (rule Text) text e
  lead_fault m after l (Bad at) q = l.fails _ q
  lead_fault m after l Memory q = tt

  pub opened : (m : Mark) (after : List ℕ) → Leads text_strings (rule Text) text (rule (Quoted m)) after →
      MatchResult r (λ x. Gives text_strings (rule (Quoted m)) after (good (content (bytes x)) (seen (rest x)))) (FailsAt text_strings (rule (Quoted m)) after) → IsRead
  opened m after l h = MatchResult-weaker r h (λ x q. l.reads _ _ q) (lead_fault m after l)

-- an exit from the pieces
fault_of : (m : Mark) (text at bytes : List ℕ) (e : Fault ℕ) → Pieces m text bytes at → BreaksAt (piece m) at e → FailsAt text_strings (rule (Quoted m)) text e
fault_of m text at bytes (Bad rest) l x = broken_piece m text at rest.now bytes l x
fault_of m text at bytes Memory l x = tt

pub exit : {X : Type 0} (P : X → Type 0) (m : Mark) (text at bytes : List ℕ) (r : Result X (Fault ℕ)) (e : Fault ℕ) → IsErrAnd r (λ y. y ≡ e) → Pieces m text bytes at → BreaksAt (piece m) at e →
    MatchResult r P (FailsAt text_strings (rule (Quoted m)) text)
exit P m text at bytes (Ok x) e h l k = absurd h
exit P m text at bytes (Err y) e h l k = subst (FailsAt text_strings (rule (Quoted m)) text) (sym h) (fault_of m text at bytes e l k)
