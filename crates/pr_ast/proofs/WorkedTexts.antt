-- Worked texts.
use Rattle.std.proofs.Common.{◌≡◌, [], ◌∷◌, refl}
use Rattle.std.specs.Prelude.{codes}
use Rattle.pr_time.specs.pr_forms.Reading.{reading, bad_place}
use Rattle.pr_num.specs.Half.{half_abs}
use Rattle.pr_num.specs.Reads.{reads}
use Rattle.pr_time.specs.SpanAnswer.{span_of, bad_span_place}
use Rattle.pr_labels.specs.pr_words.StringAnswer.{string_of, bad_string_place}
use Rattle.pr_ast.specs.declared.lex.token.Sign.TheVariants.{LeftBracket, RightBracket, Colon, GreaterEqual, NotLike, Minus}
use Rattle.pr_ast.specs.declared.lex.fault.LexKind.TheVariants.{BadChar, OpenText, BadEscape, BadNumber, TooWide, BadSpan, SpanTooLong}
use Rattle.pr_ast.specs.Lexed.{lexed, gives_tokens, gives_fault}
use Rattle.pr_ast.specs.private.Worked.{name, number, duration, string, sign}

pub tokens_nothing : lexed [] ≡ gives_tokens []
unfolding lexed reading bad_place reads half_abs span_of bad_span_place string_of bad_string_place lib.Utf8.encode
tokens_nothing = refl

pub tokens_blanks : lexed (codes " \t\r\n") ≡ gives_tokens []
unfolding lexed reading bad_place reads half_abs span_of bad_span_place string_of bad_string_place lib.Utf8.encode
tokens_blanks = refl

pub tokens_comment : lexed (codes "a # b\nc") ≡ gives_tokens (name 0 1 (codes "a") ∷ name 6 7 (codes "c") ∷ [])
unfolding lexed reading bad_place reads half_abs span_of bad_span_place string_of bad_string_place lib.Utf8.encode
tokens_comment = refl

pub tokens_colon : lexed (codes "a:b") ≡ gives_tokens (name 0 3 (codes "a:b") ∷ [])
unfolding lexed reading bad_place reads half_abs span_of bad_span_place string_of bad_string_place lib.Utf8.encode
tokens_colon = refl

pub tokens_brackets : lexed (codes "x[5m:]") ≡ gives_tokens (name 0 1 (codes "x") ∷ sign 1 2 LeftBracket ∷ duration 2 4 300000 ∷ sign 4 5 Colon ∷ sign 5 6 RightBracket ∷ [])
unfolding lexed reading bad_place reads half_abs span_of bad_span_place string_of bad_string_place lib.Utf8.encode
tokens_brackets = refl

pub tokens_after_brackets : lexed (codes "x[5m] 5:") ≡ gives_tokens (name 0 1 (codes "x") ∷ sign 1 2 LeftBracket ∷ duration 2 4 300000 ∷ sign 4 5 RightBracket ∷ number 6 7 5000000000 ∷ name 7 8 (codes ":") ∷ [])
unfolding lexed reading bad_place reads half_abs span_of bad_span_place string_of bad_string_place lib.Utf8.encode
tokens_after_brackets = refl

pub tokens_longest : lexed (codes "1.5>=-2") ≡ gives_tokens (number 0 3 1500000000 ∷ sign 3 5 GreaterEqual ∷ sign 5 6 Minus ∷ number 6 7 2000000000 ∷ [])
unfolding lexed reading bad_place reads half_abs span_of bad_span_place string_of bad_string_place lib.Utf8.encode
tokens_longest = refl

pub tokens_string : lexed (codes "a!~'\\x41'") ≡ gives_tokens (name 0 1 (codes "a") ∷ sign 1 3 NotLike ∷ string 3 9 (codes "A") ∷ [])
unfolding lexed reading bad_place reads half_abs span_of bad_span_place string_of bad_string_place lib.Utf8.encode
tokens_string = refl

pub tokens_digits_and_letter : lexed (codes "5x") ≡ gives_tokens (number 0 1 5000000000 ∷ name 1 2 (codes "x") ∷ [])
unfolding lexed reading bad_place reads half_abs span_of bad_span_place string_of bad_string_place lib.Utf8.encode
tokens_digits_and_letter = refl

pub tokens_point_before_unit : lexed (codes "1.5s") ≡ gives_tokens (number 0 3 1500000000 ∷ name 3 4 (codes "s") ∷ [])
unfolding lexed reading bad_place reads half_abs span_of bad_span_place string_of bad_string_place lib.Utf8.encode
tokens_point_before_unit = refl

pub fault_no_token : lexed (codes "a $") ≡ gives_fault 2 BadChar
unfolding lexed reading bad_place reads half_abs span_of bad_span_place string_of bad_string_place lib.Utf8.encode
fault_no_token = refl

pub fault_half_sign : lexed (codes "a ! b") ≡ gives_fault 3 BadChar
unfolding lexed reading bad_place reads half_abs span_of bad_span_place string_of bad_string_place lib.Utf8.encode
fault_half_sign = refl

pub fault_no_end : lexed (codes "a \"b") ≡ gives_fault 2 OpenText
unfolding lexed reading bad_place reads half_abs span_of bad_span_place string_of bad_string_place lib.Utf8.encode
fault_no_end = refl

pub fault_line_feed : lexed (codes "\"a\nb\"") ≡ gives_fault 0 OpenText
unfolding lexed reading bad_place reads half_abs span_of bad_span_place string_of bad_string_place lib.Utf8.encode
fault_line_feed = refl

pub fault_line_feed_after_backslash : lexed (codes "\"a\\\nb\"") ≡ gives_fault 3 BadEscape
unfolding lexed reading bad_place reads half_abs span_of bad_span_place string_of bad_string_place lib.Utf8.encode
fault_line_feed_after_backslash = refl

pub fault_no_escape : lexed (codes "\"\\q\"") ≡ gives_fault 2 BadEscape
unfolding lexed reading bad_place reads half_abs span_of bad_span_place string_of bad_string_place lib.Utf8.encode
fault_no_escape = refl

pub fault_no_exponent : lexed (codes "1ex") ≡ gives_fault 2 BadNumber
unfolding lexed reading bad_place reads half_abs span_of bad_span_place string_of bad_string_place lib.Utf8.encode
fault_no_exponent = refl

pub fault_point_alone : lexed (codes ". 5") ≡ gives_fault 1 BadNumber
unfolding lexed reading bad_place reads half_abs span_of bad_span_place string_of bad_string_place lib.Utf8.encode
fault_point_alone = refl

pub fault_wide : lexed (codes "a 1e20") ≡ gives_fault 2 TooWide
unfolding lexed reading bad_place reads half_abs span_of bad_span_place string_of bad_string_place lib.Utf8.encode
fault_wide = refl

pub fault_no_unit : lexed (codes "5m3x") ≡ gives_fault 3 BadSpan
unfolding lexed reading bad_place reads half_abs span_of bad_span_place string_of bad_string_place lib.Utf8.encode
fault_no_unit = refl

pub fault_long : lexed (codes "35y") ≡ gives_fault 0 SpanTooLong
unfolding lexed reading bad_place reads half_abs span_of bad_span_place string_of bad_string_place lib.Utf8.encode
fault_long = refl
