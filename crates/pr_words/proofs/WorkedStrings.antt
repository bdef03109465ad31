-- Worked strings.
use Rattle.std.proofs.Common.{◌≡◌, [], ◌++◌, refl, Some, None}
use Rattle.std.specs.Prelude.{codes, encode_utf8}
use Rattle.pr_forms.specs.Reading.{reading, bad_place}
use Rattle.pr_words.specs.StringAnswer.{string_of, bad_string_place}

pub read_empty : string_of (codes "\"\"") ≡ Some []
unfolding string_of bad_string_place reading bad_place
read_empty = refl

pub read_letters : string_of (codes "\"\\\\\\n\\t\\r\\a\\b\\f\\v\"") ≡ Some (codes "\\\n\t\r\u{7}\u{8}\u{c}\u{b}")
unfolding string_of bad_string_place reading bad_place
read_letters = refl

pub read_own_quote : string_of (codes "\"\\\"\"") ≡ Some (codes "\"")
unfolding string_of bad_string_place reading bad_place
read_own_quote = refl

pub read_own_single_quote : string_of (codes "'\\''") ≡ Some (codes "'")
unfolding string_of bad_string_place reading bad_place
read_own_single_quote = refl

pub read_other_quotes : string_of (codes "\"a'b`c\"") ≡ Some (codes "a'b`c")
unfolding string_of bad_string_place reading bad_place
read_other_quotes = refl

pub read_backticks : string_of (codes "`a\\\"'\nb`") ≡ Some (codes "a\\\"'\nb")
unfolding string_of bad_string_place reading bad_place
read_backticks = refl

pub read_two_digits : string_of (codes "\"\\x41\\x7fz\"") ≡ Some (codes "A\u{7f}z")
unfolding string_of bad_string_place reading bad_place lib.Utf8.encode
read_two_digits = refl

pub read_four_digits : string_of (codes "\"\\u00e9\\u20AC\"") ≡ Some (encode_utf8 0xE9 ++ encode_utf8 0x20AC)
unfolding string_of bad_string_place reading bad_place
read_four_digits = refl

pub read_eight_digits : string_of (codes "\"\\U0001F600\"") ≡ Some (encode_utf8 0x1F600)
unfolding string_of bad_string_place reading bad_place
read_eight_digits = refl

pub read_around_surrogates : string_of (codes "\"\\uD7FF\\uE000\"") ≡ Some (encode_utf8 0xD7FF ++ encode_utf8 0xE000)
unfolding string_of bad_string_place reading bad_place
read_around_surrogates = refl

pub read_last : string_of (codes "\"\\U0010FFFF\"") ≡ Some (encode_utf8 0x10FFFF)
unfolding string_of bad_string_place reading bad_place
read_last = refl

pub bad_nothing : bad_string_place [] ≡ 0
unfolding string_of bad_string_place reading bad_place
bad_nothing = refl

pub bad_no_quote : bad_string_place (codes "a") ≡ 0
unfolding string_of bad_string_place reading bad_place
bad_no_quote = refl

pub bad_no_end : bad_string_place (codes "\"a") ≡ 2
unfolding string_of bad_string_place reading bad_place
bad_no_end = refl

pub bad_line_feed : bad_string_place (codes "\"a\nb\"") ≡ 2
unfolding string_of bad_string_place reading bad_place
bad_line_feed = refl

pub bad_other_quote : bad_string_place (codes "\"\\'\"") ≡ 2
unfolding string_of bad_string_place reading bad_place
bad_other_quote = refl

pub bad_other_double_quote : bad_string_place (codes "'\\\"'") ≡ 2
unfolding string_of bad_string_place reading bad_place
bad_other_double_quote = refl

pub bad_backtick : bad_string_place (codes "\"\\`\"") ≡ 2
unfolding string_of bad_string_place reading bad_place
bad_backtick = refl

pub bad_letter : bad_string_place (codes "\"\\q\"") ≡ 2
unfolding string_of bad_string_place reading bad_place
bad_letter = refl

pub bad_above_ascii : bad_string_place (codes "\"\\x80\"") ≡ 3
unfolding string_of bad_string_place reading bad_place
bad_above_ascii = refl

pub bad_no_digit : bad_string_place (codes "\"\\x4g\"") ≡ 4
unfolding string_of bad_string_place reading bad_place
bad_no_digit = refl

pub bad_surrogate : bad_string_place (codes "\"\\uD800\"") ≡ 4
unfolding string_of bad_string_place reading bad_place
bad_surrogate = refl

pub bad_above_all : bad_string_place (codes "\"\\U00110000\"") ≡ 6
unfolding string_of bad_string_place reading bad_place
bad_above_all = refl

pub bad_after_end : string_of (codes "\"a\"b") ≡ None
unfolding string_of bad_string_place reading bad_place
bad_after_end = refl
