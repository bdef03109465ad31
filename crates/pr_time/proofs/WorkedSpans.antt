-- Worked spans.
use Rattle.std.proofs.Common.{◌≡◌, refl, arith, Some, None}
use Rattle.std.specs.Prelude.{codes, ◌*◌, ◌+◌}
use Rattle.std.proofs.lemmas.Fmt.{decimal_digit}
use Rattle.pr_forms.specs.Reading.{reading, bad_place}
use Rattle.pr_time.specs.declared.text.Unit.TheVariants.{Week, Hour, Minute}
use Rattle.pr_time.specs.SpanText.{ms_of}
use Rattle.pr_time.specs.SpanAnswer.{span_of, bad_span_place}
use Rattle.pr_time.specs.SpanShown.{shown_span}

pub read_zero : span_of (codes "0") ≡ Some 0
unfolding span_of bad_span_place reading bad_place
read_zero = refl

pub read_minutes : span_of (codes "007m") ≡ Some (7 * ms_of Minute)
unfolding span_of bad_span_place reading bad_place
read_minutes = refl

pub read_zero_part : span_of (codes "00h3ms") ≡ Some 3
unfolding span_of bad_span_place reading bad_place
read_zero_part = refl

pub read_each_unit : span_of (codes "1y1w1d1h1m1s1ms") ≡ Some 32230861001
unfolding span_of bad_span_place reading bad_place
read_each_unit = refl

pub bad_no_unit : span_of (codes "5m3") ≡ None
unfolding span_of bad_span_place reading bad_place
bad_no_unit = refl

pub bad_no_unit_at : bad_span_place (codes "5m3") ≡ 3
unfolding span_of bad_span_place reading bad_place
bad_no_unit_at = refl

pub bad_rising : span_of (codes "5s5h") ≡ None
unfolding span_of bad_span_place reading bad_place
bad_rising = refl

pub bad_rising_at : bad_span_place (codes "5s5h") ≡ 3
unfolding span_of bad_span_place reading bad_place
bad_rising_at = refl

pub bad_twice : span_of (codes "5m5m") ≡ None
unfolding span_of bad_span_place reading bad_place
bad_twice = refl

pub bad_twice_at : bad_span_place (codes "5m5m") ≡ 4
unfolding span_of bad_span_place reading bad_place
bad_twice_at = refl

pub bad_twice_then : bad_span_place (codes "5m5m ") ≡ 4
unfolding span_of bad_span_place reading bad_place
bad_twice_then = refl

pub bad_milliseconds_twice : span_of (codes "5ms5ms") ≡ None
unfolding span_of bad_span_place reading bad_place
bad_milliseconds_twice = refl

pub bad_milliseconds_twice_at : bad_span_place (codes "5ms5ms") ≡ 4
unfolding span_of bad_span_place reading bad_place
bad_milliseconds_twice_at = refl

pub bad_after_milliseconds : span_of (codes "5ms5s") ≡ None
unfolding span_of bad_span_place reading bad_place
bad_after_milliseconds = refl

pub bad_after_milliseconds_at : bad_span_place (codes "5ms5s") ≡ 4
unfolding span_of bad_span_place reading bad_place
bad_after_milliseconds_at = refl

pub bad_digits_alone : span_of (codes "5ms5") ≡ None
unfolding span_of bad_span_place reading bad_place
bad_digits_alone = refl

pub bad_digits_alone_at : bad_span_place (codes "5ms5") ≡ 4
unfolding span_of bad_span_place reading bad_place
bad_digits_alone_at = refl

pub bad_blank_at : bad_span_place (codes " 5m") ≡ 0
unfolding span_of bad_span_place reading bad_place
bad_blank_at = refl

pub bad_point_at : bad_span_place (codes "1.5h") ≡ 1
unfolding span_of bad_span_place reading bad_place
bad_point_at = refl

pub shown_zero : shown_span 0 ≡ codes "0s"
shown_zero = refl

pub shown_week : shown_span (ms_of Week) ≡ codes "7d"
shown_week = rw (decimal_digit 7 (omega arith)) refl

pub shown_parts : shown_span (ms_of Hour * 1 + 7) ≡ codes "1h7ms"
shown_parts = rw (decimal_digit 1 (omega arith)) (rw (decimal_digit 7 (omega arith)) refl)

pub shown_each : shown_span 93784005 ≡ codes "1d2h3m4s5ms"
shown_each = rw (decimal_digit 1 (omega arith)) (rw (decimal_digit 2 (omega arith)) (rw (decimal_digit 3 (omega arith)) (rw (decimal_digit 4 (omega arith)) (rw (decimal_digit 5 (omega arith)) refl))))
