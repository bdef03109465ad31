-- Small texts as templates, and how those expand, computed.
use Rattle.std.proofs.Common.{◌≡◌, refl, codes, [], ◌∷◌, ◌++◌, Some}
use Rattle.std.specs.Fmt.{digits}
use Rattle.std.specs.Prelude.{pos}
use Rattle.pr_labels.specs.pr_forms.Reading.{reading, bad_place}
use Rattle.pr_num.specs.Half.{half_abs}
use Rattle.pr_num.specs.Reads.{reads}
use Rattle.pr_num.specs.Shown.{shown, fraction_text}
use Rattle.pr_num.specs.declared.value.Num.TheVariants.{Finite, NaN}
use Rattle.pr_tmpl.specs.Decimals.{fixed, digits_text, cut_text, four_digits}
use Rattle.pr_tmpl.specs.Humanized.{great, small, scaled_text, percent_text, clock_text, seconds_text}
use Rattle.pr_labels.specs.LabelSet.{named}
use Rattle.pr_tmpl.specs.declared.template.External.{External}
use Rattle.pr_tmpl.specs.declared.template.Verb.TheVariants.{Plain, Fixed}
use Rattle.pr_tmpl.specs.declared.template.Operand.TheVariants.{Value, Label, ExternalLabel, ExternalUrl, Words as Quoted}
use Rattle.pr_tmpl.specs.declared.template.Call.TheVariants.{Printf, Humanize, HumanizePercentage, HumanizeDuration}
use Rattle.pr_tmpl.specs.declared.template.Part.TheVariants.{Words, Pipe}
use Rattle.pr_labels.specs.pr_words.StringAnswer.{string_of, bad_string_place}
use lib.Utf8.{encode}
use Rattle.pr_tmpl.specs.Pieces.{pieces}
use Rattle.pr_tmpl.specs.TemplateReading.{template_parts, bad_piece, bad_template_place}
use Rattle.pr_tmpl.specs.Expansion.{expansion, through}

pub words : template_parts (codes "a{b") ≡ Some (Words (codes "a{b") ∷ [])
unfolding template_parts bad_piece bad_template_place pieces string_of bad_string_place reading bad_place encode
words = refl

pub nothing : template_parts [] ≡ Some []
unfolding template_parts bad_piece bad_template_place pieces string_of bad_string_place reading bad_place encode
nothing = refl

pub value : template_parts (codes "v={{ $value }}!") ≡ Some (Words (codes "v=") ∷ Pipe Value [] ∷ Words (codes "!") ∷ [])
unfolding template_parts bad_piece bad_template_place pieces string_of bad_string_place reading bad_place encode
value = refl

pub pipe : template_parts (codes "{{.Labels.a|humanize | humanizeDuration}}") ≡ Some (Pipe (Label (codes "a")) (Humanize ∷ HumanizeDuration ∷ []) ∷ [])
unfolding template_parts bad_piece bad_template_place pieces string_of bad_string_place reading bad_place encode
pipe = refl

pub first_call : template_parts (codes "{{ humanizePercentage .Value }}") ≡ Some (Pipe Value (HumanizePercentage ∷ []) ∷ [])
unfolding template_parts bad_piece bad_template_place pieces string_of bad_string_place reading bad_place encode
first_call = refl

pub address : template_parts (codes "{{$externalURL}}{{\"A\"}}") ≡ Some (Pipe ExternalUrl [] ∷ Pipe (Quoted (codes "A")) [] ∷ [])
unfolding template_parts bad_piece bad_template_place pieces string_of bad_string_place reading bad_place encode
address = refl

pub external : template_parts (codes "{{ .ExternalLabels.zone }}") ≡ Some (Pipe (ExternalLabel (codes "zone")) [] ∷ [])
unfolding template_parts bad_piece bad_template_place pieces string_of bad_string_place reading bad_place encode
external = refl

pub format : template_parts (codes "{{ printf \"<%.2f>\" $value }}") ≡ Some (Pipe Value (Printf (record { before = codes "<"; verb = Fixed 2; after = codes ">" }) ∷ []) ∷ [])
unfolding template_parts bad_piece bad_template_place pieces string_of bad_string_place reading bad_place encode
format = refl

pub cut_word : bad_template_place (codes "{{ $valu }}") ≡ 8
unfolding template_parts bad_piece bad_template_place pieces string_of bad_string_place reading bad_place encode
cut_word = refl

pub long_word : bad_template_place (codes "{{ $valuex }}") ≡ 9
unfolding template_parts bad_piece bad_template_place pieces string_of bad_string_place reading bad_place encode
long_word = refl

pub one_brace : bad_template_place (codes "{{ $value }x") ≡ 11
unfolding template_parts bad_piece bad_template_place pieces string_of bad_string_place reading bad_place encode
one_brace = refl

pub no_call : bad_template_place (codes "{{ humanizeP }}") ≡ 12
unfolding template_parts bad_piece bad_template_place pieces string_of bad_string_place reading bad_place encode
no_call = refl

pub alone : bad_template_place (codes "{{") ≡ 2
unfolding template_parts bad_piece bad_template_place pieces string_of bad_string_place reading bad_place encode
alone = refl

pub trim : bad_template_place (codes "{{- x") ≡ 2
unfolding template_parts bad_piece bad_template_place pieces string_of bad_string_place reading bad_place encode
trim = refl

pub control : bad_template_place (codes "{{ if") ≡ 3
unfolding template_parts bad_piece bad_template_place pieces string_of bad_string_place reading bad_place encode
control = refl

pub no_blank : bad_template_place (codes "{{ printf\"%s\"") ≡ 9
unfolding template_parts bad_piece bad_template_place pieces string_of bad_string_place reading bad_place encode
no_blank = refl

pub expanded : (e : External) → expansion (named (codes "m")) (Finite (pos 42000000000)) e
    (Words (codes "v=") ∷ Pipe Value [] ∷ Words (codes " ") ∷ Pipe (Label (codes "__name__")) [] ∷ Pipe (Label (codes "x")) [] ∷ []) ≡ codes "v=42 m"
unfolding expansion through reads digits fixed digits_text cut_text four_digits half_abs shown fraction_text great small scaled_text percent_text clock_text seconds_text
expanded = λ e. refl

pub of_a_text : (e : External) → expansion [] NaN e (Pipe (Quoted (codes "12.5")) (HumanizePercentage ∷ []) ∷ []) ≡ codes "1250%"
unfolding expansion through reads digits fixed digits_text cut_text four_digits half_abs shown fraction_text great small scaled_text percent_text clock_text seconds_text
of_a_text = λ e. refl

pub not_a_number : (e : External) → expansion [] NaN e (Pipe (Quoted (codes "a")) (Humanize ∷ []) ∷ Pipe Value (HumanizeDuration ∷ []) ∷ []) ≡ codes "aNaN"
unfolding expansion through reads digits fixed digits_text cut_text four_digits half_abs shown fraction_text great small scaled_text percent_text clock_text seconds_text
not_a_number = λ e. refl

pub calls : (e : External) → expansion [] (Finite (pos 3725000000000)) e
    (Pipe Value (Printf (record { before = []; verb = Fixed 0; after = [] }) ∷ HumanizeDuration ∷ []) ∷ []) ≡ codes "1h 2m 5s"
unfolding expansion through reads digits fixed digits_text cut_text four_digits half_abs shown fraction_text great small scaled_text percent_text clock_text seconds_text
calls = λ e. refl

pub two_blanks : template_parts (codes "{{ printf  \"%v\" $value }}") ≡ Some (Pipe Value (Printf (record { before = []; verb = Plain; after = [] }) ∷ []) ∷ [])
unfolding template_parts bad_piece bad_template_place pieces string_of bad_string_place reading bad_place encode
two_blanks = refl

pub percents : template_parts (codes "{{ $value|printf \"a%%\\x25.2f%%\" }}") ≡ Some (Pipe Value (Printf (record { before = codes "a%"; verb = Fixed 2; after = codes "%" }) ∷ []) ∷ [])
unfolding template_parts bad_piece bad_template_place pieces string_of bad_string_place reading bad_place encode
percents = refl

pub written_otherwise : bad_template_place (codes "{{ printf \"%\\x77") ≡ 12
unfolding template_parts bad_piece bad_template_place pieces string_of bad_string_place reading bad_place encode
written_otherwise = refl

pub cut_escape : bad_template_place (codes "{{ printf \"%\\x7") ≡ 15
unfolding template_parts bad_piece bad_template_place pieces string_of bad_string_place reading bad_place encode
cut_escape = refl

pub other_verb : bad_template_place (codes "{{ printf \"%d\\q\" 1") ≡ 12
unfolding template_parts bad_piece bad_template_place pieces string_of bad_string_place reading bad_place encode
other_verb = refl

pub two_verbs : bad_template_place (codes "{{ printf \"%v%s\" $value }}") ≡ 14
unfolding template_parts bad_piece bad_template_place pieces string_of bad_string_place reading bad_place encode
two_verbs = refl

pub bad_escape : bad_template_place (codes "{{ printf \"%v\\%\" $value }}") ≡ 14
unfolding template_parts bad_piece bad_template_place pieces string_of bad_string_place reading bad_place encode
bad_escape = refl

pub no_verb : bad_template_place (codes "{{ printf \"%%\" $value }}") ≡ 13
unfolding template_parts bad_piece bad_template_place pieces string_of bad_string_place reading bad_place encode
no_verb = refl

pub not_ascii : bad_template_place (codes "{{ printf \"" ++ (0xC3 ∷ 0xA9 ∷ codes "%" ++ (0xC3 ∷ 0xA9 ∷ codes "\""))) ≡ 14
unfolding template_parts bad_piece bad_template_place pieces string_of bad_string_place reading bad_place encode
not_ascii = refl

pub text_of_escapes : template_parts (codes "\\n\\q\\x4") ≡ Some (Words (codes "\\n\\q\\x4") ∷ [])
unfolding template_parts bad_piece bad_template_place pieces string_of bad_string_place reading bad_place encode
text_of_escapes = refl
