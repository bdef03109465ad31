use Rattle.pr_tmpl.proofs.Expanded as example
use Rattle.pr_tmpl.proofs.examples.small_templates_expand_so.Goals as goal

pub returns-clause-words : goal.returns-clause-words
returns-clause-words c = example.words

pub returns-clause-nothing : goal.returns-clause-nothing
returns-clause-nothing c = example.nothing

pub returns-clause-value : goal.returns-clause-value
returns-clause-value c = example.value

pub returns-clause-pipe : goal.returns-clause-pipe
returns-clause-pipe c = example.pipe

pub returns-clause-first_call : goal.returns-clause-first_call
returns-clause-first_call c = example.first_call

pub returns-clause-address : goal.returns-clause-address
returns-clause-address c = example.address

pub returns-clause-external : goal.returns-clause-external
returns-clause-external c = example.external

pub returns-clause-format : goal.returns-clause-format
returns-clause-format c = example.format

pub returns-clause-cut_word : goal.returns-clause-cut_word
returns-clause-cut_word c = example.cut_word

pub returns-clause-long_word : goal.returns-clause-long_word
returns-clause-long_word c = example.long_word

pub returns-clause-one_brace : goal.returns-clause-one_brace
returns-clause-one_brace c = example.one_brace

pub returns-clause-no_call : goal.returns-clause-no_call
returns-clause-no_call c = example.no_call

pub returns-clause-alone : goal.returns-clause-alone
returns-clause-alone c = example.alone

pub returns-clause-trim : goal.returns-clause-trim
returns-clause-trim c = example.trim

pub returns-clause-control : goal.returns-clause-control
returns-clause-control c = example.control

pub returns-clause-no_blank : goal.returns-clause-no_blank
returns-clause-no_blank c = example.no_blank

pub returns-clause-expanded : goal.returns-clause-expanded
returns-clause-expanded c = example.expanded

pub returns-clause-of_a_text : goal.returns-clause-of_a_text
returns-clause-of_a_text c = example.of_a_text

pub returns-clause-not_a_number : goal.returns-clause-not_a_number
returns-clause-not_a_number c = example.not_a_number

pub returns-clause-calls : goal.returns-clause-calls
returns-clause-calls c = example.calls

pub returns-clause-two_blanks : goal.returns-clause-two_blanks
returns-clause-two_blanks c = example.two_blanks

pub returns-clause-percents : goal.returns-clause-percents
returns-clause-percents c = example.percents

pub returns-clause-written_otherwise : goal.returns-clause-written_otherwise
returns-clause-written_otherwise c = example.written_otherwise

pub returns-clause-cut_escape : goal.returns-clause-cut_escape
returns-clause-cut_escape c = example.cut_escape

pub returns-clause-other_verb : goal.returns-clause-other_verb
returns-clause-other_verb c = example.other_verb

pub returns-clause-two_verbs : goal.returns-clause-two_verbs
returns-clause-two_verbs c = example.two_verbs

pub returns-clause-bad_escape : goal.returns-clause-bad_escape
returns-clause-bad_escape c = example.bad_escape

pub returns-clause-no_verb : goal.returns-clause-no_verb
returns-clause-no_verb c = example.no_verb

pub returns-clause-not_ascii : goal.returns-clause-not_ascii
returns-clause-not_ascii c = example.not_ascii

pub returns-clause-text_of_escapes : goal.returns-clause-text_of_escapes
returns-clause-text_of_escapes c = example.text_of_escapes
