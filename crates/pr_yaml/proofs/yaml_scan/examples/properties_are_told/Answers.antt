use Rattle.std.proofs.Common.{refl}
use Rattle.pr_words.specs.Lines.{text_lines}
use Rattle.pr_yaml.specs.Bytes.{has_no_text, blanks_len, spaces_len, is_bare, is_spaces, has_tab, ends_word, is_flow_sign, is_comment}
use Rattle.pr_yaml.specs.Lines.{end_line, is_alone, is_sign_by, document_sign, is_sign, folded_break}
use Rattle.pr_yaml.specs.Plain.{stops, plain_len, plain_part, plain_ending, begins_with_flow_sign, is_kept_out, goes_on, plain_below}
use Rattle.pr_yaml.specs.Quoted.{quote_byte, is_backslash, named_byte, digits_after, hex_digit, number_step, byte_step, quoted_line, quoted_break, cut_fault, quoted_below}
use Rattle.pr_yaml.specs.Block.{chomp_of, after_chomp, header_fault, indentation, belongs, row_of, row_break, last_feeds, chomped, block_lines}
use Rattle.pr_yaml.specs.Tokens.{takes, takes_text, plain_by, colon_next, closed_by, quoted_by, quoted_at, block_by_header, mark_of, word_mark_of, sign_mark_of, form_of, token_at, token_in, after_blanks, by_sign, sign_of, part_at}
use Rattle.pr_yaml.proofs.yaml_scan.examples.properties_are_told.Goals as goal

pub returns-clause-anchor : goal.returns-clause-anchor
unfolding has_no_text blanks_len spaces_len is_bare is_spaces has_tab ends_word is_flow_sign is_comment text_lines end_line is_alone is_sign_by document_sign is_sign folded_break stops plain_len plain_part plain_ending begins_with_flow_sign is_kept_out goes_on plain_below quote_byte is_backslash named_byte digits_after hex_digit number_step byte_step quoted_line quoted_break cut_fault quoted_below chomp_of after_chomp header_fault indentation belongs row_of row_break last_feeds chomped block_lines takes takes_text plain_by colon_next closed_by quoted_by quoted_at block_by_header mark_of word_mark_of sign_mark_of form_of token_at token_in after_blanks by_sign sign_of part_at
returns-clause-anchor c = refl

pub returns-clause-alias : goal.returns-clause-alias
unfolding has_no_text blanks_len spaces_len is_bare is_spaces has_tab ends_word is_flow_sign is_comment text_lines end_line is_alone is_sign_by document_sign is_sign folded_break stops plain_len plain_part plain_ending begins_with_flow_sign is_kept_out goes_on plain_below quote_byte is_backslash named_byte digits_after hex_digit number_step byte_step quoted_line quoted_break cut_fault quoted_below chomp_of after_chomp header_fault indentation belongs row_of row_break last_feeds chomped block_lines takes takes_text plain_by colon_next closed_by quoted_by quoted_at block_by_header mark_of word_mark_of sign_mark_of form_of token_at token_in after_blanks by_sign sign_of part_at
returns-clause-alias c = refl

pub returns-clause-reserved : goal.returns-clause-reserved
unfolding has_no_text blanks_len spaces_len is_bare is_spaces has_tab ends_word is_flow_sign is_comment text_lines end_line is_alone is_sign_by document_sign is_sign folded_break stops plain_len plain_part plain_ending begins_with_flow_sign is_kept_out goes_on plain_below quote_byte is_backslash named_byte digits_after hex_digit number_step byte_step quoted_line quoted_break cut_fault quoted_below chomp_of after_chomp header_fault indentation belongs row_of row_break last_feeds chomped block_lines takes takes_text plain_by colon_next closed_by quoted_by quoted_at block_by_header mark_of word_mark_of sign_mark_of form_of token_at token_in after_blanks by_sign sign_of part_at
returns-clause-reserved c = refl

pub returns-clause-tag : goal.returns-clause-tag
unfolding has_no_text blanks_len spaces_len is_bare is_spaces has_tab ends_word is_flow_sign is_comment text_lines end_line is_alone is_sign_by document_sign is_sign folded_break stops plain_len plain_part plain_ending begins_with_flow_sign is_kept_out goes_on plain_below quote_byte is_backslash named_byte digits_after hex_digit number_step byte_step quoted_line quoted_break cut_fault quoted_below chomp_of after_chomp header_fault indentation belongs row_of row_break last_feeds chomped block_lines takes takes_text plain_by colon_next closed_by quoted_by quoted_at block_by_header mark_of word_mark_of sign_mark_of form_of token_at token_in after_blanks by_sign sign_of part_at
returns-clause-tag c = refl

pub returns-clause-complex_key : goal.returns-clause-complex_key
unfolding has_no_text blanks_len spaces_len is_bare is_spaces has_tab ends_word is_flow_sign is_comment text_lines end_line is_alone is_sign_by document_sign is_sign folded_break stops plain_len plain_part plain_ending begins_with_flow_sign is_kept_out goes_on plain_below quote_byte is_backslash named_byte digits_after hex_digit number_step byte_step quoted_line quoted_break cut_fault quoted_below chomp_of after_chomp header_fault indentation belongs row_of row_break last_feeds chomped block_lines takes takes_text plain_by colon_next closed_by quoted_by quoted_at block_by_header mark_of word_mark_of sign_mark_of form_of token_at token_in after_blanks by_sign sign_of part_at
returns-clause-complex_key c = refl

pub returns-clause-directive : goal.returns-clause-directive
unfolding has_no_text blanks_len spaces_len is_bare is_spaces has_tab ends_word is_flow_sign is_comment text_lines end_line is_alone is_sign_by document_sign is_sign folded_break stops plain_len plain_part plain_ending begins_with_flow_sign is_kept_out goes_on plain_below quote_byte is_backslash named_byte digits_after hex_digit number_step byte_step quoted_line quoted_break cut_fault quoted_below chomp_of after_chomp header_fault indentation belongs row_of row_break last_feeds chomped block_lines takes takes_text plain_by colon_next closed_by quoted_by quoted_at block_by_header mark_of word_mark_of sign_mark_of form_of token_at token_in after_blanks by_sign sign_of part_at
returns-clause-directive c = refl

pub returns-clause-no_sign : goal.returns-clause-no_sign
unfolding has_no_text blanks_len spaces_len is_bare is_spaces has_tab ends_word is_flow_sign is_comment text_lines end_line is_alone is_sign_by document_sign is_sign folded_break stops plain_len plain_part plain_ending begins_with_flow_sign is_kept_out goes_on plain_below quote_byte is_backslash named_byte digits_after hex_digit number_step byte_step quoted_line quoted_break cut_fault quoted_below chomp_of after_chomp header_fault indentation belongs row_of row_break last_feeds chomped block_lines takes takes_text plain_by colon_next closed_by quoted_by quoted_at block_by_header mark_of word_mark_of sign_mark_of form_of token_at token_in after_blanks by_sign sign_of part_at
returns-clause-no_sign c = refl
