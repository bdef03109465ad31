use Rattle.std.proofs.Common.{refl}
use Rattle.pr_words.specs.Lines.{text_lines}
use Rattle.pr_yaml.specs.Bytes.{has_no_text, blanks_len, spaces_len, is_bare, is_spaces, has_tab, ends_word, is_flow_sign, is_comment}
use Rattle.pr_yaml.specs.Lines.{end_line, is_alone, is_sign_by, document_sign, is_sign, folded_break}
use Rattle.pr_yaml.specs.Plain.{stops, plain_len, plain_part, plain_ending, begins_with_flow_sign, is_kept_out, goes_on, plain_below}
use Rattle.pr_yaml.specs.Quoted.{quote_byte, is_backslash, named_byte, digits_after, hex_digit, number_step, byte_step, quoted_line, quoted_break, cut_fault, quoted_below}
use Rattle.pr_yaml.specs.Block.{chomp_of, after_chomp, header_fault, indentation, belongs, row_of, row_break, last_feeds, chomped, block_lines}
use Rattle.pr_yaml.specs.Tokens.{takes, takes_text, plain_by, colon_next, closed_by, quoted_by, quoted_at, block_by_header, mark_of, word_mark_of, sign_mark_of, form_of, token_at, token_in, after_blanks, by_sign, sign_of, part_at}
use Rattle.pr_yaml.proofs.yaml_scan.examples.plain_texts_are_folded.Goals as goal

pub returns-clause-folded : goal.returns-clause-folded
unfolding has_no_text blanks_len spaces_len is_bare is_spaces has_tab ends_word is_flow_sign is_comment text_lines end_line is_alone is_sign_by document_sign is_sign folded_break stops plain_len plain_part plain_ending begins_with_flow_sign is_kept_out goes_on plain_below quote_byte is_backslash named_byte digits_after hex_digit number_step byte_step quoted_line quoted_break cut_fault quoted_below chomp_of after_chomp header_fault indentation belongs row_of row_break last_feeds chomped block_lines takes takes_text plain_by colon_next closed_by quoted_by quoted_at block_by_header mark_of word_mark_of sign_mark_of form_of token_at token_in after_blanks by_sign sign_of part_at
returns-clause-folded c = refl

pub returns-clause-number_sign : goal.returns-clause-number_sign
unfolding has_no_text blanks_len spaces_len is_bare is_spaces has_tab ends_word is_flow_sign is_comment text_lines end_line is_alone is_sign_by document_sign is_sign folded_break stops plain_len plain_part plain_ending begins_with_flow_sign is_kept_out goes_on plain_below quote_byte is_backslash named_byte digits_after hex_digit number_step byte_step quoted_line quoted_break cut_fault quoted_below chomp_of after_chomp header_fault indentation belongs row_of row_break last_feeds chomped block_lines takes takes_text plain_by colon_next closed_by quoted_by quoted_at block_by_header mark_of word_mark_of sign_mark_of form_of token_at token_in after_blanks by_sign sign_of part_at
returns-clause-number_sign c = refl

pub returns-clause-after_comment : goal.returns-clause-after_comment
unfolding has_no_text blanks_len spaces_len is_bare is_spaces has_tab ends_word is_flow_sign is_comment text_lines end_line is_alone is_sign_by document_sign is_sign folded_break stops plain_len plain_part plain_ending begins_with_flow_sign is_kept_out goes_on plain_below quote_byte is_backslash named_byte digits_after hex_digit number_step byte_step quoted_line quoted_break cut_fault quoted_below chomp_of after_chomp header_fault indentation belongs row_of row_break last_feeds chomped block_lines takes takes_text plain_by colon_next closed_by quoted_by quoted_at block_by_header mark_of word_mark_of sign_mark_of form_of token_at token_in after_blanks by_sign sign_of part_at
returns-clause-after_comment c = refl

pub returns-clause-second_colon : goal.returns-clause-second_colon
unfolding has_no_text blanks_len spaces_len is_bare is_spaces has_tab ends_word is_flow_sign is_comment text_lines end_line is_alone is_sign_by document_sign is_sign folded_break stops plain_len plain_part plain_ending begins_with_flow_sign is_kept_out goes_on plain_below quote_byte is_backslash named_byte digits_after hex_digit number_step byte_step quoted_line quoted_break cut_fault quoted_below chomp_of after_chomp header_fault indentation belongs row_of row_break last_feeds chomped block_lines takes takes_text plain_by colon_next closed_by quoted_by quoted_at block_by_header mark_of word_mark_of sign_mark_of form_of token_at token_in after_blanks by_sign sign_of part_at
returns-clause-second_colon c = refl
