use Rattle.std.proofs.Common.{refl}
use Rattle.pr_words.specs.Lines.{text_lines}
use Rattle.pr_yaml.specs.Bytes.{has_no_text, blanks_len, spaces_len, is_bare, is_spaces, has_tab, ends_word, is_flow_sign, is_comment}
use Rattle.pr_yaml.specs.Lines.{end_line, is_alone, is_sign_by, document_sign, is_sign, folded_break}
use Rattle.pr_yaml.specs.Plain.{stops, plain_len, plain_part, plain_ending, begins_with_flow_sign, is_kept_out, goes_on, plain_below}
use Rattle.pr_yaml.specs.Quoted.{quote_byte, is_backslash, named_byte, digits_after, hex_digit, number_step, byte_step, quoted_line, quoted_break, cut_fault, quoted_below}
use Rattle.pr_yaml.specs.Block.{chomp_of, after_chomp, header_fault, indentation, belongs, row_of, row_break, last_feeds, chomped, block_lines}
use Rattle.pr_yaml.specs.Tokens.{takes, takes_text, plain_by, colon_next, closed_by, quoted_by, quoted_at, block_by_header, mark_of, word_mark_of, sign_mark_of, form_of, token_at, token_in, after_blanks, by_sign, sign_of, part_at}
use Rattle.pr_yaml.proofs.yaml_scan.examples.keys_and_dashes_are_read.Goals as goal

pub returns-clause-blank_before_colon : goal.returns-clause-blank_before_colon
unfolding has_no_text blanks_len spaces_len is_bare is_spaces has_tab ends_word is_flow_sign is_comment text_lines end_line is_alone is_sign_by document_sign is_sign folded_break stops plain_len plain_part plain_ending begins_with_flow_sign is_kept_out goes_on plain_below quote_byte is_backslash named_byte digits_after hex_digit number_step byte_step quoted_line quoted_break cut_fault quoted_below chomp_of after_chomp header_fault indentation belongs row_of row_break last_feeds chomped block_lines takes takes_text plain_by colon_next closed_by quoted_by quoted_at block_by_header mark_of word_mark_of sign_mark_of form_of token_at token_in after_blanks by_sign sign_of part_at
returns-clause-blank_before_colon c = refl

pub returns-clause-quoted_key : goal.returns-clause-quoted_key
unfolding has_no_text blanks_len spaces_len is_bare is_spaces has_tab ends_word is_flow_sign is_comment text_lines end_line is_alone is_sign_by document_sign is_sign folded_break stops plain_len plain_part plain_ending begins_with_flow_sign is_kept_out goes_on plain_below quote_byte is_backslash named_byte digits_after hex_digit number_step byte_step quoted_line quoted_break cut_fault quoted_below chomp_of after_chomp header_fault indentation belongs row_of row_break last_feeds chomped block_lines takes takes_text plain_by colon_next closed_by quoted_by quoted_at block_by_header mark_of word_mark_of sign_mark_of form_of token_at token_in after_blanks by_sign sign_of part_at
returns-clause-quoted_key c = refl

pub returns-clause-dashes : goal.returns-clause-dashes
unfolding has_no_text blanks_len spaces_len is_bare is_spaces has_tab ends_word is_flow_sign is_comment text_lines end_line is_alone is_sign_by document_sign is_sign folded_break stops plain_len plain_part plain_ending begins_with_flow_sign is_kept_out goes_on plain_below quote_byte is_backslash named_byte digits_after hex_digit number_step byte_step quoted_line quoted_break cut_fault quoted_below chomp_of after_chomp header_fault indentation belongs row_of row_break last_feeds chomped block_lines takes takes_text plain_by colon_next closed_by quoted_by quoted_at block_by_header mark_of word_mark_of sign_mark_of form_of token_at token_in after_blanks by_sign sign_of part_at
returns-clause-dashes c = refl

pub returns-clause-returns : goal.returns-clause-returns
unfolding has_no_text blanks_len spaces_len is_bare is_spaces has_tab ends_word is_flow_sign is_comment text_lines end_line is_alone is_sign_by document_sign is_sign folded_break stops plain_len plain_part plain_ending begins_with_flow_sign is_kept_out goes_on plain_below quote_byte is_backslash named_byte digits_after hex_digit number_step byte_step quoted_line quoted_break cut_fault quoted_below chomp_of after_chomp header_fault indentation belongs row_of row_break last_feeds chomped block_lines takes takes_text plain_by colon_next closed_by quoted_by quoted_at block_by_header mark_of word_mark_of sign_mark_of form_of token_at token_in after_blanks by_sign sign_of part_at
returns-clause-returns c = refl

pub returns-clause-tab : goal.returns-clause-tab
unfolding has_no_text blanks_len spaces_len is_bare is_spaces has_tab ends_word is_flow_sign is_comment text_lines end_line is_alone is_sign_by document_sign is_sign folded_break stops plain_len plain_part plain_ending begins_with_flow_sign is_kept_out goes_on plain_below quote_byte is_backslash named_byte digits_after hex_digit number_step byte_step quoted_line quoted_break cut_fault quoted_below chomp_of after_chomp header_fault indentation belongs row_of row_break last_feeds chomped block_lines takes takes_text plain_by colon_next closed_by quoted_by quoted_at block_by_header mark_of word_mark_of sign_mark_of form_of token_at token_in after_blanks by_sign sign_of part_at
returns-clause-tab c = refl
