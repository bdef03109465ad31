use Rattle.std.proofs.Common.{refl}
use Rattle.pr_words.specs.Lines.{text_lines}
use Rattle.pr_words.specs.pr_forms.Reading.{reading, bad_place}
use Rattle.pr_yaml.specs.Bytes.{has_no_text, blanks_len, spaces_len, is_bare, has_tab, ends_word, is_flow_sign, is_comment}
use Rattle.pr_yaml.specs.Lines.{end_line, is_alone, is_sign_by, document_sign, is_sign, folded_break}
use Rattle.pr_yaml.specs.Plain.{stops, plain_len, plain_part, plain_ending, begins_with_flow_sign, is_kept_out, goes_on, plain_below}
use Rattle.pr_yaml.specs.Quoted.{quote_byte, is_backslash, named_byte, digits_after, hex_digit, number_step, byte_step, quoted_line, quoted_break, cut_fault, quoted_below}
use Rattle.pr_yaml.specs.Block.{chomp_of, after_chomp, header_fault, indentation, belongs, row_of, row_break, last_feeds, chomped, block_lines}
use Rattle.pr_yaml.specs.Tokens.{takes, takes_text, plain_by, colon_next, closed_by, quoted_by, quoted_at, block_by_header, mark_of, word_mark_of, sign_mark_of, form_of, token_at, token_in, after_blanks, by_sign, sign_of, part_at}
use Rattle.pr_yaml.specs.Trees.{stop, tree_in}
use Rattle.pr_yaml.specs.Faults.{from_line, is_first_of_line, token_kind, may_begin, scan_kind_by, end_line_of}
use Rattle.pr_yaml.specs.Read.{read_tokens}
use Rattle.pr_yaml.proofs.examples.maps_and_lists_stand_at_their_columns.Goals as goal

pub returns-clause-list_under_key : goal.returns-clause-list_under_key
unfolding reading bad_place has_no_text blanks_len spaces_len is_bare has_tab ends_word is_flow_sign is_comment text_lines end_line is_alone is_sign_by document_sign is_sign folded_break stops plain_len plain_part plain_ending begins_with_flow_sign is_kept_out goes_on plain_below quote_byte is_backslash named_byte digits_after hex_digit number_step byte_step quoted_line quoted_break cut_fault quoted_below chomp_of after_chomp header_fault indentation belongs row_of row_break last_feeds chomped block_lines takes takes_text plain_by colon_next closed_by quoted_by quoted_at block_by_header mark_of word_mark_of sign_mark_of form_of token_at token_in after_blanks by_sign sign_of part_at stop tree_in from_line is_first_of_line token_kind may_begin scan_kind_by end_line_of read_tokens
returns-clause-list_under_key c = refl

pub returns-clause-less_deep : goal.returns-clause-less_deep
unfolding reading bad_place has_no_text blanks_len spaces_len is_bare has_tab ends_word is_flow_sign is_comment text_lines end_line is_alone is_sign_by document_sign is_sign folded_break stops plain_len plain_part plain_ending begins_with_flow_sign is_kept_out goes_on plain_below quote_byte is_backslash named_byte digits_after hex_digit number_step byte_step quoted_line quoted_break cut_fault quoted_below chomp_of after_chomp header_fault indentation belongs row_of row_break last_feeds chomped block_lines takes takes_text plain_by colon_next closed_by quoted_by quoted_at block_by_header mark_of word_mark_of sign_mark_of form_of token_at token_in after_blanks by_sign sign_of part_at stop tree_in from_line is_first_of_line token_kind may_begin scan_kind_by end_line_of read_tokens
returns-clause-less_deep c = refl

pub returns-clause-same_line : goal.returns-clause-same_line
unfolding reading bad_place has_no_text blanks_len spaces_len is_bare has_tab ends_word is_flow_sign is_comment text_lines end_line is_alone is_sign_by document_sign is_sign folded_break stops plain_len plain_part plain_ending begins_with_flow_sign is_kept_out goes_on plain_below quote_byte is_backslash named_byte digits_after hex_digit number_step byte_step quoted_line quoted_break cut_fault quoted_below chomp_of after_chomp header_fault indentation belongs row_of row_break last_feeds chomped block_lines takes takes_text plain_by colon_next closed_by quoted_by quoted_at block_by_header mark_of word_mark_of sign_mark_of form_of token_at token_in after_blanks by_sign sign_of part_at stop tree_in from_line is_first_of_line token_kind may_begin scan_kind_by end_line_of read_tokens
returns-clause-same_line c = refl

pub returns-clause-second_colon : goal.returns-clause-second_colon
unfolding reading bad_place has_no_text blanks_len spaces_len is_bare has_tab ends_word is_flow_sign is_comment text_lines end_line is_alone is_sign_by document_sign is_sign folded_break stops plain_len plain_part plain_ending begins_with_flow_sign is_kept_out goes_on plain_below quote_byte is_backslash named_byte digits_after hex_digit number_step byte_step quoted_line quoted_break cut_fault quoted_below chomp_of after_chomp header_fault indentation belongs row_of row_break last_feeds chomped block_lines takes takes_text plain_by colon_next closed_by quoted_by quoted_at block_by_header mark_of word_mark_of sign_mark_of form_of token_at token_in after_blanks by_sign sign_of part_at stop tree_in from_line is_first_of_line token_kind may_begin scan_kind_by end_line_of read_tokens
returns-clause-second_colon c = refl
