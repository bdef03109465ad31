use Rattle.pr_ast.proofs.WorkedTexts as example
use Rattle.pr_ast.proofs.lex.text_examples.texts_give_these_faults.Goals as goal

pub returns-clause-no_token : goal.returns-clause-no_token
returns-clause-no_token c = example.fault_no_token

pub returns-clause-half_sign : goal.returns-clause-half_sign
returns-clause-half_sign c = example.fault_half_sign

pub returns-clause-no_end : goal.returns-clause-no_end
returns-clause-no_end c = example.fault_no_end

pub returns-clause-line_feed : goal.returns-clause-line_feed
returns-clause-line_feed c = example.fault_line_feed

pub returns-clause-line_feed_after_backslash : goal.returns-clause-line_feed_after_backslash
returns-clause-line_feed_after_backslash c = example.fault_line_feed_after_backslash

pub returns-clause-no_escape : goal.returns-clause-no_escape
returns-clause-no_escape c = example.fault_no_escape

pub returns-clause-no_exponent : goal.returns-clause-no_exponent
returns-clause-no_exponent c = example.fault_no_exponent

pub returns-clause-point_alone : goal.returns-clause-point_alone
returns-clause-point_alone c = example.fault_point_alone

pub returns-clause-wide : goal.returns-clause-wide
returns-clause-wide c = example.fault_wide

pub returns-clause-no_unit : goal.returns-clause-no_unit
returns-clause-no_unit c = example.fault_no_unit

pub returns-clause-long : goal.returns-clause-long
returns-clause-long c = example.fault_long
