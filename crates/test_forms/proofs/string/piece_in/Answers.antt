use Rattle.test_forms.proofs.TextWays.{piece_escaped, piece_broken, piece_plain}
use Rattle.test_forms.proofs.string.piece_in.Goals as goal

pub returns-in-Some-any_in-clause-read : goal.returns-in-Some-any_in-clause-read
returns-in-Some-any_in-clause-read c = piece_escaped _ c.in-Some.escaped.now c.in-Some-any_in.rest.now c.in-Some-any_in.byte c.in-Some.ensures.read c.in-Some-any_in.ensures.read

pub returns-in-None-clause-read : goal.returns-in-None-clause-read
returns-in-None-clause-read c = piece_broken _ c.in-Some.escaped.now c.in-Some.ensures.read c.in-None.ensures.read

pub returns-clause-read : goal.returns-clause-read
returns-clause-read c = piece_plain _ c.plain_in.result c.in_default.ensures.read c.plain_in.ensures.read
