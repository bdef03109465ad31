use Rattle.std.proofs.Common.{◌∙◌}
use Rattle.pr_outside.proofs.SeriesNumbers.{number_narrow, number_new}
use Rattle.pr_outside.proofs.packed_rows.series_texts.SeriesTexts.number.Goals as goal

pub returns-in-Some-clause-stands : goal.returns-in-Some-clause-stands
returns-in-Some-clause-stands c = rw (← c.self.view_is) (number_narrow _ c.self.inside.texts.keys c.get_index_of.result _ c.in_word.result c.get_index_of.ensures.index c.in-Some.is c.in_word.ensures)

pub returns-clause-stands : goal.returns-clause-stands
returns-clause-stands c = number_new _ _ c.self.inside.texts.keys _ _ c.in_default.ensures.found c.in_ok-copy.ensures c.in_ok-insert.ensures.keys (c.in_ok-number.ensures ∙ c.len.ensures.len)
