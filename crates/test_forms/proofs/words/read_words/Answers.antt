use Rattle.std.proofs.Common.{rules, refl}
use Rattle.pr_forms.proofs.Public.{read_whole, only_value, not_whole, no_reading, rest_place, bad_place, left_short}
use Rattle.test_forms.specs.private.Glyphs.{glyph_of}
use Rattle.test_forms.specs.private.Words.{production, table, words, Words}
use Rattle.test_forms.specs.private.TextReader.{bytes_of}
use Rattle.test_forms.proofs.WordsTable.{known}
use Rattle.test_forms.proofs.words.read_words.Goals as goal

pub place_of-requires : goal.place_of-requires
place_of-requires c = left_short glyph_of production table known Words c.args.text.now c.in-Ok.left.now _ c.in-Ok.ensures refl

pub place_of-requires-in-Err-Bad : goal.place_of-requires-in-Err-Bad
place_of-requires-in-Err-Bad c = left_short glyph_of production table known Words _ c.in-Err-Bad.left.now _ (rw c.in-Err-Bad.field-0-is at c.in-Err-Bad.ensures) refl

pub returns-then-is_empty-clause-words : goal.returns-then-is_empty-clause-words
returns-then-is_empty-clause-words c = read_whole glyph_of production table known Words _ c.in-Ok.left.now (words (bytes_of c.in-Ok.list.items)) c.in-Ok.ensures (search rules)

pub returns-then-is_empty-clause-only : goal.returns-then-is_empty-clause-only
returns-then-is_empty-clause-only c = λ v d. only_value glyph_of production table known Words _ c.in-Ok.left.now (words (bytes_of c.in-Ok.list.items)) v c.in-Ok.ensures d

pub returns-else-is_empty-clause-only : goal.returns-else-is_empty-clause-only
returns-else-is_empty-clause-only c = λ v d. not_whole glyph_of production table known Words _ c.in-Ok.left.now (words (bytes_of c.in-Ok.list.items)) v c.is_empty.result c.in-Ok.ensures c.is_empty.ensures c.if-is_empty.false d

pub returns-else-is_empty-clause-fault : goal.returns-else-is_empty-clause-fault
returns-else-is_empty-clause-fault c = rw c.place_of.ensures (rest_place glyph_of production table known Words _ c.in-Ok.left.now (words (bytes_of c.in-Ok.list.items)) c.in-Ok.ensures)

pub returns-in-Err-Bad-clause-only : goal.returns-in-Err-Bad-clause-only
returns-in-Err-Bad-clause-only c = λ v d. no_reading glyph_of production table known Words _ c.in-Err-Bad.left.now v (rw c.in-Err-Bad.field-0-is at c.in-Err-Bad.ensures) d

pub returns-in-Err-Bad-clause-fault : goal.returns-in-Err-Bad-clause-fault
returns-in-Err-Bad-clause-fault c = rw c.place_of-in-Err-Bad.ensures (bad_place glyph_of production table known Words _ c.in-Err-Bad.left.now (rw c.in-Err-Bad.field-0-is at c.in-Err-Bad.ensures))
