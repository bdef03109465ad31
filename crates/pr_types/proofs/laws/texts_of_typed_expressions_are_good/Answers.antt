use Rattle.pr_types.proofs.Parts.{texts_of_replace, text_of_join, text_of_count}
use Rattle.pr_types.proofs.laws.texts_of_typed_expressions_are_good.Goals as goal

pub returns : goal.returns
returns c = record {
  replaced = texts_of_replace;
  joined = text_of_join;
  counted = text_of_count;
}
