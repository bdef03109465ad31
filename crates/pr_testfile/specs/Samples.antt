-- Samples that are expected.
use Rattle.std.specs.Prelude.{ℕ, Bool, List, [], codes, Option, unwrap_or}
use Rattle.std.specs.List.{filter_map}
use Rattle.std.specs.Option.{option_map}
use Rattle.std.specs.Ordering.{is_lt}
use Rattle.pr_num.specs.declared.value.Num.{Num}
use Rattle.pr_ast.specs.pr_labels.declared.item.Item.{Item}
use Rattle.pr_ast.specs.pr_labels.Order.{labels_cmp}
use Rattle.pr_yaml.specs.Tree.{Tree, EntryTree}
use Rattle.pr_rulefile.specs.declared.fields.problem.Problem.{Problem}
use Rattle.pr_rulefile.specs.Nodes.{fields_of, field}
use Rattle.pr_rulefile.specs.Maps.{required, map_problems}
use Rattle.pr_rulefile.specs.Order.{ordered}
use Rattle.pr_testfile.specs.declared.fields.SampleField.{SampleField}
use Rattle.pr_testfile.specs.declared.fields.SampleField.TheVariants.{Labels, Value}
use Rattle.pr_testfile.specs.Fields.{sample_field}
use Rattle.pr_testfile.specs.Scalars.{series_problems, number_problems, labels_under, number_under}

-- What is wrong with a sample: its value has to be there.
abbrev pub sample_missing : ℕ → List EntryTree → List Problem
sample_missing line es = required line (codes "value") (field (codes "value") es)

abbrev pub sample_value_problems : SampleField → Tree → List Problem
sample_value_problems Labels t = series_problems t
sample_value_problems Value t = number_problems t

abbrev pub sample_fields : List ℕ → Option (Tree → List Problem)
sample_fields key = option_map sample_value_problems (sample_field key)

abbrev pub sample_problems : Tree → List Problem
sample_problems = map_problems sample_missing sample_fields

-- A sample: without labels it has the empty set.
unfoldable pub sample_in : List EntryTree → Item Num
sample_in es = record {
  labels = unwrap_or (labels_under (field (codes "labels") es)) [];
  value = number_under (field (codes "value") es);
}

abbrev pub sample_of : Tree → Option (Item Num)
sample_of t = option_map sample_in (fields_of t)

-- samples in label order; those of equal labels in the order of the file
abbrev pub is_item_before : Item Num → Item Num → Bool
is_item_before a b = is_lt (labels_cmp a.labels b.labels)

unfoldable pub samples_of : List Tree → List (Item Num)
samples_of ts = ordered is_item_before (filter_map sample_of ts)
