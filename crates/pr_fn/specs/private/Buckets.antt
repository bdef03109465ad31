-- What is kept of the buckets of histograms.
use Rattle.std.specs.Prelude.{List, [], ◌∷◌, ◌++◌, map, Option, Some, None, Result, Ok, Err}
use Rattle.pr_num.specs.declared.value.Num.{Num}
use Rattle.pr_num.specs.declared.value.TooWide.{TooWide}
use Rattle.pr_num.specs.Total.{Tally, joined, no_values, one_value, total_of, value_of}
use Rattle.pr_match.specs.pr_labels.declared.pair.Pair.{Pair}
use Rattle.pr_match.specs.pr_labels.declared.item.Item.{Item}
use Rattle.spec_vectors.specs.declared.bucket.Bucket.{Bucket}
use Rattle.spec_vectors.specs.declared.function_fault.FunctionFault.{FunctionFault}
use Rattle.spec_vectors.specs.Histogram.{bucket_of, histogram_value, next_bucket, next_element}

-- the buckets that some elements are
abbrev pub buckets_of : List (Item Num) → Option (List Bucket)
buckets_of [] = None
buckets_of (e ∷ es) = Some (map bucket_of (e ∷ es))

abbrev pub buckets_with : Option (List Bucket) → Bucket → List Bucket
buckets_with None b = b ∷ []
buckets_with (Some buckets) b = buckets ++ b ∷ []

-- what the counts of some buckets add up to
abbrev pub bound_in : Bucket → Num
bound_in b = b.bound

abbrev pub count_in : Bucket → Num
count_in b = b.count

abbrev pub tally_of : List Bucket → Option Tally
tally_of [] = None
tally_of (b ∷ bs) = Some (total_of (map count_in (b ∷ bs)))

abbrev pub tally_with : Option Tally → Num → Tally
tally_with None count = joined no_values (one_value count)
tally_with (Some tally) count = joined tally (one_value count)

-- the buckets of the entries of a map
abbrev pub counted_entries : List (Num × Tally) → Result (List Bucket) TooWide
counted_entries [] = Ok []
counted_entries (e ∷ es) = next_bucket e.0 (value_of e.1) (counted_entries es)

abbrev pub before_buckets : List Bucket → Result (List Bucket) TooWide → Result (List Bucket) TooWide
before_buckets front (Ok rest) = Ok (front ++ rest)
before_buckets front (Err e) = Err e

-- the elements of the entries of a map
abbrev pub valued_entries : Num → List (List Pair × List Bucket) → Result (List (Item Num)) FunctionFault
valued_entries phi [] = Ok []
valued_entries phi (e ∷ es) = next_element e.0 (histogram_value phi e.1) (valued_entries phi es)

abbrev pub before_elements : List (Item Num) → Result (List (Item Num)) FunctionFault → Result (List (Item Num)) FunctionFault
before_elements front (Ok rest) = Ok (front ++ rest)
before_elements front (Err e) = Err e
