-- Small scrapes to try the definitions on.
use Rattle.std.specs.Prelude.{ℕ, ℤ, pos, List, [], ◌∷◌, codes, Some, None}
use Rattle.pr_num.specs.declared.value.Num.{Num}
use Rattle.pr_num.specs.declared.value.Num.TheVariants.{Finite}
use Rattle.pr_ast.specs.pr_labels.declared.pair.Pair.{Pair}
use Rattle.pr_ast.specs.pr_labels.LabelSet.{metric_label, named, pair_of}
use Rattle.spec_vectors.specs.spec_history.declared.entry.Entry.{Entry}
use Rattle.spec_vectors.specs.spec_history.Admission.{put_all}
use Rattle.spec_vectors.specs.spec_history.private.Examples.{job, number}
use Rattle.pr_expo.specs.declared.exposition.Line.{Line}
use Rattle.pr_expo.specs.declared.expo_line.place.ExpoKind.TheVariants.{BadLabels}
use Rattle.spec_world.specs.Scrapes.{Scrape, failed, scraped}

-- a sample without a time of its own, and one with
abbrev pub sample : List Pair → Num → Line
sample labels v = record { labels = labels; family = 0; value = Some v; time = None }

abbrev pub timed : List Pair → Num → ℤ → Line
timed labels v time = record { labels = labels; family = 0; value = Some v; time = Some time }

abbrev pub wide : List Pair → Line
wide labels = record { labels = labels; family = 0; value = None; time = None }

-- a metric of the job j
abbrev pub j : List Pair
j = job (codes "j")

abbrev pub of_j : List ℕ → List Pair
of_j name = pair_of metric_label name ∷ j

abbrev pub label : List ℕ → List Pair
label name = pair_of name (codes "v") ∷ []

abbrev pub two : List ℕ → List ℕ → List Pair
two a b = pair_of a (codes "v") ∷ pair_of b (codes "w") ∷ []

-- `m 1` and `n 1` are scraped; then a body is no exposition; then `m 3` and `n 3` are scraped
abbrev pub both : ℕ → List Line
both v = sample (named (codes "m")) (number v) ∷ sample (named (codes "n")) (number v) ∷ []

abbrev pub first : Scrape
first = scraped j 1000 [] (both 1) []

abbrev pub after_first : List Entry
after_first = put_all [] first.entries

abbrev pub second : Scrape
second = failed j 2000 first.tracked (Some (record { line = 2; kind = BadLabels })) after_first

abbrev pub after_second : List Entry
after_second = put_all after_first second.entries

abbrev pub third : Scrape
third = scraped j 3000 second.tracked (both 3) after_second

-- after the first, `m 2` alone is scraped
abbrev pub fewer : Scrape
fewer = scraped j 2000 first.tracked (sample (named (codes "m")) (number 2) ∷ []) after_first

-- the job g offers `a_bytes`, and `b` with a job of its own
abbrev pub of_g : Scrape
of_g = scraped (job (codes "g")) 1000 [] (sample (named (codes "a_bytes")) (number 18446744073709552000)
    ∷ sample (pair_of metric_label (codes "b") ∷ job (codes "x")) (Finite (pos 20541)) ∷ []) []
