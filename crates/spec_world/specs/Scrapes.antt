-- What becomes of the samples that a target offers: a scrape, a failed scrape, and the end of a
-- target.
use Rattle.std.specs.Prelude.{ℕ, zero, suc, pos, negsuc, ℤ, ◌+◌, Bool, true, false, not, ◌&&◌, cond, nat_le, List, [], ◌∷◌, ◌++◌, length, map, filter, fold, count_by, codes, Option, Some, None, is_some, is_none, Result, Ok, Err}
use Rattle.std.specs.List.{filter_map, zip}
use Rattle.pr_num.specs.declared.value.Num.{Num}
use Rattle.pr_num.specs.declared.value.Point.TheVariants.{Value}
use Rattle.pr_num.specs.Arithmetic.{whole_of}
use Rattle.pr_ast.specs.pr_labels.declared.pair.Pair.{Pair}
use Rattle.pr_ast.specs.pr_labels.LabelSet.{metric_label, value_of}
use Rattle.pr_ast.specs.pr_labels.Edits.{set_label, union_labels, without_name}
use Rattle.pr_ast.specs.pr_labels.Rising.{is_among, with_labels}
use Rattle.spec_vectors.specs.spec_history.declared.append.Append.{Append}
use Rattle.spec_vectors.specs.spec_history.declared.entry.Entry.{Entry}
use Rattle.spec_vectors.specs.spec_history.Admission.{put_all}
pub use Rattle.spec_vectors.specs.spec_history.Puts.{added_count, admitted, admissions, is_added, is_shown, marker, markers, refused_count}
use Rattle.pr_expo.specs.declared.exposition.ExpoError.{ExpoError}
use Rattle.pr_expo.specs.declared.exposition.ExpoError.TheVariants.{Fault, Memory}
use Rattle.pr_expo.specs.declared.exposition.Exposition.{Exposition}
use Rattle.pr_expo.specs.declared.exposition.Line.{Line}
use Rattle.pr_expo.specs.Families.{exposition_of}
use Rattle.spec_world.specs.declared.scraped.BodyFault.{BodyFault}
use Rattle.spec_world.specs.declared.scraped.Offer.{Offer}
use Rattle.spec_world.specs.declared.scraped.Scraped.{Scraped}

-- Labels

abbrev pub has : List Pair → List ℕ → Bool
has labels name = is_some (value_of labels name)

abbrev pub exported : List ℕ → List ℕ
exported name = codes "exported_" ++ name

-- a name that neither label set has
abbrev pub is_free : List Pair → List Pair → List ℕ → Bool
is_free target labels name = not (has target name) && not (has labels name)

-- The name, or with `exported_` before it as often as it takes until it is free, at most so often.
-- Of more names than there are labels one is free.
abbrev pub free_within : List Pair → List Pair → ℕ → List ℕ → List ℕ
free_within target labels zero name = name
free_within target labels (suc n) name = cond (is_free target labels name) name (free_within target labels n (exported name))

abbrev pub free_name : List Pair → List Pair → List ℕ → List ℕ
free_name target labels name = free_within target labels (length target + length labels) (exported name)

-- The labels after one of them: where the target has its name it has a free one. Those before it
-- stand under their new names by then, the others under their old ones.
abbrev pub with_free_name : List Pair → List Pair → Pair → List Pair
with_free_name target labels p =
    cond (has target p.name) (set_label (without_name labels p.name) (free_name target labels p.name) p.value) labels

abbrev pub renamed : List Pair → List Pair → List Pair
renamed target labels = fold (with_free_name target) labels labels

-- The labels of a sample that a target offers: its own, of which those that the target has too are
-- renamed, in order of name, and the target's.
abbrev pub scraped_labels : List Pair → List Pair → List Pair
scraped_labels target labels = union_labels (renamed target labels) target

-- Samples

-- the time of a sample: the scrape's, or its own, where that is not negative and not above the
-- scrape's
abbrev pub sample_time : ℕ → Option ℤ → Option ℕ
sample_time now None = Some now
sample_time now (Some (pos time)) = cond (nat_le time now) (Some time) None
sample_time now (Some (negsuc below)) = None

abbrev pub offer_by : List Pair → Bool → Option ℕ → Option Num → Option Offer
offer_by labels is_timed (Some time) (Some v) = Some (record { entry = record { labels = labels; time = time; point = Value v }; is_timed = is_timed })
offer_by labels is_timed (Some time) None = None
offer_by labels is_timed None value = None

-- One whose time is not taken, or whose value is too wide, is not offered.
abbrev pub offer_of : List Pair → ℕ → Line → Option Offer
offer_of target now line = offer_by (scraped_labels target line.labels) (is_some line.time) (sample_time now line.time) line.value

abbrev pub offers : List Pair → ℕ → List Line → List Offer
offers target now lines = filter_map (offer_of target now) lines

abbrev pub offered_entries : List Offer → List Entry
offered_entries offered = map (λ o. o.entry) offered

-- Admission

-- the series of the samples without a time of their own that the history has then, and these in
-- label order, each once: a scrape leaves them tracked
abbrev pub is_tracked : Offer × Append → Bool
is_tracked p = not p.0.is_timed && is_shown p.1

abbrev pub kept_sets : List Entry → List Offer → List (List Pair)
kept_sets history offered = map (λ p. p.0.entry.labels) (filter is_tracked (zip offered (admissions history (offered_entries offered))))

abbrev pub tracked_after : List Entry → List Offer → List (List Pair)
tracked_after history offered = fold with_labels [] (kept_sets history offered)

-- how many samples are dropped: those that are not offered, and those that are refused
abbrev pub dropped_count : List Pair → ℕ → List Line → List Entry → ℕ
dropped_count target now lines history =
    count_by (λ line. is_none (offer_of target now line)) lines + refused_count history (offered_entries (offers target now lines))

-- What is said of the target

-- the target's labels with a metric's name
abbrev pub metric_of : List Pair → List ℕ → List Pair
metric_of target name = set_label target metric_label name

abbrev pub up_of : List Pair → List Pair
up_of target = metric_of target (codes "up")

abbrev pub sample_count_of : List Pair → List Pair
sample_count_of target = metric_of target (codes "scrape_samples_scraped")

abbrev pub reported : List Pair → ℕ → ℕ → Entry
reported labels now n = record { labels = labels; time = now; point = Value (whole_of (pos n)) }

-- whether the target answered, and with how many samples
abbrev pub about : List Pair → ℕ → ℕ → ℕ → List Entry
about target now up samples = reported (up_of target) now up ∷ reported (sample_count_of target) now samples ∷ []

-- Scrapes

-- what a scrape comes to: the entries that are put, in order, the series that are tracked after it,
-- and what is answered
pub record Scrape : Type 0 where
  pub entries : List Entry
  pub tracked : List (List Pair)
  pub answer : Scraped

-- the samples of a body come first, then the markers, then what is said of the target
abbrev pub scrape_entries : List Pair → ℕ → List (List Pair) → List Line → List Entry → List Entry
scrape_entries target now old lines history =
    offered_entries (offers target now lines)
    ++ (markers now old (tracked_after history (offers target now lines)) ++ about target now 1 (length lines))

-- a scrape whose body has these samples
abbrev pub scraped : List Pair → ℕ → List (List Pair) → List Line → List Entry → Scrape
scraped target now old lines history = record {
  entries = scrape_entries target now old lines history;
  tracked = tracked_after history (offers target now lines);
  answer = record {
    admitted = admitted history (scrape_entries target now old lines history);
    fault = None;
    added = added_count history (offered_entries (offers target now lines));
    dropped = dropped_count target now lines history;
    stale = added_count (put_all history (offered_entries (offers target now lines))) (markers now old (tracked_after history (offers target now lines)));
  };
}

-- All that was tracked goes stale, and no sample comes of a scrape that failed, be it for a body
-- that is no exposition.
abbrev pub failure_entries : List Pair → ℕ → List (List Pair) → List Entry
failure_entries target now old = map (marker now) old ++ about target now 0 0

abbrev pub failed : List Pair → ℕ → List (List Pair) → Option BodyFault → List Entry → Scrape
failed target now old fault history = record {
  entries = failure_entries target now old;
  tracked = [];
  answer = record {
    admitted = admitted history (failure_entries target now old);
    fault = fault;
    added = 0;
    dropped = 0;
    stale = added_count history (map (marker now) old);
  };
}

abbrev pub scraped_by : List Pair → ℕ → List (List Pair) → Result Exposition ExpoError → List Entry → Scrape
scraped_by target now old (Ok e) history = scraped target now old e.lines history
scraped_by target now old (Err (Fault line kind)) history = failed target now old (Some (record { line = line; kind = kind })) history
scraped_by target now old (Err Memory) history = failed target now old None history

-- A scrape of a target at a time, of which these series were tracked. Without a body it failed.
unfoldable pub scrape_of : List Pair → ℕ → List (List Pair) → Option (List ℕ) → List Entry → Scrape
scrape_of target now old (Some body) history = scraped_by target now old (exposition_of body) history
scrape_of target now old None history = failed target now old None history

-- The end of a target: all that was tracked goes stale, and what was said of the target.
abbrev pub end_entries : List Pair → ℕ → List (List Pair) → List Entry
end_entries target now old = map (marker now) (old ++ up_of target ∷ sample_count_of target ∷ [])

unfoldable pub gone_of : List Pair → ℕ → List (List Pair) → List Entry → Scrape
gone_of target now old history = record {
  entries = end_entries target now old;
  tracked = [];
  answer = record {
    admitted = admitted history (end_entries target now old);
    fault = None;
    added = 0;
    dropped = 0;
    stale = added_count history (end_entries target now old);
  };
}
