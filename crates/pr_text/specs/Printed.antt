-- The printed lines of answers.
use Rattle.std.specs.Prelude.{ℕ, List, ◌++◌, length, codes, decimal, flat_map}
use Rattle.spec_world.specs.pr_num.declared.value.Num.{Num}
use Rattle.spec_world.specs.pr_num.declared.value.Point.{Point}
use Rattle.spec_world.specs.pr_num.Shown.{shown}
use Rattle.pr_words.specs.Quoted.{quoted_text}
use Rattle.spec_world.specs.pr_labels.declared.item.Item.{Item}
use Rattle.spec_world.specs.pr_labels.SeriesText.{series_text}
use Rattle.spec_world.specs.pr_parse.declared.query_kind.QueryKind.{QueryKind}
use Rattle.spec_world.specs.pr_expo.Words.{expo_word}
use Rattle.spec_world.specs.pr_parse.QueryKinds.{kind_text}
use Rattle.spec_world.specs.pr_rulefile.declared.fields.problem.ProblemKind.{ProblemKind}
use Rattle.spec_world.specs.pr_rulefile.Printed.{problem_text}
use Rattle.spec_world.specs.spec_history.Points.{shown_point}
use Rattle.pr_text.specs.Answers.{dropped_conflict, dropped_out_of_order, backwards_last, scraped_added, bad_scrape_line, not_later_last, reloaded_groups}
use Rattle.pr_text.specs.Evaluated.{alerts_text, evaluated_text}
use Rattle.spec_world.specs.declared.report.Report.{Report}
use Rattle.spec_world.specs.declared.report.Report.TheVariants.{Opened, Added, Same, OutOfOrder, Conflict, Scraped, BadScrape, Failed, Gone, Evaluated, NoGroup, NotLater, Reloaded, Missing, TooLarge, Refused, Restarted, Alerts, Scalar, Vector, QueryFault, QueryRefused, Backwards}
use Rattle.spec_world.specs.pr_expo.declared.expo_line.place.ExpoKind.{ExpoKind}
use Rattle.spec_world.specs.spec_meaning.declared.fault.FaultKind.{FaultKind}
use Rattle.pr_text.specs.Faults.{fault_text}
use Rattle.pr_text.specs.Values.{place_text}

abbrev pub opened_text : ℕ → List ℕ
opened_text rows = codes "opened " ++ decimal rows ++ codes "\n"

abbrev pub out_of_order_text : ℕ → List ℕ
out_of_order_text last = dropped_out_of_order ++ decimal last ++ codes "\n"

abbrev pub conflict_text : Point → List ℕ
conflict_text kept = dropped_conflict ++ shown_point kept ++ codes "\n"

-- how many markers were added, at the end of an answer about a target
abbrev pub stale_text : ℕ → List ℕ
stale_text stale = codes " stale " ++ decimal stale ++ codes "\n"

abbrev pub scraped_text : ℕ → ℕ → ℕ → List ℕ
scraped_text added dropped stale = scraped_added ++ decimal added ++ codes " dropped " ++ decimal dropped ++ stale_text stale

abbrev pub bad_scrape_text : ℕ → ExpoKind → ℕ → List ℕ
bad_scrape_text line kind stale = bad_scrape_line ++ decimal line ++ codes " " ++ expo_word kind ++ stale_text stale

abbrev pub failed_text : ℕ → List ℕ
failed_text stale = codes "failed" ++ stale_text stale

abbrev pub gone_text : ℕ → List ℕ
gone_text stale = codes "gone" ++ stale_text stale

-- a line for each element
abbrev pub item_text : Item Num → List ℕ
item_text i = codes "value " ++ series_text i.labels ++ codes " " ++ shown i.value ++ codes "\n"

abbrev pub vector_text : List (Item Num) → List ℕ
vector_text items = codes "vector " ++ decimal (length items) ++ codes "\n" ++ flat_map item_text items

abbrev pub backwards_text : ℕ → ℕ → List ℕ
backwards_text last given = backwards_last ++ decimal last ++ codes " given " ++ decimal given ++ codes "\n"

abbrev pub scalar_text : Num → List ℕ
scalar_text v = codes "scalar " ++ shown v ++ codes "\n"

abbrev pub query_fault_text : ℕ → FaultKind → List ℕ
query_fault_text place kind = codes "fault " ++ fault_text kind ++ place_text place

abbrev pub query_refused_text : ℕ → QueryKind → List ℕ
query_refused_text place kind = codes "refused " ++ kind_text kind ++ place_text place

abbrev pub no_group_text : List ℕ → List ℕ → List ℕ
no_group_text file group = codes "no group " ++ quoted_text file ++ codes " " ++ quoted_text group ++ codes "\n"

abbrev pub not_later_text : ℕ → List ℕ
not_later_text last = not_later_last ++ decimal last ++ codes "\n"

abbrev pub reloaded_text : ℕ → ℕ → ℕ → List ℕ
reloaded_text groups rules stale = reloaded_groups ++ decimal groups ++ codes " rules " ++ decimal rules ++ stale_text stale

-- a name is told as it stands
abbrev pub missing_text : List ℕ → List ℕ
missing_text file = codes "missing " ++ file ++ codes "\n"

abbrev pub too_large_text : List ℕ → List ℕ
too_large_text file = codes "too large " ++ file ++ codes "\n"

abbrev pub refused_text : List ℕ → ℕ → ProblemKind → List ℕ
refused_text name line kind = codes "refused " ++ name ++ codes " line " ++ decimal line ++ codes " " ++ problem_text kind ++ codes "\n"

abbrev pub restarted_text : ℕ → List ℕ
restarted_text rows = codes "restarted " ++ decimal rows ++ codes "\n"

-- what is written for a line that spells no order
abbrev pub bad_line_text : ℕ → List ℕ
bad_line_text n = codes "bad line " ++ decimal n ++ codes "\n"

-- what is written for a report
unfoldable pub shown_report : Report → List ℕ
shown_report (Opened rows) = opened_text rows
shown_report Added = codes "added\n"
shown_report Same = codes "same\n"
shown_report (OutOfOrder last) = out_of_order_text last
shown_report (Conflict kept) = conflict_text kept
shown_report (Scraped added dropped stale) = scraped_text added dropped stale
shown_report (BadScrape line kind stale) = bad_scrape_text line kind stale
shown_report (Failed stale) = failed_text stale
shown_report (Gone stale) = gone_text stale
shown_report (Evaluated group) = evaluated_text group
shown_report (NoGroup file group) = no_group_text file group
shown_report (NotLater last) = not_later_text last
shown_report (Reloaded groups rules stale) = reloaded_text groups rules stale
shown_report (Missing file) = missing_text file
shown_report (TooLarge file) = too_large_text file
shown_report (Refused name line kind) = refused_text name line kind
shown_report (Restarted rows) = restarted_text rows
shown_report (Alerts list) = alerts_text list
shown_report (Scalar value) = scalar_text value
shown_report (Vector items) = vector_text items
shown_report (QueryFault place kind) = query_fault_text place kind
shown_report (QueryRefused place kind) = query_refused_text place kind
shown_report (Backwards last given) = backwards_text last given
