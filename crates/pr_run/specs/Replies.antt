-- What orders come to for the receivers of notices, and what is answered to those that leave the world
-- as it is.
use Rattle.std.specs.Prelude.{ℕ, Bool, true, false, not, List, [], flat_map, is_some}
use Rattle.pr_queue.specs.spec_alerts.declared.sending.Sending.{Sending}
use Rattle.pr_queue.specs.spec_alerts.Receivers.{Receiver, after_add, after_flush, after_offer, batch_of, joins}
use Rattle.pr_queue.specs.spec_alerts.declared.notices.joined.Joined.{Joined}
use Rattle.pr_queue.specs.spec_alerts.declared.notices.joined.Joined.TheVariants as joined
use Rattle.pr_text.specs.spec_rules.declared.report.RuleReport.{RuleReport}
use Rattle.pr_text.specs.Notices.{flush_text, joined_text}
use Rattle.pr_text.specs.Printed.{bad_line_text}
use Rattle.pr_text.specs.spec_world.declared.report.Report.{Report}
use Rattle.pr_text.specs.spec_world.declared.report.Report.TheVariants.{Opened, Added, Same, OutOfOrder, Conflict, Scraped, BadScrape, Failed, Gone, Evaluated, NoGroup, NotLater, Reloaded, Missing, TooLarge, Refused, Restarted, Alerts, Scalar, Vector, QueryFault, QueryRefused, Backwards}

-- all notices that an evaluation sends, rule by rule
abbrev pub all_sent : List RuleReport → List Sending
all_sent rules = flat_map (λ (r : RuleReport). r.sent) rules

-- An evaluation offers all that it sends to the receivers, and a run that begins anew has none. No
-- other report is about them.
abbrev pub receivers_after : Report → List Receiver → List Receiver
receivers_after (Opened rows) rs = rs
receivers_after Added rs = rs
receivers_after Same rs = rs
receivers_after (OutOfOrder last) rs = rs
receivers_after (Conflict kept) rs = rs
receivers_after (Scraped added dropped stale) rs = rs
receivers_after (BadScrape line kind stale) rs = rs
receivers_after (Failed stale) rs = rs
receivers_after (Gone stale) rs = rs
receivers_after (Evaluated group) rs = after_offer (all_sent group.rules) rs
receivers_after (NoGroup file group) rs = rs
receivers_after (NotLater last) rs = rs
receivers_after (Reloaded groups rules stale) rs = rs
receivers_after (Missing file) rs = rs
receivers_after (TooLarge file) rs = rs
receivers_after (Refused name line kind) rs = rs
receivers_after (Restarted rows) rs = []
receivers_after (Alerts list) rs = rs
receivers_after (Scalar value) rs = rs
receivers_after (Vector items) rs = rs
receivers_after (QueryFault place kind) rs = rs
receivers_after (QueryRefused place kind) rs = rs
receivers_after (Backwards last given) rs = rs

-- what is answered to an order that leaves the world as it is: its text, whether it is refused, and the
-- receivers after it
pub record Reply : Type 0 where
  pub text : List ℕ
  pub refused : Bool
  pub receivers : List Receiver

-- a name that is known, or for which there is no room, is refused
abbrev pub is_not_new : Joined → Bool
is_not_new joined.New = false
is_not_new joined.Known = true
is_not_new joined.Full = true

abbrev pub receiver_reply : List ℕ → List Receiver → Reply
receiver_reply name rs = record { text = joined_text name (joins name rs); refused = is_not_new (joins name rs); receivers = after_add name rs }

-- a name that no receiver has is refused
abbrev pub flush_reply : List ℕ → List Receiver → Reply
flush_reply name rs = record { text = flush_text name (batch_of name rs); refused = not (is_some (batch_of name rs)); receivers = after_flush name rs }

-- what spells no order is refused with the number of its line, and changes nothing
abbrev pub bad_line_reply : ℕ → List Receiver → Reply
bad_line_reply number rs = record { text = bad_line_text number; refused = true; receivers = rs }
