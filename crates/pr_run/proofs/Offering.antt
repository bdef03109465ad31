-- The notices of rules, offered one rule after another.
use Rattle.std.proofs.Common.{◌≡◌, ℕ, suc, ◌+◌, ◌<◌, List, [], ◌∷◌, ◌++◌, length, drop, get_or, refl, sym, ap, ◌∙◌, subst, append_assoc, append-nil, arith}
use Rattle.std.proofs.Math.Seq.{drop-cons}
use Rattle.pr_queue.specs.spec_alerts.declared.sending.Sending.{Sending}
use Rattle.pr_queue.specs.spec_alerts.Receivers.{Receiver, after_offer}
use Rattle.pr_queue.proofs.AlertsOffers.{all_offered_on, none_offered}
use Rattle.pr_queue.specs.private.Queues.{ReceiverQueue}
use Rattle.pr_queue.specs.private.Standing.{StandsFor}
use Rattle.pr_text.specs.spec_rules.declared.report.RuleReport.{RuleReport}
use Rattle.pr_run.specs.Replies.{all_sent}

-- some notices were offered, and with those that are to come they are all
pub record HasOffered (before now : List ReceiverQueue) (rest all : List Sending) : Type 0 where
  pub done : List Sending
  pub whole : done ++ rest ≡ all
  pub stands : (rs : List Receiver) → StandsFor before rs → StandsFor now (after_offer done rs)

pub offers_begin : (queues : List ReceiverQueue) (all : List Sending) → HasOffered queues queues all all
offers_begin queues all = record {
  done = [];
  whole = refl;
  stands = λ rs s. subst (StandsFor queues) (sym (none_offered rs s.receivers)) s;
}

pub offers_on : (before mid now : List ReceiverQueue) (sent more rest all : List Sending) → rest ≡ sent ++ more → HasOffered before mid rest all
    → ((rs : List Receiver) → StandsFor mid rs → StandsFor now (after_offer sent rs)) → HasOffered before now more all
offers_on before mid now sent more rest all is h offered = record {
  done = h.done ++ sent;
  whole = append_assoc h.done sent more ∙ ap (λ (l : List Sending). h.done ++ l) (sym is) ∙ h.whole;
  stands = λ rs s. subst (StandsFor now) (all_offered_on h.done sent rs) (offered (after_offer h.done rs) (h.stands rs s));
}

-- what the next rule sent, and all that those behind it sent
pub sent_next : (rules : List RuleReport) (i : ℕ) (rule : RuleReport) (sent : List Sending) → i < length rules → rule ≡ get_or rules i rule → sent ≡ rule.sent
    → all_sent (drop i rules) ≡ sent ++ all_sent (drop (i + 1) rules)
sent_next rules i rule sent lt is same =
    let next : suc i ≡ i + 1 = omega arith in
    ap all_sent (drop-cons rules i rule lt ∙ ap (λ (x : RuleReport). x ∷ drop (suc i) rules) (sym is)) ∙ ap (λ (l : List Sending). l ++ all_sent (drop (suc i) rules)) (sym same)
    ∙ ap (λ (n : ℕ). sent ++ all_sent (drop n rules)) next

pub all_offered : (before now : List ReceiverQueue) (rest all : List Sending) → rest ≡ [] → HasOffered before now rest all → (rs : List Receiver) → StandsFor before rs
    → StandsFor now (after_offer all rs)
all_offered before now rest all none h rs s =
    subst (λ (l : List Sending). StandsFor now (after_offer l rs)) (sym (append-nil h.done) ∙ ap (λ (l : List Sending). h.done ++ l) (sym none) ∙ h.whole) (h.stands rs s)
