use Rattle.std.proofs.Common.{◌∙◌, rules, sym, subst}
use Rattle.pr_slide.specs.private.Windows.{IsSlid, slid_spots}
use Rattle.pr_slide.proofs.node.Node.begin.Goals as goal

pub returns-in-Ok-clause-put : goal.returns-in-Ok-clause-put
returns-in-Ok-clause-put g c = λ e at first last other. record {
  window = c.ask-answer.new.self;
  slid = subst (λ w. IsSlid e.1 c.args.ask.now w c.ask-answer.new.self) (sym c.requires.unknown) (record {
    last = c.ask-answer.ensures.last other;
    passed = c.ask-answer.ensures.passed e at other;
    spots = c.ask-answer.ensures.spots e at first last other ∙ (λ i. slid_spots e.1 c.args.ask.now (c.new-window.ensures.passed i) (c.new-window.ensures.spots i));
    told = λ can before rising. c.ask-answer.ensures.told other can (c.new-window.ensures.told ∙ can) rising;
  });
  put = λ q. search rules;
}
