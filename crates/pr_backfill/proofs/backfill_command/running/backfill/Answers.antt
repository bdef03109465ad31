use Rattle.std.proofs.Common.{ℕ, map, string_bytes, sym, subst}
use Rattle.std.proofs.lemmas.List.{length-map}
use Rattle.pr_outside.specs.Outside.{Outside}
use Rattle.pr_outside.specs.Stores.{IsBadIn}
use Rattle.pr_checks.specs.RulesLoaded.{all_rules}
use Rattle.pr_backfill.specs.Means.{AsksFirst}
use Rattle.pr_backfill.proofs.Meaning.{fills_with}
use Rattle.pr_backfill.proofs.backfill_command.running.backfill.Goals as goal

pub returns-clause-means : goal.returns-clause-means
returns-clause-means g c = λ others.
    let files = g.F.Files.means in
    let keeper = g.K.Keeper.means in
    let out = g.O.Sink.means in
    let before : Outside = record others { files = files c.args.files.now; store = keeper c.args.keeper.now; out = out c.args.out.now } in
    let now : Outside = record others { files = files c.run.new.files; store = keeper c.run.new.keeper; out = out c.run.new.out } in
    record {
      ending = c.run.result;
      answer = c.status_of.ensures;
      ends = c.run.ensures.ends others;
      opens = c.run.ensures.opens;
      unopened = c.run.ensures.unopened;
      tells = c.run.ensures.tells;
      keeps = c.run.ensures.keeps;
      asked = subst (λ (n : ℕ). AsksFirst before.files.calls now.files.calls n c.run.result) (sym (length-map c.args.names.now string_bytes)) c.run.ensures.asked;
      unwritten = c.run.ensures.unwritten;
      row = c.run.ensures.bad;
      over = λ held told.
          let rules = all_rules held (map string_bytes c.args.names.now) in
          fills_with before now (IsBadIn now.store) c.status_of.result rules.wrong rules.files c.args.times c.run.result c.status_of.ensures (c.run.ensures.ends others)
          (c.run.ensures.over others held told);
    }
