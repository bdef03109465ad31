use Rattle.std.proofs.Common.{◌∙◌, ap}
use Rattle.pr_yaml.specs.Bytes.{blanks_len}
use Rattle.pr_yaml.proofs.LegibleParts.{after_their_blanks}
use Rattle.pr_yaml.proofs.yaml_scan.reader.after_blanks.Goals as goal

pub token_in-requires-clause-legible : goal.token_in-requires-clause-legible
token_in-requires-clause-legible c = after_their_blanks c.blanks_len-blanks.result c.args.state.now.place c.along.result (c.blanks_len-blanks.ensures.value ∙ ap (λ q. blanks_len q.place.here) c.state.view_is) c.along.ensures c.requires
