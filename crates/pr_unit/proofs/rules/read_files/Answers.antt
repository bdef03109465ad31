use Rattle.std.proofs.Common.{◌≡◌, ◌∷◌, subst}
use Rattle.pr_unit.specs.private.Loaded.{AreShort}
use Rattle.pr_unit.proofs.Lists.{none_of}
use Rattle.pr_unit.proofs.Loading.{begins_reading, ends_reading, next_read}
use Rattle.pr_unit.proofs.rules.read_files.Goals as goal

pub files-init : goal.files-init
files-init c = record { short = c.requires; read = begins_reading c.args.files.now c.new-rules.result.items c.new-rules.ensures.items }

pub files-preserved : goal.files-preserved
files-preserved c =
    let parts : c.files.rest.now ≡ c.in-Some.file.now ∷ c.in-Some.after.now = c.in-Some.ensures.cases.0 in
    let short : AreShort (c.in-Some.file.now ∷ c.in-Some.after.now) = subst AreShort parts c.files.invariant.short in
    record {
      short = short.1;
      read = next_read c.args.files.now c.files.rest.now c.in-Some.after.now c.in-Some.file.now c.in_ok-read_file.field-0 c.files.rules.items c.push.new.self.items parts c.in_ok-push.ensures.items c.in_ok-read_file.ensures c.files.invariant.read;
    }

pub returns : goal.returns
returns c = ends_reading c.args.files.now c.files.rest.now c.files.rules.items (none_of c.files.rest.now c.in_default.ensures.cases) c.files.invariant.read
