use Rattle.std.proofs.Common.{◌≡◌, ◌∙◌, Bool, false, Ok, Err, string_bytes, refl}
use Rattle.pr_outside.specs.Ends.{no_row}
use Rattle.pr_outside.specs.Outside.{Outside}
use Rattle.pr_outside.proofs.Ended.{ends_on, in_time_same}
use Rattle.pr_outside.proofs.Walks.{asked_on}
use Rattle.pr_checks.specs.declared.rules.RuleText.{RuleText}
use Rattle.pr_checks.proofs.OneFile.{one_asked, one_refused, one_text, one_told}
use Rattle.pr_checks.proofs.rules.RuleFilesFileCheck.check.Goals as goal

pub returns-in_err-load_each-clause-asked : goal.returns-in_err-load_each-clause-asked
returns-in_err-load_each-clause-asked g c =
    let files = g.F.Files.means in
    λ held told.
    let name = c.args.name.now in
    let names = c.from_ref.result.now in
    let before : RuleText = record { text = c.new-2.result; refused = false } in
    let one = c.from_ref.ensures.value in
    let e = c.in_err-load_each.field-0.0 in
    asked_on Bool Unit (files c.args.files.now).calls (files c.load_each.new.files).calls 1 c.from_residual.result e c.from_residual.ensures.1
    (one_asked string_bytes Unit held name names before (files c.args.files.now).calls (files c.load_each.new.files).calls (Err e) one
    (c.in_err-load_each.ensures.asked held (one_told string_bytes held (files c.args.files.now).content name names before one told)))

pub returns-in_err-load_each-clause-ends : goal.returns-in_err-load_each-clause-ends
returns-in_err-load_each-clause-ends g c =
    let files = g.F.Files.means in
    λ others.
    let a : Outside = record others { files = files c.args.files.now } in
    ends_on Bool Unit no_row ⊥ a a (record others { files = files c.load_each.new.files }) c.from_residual.result c.in_err-load_each.field-0.0
    c.from_residual.ensures.1 (refl, refl, refl, refl) (in_time_same others.input.course) (λ e. e) (λ e. e) (c.in_err-load_each.ensures.ends others)

pub returns-clause-text : goal.returns-clause-text
returns-clause-text g c =
    let files = g.F.Files.means in
    λ held told.
    let name = c.args.name.now in
    let names = c.from_ref.result.now in
    let before : RuleText = record { text = c.new-2.result; refused = false } in
    let one = c.from_ref.ensures.value in
    let first : c.new-2.result ≡ c.args.text.now.items = let made = c.new-2.ensures in let moved = c.replace.ensures.value in cc in
    c.into_vec.ensures
    ∙ one_text string_bytes held name c.args.text.now.items names before c.load_each.new.taker one first
    (c.in_ok-load_each.ensures.made held (one_told string_bytes held (files c.args.files.now).content name names before one told))

pub returns-clause-refused : goal.returns-clause-refused
returns-clause-refused g c =
    let files = g.F.Files.means in
    λ held told.
    let name = c.args.name.now in
    let names = c.from_ref.result.now in
    let before : RuleText = record { text = c.new-2.result; refused = false } in
    let one = c.from_ref.ensures.value in
    one_refused string_bytes held name names before c.load_each.new.taker one
    (c.in_ok-load_each.ensures.made held (one_told string_bytes held (files c.args.files.now).content name names before one told))

pub returns-clause-asked : goal.returns-clause-asked
returns-clause-asked g c =
    let files = g.F.Files.means in
    λ held told.
    let name = c.args.name.now in
    let names = c.from_ref.result.now in
    let before : RuleText = record { text = c.new-2.result; refused = false } in
    let one = c.from_ref.ensures.value in
    one_asked string_bytes Unit held name names before (files c.args.files.now).calls (files c.load_each.new.files).calls (Ok c.in_ok-load_each.field-0) one
    (c.in_ok-load_each.ensures.asked held (one_told string_bytes held (files c.args.files.now).content name names before one told))

pub returns-clause-ends : goal.returns-clause-ends
returns-clause-ends g c =
    λ others.
    let ends = c.in_ok-load_each.ensures.ends others in
    record { cause = ends.cause; input = ends.input; files = ends.files; out = ends.out }
