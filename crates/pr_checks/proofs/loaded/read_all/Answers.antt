use Rattle.std.proofs.Common.{◌≡◌, ℕ, ◌∷◌, List, [], length, map, subst, arith}
use Rattle.std.specs.List.{AllByRecursion}
use Rattle.pr_checks.specs.declared.found.FoundFile.{FoundFile}
use Rattle.pr_checks.specs.private.RulesFound.{IsShortFile}
use Rattle.pr_checks.specs.private.RulesTaken.{AreKept}
use Rattle.pr_checks.proofs.RulesKept.{none_left}
use Rattle.pr_checks.proofs.RulesTaken.{reads_all, reads_one}
use Rattle.pr_checks.proofs.loaded.read_all.Goals as goal

pub take_found-requires : goal.take_found-requires
take_found-requires c = (subst (AllByRecursion IsShortFile) c.in-Some.ensures.steps.0 c.loop-found.invariant.short).0

pub loop-found-preserved : goal.loop-found-preserved
loop-found-preserved c =
    let old = c.loop-found.found-iterator.rest.items in
    let new = c.next.new.self.rest.items in
    let f = c.in-Some.found in
    let parts : old ≡ f ∷ new = c.in-Some.ensures.steps.0 in
    let names = map (λ (x : FoundFile). x.name) c.args.files.items in
    record {
      short = (subst (AllByRecursion IsShortFile) parts c.loop-found.invariant.short).1;
      read = reads_one c.loop-found.rules c.take_found.new.rules f old new c.args.files.items parts c.in_ok-take_found.ensures.taken c.loop-found.invariant.read;
      kept = c.in_ok-take_found.ensures.kept names (map (λ (x : FoundFile). x.name) new)
          (subst (λ (l : List FoundFile). AreKept names c.loop-found.rules.files (map (λ (x : FoundFile). x.name) l)) parts c.loop-found.invariant.kept);
    }

pub returns-clause-read : goal.returns-clause-read
returns-clause-read c =
    let rest = c.loop-found.found-iterator.rest.items in
    let some : length rest ≡ 0 = omega (arith, c.loop-found.found-iterator.rest.ok.0, c.in-None.ensures.steps.0) in
    reads_all c.loop-found.rules rest c.args.files.items (none_left rest some) c.loop-found.invariant.read

pub returns-clause-kept : goal.returns-clause-kept
returns-clause-kept c =
    let rest = c.loop-found.found-iterator.rest.items in
    let some : length rest ≡ 0 = omega (arith, c.loop-found.found-iterator.rest.ok.0, c.in-None.ensures.steps.0) in
    subst (λ (l : List FoundFile). AreKept (map (λ (x : FoundFile). x.name) c.args.files.items) c.loop-found.rules.files (map (λ (x : FoundFile). x.name) l)) (none_left rest some)
    c.loop-found.invariant.kept
