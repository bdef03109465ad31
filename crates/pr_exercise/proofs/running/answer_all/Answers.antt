use Rattle.std.proofs.Common.{◌∷◌, ◌∙◌, ℕ, ◌+◌, ◌-◌, ◌*◌, ◌^◌, ◌≤◌, [], ◌++◌, length, Ok, Err, refl, sym, ap, subst, arith}
use Rattle.pr_outside.proofs.Ended.{quiet}
use Rattle.pr_text.specs.spec_world.private.Laws.{HasDistinctFiles}
use Rattle.pr_text.specs.spec_world.World.{start}
use Rattle.pr_exercise.specs.Exercise.{exercise_events, turns_from}
use Rattle.pr_exercise.specs.private.Turns.{AreWithin, HaveDistinctFiles}
use Rattle.pr_exercise.proofs.Ended.{calm_keep, keep_done, keep_memory, keep_on}
use Rattle.pr_exercise.proofs.Progress.{answered_all, answered_halts, answered_on, answered_stays, come_halts, counted_in, counts_err, halts_as, halts_at, halts_more, stands_first}
use Rattle.pr_exercise.proofs.Turns.{counts_many, few_events, first_is, no_rounds, one_file, round_files, round_is, rounds_behind}
use Rattle.pr_exercise.proofs.Tallies.{texts_less}
use Rattle.pr_exercise.proofs.Telling.{keeps_any, keeps_error, keeps_none, keeps_on}
use Rattle.pr_exercise.proofs.running.answer_all.Goals as goal

pub take-requires-clause-files : goal.take-requires-clause-files
take-requires-clause-files g c = subst HasDistinctFiles (sym c.in_ok-first_reload.ensures) (one_file 0)

pub take-requires-clause-going : goal.take-requires-clause-going
take-requires-clause-going g c = subst g.E.Worlds.is_going (sym c.in_ok-session.ensures.kept) c.requires

pub take-requires-clause-room : goal.take-requires-clause-room
take-requires-clause-room g c = texts_less c.in_ok-session.session.tally 1 (2 ^ 64) (omega arith) c.in_ok-session.ensures.room

pub take_all-requires-clause-files : goal.take_all-requires-clause-files
take_all-requires-clause-files g c =
    let at = c.loop-round in
    subst HaveDistinctFiles (sym c.in_ok-events.ensures.events) (round_files at.round at.targets.number at.targets.counts.items)

pub take_all-requires-clause-room : goal.take_all-requires-clause-room
take_all-requires-clause-room g c =
    let at = c.loop-round in
    let made = c.in_ok-events.ensures in
    let many = length c.in_ok-events.events.items in
    let few : many ≤ 7 = omega (arith, ap length made.events, few_events at.round at.targets.number at.targets.counts.items at.invariant.four) in
    texts_less at.session.tally many (7 * (c.args.rounds - at.round)) (omega (arith, few, c.loop-round-test.true, c.get-round-end.ensures.value)) at.invariant.room

-- nothing is answered yet

pub returns-in_err-session-clause-counts : goal.returns-in_err-session-clause-counts
returns-in_err-session-clause-counts g c = λ history s count some.
    let store = g.K.Keeper.means c.args.keeper.now in
    counts_err history (exercise_events c.args.rounds) store c.from_residual.result _ c.from_residual.ensures.1
    (halts_at history [] (exercise_events c.args.rounds) store (g.met.E.Worlds.tells c.args.kept store (start history) s))

pub returns-in_err-first_reload-clause-counts : goal.returns-in_err-first_reload-clause-counts
returns-in_err-first_reload-clause-counts g c = λ history s count some.
    let store = g.K.Keeper.means c.args.keeper.now in
    counts_err history (exercise_events c.args.rounds) store c.from_residual-in_err-first_reload.result _ c.from_residual-in_err-first_reload.ensures.1
    (halts_at history [] (exercise_events c.args.rounds) store (g.met.E.Worlds.tells c.args.kept store (start history) s))

-- the first reload could not be answered

pub returns-in_err-take-clause-counts : goal.returns-in_err-take-clause-counts
returns-in_err-take-clause-counts g c = λ history s count some.
    let store = g.K.Keeper.means in
    let now = store c.take.new.keeper in
    let n : ℕ = c.args.rounds in
    let e = c.in_ok-first_reload.field-0 in
    let rest = turns_from 0 n n (0 ∷ 0 ∷ 0 ∷ 0 ∷ []) in
    let first = stands_first g.E.Worlds.stands_for history c.in_ok-session.session (store c.args.keeper.now) c.size.result (c.size.ensures.count ∙ count)
    (subst (λ (k : _). g.E.Worlds.stands_for k (store c.args.keeper.now) (start history)) (sym c.in_ok-session.ensures.kept) s) c.in_ok-session.ensures.tally in
    counts_err history (exercise_events n) now c.from_residual-in_err-take.result _ c.from_residual-in_err-take.ensures.1
    (halts_as history ((e ∷ []) ++ rest) (exercise_events n) now (rounds_behind n e c.in_ok-first_reload.ensures)
    (halts_more history (e ∷ []) rest now
    (come_halts g.E.Worlds.stands_for history Unit (e ∷ []) c.take.new.self now c.in_err-take.field-0.0 (c.in_err-take.ensures.comes history [] first some))))

-- it was answered

pub returns-in_err-targets-clause-counts : goal.returns-in_err-targets-clause-counts
returns-in_err-targets-clause-counts g c = λ history s count some.
    let store = g.K.Keeper.means in
    let now = store c.take.new.keeper in
    let n : ℕ = c.args.rounds in
    let e = c.in_ok-first_reload.field-0 in
    let first = stands_first g.E.Worlds.stands_for history c.in_ok-session.session (store c.args.keeper.now) c.size.result (c.size.ensures.count ∙ count)
    (subst (λ (k : _). g.E.Worlds.stands_for k (store c.args.keeper.now) (start history)) (sym c.in_ok-session.ensures.kept) s) c.in_ok-session.ensures.tally in
    counts_err history (exercise_events n) now c.from_residual-in_err-targets.result _ c.from_residual-in_err-targets.ensures.1
    (answered_stays g.E.Worlds.stands_for history [] (exercise_events n) (turns_from 0 n n (0 ∷ 0 ∷ 0 ∷ 0 ∷ [])) c.take.new.self now (g.met.E.Worlds.tells c.take.new.self.kept now)
    (record { some = e ∷ []; split = rounds_behind n e c.in_ok-first_reload.ensures; stands = c.in_ok-take.ensures.comes history [] first some }))

pub loop-round-init : goal.loop-round-init
loop-round-init g c =
    let store = g.K.Keeper.means in
    let n : ℕ = c.args.rounds in
    let e = c.in_ok-first_reload.field-0 in
    let t = c.in_ok-targets.targets in
    record {
      going = λ history s count some.
          let first = stands_first g.E.Worlds.stands_for history c.in_ok-session.session (store c.args.keeper.now) c.size.result (c.size.ensures.count ∙ count)
          (subst (λ (k : _). g.E.Worlds.stands_for k (store c.args.keeper.now) (start history)) (sym c.in_ok-session.ensures.kept) s) c.in_ok-session.ensures.tally in
          record {
            some = e ∷ [];
            split = first_is n t.number t.counts.items e c.in_ok-first_reload.ensures (c.in_ok-targets.ensures.number ∙ c.get.ensures.value) c.in_ok-targets.ensures.counts;
            stands = c.in_ok-take.ensures.comes history [] first some;
          };
      small = subst (AreWithin 0) (sym c.in_ok-targets.ensures.counts) (omega arith, (omega arith, (omega arith, (omega arith, tt))));
      four = omega (arith, ap length c.in_ok-targets.ensures.counts);
      unbroken = c.in_ok-take.ensures.going;
      room = c.in_ok-take.ensures.room (7 * (n - 0)) (texts_less c.in_ok-session.session.tally (7 * (n - 0) + 1) (2 ^ 64) (omega (arith, c.get.ensures.few)) c.in_ok-session.ensures.room);
      tells = c.in_ok-take.ensures.tells;
      told = c.in_ok-take.ensures.told;
      paths = c.in_ok-take.ensures.paths;
      calm = calm_keep Unit (store c.args.keeper.now) (store c.take.new.keeper) tt c.in_ok-take.ensures.ends quiet;
    }

pub loop-round-preserved : goal.loop-round-preserved
loop-round-preserved g c =
    let store = g.K.Keeper.means in
    let at = c.loop-round in
    let t = at.targets in
    let u = c.round.new.self in
    let made = c.in_ok-events.ensures in
    let es = c.in_ok-events.events.items in
    let n : ℕ = c.args.rounds in
    let few : length es ≤ 7 = omega (arith, ap length made.events, few_events at.round t.number t.counts.items at.invariant.four) in
    record {
      going = λ history s count some.
          let here = at.invariant.going history s count (c.in_ok-take_all.ensures.told some) in
          answered_on g.E.Worlds.stands_for history [] (exercise_events c.args.rounds) es (turns_from (at.round + 1) (c.args.rounds - (at.round + 1)) u.number u.counts.items)
          (turns_from at.round (c.args.rounds - at.round) t.number t.counts.items) at.session c.take_all.new.self (store at.keeper) (store c.take_all.new.keeper)
          (round_is at.round c.args.rounds t.number u.number t.counts.items u.counts.items es (omega (arith, c.loop-round-test.true, c.get-round-end.ensures.value)) made.events made.number made.counts) here
          (c.in_ok-take_all.ensures.comes history ([] ++ here.some) here.stands some);
      small = made.small;
      four = omega (arith, at.invariant.four, ap length made.counts, counts_many (30000 * at.round) 0 t.number t.counts.items);
      unbroken = c.in_ok-take_all.ensures.going;
      room = c.in_ok-take_all.ensures.room (7 * (n - (at.round + 1)))
          (texts_less at.session.tally (7 * (n - (at.round + 1)) + length es) (7 * (n - at.round)) (omega (arith, few, c.loop-round-test.true, c.get-round-end.ensures.value)) at.invariant.room);
      tells = keeps_on (store c.args.keeper.now) (store at.keeper) (store c.take_all.new.keeper) tt (Ok tt) at.invariant.tells c.in_ok-take_all.ensures.tells;
      told = λ some. at.invariant.told (c.in_ok-take_all.ensures.told some);
      paths = c.in_ok-take_all.ensures.paths ∙ at.invariant.paths;
      calm = calm_keep Unit (store at.keeper) (store c.take_all.new.keeper) tt c.in_ok-take_all.ensures.ends quiet ∙ at.invariant.calm;
    }

-- a round could not be made, or not be answered

pub returns-in_err-events-clause-counts : goal.returns-in_err-events-clause-counts
returns-in_err-events-clause-counts g c = λ history s count some.
    let at = c.loop-round in
    let now = g.K.Keeper.means at.keeper in
    counts_err history (exercise_events c.args.rounds) now c.from_residual-in_err-events.result _ c.from_residual-in_err-events.ensures.1
    (answered_stays g.E.Worlds.stands_for history [] (exercise_events c.args.rounds) (turns_from at.round (c.args.rounds - at.round) at.targets.number at.targets.counts.items) at.session now
    (g.met.E.Worlds.tells at.session.kept now) (at.invariant.going history s count some))

pub returns-in_err-take_all-clause-counts : goal.returns-in_err-take_all-clause-counts
returns-in_err-take_all-clause-counts g c = λ history s count some.
    let store = g.K.Keeper.means in
    let at = c.loop-round in
    let t = at.targets in
    let u = c.round.new.self in
    let made = c.in_ok-events.ensures in
    let es = c.in_ok-events.events.items in
    let now = store c.take_all.new.keeper in
    let here = at.invariant.going history s count (c.in_err-take_all.ensures.told some) in
    counts_err history (exercise_events c.args.rounds) now c.from_residual-in_err-take_all.result _ c.from_residual-in_err-take_all.ensures.1
    (answered_halts g.E.Worlds.stands_for history [] (exercise_events c.args.rounds) es (turns_from (at.round + 1) (c.args.rounds - (at.round + 1)) u.number u.counts.items)
    (turns_from at.round (c.args.rounds - at.round) t.number t.counts.items) at.session (store at.keeper) now
    (round_is at.round c.args.rounds t.number u.number t.counts.items u.counts.items es (omega (arith, c.loop-round-test.true, c.get-round-end.ensures.value)) made.events made.number made.counts) here
    (come_halts g.E.Worlds.stands_for history Unit (([] ++ here.some) ++ es) c.take_all.new.self now c.in_err-take_all.field-0.0
    (c.in_err-take_all.ensures.comes history ([] ++ here.some) here.stands some)))

-- all is answered

pub returns-clause-counts : goal.returns-clause-counts
returns-clause-counts g c = λ history s count some.
    let at = c.loop-round in
    let now = g.K.Keeper.means at.keeper in
    let n : ℕ = c.args.rounds in
    counted_in g.E.Worlds.stands_for history (exercise_events n) at.session now (g.met.E.Worlds.tells at.session.kept now)
    (answered_all g.E.Worlds.stands_for history [] (exercise_events n) (turns_from at.round (n - at.round) at.targets.number at.targets.counts.items) at.session now
    (no_rounds at.round n at.targets.number at.targets.counts.items (omega (arith, c.loop-round-test.false, c.get-round-end.ensures.value))) (at.invariant.going history s count some))

-- how it ends

pub returns-in_err-take-clause-ends : goal.returns-in_err-take-clause-ends
returns-in_err-take-clause-ends g c =
    let store = g.K.Keeper.means in
    keep_on _ _ (store c.args.keeper.now) (store c.args.keeper.now) (store c.take.new.keeper) c.from_residual-in_err-take.result c.in_err-take.field-0.0 c.from_residual-in_err-take.ensures.1 refl
    c.in_err-take.ensures.ends

pub returns-in_err-targets-clause-ends : goal.returns-in_err-targets-clause-ends
returns-in_err-targets-clause-ends g c =
    let store = g.K.Keeper.means in
    keep_memory _ (store c.args.keeper.now) (store c.take.new.keeper) c.from_residual-in_err-targets.result c.from_residual-in_err-targets.ensures.1
    (calm_keep Unit (store c.args.keeper.now) (store c.take.new.keeper) tt c.in_ok-take.ensures.ends quiet)

pub returns-in_err-events-clause-ends : goal.returns-in_err-events-clause-ends
returns-in_err-events-clause-ends g c =
    let store = g.K.Keeper.means in
    keep_memory _ (store c.args.keeper.now) (store c.loop-round.keeper) c.from_residual-in_err-events.result c.from_residual-in_err-events.ensures.1 c.loop-round.invariant.calm

pub returns-in_err-take_all-clause-ends : goal.returns-in_err-take_all-clause-ends
returns-in_err-take_all-clause-ends g c =
    let store = g.K.Keeper.means in
    keep_on _ _ (store c.args.keeper.now) (store c.loop-round.keeper) (store c.take_all.new.keeper) c.from_residual-in_err-take_all.result c.in_err-take_all.field-0.0
    c.from_residual-in_err-take_all.ensures.1 c.loop-round.invariant.calm c.in_err-take_all.ensures.ends

pub returns-clause-ends : goal.returns-clause-ends
returns-clause-ends g c =
    let store = g.K.Keeper.means in
    keep_done _ (store c.args.keeper.now) (store c.loop-round.keeper) _ c.loop-round.invariant.calm

-- what was told before

pub returns-in_err-events-clause-told : goal.returns-in_err-events-clause-told
returns-in_err-events-clause-told g c = c.loop-round.invariant.told

pub returns-in_err-take_all-clause-told : goal.returns-in_err-take_all-clause-told
returns-in_err-take_all-clause-told g c = λ some. c.loop-round.invariant.told (c.in_err-take_all.ensures.told some)

pub returns-clause-told : goal.returns-clause-told
returns-clause-told g c = c.loop-round.invariant.told

-- whether the rows are told

pub returns-in_err-session-clause-tells : goal.returns-in_err-session-clause-tells
returns-in_err-session-clause-tells g c =
    let store = g.K.Keeper.means c.args.keeper.now in
    keeps_any {V = Unit} store store tt c.from_residual.result (keeps_none store tt)

pub returns-in_err-first_reload-clause-tells : goal.returns-in_err-first_reload-clause-tells
returns-in_err-first_reload-clause-tells g c =
    let store = g.K.Keeper.means c.args.keeper.now in
    keeps_any {V = Unit} store store tt c.from_residual-in_err-first_reload.result (keeps_none store tt)

pub returns-in_err-take-clause-tells : goal.returns-in_err-take-clause-tells
returns-in_err-take-clause-tells g c =
    let store = g.K.Keeper.means in
    keeps_error _ Unit (store c.args.keeper.now) (store c.take.new.keeper) c.from_residual-in_err-take.result c.in_err-take.field-0.0 c.from_residual-in_err-take.ensures.1 c.in_err-take.ensures.tells

pub returns-in_err-targets-clause-tells : goal.returns-in_err-targets-clause-tells
returns-in_err-targets-clause-tells g c =
    let store = g.K.Keeper.means in
    keeps_any (store c.args.keeper.now) (store c.take.new.keeper) tt c.from_residual-in_err-targets.result c.in_ok-take.ensures.tells

pub returns-in_err-events-clause-tells : goal.returns-in_err-events-clause-tells
returns-in_err-events-clause-tells g c =
    let store = g.K.Keeper.means in
    keeps_any (store c.args.keeper.now) (store c.loop-round.keeper) tt c.from_residual-in_err-events.result c.loop-round.invariant.tells

pub returns-in_err-take_all-clause-tells : goal.returns-in_err-take_all-clause-tells
returns-in_err-take_all-clause-tells g c =
    let store = g.K.Keeper.means in
    let at = c.loop-round in
    let e = c.in_err-take_all.field-0.0 in
    keeps_error _ Unit (store c.args.keeper.now) (store c.take_all.new.keeper) c.from_residual-in_err-take_all.result e c.from_residual-in_err-take_all.ensures.1
    (keeps_on (store c.args.keeper.now) (store at.keeper) (store c.take_all.new.keeper) tt (Err e) at.invariant.tells c.in_err-take_all.ensures.tells)

pub returns-clause-tells : goal.returns-clause-tells
returns-clause-tells g c =
    let store = g.K.Keeper.means in
    keeps_any (store c.args.keeper.now) (store c.loop-round.keeper) tt _ c.loop-round.invariant.tells
