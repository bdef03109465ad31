use Rattle.std.proofs.Common.{◌≡◌, ◌∙◌, Bool, true, true≢false, [], ◌++◌, Option, None, Some, Ok, Err, length, refl, sym, ap, subst, arith}
use Rattle.pr_text.specs.declared.script.order.Numbered.{Numbered}
use Rattle.pr_outside.specs.Outside.{Outside}
use Rattle.pr_outside.specs.Status.{IsTooLong}
use Rattle.pr_outside.specs.declared.status.status.Stop.{Stop}
use Rattle.pr_outside.proofs.Ended.{ends_on, known_stop, quiet, read_on}
use Rattle.pr_outside.proofs.StatusStreams.{appends_none, appends_on}
use Rattle.pr_outside.proofs.Telling.{on_told}
use Rattle.pr_text.specs.private.LineReading.{ahead, course_of, CountsBytes, IsBeyond}
use Rattle.pr_text.specs.private.Reading.{unread, HandsOrder, IsCutAt}
use Rattle.pr_text.proofs.Ahead.{beyond_on, counts_none, counts_on, read_same, within_on}
use Rattle.pr_text.proofs.Orders.{ahead_none}
use Rattle.pr_outside.specs.Stores.{IsBadIn}
use Rattle.pr_run.specs.Runs.{EndsOver}
use Rattle.pr_outside.proofs.Endings.{bad_of, cut_of, ends_wider, known_answer}
use Rattle.pr_run.proofs.Goings.{going_none, going_on, grown_more, has_grown, known_long, known_out, known_short, no_more}
use Rattle.pr_run.proofs.Stops.{ended, left_over, no_bad, no_whole, not_row, read_stop, row_behind, row_of_stop, stopped}
use Rattle.pr_run.proofs.Tellings.{keeps_as, keeps_err, keeps_on, keeps_same}
use Rattle.pr_run.proofs.running.answer_all.Goals as goal

-- the next order could not be had

pub returns-in_err-order-clause-over : goal.returns-in_err-order-clause-over
returns-in_err-order-clause-over g c =
    let input = g.I.Source.means in
    let files = g.F.Files.means in
    let keeper = g.K.Keeper.means in
    let out = g.O.Sink.means in
    let r = c.answering.reader in
    let entry : Outside = record { input = input c.args.input.now; files = files c.args.files.now; store = keeper c.args.keeper.now; out = out c.args.out.now } in
    let mid : Outside = record { input = input c.answering.input; files = files c.answering.files; store = keeper c.answering.keeper; out = out c.answering.out } in
    λ others history keeps p some. on_told entry.input.left
    (λ bytes. EndsOver history bytes (record others { input = entry.input; files = entry.files }) (record mid { input = input c.next_order.new.input }) c.from_residual.result) (λ bytes is.
    stopped g.E.Worlds.stands_for c.rows_decode_as_their_entries.ensures.only g.met.E.Worlds.tells c.args.session.now entry others history bytes keeps p is c.answering.session mid
    (ahead (unread r) mid.input.left) r.number c.answering.invariant.going (input c.next_order.new.input) c.from_residual.result c.in_err-order.field-0.0 c.from_residual.ensures.1
    (cut_of (Option Numbered) (IsCutAt (ahead (unread r) mid.input.left) (input c.next_order.new.input).left r.number) c.in_err-order.field-0.0 c.in_err-order.ensures.cut)
    (read_stop (Option Numbered) (IsBeyond mid.input (input c.next_order.new.input) r.lines.count) mid.input (input c.next_order.new.input) c.in_err-order.field-0.0 c.in_err-order.ensures.ends) some)

pub returns-in_err-order-clause-row : goal.returns-in_err-order-clause-row
returns-in_err-order-clause-row g c = λ at is.
    absurd (not_row c.in_err-order.field-0.0 at
    (read_stop (Option Numbered) (IsBeyond (g.I.Source.means c.answering.input) (g.I.Source.means c.next_order.new.input) c.answering.reader.lines.count) (g.I.Source.means c.answering.input) (g.I.Source.means c.next_order.new.input) c.in_err-order.field-0.0 c.in_err-order.ensures.ends)
    (row_of_stop c.from_residual.result c.in_err-order.field-0.0 at c.from_residual.ensures.1 is))

pub returns-in_err-order-clause-grows : goal.returns-in_err-order-clause-grows
returns-in_err-order-clause-grows g c = λ w s some.
    has_grown g.E.Worlds.stands_for g.met.E.Worlds.tells w.history (g.K.Keeper.means c.answering.keeper) c.answering.session.kept (c.answering.invariant.going.grown w s some)

pub returns-in_err-order-clause-long : goal.returns-in_err-order-clause-long
returns-in_err-order-clause-long g c =
    let input = g.I.Source.means in
    let here = c.answering.invariant in
    let first = input c.args.input.now in
    let mid = input c.answering.input in
    let last = input c.next_order.new.input in
    let count = c.answering.reader.lines.count in
    known_stop Bool Bool first first last c.from_residual.result c.in_err-order.field-0.0 c.from_residual.ensures.1
    (read_on Bool _ (IsBeyond mid last count) (IsTooLong first last) first mid last (Err c.in_err-order.field-0.0) c.in_err-order.field-0.0 refl here.read_calm
    (c.in_err-order.ensures.in_time first.course here.reads)
    (λ long. known_long first last (beyond_on first mid last 0 count here.counts long)) c.in_err-order.ensures.ends)

pub returns-in_err-order-clause-ends : goal.returns-in_err-order-clause-ends
returns-in_err-order-clause-ends g c =
    let input = g.I.Source.means in
    let files = g.F.Files.means in
    let keeper = g.K.Keeper.means in
    let out = g.O.Sink.means in
    let here = c.answering.invariant in
    let count = c.answering.reader.lines.count in
    let a : Outside = record { input = input c.args.input.now; files = files c.args.files.now; store = keeper c.args.keeper.now; out = out c.args.out.now } in
    let b : Outside = record { input = input c.answering.input; files = files c.answering.files; store = keeper c.answering.keeper; out = out c.answering.out } in
    let d : Outside = record b { input = input c.next_order.new.input } in
    let long = IsTooLong a.input d.input in
    ends_on Bool _ (IsBadIn b.store) long a b d c.from_residual.result c.in_err-order.field-0.0 c.from_residual.ensures.1
    (here.read_calm, here.load_calm, here.keep_calm, here.write_calm) (c.in_err-order.ensures.in_time a.input.course here.reads) here.loads here.writes
    (ends_wider _ _ (IsBadIn b.store) (IsBeyond b.input d.input count) long b d (Err c.in_err-order.field-0.0) (λ i no. absurd no)
    (λ beyond. known_long a.input d.input (beyond_on a.input b.input d.input 0 count here.counts beyond))
    (c.in_err-order.ensures.ends b))

-- between two orders

pub answering-init : goal.answering-init
answering-init g c =
    let input = g.I.Source.means in
    let reader = c.new-reader.result in
    let new = c.new-reader.ensures in
    let left = (input c.args.input.now).left in
    let entry : Outside = record { input = input c.args.input.now; files = g.F.Files.means c.args.files.now; store = g.K.Keeper.means c.args.keeper.now; out = g.O.Sink.means c.args.out.now } in
    record {
      going = going_none g.E.Worlds.stands_for c.args.session.now entry entry (ahead (unread reader) left) reader.number refl refl refl (sym (ahead_none (unread reader) left new.empty)) new.counts.1;
      written = ([], appends_none (g.O.Sink.means c.args.out.now).taken);
      ready = record {
        within = new.within;
        number = omega (arith, new.counts.0, new.counts.1, ap length new.empty);
        count = omega (arith, new.counts.0);
        end = λ e. absurd (true≢false (sym e ∙ new.end));
        waits = λ some. absurd (some new.waiting);
      };
      counts = subst (CountsBytes entry.input entry.input 0) (sym new.counts.0) (counts_none entry.input 0);
      is_going = c.requires;
      tells = keeps_same Bool entry.store (Ok true);
      told = λ some. some;
      same = λ other. refl;
      paths = refl;
      read_calm = refl;
      load_calm = refl;
      keep_calm = refl;
      write_calm = refl;
      reads = read_same (input c.args.input.now).course reader.lines.ended;
      over = λ going. going ∙ ap course_of (sym new.end);
      loads = λ e. e;
      writes = λ e. e;
    }

pub answering-preserved : goal.answering-preserved
answering-preserved g c =
    let input = g.I.Source.means in
    let files = g.F.Files.means in
    let keeper = g.K.Keeper.means in
    let out = g.O.Sink.means in
    let here = c.answering.invariant in
    let read = c.in_ok-order.ensures in
    let told = c.in_ok-answer_order.ensures in
    let r = c.answering.reader in
    let next = c.next_order.new.self in
    let before = ahead (unread r) (input c.answering.input).left in
    let after = ahead (unread next) (input c.next_order.new.input).left in
    let hands : HandsOrder before after r.number next.number (Some c.in-Some.order) =
    subst (λ (o : Option Numbered). HandsOrder before after r.number next.number o) c.in-Some.is read.order in
    let entry : Outside = record { input = input c.args.input.now; files = files c.args.files.now; store = keeper c.args.keeper.now; out = out c.args.out.now } in
    let mid : Outside = record { input = input c.answering.input; files = files c.answering.files; store = keeper c.answering.keeper; out = out c.answering.out } in
    let now : Outside = record { input = input c.next_order.new.input; files = files c.answer_order.new.files; store = keeper c.answer_order.new.keeper; out = out c.answer_order.new.out } in
    record {
      going = going_on g.E.Worlds.stands_for c.args.session.now entry c.answering.session c.answer_order.new.session mid now before after r.number next.number c.in-Some.order here.going hands
          told.told here.same (λ held p. told.sends now held p) told.grows;
      written = (
        here.written.0 ++ told.written.0,
        appends_on (out c.args.out.now).taken (out c.answering.out).taken (out c.answer_order.new.out).taken here.written.0 told.written.0 here.written.1 told.written.1,
      );
      ready = read.ready;
      counts = counts_on entry.input mid.input now.input 0 r.lines.count next.lines.count here.counts read.counts;
      is_going = told.going;
      tells = keeps_on Bool Bool entry.store mid.store now.store true (Ok true) here.tells (keeps_as _ Bool mid.store now.store _ (Ok true) told.tells);
      told = λ some. here.told (told.told some);
      same = λ other. told.same other ∙ here.same other;
      paths = told.paths ∙ here.paths;
      read_calm = (read.ends quiet).cause.0 ∙ here.read_calm;
      load_calm = (told.ends quiet).cause.1 ∙ here.load_calm;
      keep_calm = (told.ends quiet).cause.2 ∙ here.keep_calm;
      write_calm = (told.ends quiet).cause.3 ∙ here.write_calm;
      reads = read.going (input c.args.input.now).course here.reads;
      over = read.over (input c.args.input.now).course here.over;
      loads = λ e. (told.ends quiet).files (here.loads e);
      writes = λ e. (told.ends quiet).out (here.writes e);
    }

-- an order could not be answered whole

pub returns-in_err-answer_order-clause-over : goal.returns-in_err-answer_order-clause-over
returns-in_err-answer_order-clause-over g c =
    let input = g.I.Source.means in
    let files = g.F.Files.means in
    let keeper = g.K.Keeper.means in
    let out = g.O.Sink.means in
    let r = c.answering.reader in
    let next = c.next_order.new.self in
    let told = c.in_err-answer_order.ensures in
    let here = c.answering.invariant in
    let result = c.from_residual-in_err-answer_order.result in
    let e = c.in_err-answer_order.field-0.0 in
    let is_err = c.from_residual-in_err-answer_order.ensures.1 in
    let ahead_of = ahead (unread r) (input c.answering.input).left in
    let after = ahead (unread next) (input c.next_order.new.input).left in
    let hands : HandsOrder ahead_of after r.number next.number (Some c.in-Some.order) =
    subst (λ (o : Option Numbered). HandsOrder ahead_of after r.number next.number o) c.in-Some.is c.in_ok-order.ensures.order in
    let entry : Outside = record { input = input c.args.input.now; files = files c.args.files.now; store = keeper c.args.keeper.now; out = out c.args.out.now } in
    let mid : Outside = record { input = input c.answering.input; files = files c.answering.files; store = keeper c.answering.keeper; out = out c.answering.out } in
    let now : Outside = record { input = input c.next_order.new.input; files = files c.answer_order.new.files; store = keeper c.answer_order.new.keeper; out = out c.answer_order.new.out } in
    λ others history keeps p some. on_told entry.input.left
    (λ bytes. EndsOver history bytes (record others { input = entry.input; files = entry.files }) now result) (λ bytes is. record {
      whole = λ held asked. no_whole result e _ is_err;
      front = λ held asked. left_over g.E.Worlds.stands_for c.rows_decode_as_their_entries.ensures.only g.met.E.Worlds.tells c.args.session.now entry others history bytes keeps p is
          c.answering.session mid ahead_of r.number here.going now.input c.in-Some.order after next.number hands now held asked (told.told some) result e is_err here.same
          (λ q k t. told.leaves now held q k t some);
      fine = λ index bad.
          let g1 = here.going.grown _ keeps.world (told.told some) in
          let g2 = told.grows g1.world g1.stands some in
          no_bad now.store (g1.world.history ++ g2.more) index some g2.tells (bad_of _ (IsBadIn now.store) ⊥ (record mid { input = now.input }) now e index (row_of_stop result e index is_err bad) (told.ends now));
    })

pub returns-in_err-answer_order-clause-row : goal.returns-in_err-answer_order-clause-row
returns-in_err-answer_order-clause-row g c = λ at is.
    let out = g.O.Sink.means in
    let here = c.answering.invariant.written in
    let e = c.in_err-answer_order.field-0.0 in
    let row = row_of_stop c.from_residual-in_err-answer_order.result e at c.from_residual-in_err-answer_order.ensures.1 is in
    row_behind (out c.args.out.now).taken (out c.answering.out).taken (out c.answer_order.new.out).taken at here.0 here.1
    (c.in_err-answer_order.ensures.row at (ap (λ (s : Stop). Err s) row))

pub returns-in_err-answer_order-clause-grows : goal.returns-in_err-answer_order-clause-grows
returns-in_err-answer_order-clause-grows g c = λ w s some.
    let told = c.in_err-answer_order.ensures in
    let g1 = c.answering.invariant.going.grown w s (told.told some) in
    grown_more w.history g1.world.history (g.K.Keeper.means c.answer_order.new.keeper) g1.more g1.grown (told.grows g1.world g1.stands some)

pub returns-in_err-answer_order-clause-told : goal.returns-in_err-answer_order-clause-told
returns-in_err-answer_order-clause-told g c = λ some. c.answering.invariant.told (c.in_err-answer_order.ensures.told some)

pub returns-in_err-answer_order-clause-same : goal.returns-in_err-answer_order-clause-same
returns-in_err-answer_order-clause-same g c = λ other. c.in_err-answer_order.ensures.same other ∙ c.answering.invariant.same other

pub returns-in_err-answer_order-clause-long : goal.returns-in_err-answer_order-clause-long
returns-in_err-answer_order-clause-long g c =
    known_answer _ Bool _ (g.I.Source.means c.args.input.now) (g.I.Source.means c.next_order.new.input) _ _ c.from_residual-in_err-answer_order.result c.in_err-answer_order.field-0.0
    c.from_residual-in_err-answer_order.ensures.1 (c.in_err-answer_order.ensures.ends quiet)

pub returns-in_err-answer_order-clause-ends : goal.returns-in_err-answer_order-clause-ends
returns-in_err-answer_order-clause-ends g c =
    let input = g.I.Source.means in
    let files = g.F.Files.means in
    let keeper = g.K.Keeper.means in
    let out = g.O.Sink.means in
    let here = c.answering.invariant in
    let read = c.in_ok-order.ensures in
    let a : Outside = record { input = input c.args.input.now; files = files c.args.files.now; store = keeper c.args.keeper.now; out = out c.args.out.now } in
    let b : Outside = record { input = input c.next_order.new.input; files = files c.answering.files; store = keeper c.answering.keeper; out = out c.answering.out } in
    let d : Outside = record { input = input c.next_order.new.input; files = files c.answer_order.new.files; store = keeper c.answer_order.new.keeper; out = out c.answer_order.new.out } in
    let long = IsTooLong a.input d.input in
    ends_on Bool _ (IsBadIn d.store) long a b d c.from_residual-in_err-answer_order.result c.in_err-answer_order.field-0.0
    c.from_residual-in_err-answer_order.ensures.1 ((read.ends quiet).cause.0 ∙ here.read_calm, here.load_calm, here.keep_calm, here.write_calm)
    (read.in_time (input c.args.input.now).course here.reads) here.loads here.writes
    (ends_wider _ (IsBadIn d.store) (IsBadIn d.store) ⊥ long b d (Err c.in_err-answer_order.field-0.0) (λ i bad. bad) (λ never. absurd never) (c.in_err-answer_order.ensures.ends d))

-- all was answered

pub returns-clause-over : goal.returns-clause-over
returns-clause-over g c =
    let input = g.I.Source.means in
    let files = g.F.Files.means in
    let keeper = g.K.Keeper.means in
    let out = g.O.Sink.means in
    let r = c.answering.reader in
    let next = c.next_order.new.self in
    let left = (input c.next_order.new.input).left in
    let ahead_of = ahead (unread r) (input c.answering.input).left in
    let hands : HandsOrder ahead_of (ahead (unread next) left) r.number next.number None =
    subst (λ (o : Option Numbered). HandsOrder ahead_of (ahead (unread next) left) r.number next.number o) (no_more c.in_ok-order.field-0 c.in_default.not-Some) c.in_ok-order.ensures.order in
    let entry : Outside = record { input = input c.args.input.now; files = files c.args.files.now; store = keeper c.args.keeper.now; out = out c.args.out.now } in
    let mid : Outside = record { input = input c.answering.input; files = files c.answering.files; store = keeper c.answering.keeper; out = out c.answering.out } in
    λ others history keeps p some. on_told entry.input.left
    (λ bytes. EndsOver history bytes (record others { input = entry.input; files = entry.files }) (record mid { input = input c.next_order.new.input }) (Ok c.has_refused.result)) (λ bytes is.
    subst (λ (b : Bool). EndsOver history bytes (record others { input = entry.input; files = entry.files }) (record mid { input = input c.next_order.new.input }) (Ok b)) (sym c.has_refused.ensures)
    (ended g.E.Worlds.stands_for c.rows_decode_as_their_entries.ensures.only g.met.E.Worlds.tells c.args.session.now entry others history bytes keeps p is c.answering.session mid
    ahead_of r.number c.answering.invariant.going (input c.next_order.new.input) (unread next) next.number hands some))

pub returns-clause-grows : goal.returns-clause-grows
returns-clause-grows g c = λ w s some.
    has_grown g.E.Worlds.stands_for g.met.E.Worlds.tells w.history (g.K.Keeper.means c.answering.keeper) c.answering.session.kept (c.answering.invariant.going.grown w s some)

pub returns-clause-long : goal.returns-clause-long
returns-clause-long g c =
    let input = g.I.Source.means in
    let here = c.answering.invariant in
    let read = c.in_ok-order.ensures in
    let first = input c.args.input.now in
    let mid = input c.answering.input in
    let last = input c.next_order.new.input in
    let r = c.answering.reader in
    let next = c.next_order.new.self in
    let before = ahead (unread r) mid.left in
    let after = ahead (unread next) last.left in
    let none : c.in_ok-order.field-0 ≡ None = no_more c.in_ok-order.field-0 c.in_default.not-Some in
    let hands : HandsOrder before after r.number next.number None =
    subst (λ (o : Option Numbered). HandsOrder before after r.number next.number o) none read.order in
    let counts = counts_on first mid last 0 r.lines.count next.lines.count here.counts read.counts in
    let met = read.short none in (
      known_short first.left before last.left (unread next) r.number next.number next.lines.count here.going.orders here.going.taken hands counts.left met.1,
      known_out first last next.lines.count next.lines.ended counts met.1 (read.over first.course here.over) met.0,
    )

pub returns-clause-ends : goal.returns-clause-ends
returns-clause-ends g c =
    let input = g.I.Source.means in
    let here = c.answering.invariant in
    let read = c.in_ok-order.ensures in
    record {
      cause = ((read.ends quiet).cause.0 ∙ here.read_calm, here.load_calm, here.keep_calm, here.write_calm);
      input = read.in_time (input c.args.input.now).course here.reads;
      files = here.loads;
      out = here.writes;
    }

-- told rows stay told

pub returns-in_err-order-clause-tells : goal.returns-in_err-order-clause-tells
returns-in_err-order-clause-tells g c =
    let keeper = g.K.Keeper.means in
    keeps_as Bool Bool (keeper c.args.keeper.now) (keeper c.answering.keeper) true c.from_residual.result c.answering.invariant.tells

pub returns-in_err-answer_order-clause-tells : goal.returns-in_err-answer_order-clause-tells
returns-in_err-answer_order-clause-tells g c =
    let keeper = g.K.Keeper.means in
    let mid = keeper c.answering.keeper in
    let now = keeper c.answer_order.new.keeper in
    let e = c.in_err-answer_order.field-0.0 in
    let r = c.from_residual-in_err-answer_order.result in
    keeps_on Bool Bool (keeper c.args.keeper.now) mid now true r c.answering.invariant.tells
    (keeps_err _ Bool mid now r e c.from_residual-in_err-answer_order.ensures.1 c.in_err-answer_order.ensures.tells)

pub returns-clause-tells : goal.returns-clause-tells
returns-clause-tells g c =
    let keeper = g.K.Keeper.means in
    keeps_as Bool Bool (keeper c.args.keeper.now) (keeper c.answering.keeper) true (Ok c.has_refused.result) c.answering.invariant.tells

-- no more was taken than the limit and one piece

pub returns-in_err-order-clause-most : goal.returns-in_err-order-clause-most
returns-in_err-order-clause-most g c =
    let input = g.I.Source.means in
    within_on (input c.args.input.now) (input c.answering.input) (input c.next_order.new.input) 0 c.answering.reader.lines.count c.answering.invariant.counts c.in_err-order.ensures.most

pub returns-in_err-answer_order-clause-most : goal.returns-in_err-answer_order-clause-most
returns-in_err-answer_order-clause-most g c =
    let input = g.I.Source.means in
    within_on (input c.args.input.now) (input c.answering.input) (input c.next_order.new.input) 0 c.answering.reader.lines.count c.answering.invariant.counts c.in_ok-order.ensures.most

pub returns-clause-most : goal.returns-clause-most
returns-clause-most g c =
    let input = g.I.Source.means in
    within_on (input c.args.input.now) (input c.answering.input) (input c.next_order.new.input) 0 c.answering.reader.lines.count c.answering.invariant.counts c.in_ok-order.ensures.most
