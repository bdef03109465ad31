use Rattle.std.proofs.Common.{◌≡◌, ◌∙◌, ℕ, List, IfErr, OnOk, refl, sym, ap, subst}
use Rattle.pr_text.specs.declared.script.order.Numbered.{Numbered}
use Rattle.pr_text.specs.declared.script.order.Order.{Order}
use Rattle.pr_text.specs.declared.script.order.Order.TheVariants as order
use Rattle.pr_outside.specs.Outside.{AreTold, Outside}
use Rattle.pr_run.specs.private.Standing.{AnswersOrder, LeavesFront}
use Rattle.pr_run.specs.Replies.{bad_line_reply, flush_reply, receiver_reply}
use Rattle.pr_run.specs.Told.{reply_turn, turn}
use Rattle.pr_run.proofs.Answering.{made, on_one, order_turn, reply_answers, reply_leaves}
use Rattle.pr_run.proofs.Tellings.{keeps_same, on_ok}
use Rattle.pr_run.proofs.session.Session.take_order.Goals as goal

pub returns-in-Event-clause-answers : goal.returns-in-Event-clause-answers
returns-in-Event-clause-answers g c = λ others held p keeps told some.
    let files = g.F.Files.means in
    let keeper = g.K.Keeper.means in
    let a : Outside = record others { files = files c.args.files.now; store = keeper c.args.keeper.now } in
    let d : Outside = record others { files = files c.args.files.now; store = keeper c.take_event_order.new.keeper } in
    let same : made c.args.order.number (order.Event c.in-Event.event) ≡ c.args.order = ap (λ (q : Order). made c.args.order.number q) (sym c.in-Event.is) in
    subst (λ (o : Numbered). OnOk c.take_event_order.result (AnswersOrder g.E.Worlds.stands_for held p o a d c.take_event_order.new.self c.args.text.now.items c.take_event_order.new.text.items)) same
    (c.take_event_order.ensures.answers (record others { files = files c.args.files.now }) held p c.args.order.number keeps some)

pub returns-in-Event-clause-leaves : goal.returns-in-Event-clause-leaves
returns-in-Event-clause-leaves g c = λ others held p keeps told some.
    let files = g.F.Files.means in
    let keeper = g.K.Keeper.means in
    let a : Outside = record others { files = files c.args.files.now; store = keeper c.args.keeper.now } in
    let d : Outside = record others { files = files c.args.files.now; store = keeper c.take_event_order.new.keeper } in
    let same : made c.args.order.number (order.Event c.in-Event.event) ≡ c.args.order = ap (λ (q : Order). made c.args.order.number q) (sym c.in-Event.is) in
    subst (λ (o : Numbered). IfErr c.take_event_order.result (LeavesFront (turn held p.state o) p.state.world.history a d)) same
    (c.take_event_order.ensures.leaves (record others { files = files c.args.files.now }) held p c.args.order.number keeps some)

pub returns-in-Event-clause-ends : goal.returns-in-Event-clause-ends
returns-in-Event-clause-ends g c = λ others. c.take_event_order.ensures.ends (record others { files = g.F.Files.means c.args.files.now })

pub returns-in-Reload-clause-answers : goal.returns-in-Reload-clause-answers
returns-in-Reload-clause-answers g c = λ others held p keeps told some.
    let files = g.F.Files.means in
    let keeper = g.K.Keeper.means in
    let a : Outside = record others { files = files c.args.files.now; store = keeper c.args.keeper.now } in
    let d : Outside = record others { files = files c.take_files_order.new.files; store = keeper c.take_files_order.new.keeper } in
    let same : made c.args.order.number (order.Reload c.in-Reload.time c.in-Reload.names) ≡ c.args.order = ap (λ (q : Order). made c.args.order.number q) (sym c.in-Reload.is) in
    subst (λ (o : Numbered). OnOk c.take_files_order.result (AnswersOrder g.E.Worlds.stands_for held p o a d c.take_files_order.new.self c.args.text.now.items c.take_files_order.new.text.items)) same
    (c.take_files_order.ensures.answers others held p c.args.order.number keeps (subst (λ (o : Numbered). AreTold (files c.args.files.now).content held (turn held p.state o).answer.asks) (sym same) told) some)

pub returns-in-Reload-clause-leaves : goal.returns-in-Reload-clause-leaves
returns-in-Reload-clause-leaves g c = λ others held p keeps told some.
    let files = g.F.Files.means in
    let keeper = g.K.Keeper.means in
    let a : Outside = record others { files = files c.args.files.now; store = keeper c.args.keeper.now } in
    let d : Outside = record others { files = files c.take_files_order.new.files; store = keeper c.take_files_order.new.keeper } in
    let same : made c.args.order.number (order.Reload c.in-Reload.time c.in-Reload.names) ≡ c.args.order = ap (λ (q : Order). made c.args.order.number q) (sym c.in-Reload.is) in
    subst (λ (o : Numbered). IfErr c.take_files_order.result (LeavesFront (turn held p.state o) p.state.world.history a d)) same
    (c.take_files_order.ensures.leaves others held p c.args.order.number keeps (subst (λ (o : Numbered). AreTold (files c.args.files.now).content held (turn held p.state o).answer.asks) (sym same) told) some)

pub returns-in-Receiver-clause-answers : goal.returns-in-Receiver-clause-answers
returns-in-Receiver-clause-answers g c = λ others held p keeps told some.
    let a : Outside = record others { files = g.F.Files.means c.args.files.now; store = g.K.Keeper.means c.args.keeper.now } in
    let is : turn held p.state c.args.order ≡ reply_turn p.state (receiver_reply c.as_str.result.now p.state.receivers) =
    order_turn held p.state c.args.order (order.Receiver c.in-Receiver.name) c.in-Receiver.is ∙ ap (λ (n : List ℕ). reply_turn p.state (receiver_reply n p.state.receivers)) (sym c.as_str.ensures) in
    on_one c.add_receiver.result _ (AnswersOrder g.E.Worlds.stands_for held p c.args.order a a c.add_receiver.new.self c.args.text.now.items c.add_receiver.new.text.items) c.add_receiver.ensures.replies
    (λ given. reply_answers g.E.Worlds.stands_for held p c.args.order a a c.args.self.now c.add_receiver.new.self c.args.text.now.items c.add_receiver.new.text.items
    (receiver_reply c.as_str.result.now p.state.receivers) is (given p.state.receivers keeps.receivers) keeps refl refl)

pub returns-in-Receiver-clause-leaves : goal.returns-in-Receiver-clause-leaves
returns-in-Receiver-clause-leaves g c = λ others held p keeps told some.
    let a : Outside = record others { files = g.F.Files.means c.args.files.now; store = g.K.Keeper.means c.args.keeper.now } in
    let is : turn held p.state c.args.order ≡ reply_turn p.state (receiver_reply c.as_str.result.now p.state.receivers) =
    order_turn held p.state c.args.order (order.Receiver c.in-Receiver.name) c.in-Receiver.is ∙ ap (λ (n : List ℕ). reply_turn p.state (receiver_reply n p.state.receivers)) (sym c.as_str.ensures) in
    reply_leaves g.E.Worlds.stands_for held p c.args.order a c.args.self.now c.add_receiver.result (receiver_reply c.as_str.result.now p.state.receivers) is keeps g.met.E.Worlds.tells c.add_receiver.ensures.memory

pub returns-in-Flush-clause-answers : goal.returns-in-Flush-clause-answers
returns-in-Flush-clause-answers g c = λ others held p keeps told some.
    let a : Outside = record others { files = g.F.Files.means c.args.files.now; store = g.K.Keeper.means c.args.keeper.now } in
    let is : turn held p.state c.args.order ≡ reply_turn p.state (flush_reply c.as_str-in-Flush.result.now p.state.receivers) =
    order_turn held p.state c.args.order (order.Flush c.in-Flush.name) c.in-Flush.is ∙ ap (λ (n : List ℕ). reply_turn p.state (flush_reply n p.state.receivers)) (sym c.as_str-in-Flush.ensures) in
    on_one c.flush_receiver.result _ (AnswersOrder g.E.Worlds.stands_for held p c.args.order a a c.flush_receiver.new.self c.args.text.now.items c.flush_receiver.new.text.items) c.flush_receiver.ensures.replies
    (λ given. reply_answers g.E.Worlds.stands_for held p c.args.order a a c.args.self.now c.flush_receiver.new.self c.args.text.now.items c.flush_receiver.new.text.items
    (flush_reply c.as_str-in-Flush.result.now p.state.receivers) is (given p.state.receivers keeps.receivers) keeps refl refl)

pub returns-in-Flush-clause-leaves : goal.returns-in-Flush-clause-leaves
returns-in-Flush-clause-leaves g c = λ others held p keeps told some.
    let a : Outside = record others { files = g.F.Files.means c.args.files.now; store = g.K.Keeper.means c.args.keeper.now } in
    let is : turn held p.state c.args.order ≡ reply_turn p.state (flush_reply c.as_str-in-Flush.result.now p.state.receivers) =
    order_turn held p.state c.args.order (order.Flush c.in-Flush.name) c.in-Flush.is ∙ ap (λ (n : List ℕ). reply_turn p.state (flush_reply n p.state.receivers)) (sym c.as_str-in-Flush.ensures) in
    reply_leaves g.E.Worlds.stands_for held p c.args.order a c.args.self.now c.flush_receiver.result (flush_reply c.as_str-in-Flush.result.now p.state.receivers) is keeps g.met.E.Worlds.tells c.flush_receiver.ensures.memory

pub returns-in-Bad-clause-answers : goal.returns-in-Bad-clause-answers
returns-in-Bad-clause-answers g c = λ others held p keeps told some.
    let a : Outside = record others { files = g.F.Files.means c.args.files.now; store = g.K.Keeper.means c.args.keeper.now } in
    let is : turn held p.state c.args.order ≡ reply_turn p.state (bad_line_reply c.args.order.number p.state.receivers) =
    order_turn held p.state c.args.order order.Bad c.in-Bad.is in
    on_one c.refuse_line.result _ (AnswersOrder g.E.Worlds.stands_for held p c.args.order a a c.refuse_line.new.self c.args.text.now.items c.refuse_line.new.text.items) c.refuse_line.ensures.replies
    (λ given. reply_answers g.E.Worlds.stands_for held p c.args.order a a c.args.self.now c.refuse_line.new.self c.args.text.now.items c.refuse_line.new.text.items
    (bad_line_reply c.args.order.number p.state.receivers) is (given p.state.receivers keeps.receivers) keeps refl refl)

pub returns-in-Bad-clause-leaves : goal.returns-in-Bad-clause-leaves
returns-in-Bad-clause-leaves g c = λ others held p keeps told some.
    let a : Outside = record others { files = g.F.Files.means c.args.files.now; store = g.K.Keeper.means c.args.keeper.now } in
    let is : turn held p.state c.args.order ≡ reply_turn p.state (bad_line_reply c.args.order.number p.state.receivers) =
    order_turn held p.state c.args.order order.Bad c.in-Bad.is in
    reply_leaves g.E.Worlds.stands_for held p c.args.order a c.args.self.now c.refuse_line.result (bad_line_reply c.args.order.number p.state.receivers) is keeps g.met.E.Worlds.tells c.refuse_line.ensures.memory

-- told rows stay told, and what answers goes on

pub returns-in-Receiver-clause-tells : goal.returns-in-Receiver-clause-tells
returns-in-Receiver-clause-tells g c = keeps_same _ (g.K.Keeper.means c.args.keeper.now) c.add_receiver.result

pub returns-in-Receiver-clause-going : goal.returns-in-Receiver-clause-going
returns-in-Receiver-clause-going g c = on_ok c.add_receiver.result _ (subst g.E.Worlds.is_going (sym c.add_receiver.ensures.kept) c.requires.going)

pub returns-in-Flush-clause-tells : goal.returns-in-Flush-clause-tells
returns-in-Flush-clause-tells g c = keeps_same _ (g.K.Keeper.means c.args.keeper.now) c.flush_receiver.result

pub returns-in-Flush-clause-going : goal.returns-in-Flush-clause-going
returns-in-Flush-clause-going g c = on_ok c.flush_receiver.result _ (subst g.E.Worlds.is_going (sym c.flush_receiver.ensures.kept) c.requires.going)

pub returns-in-Bad-clause-tells : goal.returns-in-Bad-clause-tells
returns-in-Bad-clause-tells g c = keeps_same _ (g.K.Keeper.means c.args.keeper.now) c.refuse_line.result

pub returns-in-Bad-clause-going : goal.returns-in-Bad-clause-going
returns-in-Bad-clause-going g c = on_ok c.refuse_line.result _ (subst g.E.Worlds.is_going (sym c.refuse_line.ensures.kept) c.requires.going)
