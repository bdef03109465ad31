use Rattle.std.proofs.Common.{◌-◌, ◌∙◌, ap, arith}
use Rattle.circular_buffer.specs.Buffer.{buffer, keep_last}
use Rattle.pr_queue.proofs.Rings.{first_batch, rest_behind}
use Rattle.pr_queue.proofs.queue.Queue.next_batch.Goals as goal

pub returns-clause-ok : goal.returns-clause-ok
returns-clause-ok c =
    first_batch c.self.inside.name c.self.inside.ring.items c.new-notices.result c.self.inside.dropped c.replace-dropped.result c.min-count.result c.self.inside.coming.items
    c.args.self.now c.self.view_is (omega (arith, c.min-count.ensures, c.len-waiting.ensures.len)) (c.new-notices.ensures ∙ c.in_ok-first_copies.ensures)
    c.replace-dropped.ensures.value

pub returns-clause-after : goal.returns-clause-after
returns-clause-after c =
    rest_behind c.self.inside.name c.self.inside.ring c.truncate_front.new.self c.self.inside.dropped c.replace-dropped.new.dest c.min-count.result c.self.inside.coming.items
    c.args.self.now c.self.view_is (omega (arith, c.min-count.ensures, c.len-waiting.ensures.len))
    (c.truncate_front.ensures ∙ ap (λ n. buffer (keep_last (n - c.min-count.result) c.self.inside.ring.items) c.self.inside.ring.capacity) c.len-waiting.ensures.len)
    c.replace-dropped.ensures.after
