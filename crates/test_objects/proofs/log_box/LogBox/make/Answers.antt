use Rattle.std.proofs.Common.{◌≡◌, ℕ, List, ◌<◌, length, ap, ◌∙◌, subst, arith, vec_len, vec_capacity}
use Rattle.std.proofs.lemmas.Bool.{cond-true}
use Rattle.shared_words.specs.declared.entry.Entry.{Entry}
use Rattle.shared_words.proofs.Room.{length-within}
use Rattle.test_objects.specs.Passes.{callers_in, cap_in}
use Rattle.test_objects.proofs.Telling.{length-pairs_of, pairs_called}
use Rattle.test_objects.proofs.log_box.LogBox.make.Goals as goal

pub go_on-reply-requires-clause-room : goal.go_on-reply-requires-clause-room
go_on-reply-requires-clause-room g c =
    let b = c.args.self.now in
    let most = length-within (callers_in b)
    (cap_in b) c.append.new.seat.log.items c.append.ensures.seat.0.within in
    let log = ap (λ l. length l) c.log.ensures in
    let state = c.requires.own.scratch.state in
    let other = c.requires.own.scratch.other in
    record { state = omega arith; other = omega arith }

pub returns-clause-own : goal.returns-clause-own
returns-clause-own g c =
    let b = c.args.self.now in
    let own = c.requires.own in
    let left = c.requires.left in
    let cap = own.seat.cap in
    let count = own.count in
    let room = own.room in
    let grown = c.push.ensures.capacity in
    let small : vec_len c.args.pass.now.tools.pairs < vec_capacity c.args.pass.now.tools.pairs =
    omega arith in
    let ok = c.push.ensures.succeeds small in
    let long : vec_len c.push.new.self ≡ _ = c.push.ensures.len ∙ cond-true _ _ _ ok in
    let rooms = c.go_on-reply.ensures.room in
    let state = own.scratch.state in
    let other = own.scratch.other in
    let state_capacity = rooms.state in
    let other_capacity = rooms.other in
    let pairs = pairs_called (g.M.Machine.reply_to b.machine) _ c.append.new.seat.log.items
    c.args.pass.now.seat.seat.who _ c.args.op c.go_on-reply.result _ c.push.new.self.items
    c.append.ensures.log c.append.ensures.seat.1 own.pairs
    (c.push.ensures.items ∙ cond-true _ _ _ ok)
    (c.go_on-reply.ensures.reply ∙ ap (g.M.Machine.reply_to b.machine) c.log.ensures) in
    record {
      seat = c.append.ensures.seat.0;
      pairs = pairs;
      count = ap (λ (l : List (ℕ × ℕ)). length l) pairs ∙ length-pairs_of
          (g.M.Machine.reply_to b.machine) c.append.new.seat.log.items c.append.new.seat.seat.who;
      room = omega arith;
      scratch = record { state = omega arith; other = omega arith };
      waiting = rooms.waiting ∙ own.waiting;
      seen = λ some.
          subst (λ (l : List Entry). g.M.Machine.has_seen b.machine l c.go_on-reply.new.scratch)
          c.log.ensures c.go_on-reply.ensures.seen;
    }
