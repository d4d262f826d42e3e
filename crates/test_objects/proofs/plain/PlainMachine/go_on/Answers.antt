use Rattle.std.proofs.Common.{◌≤◌, ◌+◌, List, length, sym, ap, ◌∙◌, subst, arith}
use Rattle.shared_words.specs.declared.entry.Entry.{Entry}
use Rattle.test_objects.specs.Replays.{list_after, last_reply}
use Rattle.book_base.specs.State.{Contents}
use Rattle.test_objects.proofs.Replaying.{tail_is, list_beyond, reply_beyond, capacity_beyond}
use Rattle.test_objects.proofs.plain.PlainMachine.go_on.Goals as goal

pub replay-requires : goal.replay-requires
replay-requires g c =
    let object = c.args.self.now.object in
    let log = c.args.log.now in
    let seen = c.requires.seen (omega arith) in
    let room = capacity_beyond
    (g.S.SeqObject.spec object) log c.args.known _ seen c.args.scratch.now.state.room
    (g.met.S.GrowsByOne.begins_small object)
    (g.met.S.GrowsByOne.grows_by_one object) c.requires.more c.requires.room.state in
    record {
      room = subst (λ (rest : List Entry). length c.args.scratch.now.state.words + length rest
          ≤ c.args.scratch.now.state.room) (sym (tail_is log c.args.known)) room;
    }

pub returns-clause-reply : goal.returns-clause-reply
returns-clause-reply g c =
    let object = c.args.self.now.object in
    let log = c.args.log.now in
    let seen = c.requires.seen (omega arith) in
    c.replay.ensures.reply
    ∙ ap (last_reply (g.S.SeqObject.spec object).next c.args.scratch.now.state.words)
    (tail_is log c.args.known)
    ∙ reply_beyond (g.S.SeqObject.spec object) log c.args.known _ seen c.requires.more

pub returns-clause-seen : goal.returns-clause-seen
returns-clause-seen g c =
    let object = c.args.self.now.object in
    let log = c.args.log.now in
    let seen = c.requires.seen (omega arith) in
    ap (λ (s : Contents). s.words) c.replay.ensures.list
    ∙ ap (list_after (g.S.SeqObject.spec object).next c.args.scratch.now.state.words)
    (tail_is log c.args.known)
    ∙ list_beyond (g.S.SeqObject.spec object) log c.args.known _ seen
