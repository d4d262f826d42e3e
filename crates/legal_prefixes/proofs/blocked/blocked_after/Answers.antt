use Rattle.legal_prefixes.proofs.Blocking.{complete_more}
use Rattle.legal_prefixes.proofs.blocked.blocked_after.Goals as goal

pub loop-caller-preserved : goal.loop-caller-preserved
loop-caller-preserved c =
    let added = c.in_ok-push_blocked.ensures.added in
    record {
      room = c.push_blocked.ensures.room;
      sound = added.sound c.loop-caller.invariant.sound;
      complete = complete_more c.args.kind c.args.book.now c.args.prefix.now.cut
          c.args.prefix.now.words.items c.loop-caller.caller c.loop-caller.all.items
          c.push_blocked.new.all.items c.loop-caller.invariant.complete added;
    }
