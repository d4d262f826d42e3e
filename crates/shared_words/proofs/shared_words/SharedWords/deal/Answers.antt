use Rattle.std.proofs.Common.{◌≡◌, ◌+◌, ◌<◌, ◌≤◌, [], arith, ◌∙◌, refl, sym, subst, Some, vec_len, vec_capacity}
use Rattle.std.proofs.lemmas.Bool.{cond-true}
use Rattle.std.proofs.lemmas.List.Elements.{All-pop}
use Rattle.row_table.proofs.Holders.{left_others}
use Rattle.shared_words.specs.Passes.{caller_of_pass, IsNewPass}
use Rattle.shared_words.proofs.Dealing.{one_dealt}
use Rattle.shared_words.proofs.shared_words.SharedWords.deal.Goals as goal

pub loop-caller-preserved : goal.loop-caller-preserved
loop-caller-preserved g c =
    let w = c.args.self.now in
    let k = c.loop-caller.invariant in
    let counted = c.in-Some.ensures.cases in
    let grown = c.push.ensures.capacity in
    let low = c.loop-caller-test.true in
    let count = k.count in
    let room = k.room in
    let ok = c.push.ensures.succeeds (omega arith) in
    let caller_low : c.loop-caller.caller < w.callers = omega arith in
    let left : vec_len c.pop.new.self + (c.loop-caller.caller + 1) ≡ w.callers =
    omega (arith, k.rooms) in
    let one_more : vec_len c.push.new.self ≡ vec_len c.loop-caller.passes + 1 =
    c.push.ensures.len ∙ cond-true _ _ _ ok in
    let count' : vec_len c.push.new.self ≡ c.loop-caller.caller + 1 = omega arith in
    let room' : w.callers ≤ vec_capacity c.push.new.self = omega arith in
    let rooms =
    All-pop (λ pairs. (pairs.items ≡ []) × (w.cap ≤ vec_capacity pairs)) c.loop-caller.rooms.items
    c.pop.new.self.items (Some c.in-Some.pairs) c.in-Some.ensures.items k.clear in
    let own = c.leave_as-own.ensures.caller in
    record {
      table = c.leave_as-own.ensures.seat.0 ∙ k.table;
      left = left_others w.callers c.loop-caller.caller _ _ _ k.left c.leave_as-own.ensures.seat.1;
      rooms = left;
      clear = rooms.0;
      count = count';
      dealt =
          one_dealt caller_of_pass (IsNewPass w) c.loop-caller.caller c.loop-caller.passes.items c.push.new.self.items _ _
          k.dealt c.push.ensures.items ok own.0
          (record {
            table = own.1 ∙ k.table;
            caller = subst (λ i. i < w.callers) (sym own.0) caller_low;
            cap = refl;
            room = rooms.1.1;
            pairs = rooms.1.0;
            history = own.2;
          });
      room = room';
    }
