use Rattle.std.proofs.Common.{◌≡◌, ◌+◌, ◌*◌, ◌<◌, ◌≤◌, [], arith, ◌∙◌, refl, sym, subst, Some, vec_len, vec_capacity}
use Rattle.std.proofs.lemmas.Bool.{cond-true}
use Rattle.std.proofs.lemmas.List.Elements.{All-pop}
use Rattle.row_table.proofs.Holders.{left_others}
use Rattle.shared_words.specs.Entries.{IsWithinCap}
use Rattle.shared_words.specs.Seats.{caller_of, log_of, IsSeatOf}
use Rattle.shared_words.proofs.Logs.{within_none}
use Rattle.shared_words.proofs.Dealing.{one_dealt}
use Rattle.shared_words.proofs.shared_log.SharedLog.deal.Goals as goal

pub loop-who-preserved : goal.loop-who-preserved
loop-who-preserved c =
    let l = c.args.self.now in
    let k = c.loop-who.invariant in
    let counted = c.in-Some.ensures.cases in
    let grown = c.push.ensures.capacity in
    let low = c.loop-who-test.true in
    let count = k.count in
    let room = k.room in
    let ok = c.push.ensures.succeeds (omega arith) in
    let caller_low : c.loop-who.who < l.callers = omega arith in
    let left : vec_len c.pop.new.self + (c.loop-who.who + 1) ≡ l.callers = omega (arith, k.logs) in
    let one_more : vec_len c.push.new.self ≡ vec_len c.loop-who.seats + 1 =
    c.push.ensures.len ∙ cond-true _ _ _ ok in
    let count' : vec_len c.push.new.self ≡ c.loop-who.who + 1 = omega arith in
    let room' : l.callers ≤ vec_capacity c.push.new.self = omega arith in
    let logs =
    All-pop (λ log. (log.items ≡ []) × (l.callers * l.cap ≤ vec_capacity log)) c.loop-who.logs.items
    c.pop.new.self.items (Some c.in-Some.log) c.in-Some.ensures.items k.clear in
    let own = c.leave_as-own.ensures.caller in
    let each = one_dealt caller_of (IsSeatOf l) c.loop-who.who c.loop-who.seats.items
    c.push.new.self.items _ _ (record { callers = k.callers; each = k.each }) c.push.ensures.items ok
    own.0
    (record {
      placed =
          record {
            table = own.1 ∙ k.table;
            caller = subst (λ i. i < l.callers) (sym own.0) caller_low;
          };
      cap = refl;
      room = logs.1.1;
      within = subst (λ log. IsWithinCap l.callers l.cap log) (sym logs.1.0)
          (within_none l.callers l.cap);
    }) in
    let fresh = one_dealt caller_of (λ s. log_of s ≡ []) c.loop-who.who c.loop-who.seats.items
    c.push.new.self.items _ _ (record { callers = k.callers; each = k.fresh }) c.push.ensures.items
    ok own.0 logs.1.0 in
    record {
      table = c.leave_as-own.ensures.seat.0 ∙ k.table;
      left = left_others l.callers c.loop-who.who _ _ _ k.left c.leave_as-own.ensures.seat.1;
      logs = left;
      clear = logs.0;
      count = count';
      callers = each.callers;
      each = each.each;
      fresh = fresh.each;
      room = room';
    }
