use Rattle.std.proofs.Common.{rules, ◌≡◌, ℕ, ◌<◌, List, [], ◌∷◌, ◌++◌, length, sym, ap, ◌∙◌, subst, arith, append_assoc, length-append}
use Rattle.shared_words.specs.declared.entry.Entry.{Entry}
use Rattle.shared_words.specs.Entries.{calls_by, IsWithinCap, entry}
use Rattle.shared_words.specs.Hands.{Hand}
use Rattle.shared_words.specs.Seats.{hand_with}
use Rattle.shared_words.proofs.Room.{length-left}
use Rattle.shared_words.proofs.Trying.{found_more, placed_more}
use Rattle.shared_words.proofs.shared_log.SharedLog.place.Goals as goal

pub returns-in-None-clause-tries : goal.returns-in-None-clause-tries
returns-in-None-clause-tries c =
    let l = c.args.self.now in
    let k = c.loop-place.invariant in
    let is : c.push.new.self.items
    ≡ c.loop-place.log.items ++ entry c.next_entry.new.seat.who c.args.op ∷ [] = search rules in
    placed_more l.callers l.cap _ c.args.op c.loop-place.place c.args.log.now.items
    c.loop-place.log.items c.push.new.self.items _ (hand_with c.args.seat.now).tried
    (hand_with c.loop-place.seat)
    (hand_with c.next_entry.new.seat) k.begins k.place is k.tries c.in-None.ensures.hand

pub loop-place-preserved : goal.loop-place-preserved
loop-place-preserved c =
    let l = c.args.self.now in
    let k = c.loop-place.invariant in
    let who = c.args.seat.now.who in
    let e = c.in-Some.entry in
    let log = c.loop-place.log.items in
    let h = hand_with c.loop-place.seat in
    let next = hand_with c.next_entry.new.seat in
    let found = c.in-Some.ensures.hand in
    let is : c.push-in-Some.new.self.items ≡ log ++ e ∷ [] = search rules in
    let known : next.log ≡ c.push-in-Some.new.self.items =
    ap (λ (g : Hand). g.log) found.2 ∙ ap (λ (xs : List Entry). xs ++ e ∷ []) k.known ∙ sym is in
    let other : calls_by who next.log ≡ calls_by who h.log =
    subst (λ (i : ℕ). calls_by i next.log ≡ calls_by i h.log) k.who found.3 in
    let long = ap (λ (xs : List Entry). length xs) is in
    let at = k.place in
    let room = k.room in
    let grown = c.push-in-Some.ensures.capacity in
    record {
      placed = c.in-Some.ensures.seat.0;
      who = c.in-Some.ensures.seat.1 ∙ k.who;
      known = known;
      staged = ap (λ (g : Hand). g.staged) found.2 ∙ k.staged;
      place = omega (arith, length-append log (e ∷ []));
      begins = (
        k.begins.0 ++ e ∷ [],
        is ∙ ap (λ (xs : List Entry). xs ++ e ∷ []) k.begins.1
            ∙ append_assoc c.args.log.now.items k.begins.0 (e ∷ []),
      );
      own = ap (calls_by who) (sym known) ∙ other ∙ ap (calls_by who) k.known ∙ k.own;
      room = omega arith;
      within = subst (λ (xs : List Entry). IsWithinCap l.callers l.cap xs) known found.4;
      tries =
          found_more l.callers l.cap _ c.args.op c.loop-place.place c.args.log.now.items log
          c.push-in-Some.new.self.items e
          (hand_with c.args.seat.now).tried h next k.begins k.place is k.tries
          found;
    }

pub unreachable-requires : goal.unreachable-requires
unreachable-requires c =
    let l = c.args.self.now in
    let kept = c.loop-place.invariant in
    let own = ap (λ (calls : List ℕ). length calls) kept.own in
    let call = c.requires.call in
    let left : length (calls_by c.args.seat.now.who c.loop-place.log.items) < l.cap = omega arith in
    let low = length-left l.callers l.cap c.args.seat.now.who c.loop-place.log.items kept.within
    c.requires.seat.caller left in
    let at = kept.place in
    let end = c.place_count-place-end.ensures.count in
    absurd (omega arith)
