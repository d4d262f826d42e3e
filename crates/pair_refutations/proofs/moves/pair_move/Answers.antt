use Rattle.std.proofs.Common.{◌<◌, ◌∙◌, None, get_or, sym, ap, subst, true≢false, arith}
use Rattle.book_base.specs.declared.TheConstants.{MAX_CALLERS}
use Rattle.queue_pairs.specs.declared.table.TimedCall.{TimedCall}
use Rattle.queue_pairs.specs.Tables.{put_at, take_at, IsFirstFrom}
use Rattle.queue_refutation.proofs.Entries.{next-put, next-take, entry-some, put-named, take-named, put-none, take-none}
use Rattle.pair_refutations.proofs.Moving.{move-callers, move-made, made-move, entries-are}
use Rattle.pair_refutations.proofs.moves.pair_move.Goals.{then-putter-via-then-putter, then-putter-via-else-putter+then-taker}
use Rattle.pair_refutations.proofs.moves.pair_move.Goals as goal

pub returns-then-putter-clause-none : goal.returns-then-putter-clause-none
returns-then-putter-clause-none c reading book table is h pair of m =
    let few = move-callers reading book table _ pair is m in
    elim c.then-putter.branch [
      | then-putter-via-then-putter w ↦ omega (arith, few.0, of.0, w.if-putter.true)
      | then-putter-via-else-putter+then-taker w ↦ omega (arith, few.1, of.1, w.if-taker.true)
    ]

pub returns-in_default-clause-none : goal.returns-in_default-clause-none
returns-in_default-clause-none c reading book table is h pair of m =
    let inside : c.args.putter < MAX_CALLERS = omega (arith, c.if-putter.false) in
    put-none reading book table c.args.standing.now c.args.putter
    (get_or c.args.next.now.puts c.args.putter None) pair is (h.puts c.args.putter inside)
    (sym c.put.ensures ∙ c.in_default.is) of.0 m.may

pub returns-in_default-take-clause-none : goal.returns-in_default-take-clause-none
returns-in_default-take-clause-none c reading book table is h pair of m =
    let inside : c.args.taker < MAX_CALLERS = omega (arith, c.if-taker.false) in
    take-none reading book table c.args.standing.now c.args.taker
    (get_or c.args.next.now.takes c.args.taker None) pair is (h.takes c.args.taker inside)
    (sym c.take.ensures ∙ c.in_default-take.is) of.1 m.may

pub returns-then-makes_move-clause-pair : goal.returns-then-makes_move-clause-pair
returns-then-makes_move-clause-pair c reading book table is h =
    let s = c.args.standing.now in
    let pair = c.earliest-pair.result in
    let putter : c.args.putter < MAX_CALLERS = omega (arith, c.if-putter.false) in
    let taker : c.args.taker < MAX_CALLERS = omega (arith, c.if-taker.false) in
    let put = entry-some (λ i n. put_at table i n) s.puts c.args.putter
    (get_or c.args.next.now.puts c.args.putter None) c.in-Some.put putter
    (h.puts c.args.putter putter) (sym c.put.ensures ∙ c.in-Some.is) in
    let take = entry-some (λ i n. take_at table i n) s.takes c.args.taker
    (get_or c.args.next.now.takes c.args.taker None) c.in-Some-take.take taker
    (h.takes c.args.taker taker) (sym c.take.ensures ∙ c.in-Some-take.is) in
    let are = entries-are table s c.in-Some.put c.in-Some-take.take pair put take
    c.earliest-pair.ensures.put c.earliest-pair.ensures.take c.earliest-pair.ensures.put_moment
    c.earliest-pair.ensures.take_moment in
    let puts = next-put reading book table s.puts c.args.putter c.in-Some.put is
    (subst (IsFirstFrom (λ n. put_at table c.args.putter n) (get_or s.puts c.args.putter 0))
    (sym c.put.ensures ∙ c.in-Some.is) (h.puts c.args.putter putter)) in
    let takes = next-take reading book table s.takes c.args.taker c.in-Some-take.take is
    (subst (IsFirstFrom (λ n. take_at table c.args.taker n) (get_or s.takes c.args.taker 0))
    (sym c.take.ensures ∙ c.in-Some-take.is) (h.takes c.args.taker taker)) in (
      (
        ap (λ (t : TimedCall). t.call.caller) c.earliest-pair.ensures.put ∙ puts.caller,
        ap (λ (t : TimedCall). t.call.caller) c.earliest-pair.ensures.take ∙ takes.caller,
      ),
      move-made reading book table s pair is are.0 are.1 are.2 are.3
          (c.makes_move.ensures.0 c.if-makes_move.true),
    )

pub returns-else-makes_move-clause-none : goal.returns-else-makes_move-clause-none
returns-else-makes_move-clause-none c reading book table is h p of m =
    let s = c.args.standing.now in
    let pair = c.earliest-pair.result in
    let putter : c.args.putter < MAX_CALLERS = omega (arith, c.if-putter.false) in
    let taker : c.args.taker < MAX_CALLERS = omega (arith, c.if-taker.false) in
    let put = entry-some (λ i n. put_at table i n) s.puts c.args.putter
    (get_or c.args.next.now.puts c.args.putter None) c.in-Some.put putter
    (h.puts c.args.putter putter) (sym c.put.ensures ∙ c.in-Some.is) in
    let take = entry-some (λ i n. take_at table i n) s.takes c.args.taker
    (get_or c.args.next.now.takes c.args.taker None) c.in-Some-take.take taker
    (h.takes c.args.taker taker) (sym c.take.ensures ∙ c.in-Some-take.is) in
    let are = entries-are table s c.in-Some.put c.in-Some-take.take pair put take
    c.earliest-pair.ensures.put c.earliest-pair.ensures.take c.earliest-pair.ensures.put_moment
    c.earliest-pair.ensures.take_moment in
    let named_put = put-named reading book table s c.args.putter
    (get_or c.args.next.now.puts c.args.putter None) c.in-Some.put p is
    (h.puts c.args.putter putter) (sym c.put.ensures ∙ c.in-Some.is) of.0 m.may in
    let named_take = take-named reading book table s c.args.taker
    (get_or c.args.next.now.takes c.args.taker None) c.in-Some-take.take p is
    (h.takes c.args.taker taker) (sym c.take.ensures ∙ c.in-Some-take.is) of.1 m.may in
    let made = made-move reading book table s pair is are.0 are.1 are.2 are.3 p c.requires
    (named_put ∙ ap (λ (t : TimedCall). t.call) (sym c.earliest-pair.ensures.put))
    (named_take ∙ ap (λ (t : TimedCall). t.call) (sym c.earliest-pair.ensures.take)) m in
    true≢false (sym (c.makes_move.ensures.1 made) ∙ c.if-makes_move.false)
