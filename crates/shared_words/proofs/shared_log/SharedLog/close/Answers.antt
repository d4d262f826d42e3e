use Rattle.std.proofs.Common.{◌≡◌, length, Some, arith, refl, ◌∙◌}
use Rattle.std.proofs.lemmas.List.Elements.{All-pop}
use Rattle.shared_words.specs.Seats.{caller_of, hand_of, IsSeatOf}
use Rattle.shared_words.proofs.Coming.{comes_next}
use Rattle.shared_words.proofs.LogClosing.{starts_closing, more_closing, closed, seat_popped, no_seats}
use Rattle.shared_words.proofs.shared_log.SharedLog.close.Goals as goal

pub loop-seated-init : goal.loop-seated-init
loop-seated-init g c =
    let popped = seat_popped g.P.Seated.seat c.args.seats.items c.pop.new.self.items c.in-Some.last
    c.into_seat-longest.result c.in-Some.ensures.items c.into_seat-longest.ensures in
    record {
      table = (All-pop (IsSeatOf c.args.self) _ _ (Some c.into_seat-longest.result) popped
          c.requires.seats.each).1.placed.table;
      closing = starts_closing c.args.self.callers _ _ c.into_seat-longest.result _ popped
          c.requires.seats.callers refl;
    }

pub take_in-longest-requires : goal.take_in-longest-requires
take_in-longest-requires g c =
    let k = c.loop-seated.invariant in
    let popped = seat_popped g.P.Seated.seat _ _ c.in-Some-pop.seated c.into_seat-seat.result
    c.in-Some-pop.ensures.items c.into_seat-seat.ensures in
    let next = comes_next caller_of hand_of _ _ _ _ c.into_seat-seat.result _
    c.requires.seats.callers k.closing.coming popped (IsSeatOf c.args.self) c.requires.seats.each in
    record { keeper = k.table; seat = next.seat; gone = next.gone; wide = next.inside }

pub loop-seated-preserved : goal.loop-seated-preserved
loop-seated-preserved g c =
    let popped = seat_popped g.P.Seated.seat _ _ c.in-Some-pop.seated c.into_seat-seat.result
    c.in-Some-pop.ensures.items c.into_seat-seat.ensures in
    record {
      table = c.take_in-longest.ensures.keeper.0 ∙ c.loop-seated.invariant.table;
      closing =
          more_closing c.args.self _ _ _ c.into_seat-seat.result _ _ c.requires.seats
          c.loop-seated.invariant.closing popped _ _
          c.take_in-longest.ensures.keeper.1 c.take_in-longest.ensures.longest;
    }

pub returns : goal.returns
returns g c =
    let none = c.in_default-pop.ensures.cases.0 in
    let gone : length c.loop-seated.seats.items ≡ 0 = omega arith in
    let one = closed c.args.self _ _ _ _ _ _ _ c.requires.seats c.loop-seated.invariant.closing
    (no_seats g.P.Seated.seat _ gone) c.close_with.ensures.values.2 in
    record { within = one.0; log = one.1 }
