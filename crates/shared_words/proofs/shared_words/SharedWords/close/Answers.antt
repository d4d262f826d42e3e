use Rattle.std.proofs.Common.{◌≡◌, length, Some, arith, ap, ◌∙◌}
use Rattle.std.proofs.lemmas.List.Elements.{All-pop}
use Rattle.shared_words.specs.Passes.{seat_in, caller_of_pass, history_in, IsSeatOf}
use Rattle.shared_words.proofs.Coming.{starts_coming, comes_next, more_coming}
use Rattle.shared_words.proofs.Closing.{closed, closed_without}
use Rattle.shared_words.proofs.shared_words.SharedWords.close.Goals as goal

pub returns-in_default : goal.returns-in_default
returns-in_default g c =
    let none = c.in_default.ensures.cases.0 in
    record { history = closed_without g.U.Usage.may _ c.args.passes.items (omega arith) }

pub loop-pass-init : goal.loop-pass-init
loop-pass-init g c =
    let is = c.in-Some.ensures.items in
    record {
      table = (All-pop (λ p. IsSeatOf g.U.Usage.may c.args.self (seat_in p)) _ _
          (Some c.in-Some.last) is c.requires.seats).1.table;
      coming = starts_coming caller_of_pass history_in _ _ _ c.in-Some.last _ is c.requires.callers
          (ap (λ m. m.0) c.in-Some.last.seat.alone);
    }

pub take_in-requires : goal.take_in-requires
take_in-requires g c =
    let k = c.loop-pass.invariant in
    let next = comes_next caller_of_pass history_in _ _ _ _ c.in-Some-pop.pass _ c.requires.callers
    k.coming c.in-Some-pop.ensures.items (λ p. IsSeatOf g.U.Usage.may c.args.self (seat_in p))
    c.requires.seats in
    record { keeper = k.table; seat = next.seat; gone = next.gone; wide = next.inside }

pub loop-pass-preserved : goal.loop-pass-preserved
loop-pass-preserved g c =
    record {
      table = c.take_in.ensures.table ∙ c.loop-pass.invariant.table;
      coming = more_coming caller_of_pass history_in _ _ _ _ c.in-Some-pop.pass _ c.requires.callers
          c.loop-pass.invariant.coming c.in-Some-pop.ensures.items _ c.take_in.ensures.keeper;
    }

pub returns : goal.returns
returns g c =
    let none = c.in_default-pop.ensures.cases.0 in
    let gone : length c.loop-pass.passes.items ≡ 0 = omega arith in
    record {
      history = closed g.U.Usage.may c.args.self _ _ _ _ _ _ c.loop-pass.invariant.coming gone
          c.close_with.ensures.values.2;
    }
