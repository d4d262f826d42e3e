use Rattle.std.proofs.Common.{refl, ◌∙◌}
use Rattle.shared_words.specs.Deeds.{Swapped}
use Rattle.shared_words.specs.Passes.{history_of}
use Rattle.shared_words.proofs.Stepping.{access_asks, turned}
use Rattle.shared_words.proofs.shared_words.SharedWords.swap.Goals as goal

pub swap-requires : goal.swap-requires
swap-requires g c =
    let s = c.args.seat.now in (
      c.requires.seat.table,
      c.requires.place,
      access_asks g.U.Usage.may _ _ _ _ _ s.who s.seat.me (history_of s) c.args.self.now.sized.3
          s.alone c.args.place (λ x. c.args.word) (λ x. Swapped c.args.place c.args.word x)
          c.requires.place (λ x. refl) (λ x. refl) (λ x. refl) c.requires.may,
    )

pub invariant_of-seat : goal.invariant_of-seat
invariant_of-seat g c =
    let s = c.args.seat.now in
    record {
      alone = (turned g.U.Usage.may s.who s.seat.me c.swap.new.seat.me (history_of s)
          (Swapped c.args.place c.args.word c.swap.result) s.alone c.swap.ensures.2).alone;
    }

pub returns : goal.returns
returns g c =
    let s = c.args.seat.now in
    let made = turned g.U.Usage.may s.who s.seat.me c.swap.new.seat.me (history_of s)
    (Swapped c.args.place c.args.word c.swap.result) s.alone c.swap.ensures.2 in
    record {
      seat =
          record {
            table = c.swap.ensures.0 ∙ c.requires.seat.table;
            caller = c.requires.seat.caller;
            lawful = made.lawful;
          };
      caller = refl;
      step = made.made.own;
      history = made.made;
    }
