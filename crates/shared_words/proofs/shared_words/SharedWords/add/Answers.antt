use Rattle.std.proofs.Common.{refl, ◌∙◌, ◌+◌, ◌%◌, ◌^◌}
use Rattle.shared_words.specs.Deeds.{Added}
use Rattle.shared_words.specs.Passes.{history_of}
use Rattle.shared_words.proofs.Stepping.{access_asks, turned}
use Rattle.shared_words.proofs.shared_words.SharedWords.add.Goals as goal

pub fetch_add-requires : goal.fetch_add-requires
fetch_add-requires g c =
    let s = c.args.seat.now in (
      c.requires.seat.table,
      c.requires.place,
      access_asks g.U.Usage.may _ _ _ _ _ s.who s.seat.me
          (history_of s) c.args.self.now.sized.3 s.alone c.args.place
          (λ x. (x + c.args.amount) % 2 ^ 64) (λ x. Added c.args.place c.args.amount x)
          c.requires.place (λ x. refl) (λ x. refl) (λ x. refl) c.requires.may,
    )

pub invariant_of-seat : goal.invariant_of-seat
invariant_of-seat g c =
    let s = c.args.seat.now in
    record {
      alone = (turned g.U.Usage.may s.who s.seat.me c.fetch_add.new.seat.me (history_of s)
          (Added c.args.place c.args.amount c.fetch_add.result) s.alone c.fetch_add.ensures.2).alone;
    }

pub returns : goal.returns
returns g c =
    let s = c.args.seat.now in
    let made = turned g.U.Usage.may s.who s.seat.me c.fetch_add.new.seat.me (history_of s)
    (Added c.args.place c.args.amount c.fetch_add.result) s.alone c.fetch_add.ensures.2 in
    record {
      seat =
          record {
            table = c.fetch_add.ensures.0 ∙ c.requires.seat.table;
            caller = c.requires.seat.caller;
            lawful = made.lawful;
          };
      caller = refl;
      step = made.made.own;
      history = made.made;
    }
