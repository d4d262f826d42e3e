use Rattle.std.proofs.Common.{◌≡◌, ◌≤◌, [], ◌∷◌, length, vec_capacity}
use Rattle.book_base.specs.OperationWord.{low_of, high_of}
use Rattle.shared_words.specs.Entries.{calls_by, IsWithinCap, BeginsWith}
use Rattle.shared_words.specs.Words.{HasTried}
use Rattle.shared_words.specs.Seats.{hand_with, IsPlaced}
use Rattle.shared_words.proofs.shared_log.SharedLog.place.Given as goal

abbrev pub invariant-loop-place : goal.invariant-loop-place
invariant-loop-place l =
    record {
      placed : IsPlaced l.self l.seat;
      who : l.seat.who ≡ l.fn.seat.who;
      known : (hand_with l.seat).log ≡ l.log.items;
      staged : (hand_with l.seat).staged ≡ low_of l.op ∷ high_of l.op ∷ [];
      place : l.place ≡ length l.log.items;
      begins : BeginsWith l.log.items l.fn.log.items;
      own : calls_by l.fn.seat.who l.log.items ≡ calls_by l.fn.seat.who l.fn.log.items;
      room : vec_capacity l.fn.log ≤ vec_capacity l.log;
      within : IsWithinCap l.self.callers l.self.cap l.log.items;
      tries : HasTried l.self.callers l.self.cap (length l.fn.log.items) (length l.log.items)
          (hand_with l.fn.seat).tried (hand_with l.seat).tried;
    }
