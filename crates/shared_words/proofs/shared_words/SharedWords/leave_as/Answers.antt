use Rattle.shared_words.proofs.Parting.{leaves}
use Rattle.shared_words.proofs.shared_words.SharedWords.leave_as.Goals as goal

pub split_seat-seat-requires : goal.split_seat-seat-requires
split_seat-seat-requires g c = (
  c.requires.seat,
  c.args.self.now.sized.0,
  leaves g.U.Usage.may _ _ _ _ _ _ _ c.requires.who c.requires.here,
)
