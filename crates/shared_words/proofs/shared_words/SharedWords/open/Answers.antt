use Rattle.std.proofs.Common.{◌≡◌, ◌∙◌, replicate, rules}
use Rattle.shared_words.proofs.Stepping.{ruled_at_opening}
use Rattle.shared_words.proofs.shared_words.SharedWords.open.Goals as goal

pub of_words-requires : goal.of_words-requires
of_words-requires g c =
    let filled : c.in_ok-zeros.zeros.items ≡ replicate c.args.count 0 = search rules in
    ruled_at_opening g.U.Usage.may _ _ _ (c.as_slice.ensures.value ∙ filled)
