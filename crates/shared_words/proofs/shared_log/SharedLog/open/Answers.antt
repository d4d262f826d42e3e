use Rattle.std.proofs.Common.{◌≡◌, ◌*◌, ◌∙◌, ap, replicate, rules}
use Rattle.shared_words.proofs.LogStepping.{ruled_at_opening}
use Rattle.shared_words.proofs.shared_log.SharedLog.open.Goals as goal

pub of_words-requires : goal.of_words-requires
of_words-requires c =
    let filled : c.in_ok-words.words.items ≡ replicate (3 * c.place_count-places.result) 0 =
    search rules in
    ruled_at_opening _ _ _ (c.as_slice.ensures.value ∙ filled
    ∙ ap (λ k. replicate (3 * k) 0) c.place_count-places.ensures.count)
