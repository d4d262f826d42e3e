use Rattle.std.proofs.Common.{ℕ, ◌∙◌, Bool, not, List, [], ◌∷◌, ◌++◌, filter, if◌then◌else◌, sym, ap}
use Rattle.std.specs.List.{range_with_len}
use Rattle.smaller_book.specs.Keys.{key_of_call, is_among}
use Rattle.smaller_book.proofs.KeyRemoval.{filter_range-more}
use Rattle.refutation_text.specs.Steps.{keys_gone}
use Rattle.refutation_text.proofs.part_steps.row_of_places.Goals as goal

pub loop-number-preserved : goal.loop-number-preserved
loop-number-preserved c =
    let book = c.args.book.now in
    let i = c.args.caller in
    let n = c.loop-number.number in
    let keys : ℕ → Bool = keys_gone c.args.these c.args.keys.now in
    let stays : ℕ → Bool = λ number.
    not (is_among keys (key_of_call c.args.kind book (record { caller = i; number = number }))) in
    c.in_ok-push_if.ensures
    ∙ (ap (λ (xs : List ℕ). xs ++ (if not c.is_gone-goes.result then n ∷ [] else []))
    c.loop-number.invariant
    ∙ (ap (λ (b : Bool). filter stays (range_with_len 0 n) ++ (if not b then n ∷ [] else []))
    (c.is_gone-goes.ensures ∙ ap (is_among keys) c.key_of-key.ensures)
    ∙ sym (filter_range-more stays n)))
