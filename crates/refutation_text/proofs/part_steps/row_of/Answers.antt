use Rattle.std.proofs.Common.{ℕ, ◌∙◌, Bool, List, [], ◌∷◌, ◌++◌, filter, if◌then◌else◌, sym, ap}
use Rattle.std.specs.List.{range_with_len}
use Rattle.book_base.specs.declared.call.Call.{Call}
use Rattle.smaller_book.specs.Part.{original}
use Rattle.smaller_book.specs.Numbers.{numbers_in}
use Rattle.smaller_book.proofs.KeyRemoval.{filter_range-more}
use Rattle.refutation_text.specs.Steps.{is_listed}
use Rattle.refutation_text.proofs.part_steps.row_of.Goals as goal

pub loop-place-preserved : goal.loop-place-preserved
loop-place-preserved c =
    let i = c.args.caller in
    let n = c.loop-place.place in
    let calls : List Call = c.args.calls.now in
    let names : List (List ℕ) = numbers_in c.args.left.now.numbers.items in
    let stays : ℕ → Bool = λ number. is_listed calls
    (original names (record { caller = i; number = number })) in
    c.in_ok-push_if.ensures
    ∙ (ap (λ (xs : List ℕ). xs ++ (if c.is_listed-stays.result then n ∷ [] else []))
    c.loop-place.invariant
    ∙ (ap (λ (b : Bool). filter stays (range_with_len 0 n) ++ (if b then n ∷ [] else []))
    (c.is_listed-stays.ensures ∙ ap (λ (number : ℕ). is_listed calls
    (record { caller = i; number = number })) c.number_of-number.ensures)
    ∙ sym (filter_range-more stays n)))
