use Rattle.std.proofs.Common.{◌≡◌, ℕ, ◌+◌, ◌-◌, ◌≤◌, List, [], ◌∷◌, ◌++◌, append_assoc, ◌∙◌, sym, ap, zero-add, arith}
use Rattle.std.specs.List.{range_with_len}
use Rattle.smaller_book.proofs.Building.{range_with_len-more}
use Rattle.smaller_book.proofs.removal.numbers_without.Goals as goal

pub loop-before-preserved : goal.loop-before-preserved
loop-before-preserved c =
    let n = c.loop-before.before in
    c.in_ok-push.ensures.items ∙ (ap (λ (xs : List ℕ). xs ++ n ∷ []) c.loop-before.invariant
    ∙ sym (range_with_len-more 0 n n (zero-add n)))

pub loop-after-preserved : goal.loop-after-preserved
loop-after-preserved c =
    let k = c.args.number in
    let n = c.loop-after.after in
    let low : k + 1 ≤ n = omega arith in
    let next : n - (k + 1) + 1 ≡ n + 1 - (k + 1) = omega arith in
    c.in_ok-push-2.ensures.items
    ∙ (ap (λ (xs : List ℕ). xs ++ n ∷ []) c.loop-after.invariant
    ∙ (append_assoc (range_with_len 0 k) (range_with_len (k + 1) (n - (k + 1))) (n ∷ [])
    ∙ ap (λ (xs : List ℕ). range_with_len 0 k ++ xs)
    (sym (range_with_len-more (k + 1) (n - (k + 1)) n (omega arith))
    ∙ ap (range_with_len (k + 1)) next)))
