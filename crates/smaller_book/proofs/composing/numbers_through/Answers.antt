use Rattle.std.proofs.Common.{◌≡◌, ℕ, ◌<◌, List, length, get_or, ◌∙◌, sym, ap, subst, arith}
use Rattle.smaller_book.specs.Part.{numbers_of}
use Rattle.smaller_book.specs.Numbers.{numbers_in}
use Rattle.smaller_book.specs.Numbers.{picked}
use Rattle.smaller_book.proofs.Building.{numbers_in-at, numbers_in-more}
use Rattle.smaller_book.proofs.composing.numbers_through.Goals as goal

pub numbers_at-requires : goal.numbers_at-requires
numbers_at-requires c =
    let i = c.loop-caller.caller in
    let first = c.args.first.now in
    let second = c.args.second.now in
    let left : numbers_of (numbers_in first) i ≡ c.deref.result.now =
    numbers_in-at first i c.index-first-caller.result (omega arith) c.index-first-caller.is
    ∙ sym c.deref.ensures.value in
    let right : numbers_of (numbers_in second) i ≡ c.deref-in-loop-caller.result.now
    = numbers_in-at second i c.index-second-caller.result (omega arith) c.index-second-caller.is
    ∙ sym c.deref-in-loop-caller.ensures.value in
    let P : List ℕ → List ℕ → Type 0 =
    λ numbers places. (k : ℕ) → k < length places → get_or places k 0 < length numbers in
    subst (λ (xs : List ℕ). P xs c.deref-in-loop-caller.result.now) left
    (subst (P (numbers_of (numbers_in first) i)) right (c.requires.inside i))

pub loop-caller-preserved : goal.loop-caller-preserved
loop-caller-preserved c =
    let i = c.loop-caller.caller in
    let first = c.args.first.now in
    let second = c.args.second.now in
    let f : ℕ → List ℕ =
    λ j. picked (numbers_of (numbers_in first) j) (numbers_of (numbers_in second) j) in
    let left : numbers_of (numbers_in first) i ≡ c.deref.result.now =
    numbers_in-at first i c.index-first-caller.result (omega arith) c.index-first-caller.is
    ∙ sym c.deref.ensures.value in
    let right : numbers_of (numbers_in second) i ≡ c.deref-in-loop-caller.result.now
    = numbers_in-at second i c.index-second-caller.result (omega arith) c.index-second-caller.is
    ∙ sym c.deref-in-loop-caller.ensures.value in
    let same : picked c.deref.result.now c.deref-in-loop-caller.result.now ≡ f i
    = ap (λ (xs : List ℕ). picked xs c.deref-in-loop-caller.result.now) (sym left)
    ∙ ap (picked (numbers_of (numbers_in first) i)) (sym right) in
    numbers_in-more f c.loop-caller.rows.items c.push.new.self.items c.in_ok-numbers_at.field-0 i
    c.loop-caller.invariant c.in_ok-push.ensures.items (c.in_ok-numbers_at.ensures ∙ same)
