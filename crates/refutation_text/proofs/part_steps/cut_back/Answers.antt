use Rattle.std.proofs.Common.{◌≡◌, ℕ, ◌<◌, ◌∙◌, List, length, get_or, ap, zero-add, arith}
use Rattle.std.specs.List.{range_with_len}
use Rattle.std.proofs.lemmas.List.{length-map}
use Rattle.std.proofs.lemmas.List.FromFn.{get_or-range_with_len, length-range_with_len, length-map-range_with_len}
use Rattle.book_base.specs.declared.call.Call.{Call}
use Rattle.book_base.specs.Book.{Page, calls_of, IsCall}
use Rattle.book_base.proofs.ViewLemmas.{held_is_call}
use Rattle.smaller_book.specs.Part.{numbers_of}
use Rattle.smaller_book.specs.Numbers.{numbers_in}
use Rattle.smaller_book.proofs.LeastCuts.{numbers_of-all}
use Rattle.refutation_text.proofs.part_steps.cut_back.Goals as goal

pub numbers_through-requires-clause-callers : goal.numbers_through-requires-clause-callers
numbers_through-requires-clause-callers c =
    let book : List Page = c.in_ok-book.book in
    let rows : ℕ → List ℕ = λ i. range_with_len 0 (calls_of book i) in
    omega (
      arith,
      ap length c.deref.ensures.value,
      ap length c.deref-2.ensures.value,
      length-map c.args.left.now.numbers.items (λ row. row.items),
      length-map c.in_ok-places.places.items (λ row. row.items),
      ap length c.in_ok-places.ensures,
      length-map-range_with_len rows 0 (length book),
      c.requires.wide,
      c.in_ok-book.ensures.callers,
    )

pub numbers_through-requires-clause-inside : goal.numbers_through-requires-clause-inside
numbers_through-requires-clause-inside c = λ i k room.
    let book : List Page = c.in_ok-book.book in
    let it : Call = record { caller = i; number = k } in
    let row : numbers_of (numbers_in c.deref-2.result.now) i ≡ range_with_len 0 (calls_of book i) =
    ap (λ rows. numbers_of (numbers_in rows) i) c.deref-2.ensures.value
    ∙ (ap (λ (ns : List (List ℕ)). numbers_of ns i) c.in_ok-places.ensures
    ∙ numbers_of-all book i) in
    let few : k < calls_of book i =
    omega (arith, room, ap length row, length-range_with_len 0 (calls_of book i)) in
    let here : IsCall c.args.left.now.book it = held_is_call c.args.left.now.book _ it
    c.requires.valid ((c.in_ok-book.ensures.calls it).0 few) in
    let value : get_or (numbers_of (numbers_in c.deref-2.result.now) i) k 0 ≡ k =
    ap (λ (xs : List ℕ). get_or xs k 0) row
    ∙ (get_or-range_with_len 0 (calls_of book i) k 0 few ∙ zero-add k) in
    omega (
      arith,
      value,
      c.requires.inside i k here,
      ap (λ rows. length (numbers_of (numbers_in rows) i)) c.deref.ensures.value,
    )
