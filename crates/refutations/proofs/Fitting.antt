-- The item after a call fits where the item before it does.
use Rattle.std.proofs.Common.{◌≡◌, ℕ, ◌+◌, ◌-◌, ◌<◌, ◌≤◌, ◌∙◌, List, [], length, sum, get_or, refl, arith}
use Rattle.std.proofs.lemmas.List.{length-set}
use Rattle.book_base.specs.declared.call.Place.{Place}
use Rattle.book_base.specs.SeqSpec.{SeqSpec}
use Rattle.book_base.specs.Book.{Page, IsCall, IsSmall}
use Rattle.book_base.specs.Next.{raised, next_call}
use Rattle.book_base.proofs.PageLemmas.{caller_from_call}
use Rattle.book_base.proofs.ReachingLemmas.{suffices-next, suffices-step}
use Rattle.order_check.proofs.Placing.{made_more, sum-raised, few_stand}
use Rattle.refutations.specs.declared.stored_item.TheConstants.{MOST_CALLS}
use Rattle.refutations.specs.Closed.{Item, item_after}
use Rattle.refutations.specs.Stored.{Fits}

module _ (spec : SeqSpec) (book : List Page) (capacity : ℕ) (item : Item) (i : ℕ)
    (small : IsSmall book) (fits : Fits spec book capacity item)
    (is : IsCall book (next_call item.cut i)) where
  inside : i < length item.cut
  inside = let there = caller_from_call book i (get_or item.cut i 0) is in
      omega (arith, fits.wide, there)

  pub raised_made : (j : ℕ) → get_or (raised item.cut i) j 0
      ≤ length (get_or book j (record { operations = []; records = [] })).operations
  raised_made =
      let place : Place = record { caller = i; number = get_or item.cut i 0; reply = 0 } in
      made_more book item.cut place inside refl is fits.made

  raised_wide : length (raised item.cut i) ≡ length book
  raised_wide = length-set item.cut i (get_or item.cut i 0 + 1) ∙ fits.wide

  -- a book may have one more call than those of the cut
  one_more : sum item.cut + 1 ≤ MOST_CALLS
  one_more = omega (
    arith,
    few_stand book (raised item.cut i) small raised_wide raised_made,
    sum-raised item.cut i inside,
  )

  -- the capacity suffices for the list after any operation
  pub next_fits : (op : ℕ) → length (spec.next item.list op).0 ≤ capacity
  next_fits op = suffices-next spec.next item.list (MOST_CALLS - sum item.cut) capacity op
      (omega (arith, one_more)) fits.room

  -- the item after the call fits
  pub Fits-after : Fits spec book capacity (item_after spec book item i)
  Fits-after = record {
    wide = raised_wide;
    made = raised_made;
    room = suffices-step spec.next item.list (MOST_CALLS - sum item.cut)
        (MOST_CALLS - sum (raised item.cut i)) capacity _
        (omega (arith, one_more, sum-raised item.cut i inside)) fits.room;
  }
