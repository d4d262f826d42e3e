-- Where the next call of a caller leads.
use Rattle.std.proofs.Common.{◌≡◌, ℕ, ◌<◌, ◌↔◌, ◌∙◌, List, ◌∷◌, ◌++◌, [], length, get_or, Some, unwrap_or, refl, sym, ap, subst, slice_get, arith}
use Rattle.std.proofs.lemmas.Option.{get_or_from_slice_get}
use Rattle.book_base.specs.declared.call.Place.{Place}
use Rattle.book_base.specs.declared.call.Record.{Record}
use Rattle.book_base.specs.SeqSpec.{SeqSpec}
use Rattle.book_base.specs.Book.{Page, operation_of, record_of}
use Rattle.book_base.specs.Next.{next_call, HoldsAnswered, MayComeNext}
use Rattle.book_base.specs.Pruning.{IsLeast}
use Rattle.book_base.proofs.PageLemmas.{caller_from_call}
use Rattle.book_base.proofs.ViewLemmas.{same_call}
use Rattle.refutations.specs.declared.entry.Entry.{Entry}
use Rattle.refutations.specs.Closed.{Item, IsOneItem, first_item, item_after, LeadsInside, IsClosedAt, with_entry}

-- what the object replies to the next call of a caller
abbrev pub reply_at : SeqSpec → List Page → Item → ℕ → ℕ
reply_at spec book item caller =
    (spec.next item.list (unwrap_or (operation_of book (next_call item.cut caller)) 0)).1

module _ (spec : SeqSpec) (book : List Page) (list : List Item) (item : Item) (caller : ℕ) where
  -- A call that may come next and may have the object's reply leads to an item of the list exactly
  -- where the item after it is one.
  pub leads-one : (after : Item) (reply : ℕ)
      → MayComeNext book item.cut (next_call item.cut caller)
      → after ≡ item_after spec book item caller → reply ≡ reply_at spec book item caller
      → ((r : Record) → record_of book (next_call item.cut caller) ≡ Some r → r.reply ≡ reply)
      → IsOneItem list after ↔ LeadsInside spec book list item caller
  leads-one after reply may is gives recorded = (
    λ one place of_caller stands.
        subst (IsOneItem list) (is ∙ refl) one,
    λ leads.
        let place : Place =
        record { caller = caller; number = get_or item.cut caller 0; reply = reply } in
        subst (IsOneItem list) (sym is) (leads place refl (record {
          may_come = may;
          recorded = recorded;
          reply = sym gives;
        })),
  )

  -- A call that has another recorded reply than the object's leads nowhere.
  pub leads-other : (r : Record) → record_of book (next_call item.cut caller) ≡ Some r
      → (r.reply ≡ reply_at spec book item caller → ⊥)
      → LeadsInside spec book list item caller
  leads-other r known other place of_caller stands =
      let same = same_call _ (next_call item.cut caller) of_caller
      (stands.may_come.next ∙ ap (λ (i : ℕ). get_or item.cut i 0) of_caller) in
      let says = stands.recorded r (ap (record_of book) same ∙ known) in
      absurd (other (says ∙ (sym stands.reply ∙ ap
      (λ c. (spec.next item.list (unwrap_or (operation_of book c) 0)).1) same)))

  -- A call that may not come next leads nowhere.
  pub leads-never : (MayComeNext book item.cut (next_call item.cut caller) → ⊥)
      → LeadsInside spec book list item caller
  leads-never never place of_caller stands =
      let same = same_call _ (next_call item.cut caller) of_caller
      (stands.may_come.next ∙ ap (λ (i : ℕ). get_or item.cut i 0) of_caller) in
      absurd (never (subst (MayComeNext book item.cut) same stands.may_come))

-- A list is closed at an item from which the calls of all callers of the book lead inside.
pub closed_at : (spec : SeqSpec) (book : List Page) (list : List Item) (item : Item)
    → (HoldsAnswered book item.cut → ⊥)
    → ((i : ℕ) → i < length book → LeadsInside spec book list item i)
    → IsClosedAt spec book list item
closed_at spec book list item unfinished leads = record {
  unfinished = unfinished;
  leads = λ caller place of_caller stands.
      let there : place.caller < length book =
      caller_from_call book place.caller place.number stands.may_come.is_call in
      leads caller (subst (λ (i : ℕ). i < length book) of_caller there) place of_caller stands;
}

-- The list with an entry has the item after the entry's call at the item that the entry names.
pub with_entry-made : (spec : SeqSpec) (book : List Page) (list : List Item) (entry : Entry)
    (item made : Item) → slice_get list entry.item ≡ Some item
    → made ≡ item_after spec book item entry.caller
    → list ++ made ∷ [] ≡ with_entry spec book list entry
with_entry-made spec book list entry item made at is =
    ap (λ (it : Item). list ++ it ∷ []) (is ∙ ap
    (λ (it : Item). item_after spec book it entry.caller)
    (sym (get_or_from_slice_get list entry.item item (first_item spec book) at)))

-- A cut outside which some answered call is the least doesn't hold all answered calls.
pub not_whole : (book : List Page) (cut : List ℕ) (first : ℕ) → IsLeast book cut (length book) first
    → HoldsAnswered book cut → ⊥
not_whole book cut first least holds =
    let held : get_or cut first 0 < get_or cut first 0 =
    holds (next_call cut first) least.answered in
    absurd (omega (arith, held))
