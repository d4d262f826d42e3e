-- No places continue an order from an item of a closed list, so the book has no legal order.
use Rattle.std.proofs.Common.{◌≡◌, ℕ, List, [], ◌∷◌, length, replicate, unwrap_or, refl, sym, ap, subst, arith}
use Rattle.std.proofs.lemmas.List.{length-replicate}
use Rattle.list_laws.proofs.Places.{get_or-replicate_default}
use Rattle.book_base.specs.declared.call.Call.{Call}
use Rattle.book_base.specs.declared.call.Place.{Place}
use Rattle.book_base.specs.SeqSpec.{SeqSpec}
use Rattle.book_base.specs.Book.{Page, operation_of}
use Rattle.book_base.specs.Order.{call_at}
use Rattle.book_base.specs.Next.{raised, next_call, list_after, Continues}
use Rattle.legal_orders.proofs.LegalOrder.{same_call, continues_from_legal_order}
use Rattle.legal_orders.proofs.Replied.{MayReply-from_legal}
use Rattle.refutations.specs.Closed.{Item, IsOneItem, first_item, item_after, IsClosedList}
use Rattle.refutations.specs.Laws.{ClosedListsHaveNoOrder, ImpossibleRepliesHaveNoOrder}

-- The list after the next call of a caller is the list after its place.
after_place : (spec : SeqSpec) (book : List Page) (item : Item) (place : Place)
    → call_at place ≡ next_call item.cut place.caller
    → (item_after spec book item place.caller).list ≡ list_after book spec.next item.list place
after_place spec book item place same =
    ap (λ (c : Call). (spec.next item.list (unwrap_or (operation_of book c) 0)).0) (sym same)

-- No places continue an order from an item of a closed list.
none_continue : (spec : SeqSpec) (book : List Page) (items : List Item)
    → IsClosedList spec book items → (rest : List Place) (item : Item) → IsOneItem items item
    → Continues book spec.next item.cut item.list rest → ⊥
none_continue spec book items closed [] item there goes =
    (closed.closed item there).unfinished goes
none_continue spec book items closed (place ∷ rest) item there goes =
    let may = goes.0.may_come in
    let same : call_at place ≡ next_call item.cut place.caller =
    same_call (call_at place) (next_call item.cut place.caller) refl may.next in
    none_continue spec book items closed rest (item_after spec book item place.caller)
    ((closed.closed item there).leads place.caller place refl goes.0)
    (subst (λ (l : List ℕ). Continues book spec.next (raised item.cut place.caller) l rest)
    (sym (after_place spec book item place same)) goes.1)

pub closed_lists_have_no_order : ClosedListsHaveNoOrder
closed_lists_have_no_order spec book items closed (order, legal) =
    none_continue spec book items closed order (first_item spec book) closed.begins
    (continues_from_legal_order book spec (replicate (length book) 0) order
    (omega (arith, length-replicate {A = ℕ} (length book) 0))
    (λ (i : ℕ). get_or-replicate_default {X = ℕ} (length book) i 0) legal)

pub impossible_replies_have_no_order : ImpossibleRepliesHaveNoOrder
impossible_replies_have_no_order spec book call it legal =
    it.never (MayReply-from_legal spec book call it.op it.r it.asked it.answered legal)
