-- What the object gives an answered call in a legal order.
use Rattle.std.proofs.Common.{◌≡◌, ℕ, List, map, take, Option, Some, sym, ap, ◌∙◌, slice_get, unwrap_or}
use Rattle.std.specs.Option.{option_map}
use Rattle.std.proofs.lemmas.Option.{slice_get-map}
use Rattle.book_base.specs.declared.call.Call.{Call}
use Rattle.book_base.specs.declared.call.Place.{Place}
use Rattle.book_base.specs.declared.call.Record.{Record}
use Rattle.book_base.specs.SeqSpec.{SeqSpec}
use Rattle.book_base.specs.Book.{Page, operation_of, record_of}
use Rattle.book_base.specs.Order.{step_at, HasLegalOrder}
use Rattle.book_base.specs.Reaching.{list_after_run, MayReply}
use Rattle.legal_orders.proofs.Runs.{step_of_run}

-- where a book has a legal order, the object gives the recorded reply of an answered call at some
-- list
pub MayReply-from_legal : (spec : SeqSpec) (book : List Page) (call : Call) (op : ℕ) (r : Record)
    → operation_of book call ≡ Some op → record_of book call ≡ Some r
    → HasLegalOrder spec book → MayReply spec.next op r.reply
MayReply-from_legal spec book call op r asked answered (order, legal) =
    let place : Place =
    record { caller = call.caller; number = call.number; reply = r.reply } in
    let found = legal.answered call r answered in
    let k : ℕ = found.0 in
    let steps : List (ℕ × ℕ) = map (step_at book) order in
    let at : slice_get steps k ≡ Some (step_at book place) =
    slice_get-map (step_at book) order k
    ∙ ap (λ (o : Option Place). option_map (step_at book) o) found.1 in
    let list : List ℕ = list_after_run spec.next spec.init (take k steps) in
    let given = step_of_run spec.next spec.init steps k (step_at book place) legal.run at in (
      list,
      ap (λ (o : Option ℕ). (spec.next list (unwrap_or o 0)).1) (sym asked) ∙ given.0,
    )
