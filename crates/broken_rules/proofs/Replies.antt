-- A reply that the object never gives: a book with one has no legal order.
use Rattle.std.proofs.Common.{◌≡◌, ℕ, List, Option, Some, IsSomeAnd, unwrap_or, get_or, sym, subst}
use Rattle.std.proofs.lemmas.Option.{slice_get-get_or}
use Rattle.list_laws.proofs.Options.{some_from_is_some_and}
use Rattle.book_base.specs.declared.call.Call.{Call}
use Rattle.book_base.specs.declared.call.Record.{Record}
use Rattle.book_base.specs.Book.{Page, page_of, IsCall, operation_of, record_of}
use Rattle.book_base.specs.Order.{HasLegalOrder}
use Rattle.book_base.specs.Reaching.{MayReply}
use Rattle.legal_orders.proofs.Replied.{MayReply-from_legal}
use Rattle.seq_objects.specs.declared.kind.Kind.{Kind}
use Rattle.seq_objects.specs.Objects.{kind_next, kind_spec}
use Rattle.broken_rules.specs.Rules.{HasImpossibleReply}

pub never_replied : (kind : Kind) (book : List Page) (call : Call) → IsCall book call
    → HasImpossibleReply kind book call → ¬ HasLegalOrder (kind_spec kind) book
never_replied kind book call made impossible legal =
    let IsDenied : Record → Type 0 =
    λ r. ¬ MayReply (kind_next kind) (unwrap_or (operation_of book call) 0) r.reply in
    let found = some_from_is_some_and (record_of book call) IsDenied impossible in
    let op : ℕ = get_or (page_of book call.caller).operations call.number 0 in
    let asked : operation_of book call ≡ Some op =
    slice_get-get_or (page_of book call.caller).operations call.number 0 made in
    let denied : IsDenied found.0 =
    subst (λ (o : Option Record). IsSomeAnd o IsDenied) found.1 impossible in
    denied (subst (λ (o : Option ℕ). MayReply (kind_next kind) (unwrap_or o 0) found.0.reply)
    (sym asked) (MayReply-from_legal (kind_spec kind) book call op found.0 asked found.1 legal))
