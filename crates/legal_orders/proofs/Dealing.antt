-- What a deal says of its call.
use Rattle.std.proofs.Common.{◌≡◌, ℕ, ◌∙◌, List, Option, Some, None, refl, ap, inl, inr}
use Rattle.std.proofs.lemmas.Option.{slice_get_within}
use Rattle.list_laws.proofs.Options.{cases_Option}
use Rattle.book_base.specs.declared.call.Call.{Call}
use Rattle.book_base.specs.declared.call.Record.{Record}
use Rattle.book_base.specs.Book.{Page, page_of, IsCall, operation_of, record_of}
use Rattle.legal_orders.specs.Container.{Effect, Puts, Takes, Neither, Reading}
use Rattle.legal_orders.specs.Calls.{PutsIn, TakesOut, FindsNothing}
use Rattle.legal_orders.specs.Deals as deals
use Rattle.legal_orders.specs.Deals.{shown_deal, recorded_deal, deal_by_deed, deal_by_operation, deal_of}

-- the deal of an answered take says what its reply shows
shown_took : (shown : Option ℕ) (v : ℕ) → shown_deal shown ≡ deals.Took v → shown ≡ Some v
shown_took None v e = absurd cc
shown_took (Some w) v e = let same : w ≡ v = cc in ap Some same

shown_nothing : (shown : Option ℕ) → shown_deal shown ≡ deals.FoundNothing → shown ≡ None
shown_nothing None e = refl
shown_nothing (Some w) e = absurd cc

shown_no_put : (shown : Option ℕ) (v : ℕ) → shown_deal shown ≡ deals.Put v → ⊥
shown_no_put None v e = cc
shown_no_put (Some w) v e = cc

recorded_no_put : (reading : Reading) (o : Option Record) (v : ℕ)
    → recorded_deal reading o ≡ deals.Put v → ⊥
recorded_no_put reading None v e = cc
recorded_no_put reading (Some r) v e = shown_no_put (reading.shown r.reply) v e

recorded_took : (reading : Reading) (o : Option Record) (v : ℕ) → recorded_deal reading o
    ≡ deals.Took v → (r : Record) × (o ≡ Some r) × (reading.shown r.reply ≡ Some v)
recorded_took reading None v e = absurd cc
recorded_took reading (Some r) v e = (r, refl, shown_took (reading.shown r.reply) v e)

recorded_nothing : (reading : Reading) (o : Option Record) → recorded_deal reading o
    ≡ deals.FoundNothing → (r : Record) × (o ≡ Some r) × (reading.shown r.reply ≡ None)
recorded_nothing reading None e = absurd cc
recorded_nothing reading (Some r) e = (r, refl, shown_nothing (reading.shown r.reply) e)

-- the deal of a call says what effect its operation has
deed_put : (reading : Reading) (book : List Page) (call : Call) (deed : Effect) (v : ℕ)
    → deal_by_deed reading book call deed ≡ deals.Put v → deed ≡ Puts v
deed_put reading book call (Puts w) v e = let same : w ≡ v = cc in ap Puts same
deed_put reading book call Takes v e = absurd (recorded_no_put reading (record_of book call) v e)
deed_put reading book call Neither v e = absurd cc

deed_took : (reading : Reading) (book : List Page) (call : Call) (deed : Effect) (v : ℕ)
    → deal_by_deed reading book call deed ≡ deals.Took v
    → (deed ≡ Takes)
    × ((r : Record) × (record_of book call ≡ Some r) × (reading.shown r.reply ≡ Some v))
deed_took reading book call (Puts w) v e = absurd cc
deed_took reading book call Takes v e = (refl, recorded_took reading (record_of book call) v e)
deed_took reading book call Neither v e = absurd cc

deed_nothing : (reading : Reading) (book : List Page) (call : Call) (deed : Effect)
    → deal_by_deed reading book call deed ≡ deals.FoundNothing
    → (deed ≡ Takes)
    × ((r : Record) × (record_of book call ≡ Some r) × (reading.shown r.reply ≡ None))
deed_nothing reading book call (Puts w) e = absurd cc
deed_nothing reading book call Takes e = (refl, recorded_nothing reading (record_of book call) e)
deed_nothing reading book call Neither e = absurd cc

puts_by_operation : (reading : Reading) (book : List Page) (call : Call) (v : ℕ) (o : Option ℕ)
    → operation_of book call ≡ o → deal_by_operation reading book call o ≡ deals.Put v
    → PutsIn reading book call v
puts_by_operation reading book call v None is e = absurd cc
puts_by_operation reading book call v (Some op) is e =
    (op, is, deed_put reading book call (reading.deed op) v e)

takes_by_operation : (reading : Reading) (book : List Page) (call : Call) (v : ℕ) (o : Option ℕ)
    → operation_of book call ≡ o → deal_by_operation reading book call o ≡ deals.Took v
    → TakesOut reading book call v
takes_by_operation reading book call v None is e = absurd cc
takes_by_operation reading book call v (Some op) is e = let d =
    deed_took reading book call (reading.deed op) v e in (op, d.1.0, is, d.1.1, d.0, d.1.2)

nothing_by_operation : (reading : Reading) (book : List Page) (call : Call) (o : Option ℕ)
    → operation_of book call ≡ o → deal_by_operation reading book call o ≡ deals.FoundNothing
    → FindsNothing reading book call
nothing_by_operation reading book call None is e = absurd cc
nothing_by_operation reading book call (Some op) is e = let d =
    deed_nothing reading book call (reading.deed op) e in (op, d.1.0, is, d.1.1, d.0, d.1.2)

-- a call has the deal of a put exactly where it puts in
pub puts_by_deal : (reading : Reading) (book : List Page) (call : Call) (v : ℕ)
    → deal_of reading book call ≡ deals.Put v → PutsIn reading book call v
puts_by_deal reading book call v e =
    puts_by_operation reading book call v (operation_of book call) refl e

pub deal_of_put : (reading : Reading) (book : List Page) (call : Call) (v : ℕ)
    → PutsIn reading book call v → deal_of reading book call ≡ deals.Put v
deal_of_put reading book call v h =
    ap (deal_by_operation reading book call) h.1 ∙ ap (deal_by_deed reading book call) h.2

-- a call with the deal of a take takes out, or finds nothing
pub takes_by_deal : (reading : Reading) (book : List Page) (call : Call) (v : ℕ)
    → deal_of reading book call ≡ deals.Took v → TakesOut reading book call v
takes_by_deal reading book call v e =
    takes_by_operation reading book call v (operation_of book call) refl e

pub nothing_by_deal : (reading : Reading) (book : List Page) (call : Call)
    → deal_of reading book call ≡ deals.FoundNothing → FindsNothing reading book call
nothing_by_deal reading book call e =
    nothing_by_operation reading book call (operation_of book call) refl e

-- a call with another deal than `Other` is a call of the book
pub call_by_deal : (reading : Reading) (book : List Page) (call : Call)
    → (deal_of reading book call ≡ deals.Other → ⊥) → IsCall book call
call_by_deal reading book call some = elim (cases_Option (operation_of book call)) [
  | inl nothing ↦ absurd (some (ap (deal_by_operation reading book call) nothing))
  | inr found ↦ slice_get_within (page_of book call.caller).operations call.number found.0 found.1
]
