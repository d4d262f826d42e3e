use Rattle.std.proofs.Common.{◌≡◌, ◌↔◌, ◌+◌, IsSome, IsNone, Some, refl, ap}
use Rattle.std.proofs.lemmas.Result.{IfOk-weaker}
use Rattle.call_handles.specs.declared.handle.Handle.TheVariants.{Table}
use Rattle.call_handles.specs.Tables.{rows_in, next_of, GivesNext}
use Rattle.call_handles.specs.Slots.{MayGive, IsFreshAs, HasGiven}
use Rattle.call_handles.proofs.Sorts.{gives_iff, found_then}
use Rattle.call_handles.proofs.opening.given_by.Goals as goal

pub returns-in-Table-clause-when : goal.returns-in-Table-clause-when
returns-in-Table-clause-when c =
    let t = c.in-Table.table in
    let place = Some c.args.handle in
    IfOk-weaker c.next_in-next.result (λ found. IsNone found ↔ (next_of t ≡ (rows_in t).callers))
    (λ found. IsSome found ↔ MayGive place)
    (λ found iff. gives_iff found place t (ap Some c.in-Table.is) iff) c.next_in-next.ensures.when

pub returns-in-Table-clause-given : goal.returns-in-Table-clause-given
returns-in-Table-clause-given c =
    let t = c.in-Table.table in
    let u = c.next_in-next.new.table in
    let role = c.args.given.1 in
    found_then c.next_in-next.result (IsFreshAs role t (next_of t))
    (λ _. GivesNext (next_of t + 1) t u)
    (λ h. HasGiven role (Some c.args.handle) (Some (Table u)) (Some h))
    c.next_in-next.ensures.given c.next_in-next.ensures.next
    (λ h fresh next. (t, u, h, ap Some c.in-Table.is, refl, refl, next, fresh))
