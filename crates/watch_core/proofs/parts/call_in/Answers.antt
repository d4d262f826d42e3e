use Rattle.std.proofs.Common.{◌∙◌, ℕ, nat_eq, List, Some, sym, ap, subst}
use Rattle.std.specs.Map.{lookup}
use Rattle.seq_objects.specs.Objects.{kind_spec}
use Rattle.streams.specs.Stream.{Called}
use Rattle.watch_core.specs.Part.{Parted}
use Rattle.watch_core.specs.Parts.{TakeEvent}
use Rattle.watch_core.proofs.Lookups.{written, written_same, take_updated, take_inserted, on_ok_then, on_err_then}
use Rattle.watch_core.proofs.parts.call_in.Goals as goal

pub returns-in-Some-clause-taken : goal.returns-in-Some-clause-taken
returns-in-Some-clause-taken c =
    let m = c.args.parts.now in
    let new = c.call.new.self in
    let n = c.get_mut.follows.lender new in
    let is = sym c.in-Some.ensures.value in
    on_ok_then c.call.result c.call.ensures.taken (λ takes. take_updated m n c.args.key new
    (written m n c.args.key c.in-Some.part.now new is (c.get_mut.follows.holds new))
    (kind_spec c.args.kind) (Called c.args.process c.args.op) (Some c.in-Some.part.now) is
    (takes (kind_spec c.args.kind)))

pub returns-in-Some-clause-same : goal.returns-in-Some-clause-same
returns-in-Some-clause-same c =
    let new = c.call.new.self in
    on_err_then c.call.result c.call.ensures.same (λ same. written_same c.args.parts.now
    (c.get_mut.follows.lender new) c.args.key c.in-Some.part.now new
    (sym c.in-Some.ensures.value) (c.get_mut.follows.holds new) same)

pub returns-clause-taken : goal.returns-clause-taken
returns-clause-taken c =
    let m = c.get_mut.follows.lender-at-none in
    let spec = kind_spec c.args.kind in
    let event = Called c.args.process c.args.op in
    let same = ap (λ s. s.entries) c.get_mut.follows.holds-at-none in
    let none = ap (λ (l : List (ℕ × Parted)). lookup (nat_eq c.args.key) l) same
    ∙ sym c.in_default.ensures.value in
    let view = c.part.view_is in
    subst (λ (l : List (ℕ × Parted)). TakeEvent spec c.args.key event l c.insert.new.self.entries)
    same (take_inserted spec c.args.key event m c.insert.new.self c.in_ok-part.part
    c.call-2.new.self _ none c.in_ok-part.ensures.first c.in_ok-part.ensures.none
    (c.in_ok-call.ensures.taken spec) c.in_ok-insert.ensures.updates cc)
