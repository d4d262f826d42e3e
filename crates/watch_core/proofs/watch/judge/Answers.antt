use Rattle.std.proofs.Common.{◌≡◌, ◌∙◌, ◌↔◌, nat_eq, Bool, [], Option, IfSome, IfNone, IsTrue, List, sym, subst}
use Rattle.std.specs.Map.{lookup}
use Rattle.seq_objects.specs.Objects.{kind_spec}
use Rattle.streams.specs.Stream.{StreamEvent, Returned}
use Rattle.late_residue.specs.LateOnes.{IsBeyond}
use Rattle.watch_core.specs.Part.{IsHeldAt, calls_at, residue_at}
use Rattle.watch_core.specs.Parts.{TakeEvent}
use Rattle.watch_core.proofs.Late.{not_both}
use Rattle.watch_core.proofs.Judged.{judged_final, judged_beyond, judged_some, judged_none}
use Rattle.watch_core.proofs.watch.judge.Goals as goal

pub returns-then-is_some-clause-held : goal.returns-then-is_some-clause-held
returns-then-is_some-clause-held c stream later near far of_key valid count split reached held =
    judged_final c.args.kind c.args.limit c.args.taken c.args.seen c.args.key stream later near far
    (Returned c.args.process c.args.reply) c.args.parts.now.entries c.args.parts.now.entries
    c.args.last of_key valid count split reached held (sym c.is_some.ensures ∙ c.if-is_some.true)

pub returns-in_default-clause-held : goal.returns-in_default-clause-held
returns-in_default-clause-held c stream later near far of_key valid count split reached held =
    let old = c.args.parts.now.entries in
    judged_beyond c.args.kind c.args.limit c.args.taken c.args.seen c.args.key stream later near far
    (Returned c.args.process c.args.reply) old c.return_in.new.parts.entries c.args.last
    of_key valid
    count split reached held (sym c.is_some.ensures ∙ c.if-is_some.false)
    (subst (λ (o : Option Bool). IfNone o ((events : List StreamEvent)
    → IsHeldAt (kind_spec c.args.kind) (lookup (nat_eq c.args.key) old) events
    → IsBeyond (kind_spec c.args.kind) events (calls_at (lookup (nat_eq c.args.key) old))
    c.args.limit)) c.in_default.is c.in_ok-is_empty.ensures.beyond)

pub returns-then-is_empty-clause-held : goal.returns-then-is_empty-clause-held
returns-then-is_empty-clause-held c stream later near far of_key valid count split reached held =
    let old = c.args.parts.now.entries in
    let new = c.return_in.new.parts.entries in
    let takes = subst (λ (o : Option Bool). IfSome o (λ _. TakeEvent (kind_spec c.args.kind)
    c.args.key (Returned c.args.process c.args.reply) old new)) c.in-Some.is
    c.in_ok-is_empty.ensures.taken in
    let empty = subst (λ (o : Option Bool). IfSome o (λ empty.
    IsTrue empty ↔ (residue_at (lookup (nat_eq c.args.key) new) ≡ []))) c.in-Some.is
    c.in_ok-is_empty.ensures.empty in
    judged_none c.args.kind c.args.limit c.args.taken c.args.seen c.args.key stream later near far
    (Returned c.args.process c.args.reply) old new c.args.last of_key valid count split reached held
    (sym c.is_some.ensures ∙ c.if-is_some.false) c.requires takes (empty.0 c.if-is_empty.true)
    c.greater.result c.greater.ensures

pub returns-clause-held : goal.returns-clause-held
returns-clause-held c stream later near far of_key valid count split reached held =
    let old = c.args.parts.now.entries in
    let new = c.return_in.new.parts.entries in
    let takes = subst (λ (o : Option Bool). IfSome o (λ _. TakeEvent (kind_spec c.args.kind)
    c.args.key (Returned c.args.process c.args.reply) old new)) c.in-Some.is
    c.in_ok-is_empty.ensures.taken in
    let empty = subst (λ (o : Option Bool). IfSome o (λ empty.
    IsTrue empty ↔ (residue_at (lookup (nat_eq c.args.key) new) ≡ []))) c.in-Some.is
    c.in_ok-is_empty.ensures.empty in
    judged_some c.args.kind c.args.limit c.args.taken c.args.seen c.args.key stream later near far
    (Returned c.args.process c.args.reply) old new c.args.last of_key valid count split reached held
    (sym c.is_some.ensures ∙ c.if-is_some.false) c.requires takes
    (λ none. not_both c.in-Some.is_empty (empty.1 none) c.if-is_empty.false)
