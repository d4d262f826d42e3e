use Rattle.std.proofs.Common.{◌↔◌, IsSome, IfSome, Option, Some, Ok, refl, sym, subst, ap, ◌∙◌}
use Rattle.std.proofs.lemmas.Result.{IfOk-at_ok}
use Rattle.call_handles.specs.declared.handle.Handle.{Handle}
use Rattle.call_handles.specs.Slots.{handle_in, MayGive, HasGiven}
use Rattle.list_laws.proofs.Options.{none_from_is_some}
use Rattle.call_handles.proofs.opening.give.Goals as goal

pub returns-in-Ok-Some-clause-when : goal.returns-in-Ok-Some-clause-when
returns-in-Ok-Some-clause-when c =
    let is = c.in-Ok-Some.is ∙ ap Ok c.in-Ok-Some.field-0-is in
    let may =
    IfOk-at_ok (λ (found : Option Handle). IsSome found ↔ MayGive (handle_in c.args.table.now)) is
    c.replace_with.ensures.0 in (
      λ _. (
        may.0 refl,
        none_from_is_some (handle_in c.args.slot.now)
            (sym c.is_taken.ensures ∙ c.if-is_taken.false),
      ),
      λ _. refl,
    )

pub returns-in-Ok-Some-clause-given : goal.returns-in-Ok-Some-clause-given
returns-in-Ok-Some-clause-given c = λ _.
    let is = c.in-Ok-Some.is ∙ ap Ok c.in-Ok-Some.field-0-is in
    let before = handle_in c.args.table.now in
    let after = handle_in c.replace_with.new.dest in
    let given = IfOk-at_ok
    (λ (found : Option Handle). IfSome found (λ h. HasGiven c.args.role before after (Some h))) is
    c.replace_with.ensures.1.0 in
    subst (λ (place : Option Handle). HasGiven c.args.role before after place)
    (sym (c.of.ensures ∙ ap Some c.filled.ensures)) given
