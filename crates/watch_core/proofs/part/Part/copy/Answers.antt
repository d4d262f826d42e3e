use Rattle.std.proofs.Common.{◌∙◌, List, ◌++◌, Some, ap, subst}
use Rattle.late_residue.specs.declared.open_call.OpenCall.{OpenCall}
use Rattle.watch_core.specs.Part.{Copies}
use Rattle.watch_core.proofs.Partly.{part, part_copy}
use Rattle.watch_core.proofs.part.Part.copy.Goals as goal

pub returns : goal.returns
returns c =
    let i = c.self.inside in
    let now = c.extend_from_slice.new.self.items in
    subst (λ p. Copies (Some p) (Some (part i.taken now c.in_ok-copy.field-0))) c.self.view_is
    (part_copy i.taken i.calls.items i.residue now c.in_ok-copy.field-0
    (c.in_ok-extend_from_slice.ensures.items
    ∙ (ap (λ (l : List OpenCall). l ++ c.deref.result.now) c.in_ok-calls.ensures.items
    ∙ c.deref.ensures.value)) (λ spec events. c.in_ok-copy.ensures spec events i.calls.items))
