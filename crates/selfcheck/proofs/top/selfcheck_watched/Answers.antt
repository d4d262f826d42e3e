use Rattle.std.proofs.Common.{◌≡◌, ◌∙◌, sym}
use Rattle.selfcheck.proofs.OutputLemmas.{EndsWriting-plain, Ends-usage, Ends-answered, one_named, inside_is_fine, exact-from_ends, soak-from_ends, complete-from_ends}
use Rattle.selfcheck.specs.declared.command.Command.TheVariants.{Soak}
use Rattle.selfcheck.specs.Output.{input_of}
use Rattle.selfcheck.proofs.top.selfcheck_watched.Goals as goal

pub returns-in_default-clause-ends : goal.returns-in_default-clause-ends
returns-in_default-clause-ends g c =
    Ends-usage c.args.words.now _ _ (g.S.Source.left c.args.source.now) _ _
    (sym c.in-Ok.ensures.command ∙ c.in_default.is) c.write_text.ensures.written

pub returns-in-Ok-read_for-clause-ends : goal.returns-in-Ok-read_for-clause-ends
returns-in-Ok-read_for-clause-ends g c =
    Ends-answered c.args.words.now c.in-Some.command _ _ _ _ _ _ _ c.in-Ok-read_for.bytes.items
    (sym c.in-Ok.ensures.command ∙ c.in-Some.is) c.in-Ok-read_for.ensures.read
    (rw c.deref.ensures.value at c.answer.ensures.ends)

pub returns-in-Ok-read_for-clause-exact : goal.returns-in-Ok-read_for-clause-exact
returns-in-Ok-read_for-clause-exact g c = λ command held status named told one.
    let same : command ≡ c.in-Some.command = one_named c.args.words.now command c.in-Some.command
    named (sym c.in-Ok.ensures.command ∙ c.in-Some.is) in
    exact-from_ends c.in-Some.command _ _ _ _ c.in-Ok-read_for.bytes.items held status _
    c.in-Ok-read_for.ensures.read
    (EndsWriting-plain c.in-Some.command _ _ _ _ _ _
    (rw c.deref.ensures.value at c.answer.ensures.ends)) told
    (rw same at one)

pub returns-in-Ok-read_for-clause-right : goal.returns-in-Ok-read_for-clause-right
returns-in-Ok-read_for-clause-right g c = λ command held named told taken inside.
    let same : command ≡ c.in-Some.command = one_named c.args.words.now command c.in-Some.command
    named (sym c.in-Ok.ensures.command ∙ c.in-Some.is) in
    exact-from_ends c.in-Some.command _ _ _ _ c.in-Ok-read_for.bytes.items held _ _
    c.in-Ok-read_for.ensures.read
    (EndsWriting-plain c.in-Some.command _ _ _ _ _ _
    (rw c.deref.ensures.value at c.answer.ensures.ends)) told
    (rw same at (inside_is_fine command (input_of command held) taken inside))

pub returns-in-Ok-read_for-clause-soak : goal.returns-in-Ok-read_for-clause-soak
returns-in-Ok-read_for-clause-soak g c = λ number named.
    soak-from_ends number c.in-Some.command _ _ _ _ c.in-Ok-read_for.bytes.items _
    (one_named c.args.words.now c.in-Some.command (Soak number)
    (sym c.in-Ok.ensures.command ∙ c.in-Some.is) named)
    c.in-Ok-read_for.ensures.read
    (EndsWriting-plain c.in-Some.command _ _ _ _ _ _
    (rw c.deref.ensures.value at c.answer.ensures.ends))

pub returns-in-Ok-read_for-clause-complete : goal.returns-in-Ok-read_for-clause-complete
returns-in-Ok-read_for-clause-complete g c = λ command held named told wanted _ calm.
    let same : command ≡ c.in-Some.command = one_named c.args.words.now command c.in-Some.command
    named (sym c.in-Ok.ensures.command ∙ c.in-Some.is) in
    complete-from_ends c.in-Some.command _ _ _ _ c.in-Ok-read_for.bytes.items held _
    c.in-Ok-read_for.ensures.read
    (EndsWriting-plain c.in-Some.command _ _ _ _ _ _
    (rw c.deref.ensures.value at c.answer.ensures.ends)) told
    (rw same at wanted) (λ failed. calm (c.answer.ensures.faults.fault failed))
