use Rattle.std.proofs.Common.{◌≡◌, ◌↔◌, IsTrue, None, sym, ◌∙◌}
use Rattle.std.proofs.lemmas.Result.{IfOk-weaker}
use Rattle.seq_objects.specs.declared.kind.Kind.TheVariants.{Register}
use Rattle.call_handles.specs.Slots.{handle_in, IsSized, IsSizedTable, IsOpened, IsOpenedTable}
use Rattle.call_handles.proofs.opening.open_modelled.Goals as goal

pub returns-clause-when : goal.returns-clause-when
returns-clause-when c =
    let callers = c.args.callers in
    let calls = c.args.calls in
    let free = handle_in c.args.slot.now ≡ None in
    IfOk-weaker c.open.result
    (λ done. IsTrue done ↔ IsSized c.as_bytes.result.now callers calls × free)
    (λ done. IsTrue done ↔ IsSizedTable callers calls × free) (λ done iff. (
      λ yes.
          let sized = iff.0 yes in (
            record {
              some_callers = sized.0.some_callers;
              few_callers = sized.0.few_callers;
              some_calls = sized.0.some_calls;
              few_calls = sized.0.few_calls;
            },
            sized.1,
          ),
      λ sized. iff.1 (
        record {
          kind = Register;
          named = sym (c.as_bytes.ensures.value ∙ c.name.ensures);
          some_callers = sized.0.some_callers;
          few_callers = sized.0.few_callers;
          some_calls = sized.0.some_calls;
          few_calls = sized.0.few_calls;
        },
        sized.1,
      ),
    )) c.open.ensures.when

pub returns-clause-opened : goal.returns-clause-opened
returns-clause-opened c =
    let callers = c.args.callers in
    let calls = c.args.calls in
    let after = handle_in c.open.new.slot in
    IfOk-weaker c.open.result
    (λ done. IsTrue done → IsOpened c.as_bytes.result.now callers calls after)
    (λ done. IsTrue done → IsOpenedTable callers calls after) (λ done opened yes.
    let found = opened yes in
    (found.0, found.1, found.3, found.4, found.5)) c.open.ensures.opened
