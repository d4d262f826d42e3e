use Rattle.std.proofs.Common.{◌∙◌, List, Some, ap, sym, refl, map}
use Rattle.history_text.specs.declared.entry.LinedEntry.{LinedEntry}
use Rattle.history_text.specs.declared.fields.Field.{Field}
use Rattle.history_text.specs.Layout.{field_text}
use Rattle.history_text.specs.Pairing.{event_or, last_event}
use Rattle.history_text.specs.Log.IsFaultAt.{shapeless, alone, beside}
use Rattle.history_text.proofs.Stepping.{last_more}
use Rattle.history_text.proofs.log_entries.LogEntries.read.Goals as goal

pub returns-in_default-clause-cause : goal.returns-in_default-clause-cause
returns-in_default-clause-cause c =
    (refl, shapeless (sym (rw c.in_default.is at c.in_ok-fields.ensures)))

pub returns-in-Err-clause-cause : goal.returns-in-Err-clause-cause
returns-in-Err-clause-cause c =
    let has = sym (rw c.in-Some.is at c.in_ok-fields.ensures) in
    let same = ap (λ (fields : List Field). Some (map field_text fields)) c.deref.ensures.value in (
      refl,
      alone c.in-Err.what (record {
        fields = map field_text c.deref.result.now;
        has = has ∙ sym same;
        says = rw c.in-Err.is at c.in_ok-entry.ensures;
      }),
    )

pub returns-in-Some-wrong_entry-clause-cause : goal.returns-in-Some-wrong_entry-clause-cause
returns-in-Some-wrong_entry-clause-cause c =
    let has = sym (rw c.in-Some.is at c.in_ok-fields.ensures) in
    let same = ap (λ (fields : List Field). Some (map field_text fields)) c.deref.ensures.value in (
      refl,
      beside c.in-Ok.entry c.in-Some-wrong_entry.what (record {
        fields = map field_text c.deref.result.now;
        has = has ∙ sym same;
        says = rw c.in-Ok.is at c.in_ok-entry.ensures;
      }) (sym (c.wrong_entry.ensures c.args.self.now.entries.items c.requires)
          ∙ c.in-Some-wrong_entry.is),
    )

pub returns-clause-last : goal.returns-clause-last
returns-clause-last c = λ process.
    let entry : LinedEntry = record { line = c.args.line; entry = c.in-Ok.entry } in
    c.in_ok-note.ensures process
    ∙ (ap (event_or process c.args.line c.in-Ok.entry) (c.requires process)
    ∙ (sym (last_more process c.args.self.now.entries.items entry)
    ∙ ap (last_event process) (sym c.in_ok-push.ensures.items)))
