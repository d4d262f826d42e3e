use Rattle.std.proofs.Common.{◌≡◌, [], ◌∷◌, ◌++◌, List, true, sym, ap, subst, ◌∙◌, refl}
use Rattle.std.proofs.lemmas.Result.{err_from_is_err_and}
use Rattle.std.proofs.lemmas.List.{map_push}
use Rattle.book_base.specs.declared.fault.What.TheVariants.{Place}
use Rattle.text_fields.specs.Lines.{words_of}
use Rattle.text_fields.specs.Faults.{GoesTo}
use Rattle.text_fields.proofs.Sharp.{goes_then, goes_line, stops_cut, stops_line, stops_later}
use Rattle.level_refutations.specs.Said.{EntrySaid, entry_said, entries_said}
use Rattle.refutation_text.specs.Said.{Levels, TableLine, EndLine}
use Rattle.refutation_text.specs.RefutationRules.{InLevels, BodyRead, body_rules}
use Rattle.refutation_text.proofs.Parts.{no_table_entry}
use Rattle.refutation_text.proofs.body.read_levels.Goals as goal

pub returns-in_err-line-clause-refused : goal.returns-in_err-line-clause-refused
returns-in_err-line-clause-refused c =
    let p = err_from_is_err_and c.from_residual.result c.from_residual.ensures.1 in
    let l = c.loop-entries in
    let first = entries_said c.args.first.items in
    let old = entries_said l.entries.items in
    rw (p.1, p.2) (λ steps. stops_later body_rules (InLevels steps first) (InLevels steps old)
    c.args.lines.now l.lines c.in_err-line.field-0.0 (l.invariant steps)
    (stops_cut body_rules (InLevels steps old) l.lines c.in_err-line.field-0.0 refl
    c.in_err-line.ensures.cut.0))

pub loop-entries-preserved : goal.loop-entries-preserved
loop-entries-preserved c = λ steps.
    let l = c.loop-entries in
    let first = entries_said c.args.first.items in
    let old : List EntrySaid = entries_said l.entries.items in
    let entry = entry_said c.in-Some.entry in
    let found = rw c.in-Some.is at c.in_ok-entry.ensures.found in
    let line = goes_line body_rules (InLevels steps old) (InLevels steps (old ++ entry ∷ []))
    l.lines c.line.new.self c.in_ok-line.field-0.now c.in_ok-line.ensures.line (
      TableLine entry,
      record { may = found.0; text = sym c.new-words.ensures ∙ found.1 },
      refl,
    ) in
    let both = goes_then body_rules (InLevels steps first) (InLevels steps old)
    (InLevels steps (old ++ entry ∷ [])) c.args.lines.now l.lines c.line.new.self
    (l.invariant steps) line in
    subst (λ (entries : List EntrySaid). GoesTo body_rules (InLevels steps first)
    c.args.lines.now (InLevels steps entries) c.line.new.self)
    (sym (ap entries_said c.in_ok-push-in-Some.ensures.items
    ∙ map_push entry_said l.entries.items c.in-Some.entry)) both

pub returns-then-is_end-clause-found : goal.returns-then-is_end-clause-found
returns-then-is_end-clause-found c = λ steps.
    let l = c.loop-entries in
    let first = entries_said c.args.first.items in
    let old : List EntrySaid = entries_said l.entries.items in
    let line = goes_line body_rules (InLevels steps old) (BodyRead steps (Levels old)) l.lines
    c.line.new.self c.in_ok-line.field-0.now c.in_ok-line.ensures.line (
      EndLine,
      record {
        may = tt;
        text = sym c.new-words.ensures ∙ sym c.copy.ensures
            ∙ c.is_end.ensures.0 c.if-is_end.true;
      },
      refl,
    ) in
    goes_then body_rules (InLevels steps first) (InLevels steps old) (BodyRead steps (Levels old))
    c.args.lines.now l.lines c.line.new.self (l.invariant steps) line

pub returns-in-None-clause-refused : goal.returns-in-None-clause-refused
returns-in-None-clause-refused c = λ steps.
    let l = c.loop-entries in
    let first = entries_said c.args.first.items in
    let old : List EntrySaid = entries_said l.entries.items in
    let none = rw c.in-None.is at c.in_ok-entry.ensures.none in
    rw c.number-line.ensures
    (stops_later body_rules (InLevels steps first) (InLevels steps old)
    c.args.lines.now l.lines _ (l.invariant steps)
    (stops_line body_rules (InLevels steps old) l.lines c.line.new.self
    c.in_ok-line.field-0.now Place refl c.in_ok-line.ensures.line
    (no_table_entry steps old (words_of c.in_ok-line.field-0.now)
    (λ entry may text. none entry may (c.new-words.ensures ∙ text))
    (λ e. let is : c.is_end.result ≡ true =
    c.is_end.ensures.1 (c.copy.ensures ∙ c.new-words.ensures ∙ e) in
    absurd (cc (is, c.if-is_end.false))))))
