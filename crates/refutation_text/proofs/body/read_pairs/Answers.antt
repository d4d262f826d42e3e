use Rattle.std.proofs.Common.{◌≡◌, [], ◌∷◌, ◌++◌, List, true, sym, subst, ◌∙◌, refl}
use Rattle.std.proofs.lemmas.Result.{err_from_is_err_and}
use Rattle.book_base.specs.declared.fault.What.TheVariants.{Place}
use Rattle.pair_refutations.specs.declared.entry.PairEntry.{PairEntry}
use Rattle.text_fields.specs.Lines.{words_of}
use Rattle.text_fields.specs.Faults.{GoesTo}
use Rattle.text_fields.proofs.Sharp.{goes_then, goes_line, stops_cut, stops_line, stops_later}
use Rattle.refutation_text.specs.Said.{Pairs, MoveLine, EndLine}
use Rattle.refutation_text.specs.RefutationRules.{InPairs, BodyRead, body_rules}
use Rattle.refutation_text.proofs.Parts.{no_pair_entry}
use Rattle.refutation_text.proofs.body.read_pairs.Goals as goal

pub returns-in_err-line-clause-refused : goal.returns-in_err-line-clause-refused
returns-in_err-line-clause-refused c =
    let p = err_from_is_err_and c.from_residual.result c.from_residual.ensures.1 in
    let l = c.loop-entries in
    rw (p.1, p.2) (λ steps. stops_later body_rules (InPairs steps c.args.first.items)
    (InPairs steps l.entries.items) c.args.lines.now l.lines c.in_err-line.field-0.0
    (l.invariant steps) (stops_cut body_rules (InPairs steps l.entries.items) l.lines
    c.in_err-line.field-0.0 refl c.in_err-line.ensures.cut.0))

pub loop-entries-preserved : goal.loop-entries-preserved
loop-entries-preserved c = λ steps.
    let l = c.loop-entries in
    let old : List PairEntry = l.entries.items in
    let entry = c.in-Some.entry in
    let line = goes_line body_rules (InPairs steps old) (InPairs steps (old ++ entry ∷ []))
    l.lines c.line.new.self c.in_ok-line.field-0.now c.in_ok-line.ensures.line (
      MoveLine entry,
      record {
        may = c.in-Some.ensures.found.0;
        text = sym c.new-words.ensures ∙ sym c.copy.ensures ∙ c.in-Some.ensures.found.1;
      },
      refl,
    ) in
    let both = goes_then body_rules (InPairs steps c.args.first.items) (InPairs steps old)
    (InPairs steps (old ++ entry ∷ [])) c.args.lines.now l.lines c.line.new.self
    (l.invariant steps) line in
    subst (λ (entries : List PairEntry).
    GoesTo body_rules (InPairs steps c.args.first.items) c.args.lines.now
    (InPairs steps entries) c.line.new.self) (sym c.in_ok-push-in-Some.ensures.items) both

pub returns-then-is_end-clause-found : goal.returns-then-is_end-clause-found
returns-then-is_end-clause-found c = λ steps.
    let l = c.loop-entries in
    let old : List PairEntry = l.entries.items in
    let line = goes_line body_rules (InPairs steps old) (BodyRead steps (Pairs old)) l.lines
    c.line.new.self c.in_ok-line.field-0.now c.in_ok-line.ensures.line (
      EndLine,
      record {
        may = tt;
        text = sym c.new-words.ensures ∙ sym c.copy-in-None.ensures
            ∙ c.is_end.ensures.0 c.if-is_end.true;
      },
      refl,
    ) in
    goes_then body_rules (InPairs steps c.args.first.items) (InPairs steps old)
    (BodyRead steps (Pairs old)) c.args.lines.now l.lines c.line.new.self (l.invariant steps) line

pub returns-in-None-clause-refused : goal.returns-in-None-clause-refused
returns-in-None-clause-refused c = λ steps.
    let l = c.loop-entries in
    let old : List PairEntry = l.entries.items in
    rw c.number-line.ensures
    (stops_later body_rules (InPairs steps c.args.first.items) (InPairs steps old)
    c.args.lines.now l.lines _ (l.invariant steps)
    (stops_line body_rules (InPairs steps old) l.lines c.line.new.self
    c.in_ok-line.field-0.now Place refl c.in_ok-line.ensures.line
    (no_pair_entry steps old (words_of c.in_ok-line.field-0.now)
    (λ entry may text.
    c.in-None.ensures.none entry may (c.copy.ensures ∙ c.new-words.ensures ∙ text))
    (λ e. let is : c.is_end.result ≡ true =
    c.is_end.ensures.1 (c.copy-in-None.ensures ∙ c.new-words.ensures ∙ e) in
    absurd (cc (is, c.if-is_end.false))))))
