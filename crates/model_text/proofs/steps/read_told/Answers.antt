use Rattle.std.proofs.Common.{ℕ, [], ◌∷◌, ◌++◌, List, sym, subst, refl, inl, inr}
use Rattle.std.proofs.lemmas.Result.{err_from_is_err_and}
use Rattle.model_text.specs.declared.told_line.ToldLine.{ToldLine}
use Rattle.std.specs.Prelude.{IsTrue}
use Rattle.text_fields.specs.Lines.{words_of}
use Rattle.text_fields.specs.Faults.{GoesTo, IsFirstTest}
use Rattle.text_fields.proofs.Sharp.{goes_then, goes_line, stops_cut, stops_line, stops_later}
use Rattle.model_text.specs.ModelRules.{InSteps, AllRead, IsToldLine, ToldFails, model_rules}
use Rattle.model_text.specs.Told.{rises_after}
use Rattle.model_text.proofs.steps.read_told.Goals as goal

pub returns-in_err-line-clause-refused : goal.returns-in_err-line-clause-refused
returns-in_err-line-clause-refused c =
    let p = err_from_is_err_and c.from_residual.result c.from_residual.ensures.1 in
    let l = c.loop-told in
    rw (p.1, p.2) (λ pages.
    stops_later model_rules (InSteps pages []) (InSteps pages l.told.items)
    c.args.lines.now l.lines c.in_err-line.field-0.0 (l.invariant pages)
    (stops_cut model_rules (InSteps pages l.told.items) l.lines c.in_err-line.field-0.0
    refl c.in_err-line.ensures.cut.0))

pub loop-told-preserved : goal.loop-told-preserved
loop-told-preserved c = λ pages.
    let l = c.loop-told in
    let said : ToldLine = c.in-Ok-Some.said in
    let words : List (List ℕ) = words_of c.in_ok-line.field-0.now in
    let said_so = rw c.in-Ok-Some.field-0-is at c.in-Ok-Some.ensures.found in
    let found : IsToldLine l.told.items words said × IsTrue (rises_after l.told.items said) =
    subst (λ (told : List ToldLine). IsToldLine told words said × IsTrue (rises_after told said))
    c.deref.ensures.value said_so in
    let line = goes_line model_rules (InSteps pages l.told.items)
    (InSteps pages (l.told.items ++ said ∷ [])) l.lines c.line.new.self
    c.in_ok-line.field-0.now c.in_ok-line.ensures.line (inr (said, found.0, found.1, refl)) in
    let both = goes_then model_rules (InSteps pages [])
    (InSteps pages l.told.items) (InSteps pages (l.told.items ++ said ∷ []))
    c.args.lines.now l.lines c.line.new.self (l.invariant pages) line in
    subst (λ (told : List ToldLine). GoesTo model_rules (InSteps pages []) c.args.lines.now
    (InSteps pages told) c.line.new.self) (sym c.in_ok-push-in-Ok-Some.ensures.items) both

pub returns-in-Ok-None-clause-found : goal.returns-in-Ok-None-clause-found
returns-in-Ok-None-clause-found c = λ pages.
    let l = c.loop-told in
    let found = rw c.in-Ok-None.field-0-is at c.in-Ok-None.ensures.found in
    let line = goes_line model_rules (InSteps pages l.told.items)
    (AllRead pages l.told.items) l.lines c.line.new.self c.in_ok-line.field-0.now
    c.in_ok-line.ensures.line (inl (found, refl)) in
    goes_then model_rules (InSteps pages []) (InSteps pages l.told.items)
    (AllRead pages l.told.items) c.args.lines.now l.lines c.line.new.self
    (l.invariant pages) line

pub returns-in-Err-clause-refused : goal.returns-in-Err-clause-refused
returns-in-Err-clause-refused c = λ pages.
    let l = c.loop-told in
    rw c.number-line.ensures (stops_later model_rules (InSteps pages [])
    (InSteps pages l.told.items) c.args.lines.now l.lines _ (l.invariant pages)
    (stops_line model_rules (InSteps pages l.told.items) l.lines c.line.new.self
    c.in_ok-line.field-0.now c.in-Err.what refl c.in_ok-line.ensures.line
    (subst (λ (told : List ToldLine). IsFirstTest (ToldFails told
    (words_of c.in_ok-line.field-0.now)) c.in-Err.what) c.deref.ensures.value c.in-Err.ensures.refused)))
