use Rattle.std.proofs.Common.{◌≡◌, ℕ, ◌+◌, ◌<◌, [], ◌∷◌, ◌++◌, List, length, get_or, take, drop, replicate, sym, ap, subst, ◌∙◌, refl, arith}
use Rattle.std.specs.Prelude.{sum}
use Rattle.std.proofs.lemmas.List.{take_more, length-replicate, length-map}
use Rattle.std.proofs.lemmas.Result.{err_from_is_err_and}
use Rattle.book_base.specs.declared.call.Call.{Call}
use Rattle.book_base.specs.Book.{Page, calls_of, answers_of, unanswered_page, unanswered_book}
use Rattle.text_fields.specs.Faults.{GoesTo}
use Rattle.text_fields.proofs.Sharp.{goes_nowhere, goes_then}
use Rattle.book_text.specs.CallLines.{calls_from, all_calls}
use Rattle.book_text.proofs.CallTexts.{stops_then, next_caller, calls_of-unanswered, answers_of-unanswered}
use Rattle.report_lines.specs.declared.line.Line.{Line}
use Rattle.reports.specs.declared.report.Own.{Own}
use Rattle.reports.specs.Findings.{sizes}
use Rattle.reports.specs.ReportLayout.{lines_in}
use Rattle.report_text.specs.declared.draft.Draft.{Draft}
use Rattle.report_text.specs.ReportRules.{InLines, report_rules}
use Rattle.report_text.specs.Drafts.{StandBefore, IsDraft}
use Rattle.report_text.specs.Parts.{chained}
use Rattle.report_text.proofs.OwnSteps.{length-chained, chained-push, sizes-push, draft-none}
use Rattle.report_text.proofs.lines.read_callers.Goals as goal

pub loop-i-init : goal.loop-i-init
loop-i-init c =
    let calls = c.args.calls.now in
    let start = InLines c.args.kind calls [] (all_calls 0 calls) in
    let none : chained (lines_in c.new-callers.result.items) ≡ [] =
    ap (λ (os : List Own). chained (lines_in os)) c.new-callers.ensures.items in
    let draft : Draft =
    record { book = c.in_ok-with_calls.field-0; limits = calls; seen = c.zero.result } in
    let made : draft.book ≡ unanswered_book calls = c.in_ok-with_calls.ensures in
    let zeros : draft.seen ≡ replicate (length calls) 0 =
    c.zero.ensures ∙ ap (λ (n : ℕ). replicate n 0) c.n.ensures.count in
    record {
      goes = subst (λ (ls : List Line). GoesTo report_rules start c.args.lines.now
          (InLines c.args.kind calls ls (all_calls 0 calls)) c.args.lines.now) (sym none)
          (goes_nowhere report_rules start c.args.lines.now);
      draft = subst (λ (ls : List Line). IsDraft calls ls draft) (sym none)
          (draft-none calls draft made refl zeros);
      sizes = ap (λ (os : List Own). sizes (lines_in os)) c.new-callers.ensures.items;
      wide = record {
        limits = sym (size draft.book made);
        seen = ap (length {A = ℕ}) zeros ∙ length-replicate (length calls) 0
            ∙ sym (size draft.book made);
      };
      calls = λ j. ap (λ (b : List Page). calls_of b j) made ∙ calls_of-unanswered calls j;
      unanswered =
          λ j le. ap (λ (b : List Page). answers_of b j) made ∙ answers_of-unanswered calls j;
    } where
      size : (book : List Page) → book ≡ unanswered_book c.args.calls.now
          → length book ≡ length c.args.calls.now
      size book e = ap (length {A = Page}) e ∙ length-map c.args.calls.now unanswered_page

stand : (calls : List ℕ) (callers : List Own) (i : ℕ) → sizes (lines_in callers) ≡ take i calls
    → StandBefore calls (chained (lines_in callers)) i 0
stand calls callers i e = let total : length (chained (lines_in callers)) ≡ sum (take i calls) =
    length-chained (lines_in callers) ∙ ap sum e in omega arith

pub returns-in_err-read_own-clause-refused : goal.returns-in_err-read_own-clause-refused
returns-in_err-read_own-clause-refused c =
    let p = err_from_is_err_and c.from_residual-in_err-read_own.result
    c.from_residual-in_err-read_own.ensures.1 in
    let l = c.loop-i in
    let calls = c.args.calls.now in
    let lt : l.i < length calls = omega (arith, c.n-i-end.ensures.count) in
    let later : List Call = all_calls (l.i + 1) (drop (l.i + 1) calls) in
    let next =
    next_caller calls l.i lt ∙ ap (λ (n : ℕ). calls_from l.i 0 n ++ later) (sym c.get.ensures) in
    let start = InLines c.args.kind calls [] (all_calls 0 calls) in
    let told : List Line = chained (lines_in l.callers.items) in
    let here = subst (λ (due : List Call). GoesTo report_rules start c.args.lines.now
    (InLines c.args.kind calls told due) l.lines) next l.invariant.goes in
    rw (p.1, p.2) (stops_then report_rules start _ c.args.lines.now l.lines
    c.in_err-read_own.field-0.0 here (c.in_err-read_own.ensures.refused calls told later
    l.invariant.draft (stand calls l.callers.items l.i l.invariant.sizes)))

pub loop-i-preserved : goal.loop-i-preserved
loop-i-preserved c =
    let l = c.loop-i in
    let calls = c.args.calls.now in
    let lt : l.i < length calls = omega (arith, c.n-i-end.ensures.count) in
    let later : List Call = all_calls (l.i + 1) (drop (l.i + 1) calls) in
    let next =
    next_caller calls l.i lt ∙ ap (λ (n : ℕ). calls_from l.i 0 n ++ later) (sym c.get.ensures) in
    let start = InLines c.args.kind calls [] (all_calls 0 calls) in
    let told : List Line = chained (lines_in l.callers.items) in
    let here = subst (λ (due : List Call). GoesTo report_rules start c.args.lines.now
    (InLines c.args.kind calls told due) l.lines) next l.invariant.goes in
    let lines = c.in_ok-read_own.field-0 in
    let own : Own = record { lines = lines } in
    let read = c.in_ok-read_own.ensures.found calls told later l.invariant.draft
    (stand calls l.callers.items l.i l.invariant.sizes) in
    let pushed = c.in_ok-push.ensures.items in
    let all : told ++ lines.items ≡ chained (lines_in c.push.new.self.items) = sym
    (chained-push l.callers.items own)
    ∙ ap (λ (os : List Own). chained (lines_in os)) (sym pushed) in
    let size : length lines.items ≡ get_or calls l.i 0 =
    c.in_ok-read_own.ensures.count ∙ c.get.ensures in
    record {
      goes = subst (λ (ls : List Line). GoesTo report_rules start c.args.lines.now
          (InLines c.args.kind calls ls later) c.read_own.new.lines) all
          (goes_then report_rules start _ (InLines c.args.kind calls (told ++ lines.items) later)
          c.args.lines.now l.lines c.read_own.new.lines here read.goes);
      draft = subst (λ (ls : List Line). IsDraft calls ls c.read_own.new.draft) all read.draft;
      sizes = ap (λ (os : List Own). sizes (lines_in os)) pushed ∙ sizes-push l.callers.items own
          ∙ ap (λ (ns : List ℕ). ns ++ length lines.items ∷ []) l.invariant.sizes
          ∙ ap (λ (n : ℕ). take l.i calls ++ n ∷ []) size ∙ sym (take_more calls l.i 0 lt);
      wide = c.in_ok-read_own.ensures.wide;
      calls = λ j. c.in_ok-read_own.ensures.calls j ∙ l.invariant.calls j;
      unanswered = λ j le. c.in_ok-read_own.ensures.others j (λ same. omega (arith, same, le))
          ∙ l.invariant.unanswered j (omega (arith, le));
    }
