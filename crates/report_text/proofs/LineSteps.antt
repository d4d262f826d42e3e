-- A line that is read, after those before it.
use Rattle.std.proofs.Common.{◌≡◌, ℕ, ◌<◌, List, [], ◌∷◌, ◌++◌, length, get_or, Ok, refl, sym, ap, subst, ◌∙◌, arith, inl, inr}
use Rattle.book_base.specs.declared.call.Call.{Call}
use Rattle.book_base.specs.declared.call.Record.{Record}
use Rattle.book_base.specs.declared.fault.ReadFault.{ReadFault}
use Rattle.book_base.specs.declared.fault.ReadFault.TheVariants.{Text}
use Rattle.book_base.specs.declared.fault.What.{What}
use Rattle.book_base.specs.Book.{Page, calls_of}
use Rattle.book_base.specs.Refusal.{MayAnswer}
use Rattle.seq_objects.specs.declared.kind.Kind.{Kind}
use Rattle.text_fields.specs.Lines.{Unread, line_at, words_of}
use Rattle.text_fields.specs.Faults.{IsFirstFault, StopsFor}
use Rattle.text_fields.proofs.Sharp.{goes_line, stops_line}
use Rattle.world_core.specs.Calls.{records_of}
use Rattle.report_lines.specs.declared.line.LineEnd.{LineEnd}
use Rattle.report_lines.specs.declared.line.LineEnd.TheVariants.{Pending, Unchecked, Delivered, Error}
use Rattle.report_lines.specs.declared.line.Line.{Line}
use Rattle.report_lines.specs.Lines.{reached_of}
use Rattle.client_scripts.specs.ScriptRules.{grouped}
use Rattle.report_text.specs.declared.draft.Draft.{Draft}
use Rattle.report_text.specs.ReportRules.{book_so_far, SaysLine, FitsEarlier, InLines, report_rules}
use Rattle.report_text.specs.Drafts.{StandBefore, IsDraft, limits_with, AreSeenWith}
use Rattle.report_text.specs.Parts.{answer_in, MayTell, with_told, AreWordsRefused, FitsOthers, AlwaysFits, IsAlwaysMisfit, IsLineRead}
use Rattle.report_text.proofs.Pushing.{calls_of-so_far}
use Rattle.report_text.proofs.FirstTests.{first_misfit}
use Rattle.report_text.proofs.Drafting.{draft-push}

may_answer : (book : List Page) (call : Call) (end : LineEnd) (r : Record)
    → MayTell book call (answer_in end)
    → records_of (reached_of end) ≡ r ∷ [] → MayAnswer book call.caller r.view
may_answer book call Pending r may e = absurd cc
may_answer book call (Unchecked s) r may e = let same : s ≡ r = cc in
    subst (λ (x : Record). MayAnswer book call.caller x.view) same may
may_answer book call (Delivered s cut) r may e = let same : s ≡ r = cc in
    subst (λ (x : Record). MayAnswer book call.caller x.view) same may
may_answer book call (Error s cut) r may e = let same : s ≡ r = cc in
    subst (λ (x : Record). MayAnswer book call.caller x.view) same may

pub line_fits : (counts : List ℕ) (told : List Line) (call : Call) (line : Line)
    → MayTell (book_so_far counts told) call (answer_in line.end)
    → FitsOthers counts (grouped counts told) call line → FitsEarlier counts told call line
line_fits counts told call line may fits = record {
  view = λ r e. may_answer (book_so_far counts told) call line.end r may e;
  seen = fits.cuts.seen;
  pending = fits.cuts.pending;
  last = fits.last;
}

module _ (kind : Kind) (counts : List ℕ) (told : List Line) (call : Call) (more : List Call)
    (text left : Unread) (line : List ℕ) (next : line_at text ≡ Ok (line, left)) (before : Draft)
    (draft : IsDraft counts told before) where
  count_of : (count : ℕ) → count ≡ calls_of before.book call.caller
      → get_or counts call.caller 0 ≡ count
  count_of count e = sym (e ∙ ap (λ (b : List Page). calls_of b call.caller) draft.book
      ∙ calls_of-so_far counts told call.caller)

  pub words_stop : (number : ℕ) (e : ReadFault) → number ≡ text.number
      → AreWordsRefused kind before.book call (words_of line) number e
      → StopsFor report_rules (InLines kind counts told (call ∷ more)) text e
  words_stop number e same (inl none) =
      subst (StopsFor report_rules (InLines kind counts told (call ∷ more)) text) (sym none) tt
  words_stop number e same (inr h) =
      let is : e ≡ Text (record { line = text.number; what = h.0 }) =
      h.1 ∙ ap (λ (n : ℕ). Text (record { line = n; what = h.0 })) same in
      subst (StopsFor report_rules (InLines kind counts told (call ∷ more)) text) (sym is)
      (stops_line report_rules (InLines kind counts told (call ∷ more)) text left line h.0 refl next
      (h.2 counts told draft.book))

  module _ (said : Line) (says : SaysLine kind (length before.book) call (words_of line) said)
      (may : MayTell before.book call (answer_in said.end))
      (size : length before.book ≡ length counts) where
    says_here : SaysLine kind (length counts) call (words_of line) said
    says_here = subst (λ (n : ℕ). SaysLine kind n call (words_of line) said) size says

    may_here : MayTell (book_so_far counts told) call (answer_in said.end)
    may_here = subst (λ (b : List Page). MayTell b call (answer_in said.end)) draft.book may

    pub misfit_stop : (number count : ℕ) (name : What) → number ≡ text.number
        → count ≡ calls_of before.book call.caller
        → IsAlwaysMisfit before.limits before.seen call count said name
        → IsFirstFault report_rules (InLines kind counts told (call ∷ more)) text
        (record { line = number; what = name })
    misfit_stop number count name same is h =
        subst (λ (n : ℕ). IsFirstFault report_rules (InLines kind counts told (call ∷ more)) text
        (record { line = n; what = name })) (sym same)
        (stops_line report_rules
        (InLines kind counts told (call ∷ more)) text left line name refl next
        (first_misfit kind counts told call (words_of line) said says_here may_here name
        (h counts (grouped counts told) draft.limits draft.seen (count_of count is))))

    pub line_read : (after : Draft) (count : ℕ) → StandBefore counts told call.caller call.number
        → call.number < count → count ≡ calls_of before.book call.caller
        → AlwaysFits before.limits before.seen call count said
        → after.book ≡ with_told before.book call said → after.limits
        ≡ limits_with before.limits call said.end → AreSeenWith before.seen said.end after.seen
        → IsLineRead kind counts told call more text said after left
    line_read after count stand lt is fits book limits seen =
        let lt' : call.number < get_or counts call.caller 0 = omega (arith, count_of count is) in
        record {
          goes = goes_line report_rules (InLines kind counts told (call ∷ more))
              (InLines kind counts (told ++ said ∷ []) more) text left line next (
                said,
                says_here,
                line_fits counts told call said may_here
                    (fits counts (grouped counts told) draft.limits draft.seen (count_of count is)),
                refl,
              );
          draft = draft-push counts told said call before after stand lt' draft book limits seen;
        }
