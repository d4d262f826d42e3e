-- The lines of one caller, and of all callers, one after the other.
use Rattle.std.proofs.Common.{◌≡◌, ℕ, zero, suc, ◌+◌, ◌-◌, ◌≤◌, List, [], ◌∷◌, ◌++◌, length, get_or, take, drop, replicate, slice_get, Some, refl, sym, ap, subst, ◌∙◌, append_assoc, arith, inl}
use Rattle.std.specs.Prelude.{sum}
use Rattle.std.proofs.lemmas.List.{append-nil, length-append, length-replicate, map_push}
use Rattle.std.proofs.lemmas.List.Sums.{sum_by-cons}
use Rattle.std.proofs.lemmas.List.Concat.{flat_map-cons, flat_map-append}
use Rattle.list_laws.proofs.Places.{get_or-replicate_default}
use Rattle.list_laws.proofs.Options.{and_then_some}
use Rattle.book_base.specs.declared.call.Call.{Call}
use Rattle.book_base.specs.declared.fault.ReadFault.{ReadFault}
use Rattle.book_base.specs.Book.{Page, unanswered_page, unanswered_book}
use Rattle.seq_objects.specs.declared.kind.Kind.{Kind}
use Rattle.text_fields.specs.Lines.{Unread}
use Rattle.text_fields.specs.Faults.{GoesTo, StopsFor}
use Rattle.text_fields.proofs.Sharp.{goes_nowhere, goes_then}
use Rattle.book_text.specs.CallLines.{calls_from}
use Rattle.book_text.proofs.CallTexts.{stops_then}
use Rattle.client_scripts.proofs.DueCalls.{next_due}
use Rattle.client_scripts.specs.ScriptRules.{grouped}
use Rattle.report_lines.specs.declared.line.Line.{Line}
use Rattle.report_lines.specs.Lines.{line_at, seen_in, seen_at}
use Rattle.reports.specs.declared.report.Own.{Own}
use Rattle.reports.specs.Findings.{sizes}
use Rattle.reports.specs.ReportLayout.{lines_in}
use Rattle.report_text.specs.declared.draft.Draft.{Draft}
use Rattle.report_text.specs.ReportRules.{part_page, book_so_far, ReportDue, InLines, report_rules}
use Rattle.report_text.specs.Drafts.{StandBefore, AreLimits, AreSeenCounts, IsDraft}
use Rattle.report_text.specs.Parts.{chained, LineIsRead, LineIsStopped, AreOwnRead}

-- ---- one caller

-- of this many calls of a caller the lines of the first ones are read, and say these lines
pub record AreReadTo (kind : Kind) (counts : List ℕ) (told : List Line) (i count number : ℕ)
    (more : List Call) (text : Unread) (own : List Line) (after : Draft)
    (left : Unread) : Type 0 where
  pub goes : GoesTo report_rules (InLines kind counts told (calls_from i 0 count ++ more)) text
      (InLines kind counts (told ++ own) (calls_from i number (count - number) ++ more)) left
  pub draft : IsDraft counts (told ++ own) after

module _ (kind : Kind) (counts : List ℕ) (told : List Line) (i count : ℕ) (more : List Call)
    (text : Unread) where
  abbrev start : ReportDue
  start = InLines kind counts told (calls_from i 0 count ++ more)

  pub own-none : (before : Draft) → IsDraft counts told before
      → AreReadTo kind counts told i count 0 more text [] before text
  own-none before h =
      let same : count ≡ count - 0 = omega arith in
      let here = subst (λ (m : ℕ). GoesTo report_rules start text (InLines kind counts told
      (calls_from i 0 m ++ more)) text) same (goes_nowhere report_rules start text) in
      record {
        goes = subst (λ (ls : List Line). GoesTo report_rules start text (InLines kind counts ls
            (calls_from i 0 (count - 0) ++ more)) text) (sym (append-nil told)) here;
        draft = subst (λ (ls : List Line). IsDraft counts ls before) (sym (append-nil told)) h;
      }

  module _ (number : ℕ) (own : List Line) (between : Draft) (at : Unread) (lt : suc number ≤ count)
      (stand : StandBefore counts told i 0) (size : length own ≡ number)
      (h : AreReadTo kind counts told i count number more text own between at) where
    abbrev rest : List Call
    rest = calls_from i (number + 1) (count - (number + 1)) ++ more

    abbrev call : Call
    call = record { caller = i; number = number }

    here : GoesTo report_rules start text (InLines kind counts (told ++ own) (call ∷ rest)) at
    here = subst (λ (calls : List Call). GoesTo report_rules start text
        (InLines kind counts (told ++ own) calls) at) (next_due i number count more lt) h.goes

    stands : StandBefore counts (told ++ own) i number
    stands = omega (arith, stand, length-append told own, size)

    pub own-stops : (e : ReadFault) → LineIsStopped kind between call at e
        → StopsFor report_rules start text e
    own-stops e stopped =
        stops_then report_rules start (InLines kind counts (told ++ own) (call ∷ rest)) text at e
        here (stopped counts (told ++ own) rest h.draft stands)

    pub own-more : (line : Line) (items : List Line) (after : Draft) (left : Unread)
        → items ≡ own ++ line ∷ [] → LineIsRead kind between call at line after left
        → AreReadTo kind counts told i count (number + 1) more text items after left
    own-more line items after left is read =
        let next = read counts (told ++ own) rest h.draft stands in
        let all : (told ++ own) ++ line ∷ [] ≡ told ++ items =
        append_assoc told own (line ∷ []) ∙ ap (λ (ls : List Line). told ++ ls) (sym is) in
        record {
          goes = subst (λ (ls : List Line).
              GoesTo report_rules start text (InLines kind counts ls rest) left) all
              (goes_then report_rules start (InLines kind counts (told ++ own) (call ∷ rest))
              (InLines kind counts ((told ++ own) ++ line ∷ []) rest) text at left here next.goes);
          draft = subst (λ (ls : List Line). IsDraft counts ls after) all next.draft;
        }

  pub own-all : (number : ℕ) (own : List Line) (after : Draft) (left : Unread) → number ≡ count
      → AreReadTo kind counts told i count number more text own after left
      → AreOwnRead kind counts told i count more text own after left
  own-all number own after left e h =
      let none : calls_from i number (count - number) ≡ [] = let left' : count - number ≡ 0 =
      omega arith in ap (λ (m : ℕ). calls_from i number m) left' in
      record {
        goes = subst (λ (calls : List Call). GoesTo report_rules start text
            (InLines kind counts (told ++ own) (calls ++ more)) left) none h.goes;
        draft = h.draft;
      }

-- ---- all callers

pub length-chained : (lines : List (List Line)) → length (chained lines) ≡ sum (sizes lines)
length-chained [] = refl
length-chained (own ∷ lines) =
    ap (λ (ls : List Line). length ls) (flat_map-cons (λ (x : List Line). x) own lines)
    ∙ length-append own (chained lines)
    ∙ ap (λ (n : ℕ). length own + n) (length-chained lines)
    ∙ sym (sum_by-cons (λ (x : ℕ). x) (length own) (sizes lines))

pub chained-push : (callers : List Own) (own : Own)
    → chained (lines_in (callers ++ own ∷ [])) ≡ chained (lines_in callers) ++ own.lines.items
chained-push callers own =
    ap chained (map_push (λ (x : Own). x.lines.items) callers own)
    ∙ flat_map-append (λ (x : List Line). x) (lines_in callers) (own.lines.items ∷ [])
    ∙ ap (λ (ls : List Line). chained (lines_in callers) ++ ls)
    (flat_map-cons (λ (x : List Line). x) own.lines.items [] ∙ append-nil own.lines.items)

pub sizes-push : (callers : List Own) (own : Own) → sizes (lines_in (callers ++ own ∷ []))
    ≡ sizes (lines_in callers) ++ length own.lines.items ∷ []
sizes-push callers own = ap sizes (map_push (λ (x : Own). x.lines.items) callers own)
    ∙ map_push (λ (x : List Line). length x) (lines_in callers) own.lines.items

take-none : (c : ℕ) → take {A = Line} c [] ≡ []
take-none zero = refl
take-none (suc c) = refl

drop-none : (c : ℕ) → drop {A = Line} c [] ≡ []
drop-none zero = refl
drop-none (suc c) = refl

pub so_far-none : (counts : List ℕ) → book_so_far counts [] ≡ unanswered_book counts
so_far-none [] = refl
so_far-none (c ∷ counts) =
    let same : c - 0 ≡ c = omega arith in
    ap (λ (own : List Line). part_page c own ∷ book_so_far counts (drop c [])) (take-none c)
    ∙ ap (λ (m : ℕ).
    record { operations = replicate m 0; records = [] } ∷ book_so_far counts (drop c [])) same
    ∙ ap (λ (ls : List Line). unanswered_page c ∷ book_so_far counts ls) (drop-none c)
    ∙ ap (λ (ps : List Page). unanswered_page c ∷ ps) (so_far-none counts)

grouped-none : (counts : List ℕ) (j : ℕ) → get_or (grouped {X = Line} counts []) j [] ≡ []
grouped-none [] j = refl
grouped-none (c ∷ counts) zero = take-none c
grouped-none (c ∷ counts) (suc j) =
    ap (λ (ls : List Line). get_or (grouped counts ls) j []) (drop-none c) ∙ grouped-none counts j

pub no_line : (counts : List ℕ) (call : Call) (line : Line)
    → line_at (grouped counts []) call ≡ Some line → ⊥
no_line counts call line e =
    let none : slice_get {X = Line} [] call.number ≡ Some line =
    ap (λ (ls : List Line). slice_get ls call.number) (sym (grouped-none counts call.caller)) ∙ e in
    absurd cc

-- a draft with the unanswered book, all calls as its limits, and seen counts of 0 is the draft
-- before any line
pub draft-none : (counts : List ℕ) (draft : Draft) → draft.book ≡ unanswered_book counts
    → draft.limits ≡ counts → draft.seen ≡ replicate (length counts) 0 → IsDraft counts [] draft
draft-none counts draft book limits seen = record {
  book = book ∙ sym (so_far-none counts);
  limits = subst (AreLimits counts (grouped counts [])) (sym limits) (record {
    wide = refl;
    within = λ j. omega arith;
    pending = λ call h. absurd (no_line counts call h.0 h.1);
    reached = λ j. inl refl;
  });
  seen = subst (AreSeenCounts (length counts) (grouped counts [])) (sym seen) (record {
    wide = length-replicate (length counts) 0;
    holds = λ call h. absurd (no_seen h.0 h.1 h.2);
    held = λ call h.
        absurd (omega (arith, h, get_or-replicate_default {X = ℕ} (length counts) call.caller 0));
  });
} where
  no_seen : (call : Call) (cut : List ℕ) → seen_at (grouped counts []) call ≡ Some cut → ⊥
  no_seen call cut e = let at =
      and_then_some (line_at (grouped counts []) call) (λ (l : Line). seen_in l.end) cut e in
      no_line counts call at.0 at.1
