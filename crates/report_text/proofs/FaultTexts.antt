-- The first fault is where the bytes can no longer be the beginning of a report's text.
use Rattle.std.proofs.Common.{◌≡◌, ◌≢◌, ℕ, zero, suc, ◌+◌, ◌<◌, ◌≤◌, ◌⊎◌, List, [], ◌∷◌, ◌++◌, length, get_or, set, replicate, slice_get, Some, None, refl, sym, ap, subst, ◌∙◌, append_assoc, arith, inl, inr}
use Rattle.std.specs.Prelude.{codes, IsSome}
use Rattle.std.proofs.lemmas.Bool.{cases_eq}
use Rattle.std.proofs.lemmas.Option.{same_Some, slice_get_within}
use Rattle.std.proofs.lemmas.List.{length-append, length-set, length-replicate, get_or-set_same, get_or-set_other}
use Rattle.list_laws.proofs.Options.{cases_Option}
use Rattle.list_laws.proofs.Places.{get_or-replicate_default}
use Rattle.book_base.specs.declared.TheConstants.{MAX_CALLERS}
use Rattle.book_base.specs.declared.call.Call.{Call}
use Rattle.book_base.specs.declared.call.Record.{Record}
use Rattle.book_base.specs.declared.fault.TextFault.{TextFault}
use Rattle.book_base.specs.declared.fault.What.{What}
use Rattle.book_base.specs.declared.fault.What.TheVariants as what
use Rattle.book_base.specs.Book.{Page, calls_of, answers_of}
use Rattle.book_base.specs.Refusal.{MayAnswer}
use Rattle.seq_objects.specs.declared.kind.Kind.{Kind}
use Rattle.text_fields.specs.declared.TheConstants.{TEXT_CALLERS, TEXT_CALLS}
use Rattle.text_fields.specs.declared.version.Version.TheVariants.{Second}
use Rattle.text_fields.specs.Counts.{AreAtMost}
use Rattle.text_fields.specs.Faults.{ALine}
use Rattle.text_fields.specs.Head.{TitleDue, ObjectDue, CallersDue, CountsDue, HeadRead}
use Rattle.book_text.specs.CallLines.{calls_from, all_calls}
use Rattle.book_text.specs.Grammar.{end_words}
use Rattle.book_text.specs.AnyTextBeginnings.{LeavesAt}
use Rattle.book_text.proofs.CallTexts.{no_calls, no_calls_few}
use Rattle.book_text.proofs.FaultTexts.{view_fault_named}
use Rattle.book_text.proofs.HeadLines.{HeadCanCome, head_named, head_comes}
use Rattle.book_text.proofs.Leavings.{Completes, one_more, leaves_texts}
use Rattle.book_text.proofs.WrittenTexts.{numbers_from_places}
use Rattle.report_lines.specs.declared.line.LineEnd.{LineEnd}
use Rattle.report_lines.specs.declared.line.LineEnd.TheVariants.{Pending, Delivered}
use Rattle.report_lines.specs.declared.line.Line.{Line}
use Rattle.report_lines.specs.Lines.{delivered_in}
use Rattle.client_scripts.specs.ScriptRules.{grouped}
use Rattle.reports.specs.Findings.{Findings}
use Rattle.reports.specs.Grammar.{line_words}
use Rattle.report_text.specs.ReportRules.{book_so_far, IsCut, SaysLine, IsWrongCut, FitsEarlier, LineFails, ReportDue, InHead, InLines, AtEnd, after_head, ReportPasses, ReportFails, report_wanted, report_rules, IsReportText, IsFirstReportFault}
use Rattle.report_text.specs.Drafts.{StandBefore}
use Rattle.report_text.proofs.Groups.{before, before-more, length-own}
use Rattle.report_text.proofs.Pushing.{calls_of-so_far, length-book_so_far, inside}
use Rattle.report_text.proofs.Growing.{records-so_far}
use Rattle.report_text.proofs.FreshViews.{fresh_view, fresh-wide, fresh-below, fresh-may}
use Rattle.report_text.proofs.SharpReports.{report_sharp}
use Rattle.report_text.proofs.Readings.{same_end}
use Rattle.report_text.proofs.Soundness.{IsSound, sound-none, sound-push}
use Rattle.report_text.proofs.WrittenTexts.{all_delivered, at_most}
use Rattle.report_text.proofs.ReadTexts.{get_middle}

-- ---- a line that can always come

module _ (kind : Kind) (counts : List ℕ) (told : List Line) (call : Call)
    (few : length counts ≤ MAX_CALLERS) (calls : AreAtMost TEXT_CALLS counts)
    (stand : StandBefore counts told call.caller call.number)
    (lt : call.number < get_or counts call.caller 0) (s : IsSound counts told) where
  abbrev i : ℕ
  i = call.caller

  abbrev k : ℕ
  k = call.number

  abbrev book : List Page
  book = book_so_far counts told

  pending_line : Line
  pending_line = record { op = 0; end = Pending }

  within : i < length counts
  within = inside counts told (record { op = 0; end = Pending }) call stand lt

  in_book : i < length book
  in_book = omega (arith, within, length-book_so_far counts told)

  own_size : length (get_or (grouped counts told) i []) ≡ k
  own_size = length-own counts told i k stand (omega arith)

  -- the lines of the caller so far are delivered
  delivered_before : (m : ℕ) (l : Line) → slice_get (get_or (grouped counts told) i []) m ≡ Some l
      → IsSome (delivered_in l.end)
  delivered_before m l e =
      let m_lt : m < k =
      omega (arith, own_size, slice_get_within (get_or (grouped counts told) i []) m l e) in
      elim (cases_Option (delivered_in l.end)) [
        | inl none ↦
            absurd (s.delivered (record { caller = i; number = m }) l e (none, omega (arith, lt)))
        | inr some ↦ subst IsSome (sym some.1) refl
      ]

  answers : answers_of book i ≡ k
  answers =
      ap (λ (rs : List Record). length rs) (records-so_far counts told i)
      ∙ all_delivered (get_or (grouped counts told) i []) delivered_before
      ∙ own_size

  room : k < calls_of book i
  room = omega (arith, lt, calls_of-so_far counts told i)

  abbrev view : List ℕ
  view = fresh_view i k book

  abbrev cut : List ℕ
  cut = set (replicate (length counts) 0) i (k + 1)

  own_cut : get_or cut i 0 ≡ k + 1
  own_cut = get_or-set_same (replicate (length counts) 0) i (k + 1) 0
      (omega (arith, within, length-replicate {A = ℕ} (length counts) 0))

  other_cut : (j : ℕ) → j ≢ i → get_or cut j 0 ≡ 0
  other_cut j other = get_or-set_other (replicate (length counts) 0) i j (k + 1) 0 other
      ∙ get_or-replicate_default {X = ℕ} (length counts) j 0

  cut_below : (j : ℕ) → get_or cut j 0 ≤ get_or counts j 0
  cut_below j = elim (cases_eq j i) [
    | inl same ↦
        let at : get_or cut j 0 ≡ k + 1 = ap (λ (m : ℕ). get_or cut m 0) same ∙ own_cut in
        let there : get_or counts j 0 ≡ get_or counts i 0 =
        ap (λ (m : ℕ). get_or counts m 0) same in
        omega arith
    | inr other ↦ omega (arith, other_cut j other)
  ]

  abbrev fresh : Line
  fresh = record { op = 0; end = Delivered (record { reply = 0; view = view }) cut }

  view_formed : IsCut (length counts) view
  view_formed = (
    fresh-wide book s.valid i k in_book answers room ∙ length-book_so_far counts told,
    numbers_from_places view (λ j. omega (
      arith,
      fresh-below book s.valid i k in_book answers room j,
      calls_of-so_far counts told j,
      at_most TEXT_CALLS counts j calls,
    )),
  )

  cut_formed : IsCut (length counts) cut
  cut_formed = (
    length-set (replicate (length counts) 0) i (k + 1) ∙ length-replicate (length counts) 0,
    numbers_from_places cut (λ j. omega (arith, cut_below j, at_most TEXT_CALLS counts j calls)),
  )

  pub fresh-says : SaysLine kind (length counts) call (line_words kind call fresh) fresh
  fresh-says = record {
    named =
        (omega (arith, within, few), (omega (arith, lt, at_most TEXT_CALLS counts i calls), tt));
    few = few;
    has = omega arith;
    formed = ((omega arith, view_formed), cut_formed);
    text = refl;
  }

  cut_right : IsWrongCut counts (grouped counts told) call cut → ⊥
  cut_right (inl above) = omega (arith, above.1, cut_below above.0)
  cut_right (inr (inl over)) =
      let other : Call = over.0 in
      elim (cases_eq other.caller i) [
        | inl same ↦
            let at : slice_get (get_or (grouped counts told) i []) other.number ≡ Some over.1.0 =
            ap (λ (m : ℕ). slice_get (get_or (grouped counts told) m []) other.number) (sym same)
            ∙ over.1.1 in
            not_delivered over.1.0.end over.1.2 (delivered_before other.number over.1.0 at)
        | inr apart ↦ absurd (omega (arith, over.2, other_cut other.caller apart))
      ] where
        not_delivered : (end : LineEnd) → end ≡ Pending → IsSome (delivered_in end) → ⊥
        not_delivered end e h = let none : delivered_in end ≡ None = ap delivered_in e in
            absurd (cc (none, h))
  cut_right (inr (inr low)) = omega (arith, own_cut, low)

  pub fresh-fits : FitsEarlier counts told call fresh
  fresh-fits = record {
    view = λ r e. let same : record { reply = 0; view = view } ≡ r = cc in
        subst (λ (x : Record). MayAnswer book i x.view) same
        (fresh-may book s.valid i k in_book answers room);
    seen = λ c e wrong. cut_right
        (subst (IsWrongCut counts (grouped counts told) call) (same_Some c cut (sym e)) wrong);
    pending = λ e. absurd cc;
    last = λ early. absurd (cc early.0);
  }

-- ---- what may be due

-- the lines of these calls follow this many lines
abbrev AreDue : List ℕ → ℕ → List Call → Type 0
AreDue counts n [] = Unit {0}
AreDue counts n (call ∷ calls) = (n ≡ before counts call.caller + call.number)
    × (call.number < get_or counts call.caller 0) × AreDue counts (n + 1) calls

due-from : (counts : List ℕ) (i k more n : ℕ) (rest : List Call) → n ≡ before counts i + k
    → k + more ≡ get_or counts i 0 → AreDue counts (n + more) rest
    → AreDue counts n (calls_from i k more ++ rest)
due-from counts i k zero n rest at size h = let same : n + 0 ≡ n = omega arith in
    subst (λ (m : ℕ). AreDue counts m rest) same h
due-from counts i k (suc more) n rest at size h =
    let next : n + suc more ≡ n + 1 + more = omega arith in (
      at,
      omega arith,
      due-from counts i (k + 1) more (n + 1) rest (omega arith) (omega arith)
          (subst (λ (m : ℕ). AreDue counts m rest) next h),
    )

due-all : (counts done rest : List ℕ) → counts ≡ done ++ rest
    → AreDue counts (before counts (length done)) (all_calls (length done) rest)
due-all counts done [] split = tt
due-all counts done (count ∷ rest) split =
    let i = length done in
    let at : get_or counts i 0 ≡ count =
    ap (λ (ns : List ℕ). get_or ns i 0) split ∙ get_middle done count rest in
    let size : length (done ++ count ∷ []) ≡ i + 1 = length-append done (count ∷ []) in
    let later =
    due-all counts (done ++ count ∷ []) rest (split ∙ sym (append_assoc done (count ∷ []) rest)) in
    let moved : AreDue counts (before counts (i + 1)) (all_calls (i + 1) rest) =
    subst (λ (j : ℕ). AreDue counts (before counts j) (all_calls j rest)) size later in
    let total : before counts (i + 1) ≡ before counts i + count =
    before-more counts i ∙ ap (λ (m : ℕ). before counts i + m) at in
    due-from counts i 0 count (before counts i) (all_calls (i + 1) rest) (omega arith)
    (omega (arith, at)) (subst (λ (m : ℕ). AreDue counts m (all_calls (i + 1) rest)) total moved)

-- A report's text whose lines aren't all read: its counts are small, its lines so far are sound,
-- and these calls are due.
record IsUnderWay (counts : List ℕ) (told : List Line) (calls : List Call) : Type 0 where
  few : length counts ≤ MAX_CALLERS
  small : AreAtMost TEXT_CALLS counts
  sound : IsSound counts told
  due : AreDue counts (length told) calls

abbrev CanCome : ReportDue → Type 0
CanCome (InHead due) = HeadCanCome (λ n. n ≤ TEXT_CALLERS) due
CanCome (InLines kind counts told calls) = IsUnderWay counts told calls
CanCome (AtEnd findings) = Unit {0}

under-way-next : (kind : Kind) (counts : List ℕ) (told : List Line) (call : Call)
    (calls : List Call) (words : List (List ℕ)) (line : Line)
    → SaysLine kind (length counts) call words line → FitsEarlier counts told call line
    → IsUnderWay counts told (call ∷ calls) → IsUnderWay counts (told ++ line ∷ []) calls
under-way-next kind counts told call calls words line says fits h = record {
  few = h.few;
  small = h.small;
  sound = sound-push kind counts told line call words h.due.0 h.due.1 says fits h.sound;
  due = subst (λ (n : ℕ). AreDue counts n calls) (sym (length-append told (line ∷ []))) h.due.2;
}

comes_next : (due after : ReportDue) (words : List (List ℕ)) → CanCome due
    → ReportPasses due words after → CanCome after
comes_next (InHead TitleDue) after words can h = subst CanCome (sym (h.2 ∙ ap after_head h.1.1)) tt
comes_next (InHead ObjectDue) after words can h = subst CanCome (sym (h.2 ∙ ap after_head h.1.3)) tt
comes_next (InHead (CallersDue kind)) after words can h =
    subst CanCome (sym (h.2 ∙ ap after_head h.1.3)) h.1.1.few
comes_next (InHead (CountsDue kind n)) after words can h =
    let counts : List ℕ = h.1.0 in
    subst CanCome (sym (h.2 ∙ ap after_head h.1.3)) (record {
      few = omega (arith, h.1.1.count, can);
      small = h.1.1.few;
      sound = sound-none counts;
      due = due-all counts [] counts refl;
    })
comes_next (InHead (HeadRead kind calls)) after words can h = absurd can
comes_next (InLines kind counts told []) after words can h = subst CanCome (sym h.1) tt
comes_next (InLines kind counts told (call ∷ calls)) after words can h =
    subst CanCome (sym h.3) (under-way-next kind counts told call calls words h.0 h.1 h.2 can)
comes_next (AtEnd findings) after words can h = absurd h

-- ---- lines that complete a text

abbrev Done : ReportDue → Type 0
Done due = Completes report_rules AtEnd due

-- each call that is due is delivered
lines_come : (kind : Kind) (counts : List ℕ) (told : List Line) (calls : List Call)
    → IsUnderWay counts told calls → Done (InLines kind counts told calls)
lines_come kind counts told [] h =
    let findings : Findings = record { kind = kind; lines = grouped counts told } in
    one_more report_rules AtEnd (InLines kind counts told []) (AtEnd findings) end_words
    (refl, refl) (record { said = findings; lines = []; right = refl })
lines_come kind counts told (call ∷ calls) h =
    let says = fresh-says kind counts told call h.few h.small h.due.0 h.due.1 h.sound in
    let fits = fresh-fits kind counts told call h.few h.small h.due.0 h.due.1 h.sound in
    let line : Line = fresh kind counts told call h.few h.small h.due.0 h.due.1 h.sound in
    one_more report_rules AtEnd (InLines kind counts told (call ∷ calls))
    (InLines kind counts (told ++ line ∷ []) calls) (line_words kind call line)
    (line, says, fits, refl)
    (lines_come kind counts (told ++ line ∷ []) calls
    (under-way-next kind counts told call calls (line_words kind call line) line says fits h))

-- the end completes a text whose head says that there are no calls
no_call_comes : (kind : Kind) (n : ℕ) → n ≤ TEXT_CALLERS
    → Done (after_head (HeadRead kind (replicate n 0)))
no_call_comes kind n few =
    let counts : List ℕ = replicate n 0 in
    let size : length counts ≡ n = length-replicate n 0 in
    let begun : IsUnderWay counts [] [] = record {
      few = omega arith;
      small = no_calls_few TEXT_CALLS n;
      sound = sound-none counts;
      due = tt;
    } in
    subst (λ (calls : List Call). Done (InLines kind counts [] calls)) (sym (no_calls 0 n))
    (lines_come kind counts [] [] begun)

completes : (due : ReportDue) → CanCome due → Done due
completes (InHead due) can =
    head_comes Second (codes "report") (λ n. n ≤ TEXT_CALLERS) (omega arith) report_rules
    AtEnd InHead after_head (λ head next words h. (next, h, refl))
    (refl, λ kind. refl, λ kind n. refl) no_call_comes due can
completes (InLines kind counts told calls) can = lines_come kind counts told calls can
completes (AtEnd findings) can = record { said = findings; lines = []; right = refl }

-- ---- the names of faults

call_named : (kind : Kind) (counts : List ℕ) (told : List Line) (call : Call)
    (words : List (List ℕ)) (name : What) → LineFails kind counts told call words name
    → (name ≢ what.Cut) × (name ≢ what.Rest)
call_named kind counts told call words what.Place h = (λ e. absurd cc, λ e. absurd cc)
call_named kind counts told call words what.Op h = (λ e. absurd cc, λ e. absurd cc)
call_named kind counts told call words what.Reply h = (λ e. absurd cc, λ e. absurd cc)
call_named kind counts told call words what.View h = (λ e. absurd cc, λ e. absurd cc)
call_named kind counts told call words what.Mark h = (λ e. absurd cc, λ e. absurd cc)
call_named kind counts told call words what.Seen h = (λ e. absurd cc, λ e. absurd cc)
call_named kind counts told call words what.Last h = (λ e. absurd cc, λ e. absurd cc)
call_named kind counts told call words name h = view_fault_named h.2 name h.4

line_named : (due : ReportDue) (words : List (List ℕ)) (name : What) → ReportFails due words name
    → (name ≢ what.Cut) × (name ≢ what.Rest)
line_named (InHead due) words name h = head_named Second (codes "report") due words name h
line_named (InLines kind counts told []) words name h =
    (λ e. absurd (cc (h.0, e)), λ e. absurd (cc (h.0, e)))
line_named (InLines kind counts told (call ∷ calls)) words name h =
    call_named kind counts told call words name h
line_named (AtEnd findings) words name h = absurd h

line_or_end : (due : ReportDue) → CanCome due → (report_wanted due ≡ ALine)
    ⊎ ((findings : Findings) × (due ≡ AtEnd findings))
line_or_end (InHead due) can = inl refl
line_or_end (InLines kind counts told calls) can = inl refl
line_or_end (AtEnd findings) can = inr (findings, refl)

-- the first fault is where the bytes can no longer be the beginning of a report's text
pub report_leaves_texts : (bytes : List ℕ) (fault : TextFault) → IsFirstReportFault bytes fault
    → LeavesAt IsReportText bytes fault
report_leaves_texts = leaves_texts report_rules report_sharp (InHead TitleDue) AtEnd same_end
    (λ findings. refl) CanCome tt comes_next completes line_named line_or_end
