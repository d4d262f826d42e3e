-- What is read as a report is what is written of it.
use Rattle.std.proofs.Common.{◌≡◌, ℕ, zero, suc, ◌+◌, ◌<◌, ◌≤◌, ◌^◌, List, [], ◌∷◌, ◌++◌, length, map, get_or, Some, None, refl, sym, ap, subst, ◌∙◌, append_assoc, arith, inl, inr}
use Rattle.std.specs.Prelude.{codes, IsSome}
use Rattle.std.specs.List.{flat_map}
use Rattle.std.proofs.lemmas.Bool.{cases_lt}
use Rattle.std.proofs.lemmas.List.{append-nil, get_or_past, get_or-map, length-append, length-map}
use Rattle.std.proofs.lemmas.List.Concat.{flat_map-cons}
use Rattle.std.proofs.lemmas.List.Folds.{flat_map-map}
use Rattle.world_core.specs.Calls.{Made, records_of}
use Rattle.list_laws.proofs.Options.{cases_Option}
use Rattle.book_base.specs.declared.call.Call.{Call}
use Rattle.book_base.specs.declared.call.Record.{Record}
use Rattle.book_base.specs.Book.{Page, answers_of, record_of, IsValid}
use Rattle.book_base.proofs.ViewLemmas.{answered_at}
use Rattle.seq_objects.specs.declared.kind.Kind.{Kind}
use Rattle.text_fields.specs.declared.TheConstants.{TEXT_CALLERS, TEXT_CALLS}
use Rattle.text_fields.specs.declared.version.Version.TheVariants.{Second}
use Rattle.text_fields.specs.Lines.{text_of, by_number}
use Rattle.text_fields.specs.Counts.{AreAtMost}
use Rattle.text_fields.specs.Head.{TitleDue, HeadDue, HeadPasses, head_lines}
use Rattle.text_fields.proofs.Leading.{Leads, has_line, moved, head_read}
use Rattle.book_text.specs.CallLines.{calls_from, all_calls}
use Rattle.book_text.specs.Grammar.{end_words}
use Rattle.client_scripts.specs.ScriptRules.{grouped}
use Rattle.report_lines.specs.declared.line.Line.{Line}
use Rattle.report_lines.specs.Lines.{made_of, book_of_lines, lines_at, line_at, seen_at, delivered_in}
use Rattle.reports.specs.Findings.{Findings, sizes, IsReport}
use Rattle.reports.specs.Grammar.{line_words, call_line, caller_lines, report_lines, IsWrittenText}
use Rattle.report_text.specs.ReportRules.{book_so_far, EndsTooEarly, ReportDue, InHead, InLines, AtEnd, after_head, SaysLine, FitsEarlier, ReportPasses, report_rules, IsReportText}
use Rattle.report_text.specs.Drafts.{StandBefore}
use Rattle.report_text.specs.Parts.{chained}
use Rattle.report_text.proofs.Groups.{before, before-more}
use Rattle.report_text.proofs.Pushing.{records_in}
use Rattle.report_text.proofs.Soundness.{IsSeenFit, IsSound, sound-none, sound-push, grouped-chained, whole_book, operations-chained, count_records}

pub get_middle : (done : List ℕ) (c : ℕ) (counts : List ℕ)
    → get_or (done ++ c ∷ counts) (length done) 0 ≡ c
get_middle [] c counts = refl
get_middle (d ∷ done) c counts = get_middle done c counts

module _ (findings : Findings) where
  abbrev goal : ReportDue
  goal = AtEnd findings

  abbrev To : ReportDue → List (List (List ℕ)) → Type 0
  To due lines = Leads report_rules goal due lines

  module _ (kind : Kind) (counts : List ℕ) where
    -- the lines of a caller's calls say its lines
    record IsCallerRead (told : List Line) (i k more : ℕ) (due : List Call)
        (lines : List (List (List ℕ))) : Type 0 where
      pub own : List Line
      pub others : List (List (List ℕ))
      pub count : length own ≡ more
      pub text : lines ≡ by_number (call_line kind i) k own ++ others
      pub leads : To (InLines kind counts (told ++ own) due) others
      pub sound : IsSound counts (told ++ own)

    read_caller : (told : List Line) (i k more : ℕ) (due : List Call) (lines : List (List (List ℕ)))
        → StandBefore counts told i k → k + more ≤ get_or counts i 0 → IsSound counts told
        → To (InLines kind counts told (calls_from i k more ++ due)) lines
        → IsCallerRead told i k more due lines
    read_caller told i k zero due lines stand few sound h = record {
      own = [];
      others = lines;
      count = refl;
      text = refl;
      leads = subst (λ (ls : List Line). To (InLines kind counts ls due) lines)
          (sym (append-nil told)) h;
      sound = subst (IsSound counts) (sym (append-nil told)) sound;
    }
    read_caller told i k (suc more) due lines stand few sound h =
        let call : Call = record { caller = i; number = k } in
        let later : List Call = calls_from i (k + 1) more ++ due in
        let first = has_line report_rules goal (InLines kind counts told (call ∷ later)) lines
        (λ e. absurd cc) h in
        let line : Line = first.right.0 in
        let says : SaysLine kind (length counts) call first.words line = first.right.1 in
        let fits : FitsEarlier counts told call line = first.right.2 in
        let lt : k < get_or counts i 0 = omega arith in
        let next : List Line = told ++ line ∷ [] in
        let rest = read_caller next i (k + 1) more due first.others
        (omega (arith, stand, length-append told (line ∷ []))) (omega arith)
        (sound-push kind counts told line call first.words stand lt says fits sound)
        (moved report_rules goal first.next
        (InLines kind counts next later) first.others first.right.3 first.leads) in
        let all : next ++ rest.own ≡ told ++ line ∷ rest.own =
        append_assoc told (line ∷ []) rest.own in
        record {
          own = line ∷ rest.own;
          others = rest.others;
          count = ap suc rest.count;
          text = first.text ∙ ap (λ (w : List (List ℕ)). w ∷ first.others) says.text
              ∙ ap (λ (ls : List (List (List ℕ))). line_words kind call line ∷ ls) rest.text;
          leads = subst
              (λ (ls : List Line). To (InLines kind counts ls due) rest.others) all rest.leads;
          sound = subst (IsSound counts) all rest.sound;
        }

    -- the lines of all calls say the lines of all callers
    record AreCallersRead (told : List Line) (i : ℕ) (rest : List ℕ)
        (lines : List (List (List ℕ))) : Type 0 where
      pub said : List (List Line)
      pub others : List (List (List ℕ))
      pub count : sizes said ≡ rest
      pub text : lines ≡ by_number (caller_lines kind) i said ++ others
      pub leads : To (InLines kind counts (told ++ chained said) []) others
      pub sound : IsSound counts (told ++ chained said)

    read_callers : (told : List Line) (done rest : List ℕ) (lines : List (List (List ℕ)))
        → counts ≡ done ++ rest → StandBefore counts told (length done) 0 → IsSound counts told
        → To (InLines kind counts told (all_calls (length done) rest)) lines
        → AreCallersRead told (length done) rest lines
    read_callers told done [] lines split stand sound h = record {
      said = [];
      others = lines;
      count = refl;
      text = refl;
      leads = subst (λ (ls : List Line). To (InLines kind counts ls []) lines)
          (sym (append-nil told)) h;
      sound = subst (IsSound counts) (sym (append-nil told)) sound;
    }
    read_callers told done (count ∷ rest) lines split stand sound h =
        let i = length done in
        let at : get_or counts i 0 ≡ count =
        ap (λ (ns : List ℕ). get_or ns i 0) split ∙ get_middle done count rest in
        let first = read_caller told i 0 count (all_calls (i + 1) rest) lines stand
        (omega (arith, at)) sound h in
        let next : List ℕ = done ++ count ∷ [] in
        let size : length next ≡ i + 1 = length-append done (count ∷ []) in
        let told' : List Line = told ++ first.own in
        let stand' : StandBefore counts told' (length next) 0 = omega (
          arith,
          length-append told first.own,
          first.count,
          stand,
          ap (before counts) size,
          before-more counts i,
          at,
        ) in
        let more = read_callers told' next rest first.others
        (split ∙ sym (append_assoc done (count ∷ []) rest)) stand' first.sound
        (subst (λ (j : ℕ). To (InLines kind counts told' (all_calls j rest)) first.others)
        (sym size) first.leads) in
        let mine = caller_lines kind i first.own in
        let all : told' ++ chained more.said ≡ told ++ chained (first.own ∷ more.said)
        = append_assoc told first.own (chained more.said) ∙ ap (λ (ls : List Line). told ++ ls)
        (sym (flat_map-cons (λ (x : List Line). x) first.own more.said)) in
        record {
          said = first.own ∷ more.said;
          others = more.others;
          count = ap (λ (n : ℕ). n ∷ sizes more.said) first.count
              ∙ ap (λ (ns : List ℕ). count ∷ ns) more.count;
          text = first.text ∙ ap (λ (ls : List (List (List ℕ))). mine ++ ls) (more.text ∙ ap
              (λ (j : ℕ). by_number (caller_lines kind) j more.said ++ more.others) size)
              ∙ sym
              (append_assoc mine (by_number (caller_lines kind) (i + 1) more.said) more.others);
          leads =
              subst (λ (ls : List Line). To (InLines kind counts ls []) more.others) all more.leads;
          sound = subst (IsSound counts) all more.sound;
        }

    same_end : (f : Findings) → AtEnd f ≡ AtEnd findings → findings ≡ f
    same_end f e = cc

    read_end : (told : List Line) (lines : List (List (List ℕ)))
        → To (InLines kind counts told []) lines
        → (findings ≡ record { kind = kind; lines = grouped counts told })
        × (lines ≡ end_words ∷ [])
    read_end told lines h =
        let said : Findings = record { kind = kind; lines = grouped counts told } in
        let first =
        has_line report_rules goal (InLines kind counts told []) lines (λ e. absurd cc) h in
        let last =
        moved report_rules goal first.next (AtEnd said) first.others first.right.1 first.leads in
        ended first.others last first.text first.right.0 where
          ended : {words : List (List ℕ)} (others : List (List (List ℕ)))
              → To (AtEnd (record { kind = kind; lines = grouped counts told })) others
              → lines ≡ words ∷ others → words ≡ end_words
              → (findings ≡ record { kind = kind; lines = grouped counts told })
              × (lines ≡ end_words ∷ [])
          ended [] e text is = (
            same_end (record { kind = kind; lines = grouped counts told }) e,
            text ∙ ap (λ (w : List (List ℕ)). w ∷ []) is,
          )
          ended (w ∷ others) e text is = absurd e.1

-- ---- a report

pub size_at : (lines : List (List Line)) (i : ℕ)
    → get_or (sizes lines) i 0 ≡ length (lines_at lines i)
size_at lines i =
    let size : List Line → ℕ = λ own. length own in
    elim (cases_lt i (length lines)) [
      | inl lt ↦ get_or-map size lines i [] 0 lt
      | inr le ↦ get_or_past (map size lines) i 0 (omega (arith, length-map lines size))
          ∙ sym (ap size (get_or_past lines i [] le))
    ]

pub answers_at : (lines : List (List Line)) (i : ℕ)
    → answers_of (book_of_lines lines) i ≡ length (flat_map records_in (lines_at lines i))
answers_at [] i = refl
answers_at (own ∷ lines) zero = ap (λ (rs : List Record). length rs)
    (flat_map-map (λ (c : Made). records_of c.reached) made_of own)
answers_at (own ∷ lines) (suc i) = answers_at lines i

-- lines that are right, each after those before it, are those of a report
pub sound_report : (kind : Kind) (lines : List (List Line)) → 1 ≤ length lines
    → length lines ≤ TEXT_CALLERS → AreAtMost TEXT_CALLS (sizes lines)
    → IsSound (sizes lines) (chained lines) → IsReport (record { kind = kind; lines = lines })
sound_report kind lines some few calls s =
    let counts = sizes lines in
    let book : book_so_far counts (chained lines) ≡ book_of_lines lines = whole_book lines in
    let groups : grouped counts (chained lines) ≡ lines = grouped-chained lines in
    let seen : (call : Call) (cut : List ℕ) → seen_at lines call ≡ Some cut
    → IsSeenFit counts lines call cut
    = subst (λ (ls : List (List Line)). (call : Call) (cut : List ℕ) → seen_at ls call ≡ Some cut
    → IsSeenFit counts ls call cut) groups s.seen in
    let ends : (call : Call) (line : Line) → line_at lines call ≡ Some line
    → ¬ (EndsTooEarly counts call line)
    = subst (λ (ls : List (List Line)). (call : Call) (line : Line) → line_at ls call ≡ Some line
    → ¬ (EndsTooEarly counts call line)) groups s.delivered in
    let early : (call : Call) (line : Line) → line_at lines call ≡ Some line
    → delivered_in line.end ≡ None → call.number + 1 < length (lines_at lines call.caller) → ⊥
    = λ call line at none lt.
    ends call line at (none, omega (arith, lt, size_at lines call.caller)) in
    record {
      some = some;
      callers = few;
      calls = calls;
      operations = operations-chained lines s.operations;
      replies = subst (λ (b : List Page). (call : Call) (r : Record) → record_of b call ≡ Some r
          → r.reply < 2 ^ 64) book s.replies;
      valid = subst IsValid book s.valid;
      seen = record {
        wide = λ call cut e. (seen call cut e).wide
            ∙ length-map lines (λ (own : List Line). length own);
        within = λ call cut e j.
            let fit = seen call cut e in
            let own = lines_at lines j in
            let made =
            count_records own (get_or cut j 0) (omega (arith, fit.within j, size_at lines j))
            (λ m l at none lt. early (record { caller = j; number = m }) l at none lt)
            (λ m l at pending. elim (cases_lt m (get_or cut j 0)) [
              | inl held ↦
                  absurd (fit.free (record { caller = j; number = m }) (l, at, pending) held)
              | inr le ↦ le
            ]) in
            omega (arith, made, answers_at lines j, answered_at (book_of_lines lines) j);
        own = λ call cut e. (seen call cut e).own;
      };
      delivered = λ call line at lt. elim (cases_Option (delivered_in line.end)) [
        | inl none ↦ absurd (early call line at none lt)
        | inr some ↦ subst IsSome (sym some.1) refl
      ];
    }

enters : (due : HeadDue) (words : List (List ℕ)) (after : ReportDue)
    → ReportPasses (InHead due) words after → (next : HeadDue)
    × HeadPasses Second (codes "report") due words next × (after ≡ after_head next)
enters due words after h = h

module _ (findings : Findings) where
  record IsWholeRead (lines : List (List (List ℕ))) : Type 0 where
    pub writable : IsReport findings
    pub text : lines ≡ report_lines findings

  -- the parts that were read are those of the report
  whole_read : (lines : List (List (List ℕ)))
      → Leads report_rules (AtEnd findings) (InHead TitleDue) lines → IsWholeRead lines
  whole_read lines h =
      let head = head_read report_rules (AtEnd findings) Second (codes "report") InHead after_head
      enters refl (λ kind. refl) (λ kind n. refl) (λ due e. absurd cc) lines h in
      let kind = head.object in
      let counts = head.counts in
      let calls = read_callers findings kind counts [] [] counts head.others refl refl
      (sound-none counts) head.leads in
      let last = read_end findings kind counts (chained calls.said) calls.others calls.leads in
      let groups : grouped counts (chained calls.said) ≡ calls.said =
      ap (λ (ns : List ℕ). grouped ns (chained calls.said)) (sym calls.count)
      ∙ grouped-chained calls.said in
      let made : Findings = record { kind = kind; lines = calls.said } in
      let is : findings ≡ made =
      last.0 ∙ ap (λ (ls : List (List Line)). record { kind = kind; lines = ls }) groups in
      let size : length calls.said ≡ length counts = sym
      (length-map calls.said (λ (own : List Line). length own)) ∙ ap (length {A = ℕ}) calls.count in
      let written : lines ≡ report_lines made
      = head.text
      ∙ ap (λ (ls : List (List (List ℕ))). head_lines Second (codes "report") kind counts ++ ls)
      (calls.text ∙ ap
      (λ (ls : List (List (List ℕ))). by_number (caller_lines kind) 0 calls.said ++ ls) last.1)
      ∙ ap (λ (ns : List ℕ). head_lines Second (codes "report") kind ns
      ++ (by_number (caller_lines kind) 0 calls.said ++ end_words ∷ [])) (sym calls.count) in
      record {
        writable = subst IsReport (sym is)
            (sound_report kind calls.said (omega (arith, size, head.callers.some, head.calls.count))
            (omega (arith, size, head.callers.few, head.calls.count))
            (subst (AreAtMost TEXT_CALLS) (sym calls.count) head.calls.few) (subst
            (λ (ns : List ℕ). IsSound ns (chained calls.said)) (sym calls.count) calls.sound));
        text = written ∙ ap report_lines (sym is);
      }

-- what is read as a report is what is written of it
pub read_is_written : (bytes : List ℕ) (findings : Findings) → IsReportText bytes findings
    → IsWrittenText bytes findings
read_is_written bytes findings h =
    let lines = h.1.goes.lines in
    let read = whole_read findings lines h.1.goes.right in
    record {
      writable = read.writable;
      text = h.1.goes.bytes ∙ ap (λ (b : List ℕ). text_of lines ++ b) h.1.through
          ∙ append-nil (text_of lines) ∙ ap text_of read.text;
    }

-- a report has one text
pub one_text : (a b : List ℕ) (findings : Findings) → IsReportText a findings
    → IsReportText b findings → a ≡ b
one_text a b findings h k =
    (read_is_written a findings h).text ∙ sym (read_is_written b findings k).text
