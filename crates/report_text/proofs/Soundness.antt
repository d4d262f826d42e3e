-- Lines that are right fit one another.
use Rattle.std.proofs.Common.{◌≡◌, ℕ, zero, suc, ◌+◌, ◌-◌, ◌<◌, ◌≤◌, ◌^◌, List, [], ◌∷◌, ◌++◌, length, map, get_or, drop, replicate, slice_get, Option, Some, None, refl, sym, ap, subst, ◌∙◌, arith, inl, inr}
use Rattle.std.specs.List.{AllByRecursion, flat_map}
use Rattle.std.proofs.lemmas.Bool.{cases_lt}
use Rattle.std.proofs.lemmas.Option.{same_Some, none-some}
use Rattle.std.proofs.lemmas.List.{append-nil, length-set, length-append}
use Rattle.std.proofs.lemmas.List.Concat.{flat_map-cons}
use Rattle.std.proofs.lemmas.List.Folds.{flat_map-map}
use Rattle.std.proofs.Math.Seq.{take-append_seam, drop-append_seam}
use Rattle.list_laws.proofs.Elements.{AllByRecursion-append}
use Rattle.list_laws.proofs.Options.{and_then_some}
use Rattle.book_base.specs.declared.call.Call.{Call}
use Rattle.book_base.specs.declared.call.Record.{Record}
use Rattle.book_base.specs.Cut.{Holds}
use Rattle.book_base.specs.OperationWord.{IsOperationWord}
use Rattle.book_base.specs.Book.{Page, page_of, record_of, IsValid, with_operation, with_answer}
use Rattle.book_text.specs.CallLines.{with_line}
use Rattle.book_base.proofs.GrowthLemmas.{IsValid-with_operation, IsValid-with_answer, IsValid-unanswered_book, records-with_operation, record_of-with_answer_cases, page_of-unanswered_book}
use Rattle.seq_objects.specs.declared.kind.Kind.{Kind}
use Rattle.world_core.specs.Calls.{Made, records_of, page_with}
use Rattle.report_lines.specs.declared.line.LineEnd.{LineEnd}
use Rattle.report_lines.specs.declared.line.LineEnd.TheVariants.{Pending, Unchecked, Delivered, Error}
use Rattle.report_lines.specs.declared.line.Line.{Line}
use Rattle.report_lines.specs.Lines.{made_of, book_of_lines, reached_of, line_at, seen_in, seen_at, delivered_in}
use Rattle.client_scripts.specs.ScriptRules.{grouped}
use Rattle.reports.specs.Findings.{sizes}
use Rattle.report_text.specs.ReportRules.{part_page, book_so_far, IsCut, IsAnswer, IsFormed, SaysLine, IsPendingAt, EndsTooEarly, FitsEarlier}
use Rattle.report_text.specs.Drafts.{StandBefore}
use Rattle.report_text.specs.Parts.{answer_in, MayTell, chained}
use Rattle.report_text.proofs.Pushing.{op_of, records_in, length-book_so_far, inside, book-push, line-cases, pending-cases, seen-cases}
use Rattle.report_text.proofs.SharpReports.{may_tell}
use Rattle.report_text.proofs.OwnSteps.{so_far-none, no_line}

-- ---- the book

-- a valid book is still valid with one line more
valid-line : (book : List Page) (call : Call) (op : ℕ) (answer : Option Record)
    → call.caller < length book → ((r : Record) → answer ≡ Some r → length r.view ≡ length book)
    → MayTell book call answer → IsValid book
    → IsValid (with_line book call op answer)
valid-line book call op None lt wide may h = IsValid-with_operation book call op lt h
valid-line book call op (Some r) lt wide may h =
    let p : Page =
    record (page_of book call.caller) { records = (page_of book call.caller).records ++ r ∷ [] } in
    IsValid-with_operation (with_answer book call.caller r) call op
    (omega (arith, length-set book call.caller p))
    (IsValid-with_answer book call.caller r lt (wide r refl) may h)

-- the replies of a book can be written
abbrev AreWritable : List Page → Type 0
AreWritable book = (call : Call) (r : Record) → record_of book call ≡ Some r → r.reply < 2 ^ 64

writable-operation : (book : List Page) (call : Call) (op : ℕ) → call.caller < length book
    → AreWritable book → AreWritable (with_operation book call op)
writable-operation book call op lt h =
    λ other r e. h other r (sym (ap (λ (rs : List Record). slice_get rs other.number)
    (records-with_operation book call op other.caller lt)) ∙ e)

writable-line : (book : List Page) (call : Call) (op : ℕ) (answer : Option Record)
    → call.caller < length book → ((r : Record) → answer ≡ Some r → r.reply < 2 ^ 64)
    → AreWritable book → AreWritable (with_line book call op answer)
writable-line book call op None lt small h = writable-operation book call op lt h
writable-line book call op (Some r) lt small h =
    let p : Page =
    record (page_of book call.caller) { records = (page_of book call.caller).records ++ r ∷ [] } in
    let answered' : AreWritable (with_answer book call.caller r) =
    λ other s e. elim (record_of-with_answer_cases book call.caller r other s lt e) [
      | inl old ↦ h other s old
      | inr new ↦ subst (λ (x : Record). x.reply < 2 ^ 64) (sym new.2) (small r refl)
    ] in
    writable-operation (with_answer book call.caller r) call op
    (omega (arith, length-set book call.caller p)) answered'

formed-answer : (n : ℕ) (end : LineEnd) (r : Record) → IsFormed n end → answer_in end ≡ Some r
    → IsAnswer n r
formed-answer n Pending r h e = absurd cc
formed-answer n (Unchecked s) r h e = subst (IsAnswer n) (same_Some s r e) h
formed-answer n (Delivered s cut) r h e = subst (IsAnswer n) (same_Some s r e) h.0
formed-answer n (Error s cut) r h e = subst (IsAnswer n) (same_Some s r e) h.0

formed-cut : (n : ℕ) (end : LineEnd) (cut : List ℕ) → IsFormed n end → seen_in end ≡ Some cut
    → IsCut n cut
formed-cut n Pending cut h e = absurd cc
formed-cut n (Unchecked s) cut h e = absurd cc
formed-cut n (Delivered s own) cut h e = subst (IsCut n) (same_Some own cut e) h.1
formed-cut n (Error s own) cut h e = subst (IsCut n) (same_Some own cut e) h.1

-- ---- the lines

-- a seen cut of a call fits the lines
pub record IsSeenFit (counts : List ℕ) (lines : List (List Line)) (call : Call)
    (cut : List ℕ) : Type 0 where
  pub wide : length cut ≡ length counts
  pub own : Holds cut call
  pub within : (j : ℕ) → get_or cut j 0 ≤ get_or counts j 0
  pub free : (other : Call) → IsPendingAt lines other → ¬ (Holds cut other)

-- lines that are right, each after those before it
pub record IsSound (counts : List ℕ) (told : List Line) : Type 0 where
  pub operations : AllByRecursion (λ line. IsOperationWord line.op) told
  pub replies : AreWritable (book_so_far counts told)
  pub valid : IsValid (book_so_far counts told)
  pub seen : (call : Call) (cut : List ℕ) → seen_at (grouped counts told) call ≡ Some cut
      → IsSeenFit counts (grouped counts told) call cut
  pub delivered : (call : Call) (line : Line) → line_at (grouped counts told) call ≡ Some line
      → ¬ (EndsTooEarly counts call line)

pub sound-none : (counts : List ℕ) → IsSound counts []
sound-none counts =
    let none : (call : Call) (r : Record) → record_of (book_so_far counts []) call ≡ Some r → ⊥
    = λ call r e. none-some r (sym (ap (λ (p : Page). slice_get p.records call.number)
    (page_of-unanswered_book counts call.caller))
    ∙ ap (λ (b : List Page). record_of b call) (sym (so_far-none counts)) ∙ e) in
    record {
      operations = tt;
      replies = λ call r e. absurd (none call r e);
      valid = subst IsValid (sym (so_far-none counts)) (IsValid-unanswered_book counts);
      seen = λ call cut e. let at = and_then_some (line_at (grouped counts []) call)
          (λ (l : Line). seen_in l.end) cut e in absurd (no_line counts call at.0 at.1);
      delivered = λ call line e. absurd (no_line counts call line e);
    }

module _ (kind : Kind) (counts : List ℕ) (told : List Line) (line : Line) (call : Call)
    (words : List (List ℕ)) (stand : StandBefore counts told call.caller call.number)
    (lt : call.number < get_or counts call.caller 0)
    (says : SaysLine kind (length counts) call words line)
    (fits : FitsEarlier counts told call line)
    (s : IsSound counts told) where
  abbrev lines : List (List Line)
  lines = grouped counts told

  abbrev after : List (List Line)
  after = grouped counts (told ++ line ∷ [])

  abbrev book : List Page
  book = book_so_far counts told

  within_book : call.caller < length book
  within_book = omega (arith, inside counts told line call stand lt, length-book_so_far counts told)

  seen-new : (other : Call) (cut : List ℕ) → other.caller ≡ call.caller → other.number ≡ call.number
      → seen_in line.end ≡ Some cut → IsSeenFit counts after other cut
  seen-new other cut caller number e =
      let right = fits.seen cut e in
      let held : call.number < get_or cut call.caller 0 =
      elim (cases_lt call.number (get_or cut call.caller 0)) [
        | inl holds ↦ holds
        | inr low ↦ absurd (right (inr (inr low)))
      ] in
      record {
        wide = (formed-cut (length counts) line.end cut says.formed e).0;
        own = let at : get_or cut other.caller 0 ≡ get_or cut call.caller 0 =
            ap (λ (i : ℕ). get_or cut i 0) caller in omega arith;
        within = λ j. elim (cases_lt (get_or counts j 0) (get_or cut j 0)) [
          | inl above ↦ absurd (right (inl (j, above)))
          | inr le ↦ le
        ];
        free = λ it pending holds. elim (pending-cases counts told line call stand lt it pending) [
          | inl old ↦ right (inr (inl (it, old, holds)))
          | inr new ↦ let none : seen_in Pending ≡ Some cut = ap seen_in (sym new.1) ∙ e in
              absurd cc
        ];
      }

  seen-kept : (other : Call) (cut : List ℕ) → seen_at lines other ≡ Some cut
      → IsSeenFit counts after other cut
  seen-kept other cut e =
      let h = s.seen other cut e in
      record {
        wide = h.wide;
        own = h.own;
        within = h.within;
        free = λ it pending holds. elim (pending-cases counts told line call stand lt it pending) [
          | inl old ↦ h.free it old holds
          | inr new ↦
              let at : get_or cut it.caller 0 ≡ get_or cut call.caller 0 =
              ap (λ (i : ℕ). get_or cut i 0) new.0.caller in
              let held : Holds cut call = omega (arith, new.0.number) in
              fits.pending new.1 (other, cut, e, held)
        ];
      }

  pub sound-push : IsSound counts (told ++ line ∷ [])
  sound-push = record {
    operations = AllByRecursion-append (λ (l : Line). IsOperationWord l.op) told
        (line ∷ []) s.operations (says.has, tt);
    replies = subst AreWritable (sym (book-push counts told line call stand lt))
        (writable-line book call line.op (answer_in line.end) within_book
        (λ r e. (formed-answer (length counts) line.end r says.formed e).0) s.replies);
    valid = subst IsValid (sym (book-push counts told line call stand lt))
        (valid-line book call line.op (answer_in line.end) within_book
        (λ r e. (formed-answer (length counts) line.end r says.formed e).1.0
        ∙ sym (length-book_so_far counts told)) (may_tell book call line.end fits.view) s.valid);
    seen = λ other cut e. elim (seen-cases counts told line call stand lt other cut e) [
      | inl old ↦ seen-kept other cut old
      | inr new ↦ seen-new other cut new.0.caller new.0.number new.1
    ];
    delivered = λ other l e early. elim (line-cases counts told line call stand lt other l e) [
      | inl old ↦ s.delivered other l old early
      | inr new ↦
          let none : delivered_in line.end ≡ None =
          ap (λ (x : Line). delivered_in x.end) (sym new.line_is) ∙ early.0 in
          let at : get_or counts other.caller 0 ≡ get_or counts call.caller 0 =
          ap (λ (i : ℕ). get_or counts i 0) new.caller in
          fits.last (none, omega (arith, early.1, new.number))
    ];
  }

-- ---- all lines

pub grouped-chained : (lines : List (List Line)) → grouped (sizes lines) (chained lines) ≡ lines
grouped-chained [] = refl
grouped-chained (own ∷ lines) =
    let all = flat_map-cons (λ (x : List Line). x) own lines in
    ap (λ (ls : List Line). grouped (sizes (own ∷ lines)) ls) all
    ∙ ap (λ (x : List Line). x ∷ grouped (sizes lines) (drop (length own) (own ++ chained lines)))
    (take-append_seam own (chained lines))
    ∙ ap (λ (x : List Line). own ∷ grouped (sizes lines) x) (drop-append_seam own (chained lines))
    ∙ ap (λ (xs : List (List Line)). own ∷ xs) (grouped-chained lines)

map-twice : (own : List Line) → map (λ (c : Made). c.operation) (map made_of own) ≡ map op_of own
map-twice [] = refl
map-twice (l ∷ own) = ap (λ (xs : List ℕ). l.op ∷ xs) (map-twice own)

whole_page : (own : List Line) → part_page (length own) own ≡ page_with (map made_of own)
whole_page own =
    let none : length own - length own ≡ 0 = omega arith in
    ap (λ (m : ℕ).
    record { operations = map op_of own ++ replicate m 0; records = flat_map records_in own }) none
    ∙ ap (λ (ops : List ℕ). record { operations = ops; records = flat_map records_in own })
    (append-nil (map op_of own) ∙ sym (map-twice own))
    ∙ ap (λ (rs : List Record).
    record { operations = map (λ (c : Made). c.operation) (map made_of own); records = rs })
    (sym (flat_map-map (λ (c : Made). records_of c.reached) made_of own))

-- the book of all lines is that of the report
pub whole_book : (lines : List (List Line))
    → book_so_far (sizes lines) (chained lines) ≡ book_of_lines lines
whole_book [] = refl
whole_book (own ∷ lines) =
    let all = flat_map-cons (λ (x : List Line). x) own lines in
    ap (λ (ls : List Line). book_so_far (sizes (own ∷ lines)) ls) all
    ∙ ap (λ (x : List Line). part_page (length own) x ∷ book_so_far (sizes lines)
    (drop (length own) (own ++ chained lines))) (take-append_seam own (chained lines))
    ∙ ap (λ (x : List Line). part_page (length own) own ∷ book_so_far (sizes lines) x)
    (drop-append_seam own (chained lines))
    ∙ ap (λ (p : Page). p ∷ book_so_far (sizes lines) (chained lines)) (whole_page own)
    ∙ ap (λ (ps : List Page). page_with (map made_of own) ∷ ps) (whole_book lines)

pub operations-chained : (lines : List (List Line))
    → AllByRecursion (λ line. IsOperationWord line.op) (chained lines)
    → AllByRecursion (AllByRecursion (λ line. IsOperationWord line.op)) lines
operations-chained [] h = tt
operations-chained (own ∷ lines) h =
    let parts =
    split own (chained lines) (subst (AllByRecursion (λ (l : Line). IsOperationWord l.op))
    (flat_map-cons (λ (x : List Line). x) own lines) h) in
    (parts.0, operations-chained lines parts.1) where
      split : (xs ys : List Line) → AllByRecursion (λ line. IsOperationWord line.op) (xs ++ ys)
          → AllByRecursion (λ line. IsOperationWord line.op) xs
          × AllByRecursion (λ line. IsOperationWord line.op) ys
      split [] ys h = (tt, h)
      split (x ∷ xs) ys h = let more = split xs ys h.1 in ((h.0, more.0), more.1)

-- a caller with at least c lines has at least c records, where each line but the last is delivered,
-- and no line before number c is pending
pub count_records : (own : List Line) (c : ℕ) → c ≤ length own → ((m : ℕ) (l : Line)
    → slice_get own m ≡ Some l → delivered_in l.end ≡ None → m + 1 < length own → ⊥)
    → ((m : ℕ) (l : Line) → slice_get own m ≡ Some l → l.end ≡ Pending → c ≤ m)
    → c ≤ length (flat_map records_in own)
count_records own zero le last free = omega arith
count_records [] (suc c) le last free = absurd (omega arith)
count_records (l ∷ own) (suc c) le last free =
    let here : 1 ≤ length (records_in l) =
    has_record l.end (λ e. let none : suc c ≤ 0 = free 0 l refl e in absurd (omega arith)) in
    let more : c ≤ length (flat_map records_in own) =
    count_records own c (omega arith) (λ m x e d lt. last (suc m) x e d (omega arith))
    (λ m x e p. let le' : suc c ≤ suc m = free (suc m) x e p in omega arith) in
    omega (
      arith,
      ap (λ (rs : List Record). length rs) (flat_map-cons records_in l own),
      length-append (records_in l) (flat_map records_in own),
    ) where
      has_record : (end : LineEnd) → (end ≡ Pending → ⊥) → 1 ≤ length (records_of (reached_of end))
      has_record Pending h = absurd (h refl)
      has_record (Unchecked r) h = omega arith
      has_record (Delivered r cut) h = omega arith
      has_record (Error r cut) h = omega arith
