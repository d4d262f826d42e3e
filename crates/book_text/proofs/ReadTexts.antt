-- A book that is read is the one of which the bytes are written.
use Rattle.std.proofs.Common.{◌≡◌, ℕ, zero, suc, ◌+◌, ◌<◌, ◌≤◌, ◌^◌, IsTrue, true, ◌⊎◌, List, [], ◌∷◌, ◌++◌, length, map, get_or, replicate, set, Option, Some, None, refl, sym, ap, subst, ◌∙◌, append_assoc, arith, inl, inr, slice_get}
use Rattle.std.specs.Prelude.{codes, unwrap_or, IsSome, nat_lt}
use Rattle.std.proofs.lemmas.Bool.{cases_eq, lt-ltb, ltb-false}
use Rattle.std.proofs.lemmas.Option.{same_Some, none-some}
use Rattle.std.proofs.lemmas.List.{append-nil, map-append, length-append, length-map, length-replicate, length-set}
use Rattle.book_base.specs.declared.call.Call.{Call}
use Rattle.book_base.specs.declared.call.Record.{Record}
use Rattle.book_base.specs.Book.{Page, page_of, answers_of, announced, operation_of, record_of, IsValid, with_operation, with_answer, unanswered_page, unanswered_book}
use Rattle.book_base.proofs.GrowthLemmas.{announced_at, page_of-set_same, page_of-set_other, page_of-unanswered_book, records-with_operation, record_of-with_answer_cases, IsValid-unanswered_book, IsValid-with_operation, IsValid-with_answer}
use Rattle.seq_objects.specs.declared.kind.Kind.{Kind}
use Rattle.text_fields.specs.declared.version.Version.{Version}
use Rattle.text_fields.specs.declared.version.Version.TheVariants.{First, Second}
use Rattle.text_fields.specs.Version.{most_calls, has_kind, word_limit}
use Rattle.text_fields.specs.Lines.{text_of}
use Rattle.text_fields.specs.Counts.{AreAtMost}
use Rattle.text_fields.specs.Operations.{Operations, kind_operations}
use Rattle.text_fields.specs.Head.{TitleDue, ObjectDue, CallersDue, CountsDue, AreCallers, AreCalls, title_words, object_words, callers_words, calls_words, head_lines}
use Rattle.text_fields.specs.Faults.{AllPass}
use Rattle.book_text.specs.CallLines.{BookSoFar, MayStand, with_line, IsCallLine, call_words, calls_from, all_calls}
use Rattle.book_text.specs.Grammar.{line_of, end_words, book_lines, IsWrittenText}
use Rattle.book_text.specs.BookRules.{BookDue, InHead, InCalls, AtEnd, after_head, BookPasses, IsBookText}
use Rattle.book_text.proofs.Pages.{page_with, page_of-middle, with_line-middle, AreSameTo, page_with-before, page_with-operation, page_with-record, page_with-few, slice_get-set_cases}

-- ---- what each line preserves of a book

-- a book that right lines give
record IsSound (operations : Operations) (book : List Page) : Type 0 where
  pub valid : IsValid book
  pub has : (call : Call) (op : ℕ) → operation_of book call ≡ Some op → IsTrue (operations.has op)
  pub replies : (call : Call) (answer : Record) → record_of book call ≡ Some answer
      → answer.reply < 2 ^ 64

operation-with_operation : (book : List Page) (call : Call) (op : ℕ) (other : Call) (o : ℕ)
    → call.caller < length book → operation_of (with_operation book call op) other ≡ Some o
    → (operation_of book other ≡ Some o) ⊎ (o ≡ op)
operation-with_operation book call op other o lt e =
    let p : Page = record (page_of book call.caller)
    { operations = set (page_of book call.caller).operations call.number op } in
    elim (cases_eq other.caller call.caller) [
      | inl same ↦
          let here : slice_get
          (set (page_of book call.caller).operations call.number op) other.number ≡ Some o
          = sym (ap (λ (i : ℕ). slice_get (page_of (set book call.caller p) i).operations
          other.number) same ∙ ap (λ (q : Page). slice_get q.operations other.number)
          (page_of-set_same book call.caller p lt)) ∙ e in
          elim (slice_get-set_cases (page_of book call.caller).operations call.number op
          other.number o here) [
            | inl old ↦
                inl (ap (λ (i : ℕ). slice_get (page_of book i).operations other.number) same ∙ old)
            | inr new ↦ inr new
          ]
      | inr apart ↦ inl (sym (ap (λ (q : Page). slice_get q.operations other.number)
          (page_of-set_other book call.caller other.caller p apart)) ∙ e)
    ]

operation-with_answer : (book : List Page) (i : ℕ) (r : Record) (other : Call) → i < length book
    → operation_of (with_answer book i r) other ≡ operation_of book other
operation-with_answer book i r other lt =
    let p : Page = record (page_of book i) { records = (page_of book i).records ++ r ∷ [] } in
    elim (cases_eq other.caller i) [
      | inl same ↦
          ap (λ (j : ℕ). slice_get (page_of (set book i p) j).operations other.number) same
          ∙ ap (λ (q : Page). slice_get q.operations other.number) (page_of-set_same book i p lt)
          ∙ ap (λ (j : ℕ). slice_get (page_of book j).operations other.number) (sym same)
      | inr apart ↦ ap (λ (q : Page). slice_get q.operations other.number)
          (page_of-set_other book i other.caller p apart)
    ]

module _ (operations : Operations) where
  sound-with_operation : (book : List Page) (call : Call) (op : ℕ) → call.caller < length book
      → IsTrue (operations.has op) → IsSound operations book
      → IsSound operations (with_operation book call op)
  sound-with_operation book call op lt has s = record {
    valid = IsValid-with_operation book call op lt s.valid;
    has = λ other o e. elim (operation-with_operation book call op other o lt e) [
      | inl old ↦ s.has other o old
      | inr new ↦ subst (λ (x : ℕ). IsTrue (operations.has x)) (sym new) has
    ];
    replies =
        λ other a e. s.replies other a (sym (ap (λ (rs : List Record). slice_get rs other.number)
        (records-with_operation book call op other.caller lt)) ∙ e);
  }

  sound-with_line : (book : List Page) (call : Call) (op : ℕ) (answer : Option Record)
      → call.caller < length book → IsTrue (operations.has op) → MayStand book call answer
      → IsSound operations book
      → IsSound operations (with_line book call op answer)
  sound-with_line book call op None lt has stands s = sound-with_operation book call op lt has s
  sound-with_line book call op (Some r) lt has stands s =
      let p : Page = record (page_of book call.caller)
      { records = (page_of book call.caller).records ++ r ∷ [] } in
      let answered : IsSound operations (with_answer book call.caller r) = record {
        valid = IsValid-with_answer book call.caller r lt stands.2 stands.4 s.valid;
        has = λ other o e.
            s.has other o (sym (operation-with_answer book call.caller r other lt) ∙ e);
        replies = λ other a e. elim (record_of-with_answer_cases book call.caller r other a lt e) [
          | inl old ↦ s.replies other a old
          | inr new ↦ let small : r.reply < 2 ^ 64 = stands.1 in
              subst (λ (x : Record). x.reply < 2 ^ 64) (sym new.2) small
        ];
      } in
      sound-with_operation (with_answer book call.caller r) call op
      (omega (arith, length-set book call.caller p)) has answered

  -- a call has an answer only where all earlier calls of its caller are answered
  late : (book : List Page) (call : Call) (answer : Option Record) → MayStand book call answer
      → IsSome answer → call.number ≤ answers_of book call.caller
  late book call None stands some = absurd cc
  late book call (Some r) stands some = ltb-false (answers_of book call.caller) call.number stands.0

all_zeros : (n m op : ℕ) → slice_get (replicate n 0) m ≡ Some op → op ≡ 0
all_zeros zero m op e = absurd (none-some op e)
all_zeros (suc n) zero op e = sym (same_Some 0 op e)
all_zeros (suc n) (suc m) op e = all_zeros n m op e

pub has_zero : (version : Version) → IsTrue (nat_lt 0 (word_limit version))
has_zero First = lt-ltb 0 (2 ^ 64) (omega arith)
has_zero Second = lt-ltb 0 (2 ^ 128) (omega arith)

sound-unanswered : (version : Version) (kind : Kind) (counts : List ℕ)
    → IsSound (kind_operations version kind) (unanswered_book counts)
sound-unanswered version kind counts = record {
  valid = IsValid-unanswered_book counts;
  has = λ call op e.
      let none : op ≡ 0 = all_zeros (get_or counts call.caller 0) call.number op
      (sym (ap (λ (p : Page). slice_get p.operations call.number)
      (page_of-unanswered_book counts call.caller)) ∙ e) in
      subst (λ (x : ℕ). IsTrue (nat_lt x (word_limit version))) (sym none) (has_zero version);
  replies = λ call a e. absurd (none-some a (sym (ap (λ (p : Page). slice_get p.records call.number)
      (page_of-unanswered_book counts call.caller)) ∙ e));
}

-- ---- lines are taken back one by one

module _ (version : Version) (kind : Kind) (book : List Page) where
  abbrev Leads : BookDue → List (List (List ℕ)) → Type 0
  Leads due lines = AllPass (BookPasses version) due lines (AtEnd kind book)

  -- where the end isn't reached yet, there is a next line
  record HasLine (due : BookDue) (lines : List (List (List ℕ))) : Type 0 where
    pub words : List (List ℕ)
    pub others : List (List (List ℕ))
    pub next : BookDue
    pub text : lines ≡ words ∷ others
    pub right : BookPasses version due words next
    pub leads : Leads next others

  has_line : (due : BookDue) (lines : List (List (List ℕ))) → (due ≡ AtEnd kind book → ⊥)
      → Leads due lines → HasLine due lines
  has_line due [] unlike h = absurd (unlike h)
  has_line due (words ∷ others) unlike h =
      record { words = words; others = others; next = h.0; text = refl; right = h.1; leads = h.2 }

  abbrev moved : (due next : BookDue) (lines : List (List (List ℕ))) → due ≡ next → Leads due lines
      → Leads next lines
  moved due next lines e h = subst (λ (d : BookDue). Leads d lines) e h

  module _ (k : Kind) where
    abbrev operations : Operations
    operations = kind_operations version k

    -- the line of a call, by the page of its caller
    abbrev page_line : Page → Call → List (List ℕ)
    page_line page call = call_words version operations call
        (unwrap_or (slice_get page.operations call.number) 0) (slice_get page.records call.number)

    -- the lines of a caller give its page
    record IsCallerRead (done : List Page) (page : Page) (later : List Page) (number more : ℕ)
        (due : List Call) (lines : List (List (List ℕ))) : Type 0 where
      pub whole : Page
      pub others : List (List (List ℕ))
      pub text : lines ≡ map (page_line whole) (calls_from (length done) number more) ++ others
      pub leads : Leads (InCalls k (done ++ whole ∷ later) due) others
      pub same : AreSameTo number page whole
      pub sound : IsSound operations (done ++ whole ∷ later)

    read_caller : (done : List Page) (page : Page) (later : List Page) (number more : ℕ)
        (due : List Call) (lines : List (List (List ℕ)))
        → length page.records ≤ number → number + more ≡ length page.operations
        → IsSound operations (done ++ page ∷ later) → Leads
        (InCalls k (done ++ page ∷ later) (calls_from (length done) number more ++ due)) lines
        → IsCallerRead done page later number more due lines
    read_caller done page later number zero due lines few size sound h = record {
      whole = page;
      others = lines;
      text = refl;
      leads = h;
      same = record { size = refl; operations = λ m lt. refl; records = λ m lt. refl };
      sound = sound;
    }
    read_caller done page later number (suc more) due lines few size sound h =
        let sofar : List Page = done ++ page ∷ later in
        let call : Call = record { caller = length done; number = number } in
        let others = calls_from (length done) (number + 1) more ++ due in
        let first = has_line (InCalls k sofar (call ∷ others)) lines (λ e. absurd cc) h in
        let progress : BookSoFar = first.right.0 in
        let read : IsCallLine version operations sofar call first.words progress.book =
        first.right.1.0 in
        let next = page_with page number read.op read.answer in
        let is : with_line sofar call read.op read.answer ≡ done ++ next ∷ later =
        with_line-middle done page later number read.op read.answer in
        let inside : call.caller < length sofar = read.named.caller in
        let count : answers_of sofar (length done) ≡ length page.records =
        ap (λ (p : Page). length p.records) (page_of-middle done page later) in
        let when : IsSome read.answer → number ≤ length page.records =
        λ some. let le : number ≤ answers_of sofar (length done) =
        late operations sofar call read.answer read.stands some in omega arith in
        let here : AreSameTo number page next =
        page_with-before page number read.op read.answer when in
        let rest = read_caller done next later (number + 1) more due first.others
        (page_with-few page number read.op read.answer few)
        (omega (arith, here.size))
        (subst (IsSound operations) is (sound-with_line operations sofar call read.op read.answer
        inside read.has read.stands sound))
        (moved first.next (InCalls k (done ++ next ∷ later) others) first.others
        (first.right.2 ∙ ap (λ (b : List Page). InCalls k b progress.due) (read.book_is ∙ is)
        ∙ ap (InCalls k (done ++ next ∷ later)) first.right.1.1) first.leads) in
        let op : slice_get rest.whole.operations number ≡ Some read.op = rest.same.operations number
        (omega arith) ∙ page_with-operation page number read.op read.answer (omega arith) in
        let answer : slice_get rest.whole.records number ≡ read.answer = rest.same.records number
        (omega arith) ∙ page_with-record page number read.op read.answer few when in
        let line : first.words ≡ page_line rest.whole call
        = read.text ∙ sym (ap (λ (o : Option ℕ). call_words version operations call (unwrap_or o 0)
        (slice_get rest.whole.records number)) op
        ∙ ap (call_words version operations call read.op) answer) in
        record {
          whole = rest.whole;
          others = rest.others;
          text = first.text ∙ ap (λ (w : List (List ℕ)). w ∷ first.others) line
              ∙ ap (λ (ls : List (List (List ℕ))). page_line rest.whole call ∷ ls) rest.text;
          leads = rest.leads;
          same = record {
            size = rest.same.size ∙ here.size;
            operations = λ m lt. rest.same.operations m (omega arith) ∙ here.operations m lt;
            records = λ m lt. rest.same.records m (omega arith) ∙ here.records m lt;
          };
          sound = rest.sound;
        }

    -- a caller's lines are those of the book that has its page
    caller_lines : (page : Page) (i number more : ℕ) → page_of book i ≡ page
        → map (page_line page) (calls_from i number more)
        ≡ map (line_of version operations book) (calls_from i number more)
    caller_lines page i number zero e = refl
    caller_lines page i number (suc more) e =
        let call : Call = record { caller = i; number = number } in
        ap (λ (p : Page). page_line p call ∷ map (page_line page) (calls_from i (number + 1) more))
        (sym e)
        ∙ ap (λ (ls : List (List (List ℕ))). line_of version operations book call ∷ ls)
        (caller_lines page i (number + 1) more e)

    -- the lines from a caller on give the book
    record AreCallersRead (done : List Page) (counts : List ℕ)
        (lines : List (List (List ℕ))) : Type 0 where
      pub later : List Page
      pub whole : book ≡ done ++ later
      pub count : announced later ≡ counts
      pub same_kind : kind ≡ k
      pub sound : IsSound operations book
      pub text : lines
          ≡ map (line_of version operations book) (all_calls (length done) counts) ++ end_words ∷ []

    read_end : (done : List Page) (lines : List (List (List ℕ))) → IsSound operations done
        → (d : List Page) → d ≡ done → HasLine (InCalls k d []) lines → AreCallersRead done [] lines
    read_end done lines sound d same first = ends first.others refl first.leads where
      at : first.next ≡ AtEnd k done
      at = first.right.1 ∙ ap (AtEnd k) same

      ends : (others : List (List (List ℕ))) → first.others ≡ others → Leads first.next first.others
          → AreCallersRead done [] lines
      ends [] e h =
          let last : AtEnd k done ≡ AtEnd kind book =
          subst (λ (ls : List (List (List ℕ))). Leads (AtEnd k done) ls) e
          (moved first.next (AtEnd k done) first.others at h) in
          let is : done ≡ book = cc in
          record {
            later = [];
            whole = sym is ∙ sym (append-nil done);
            count = refl;
            same_kind = cc;
            sound = subst (IsSound operations) is sound;
            text = first.text ∙ ap (λ (ls : List (List (List ℕ))). first.words ∷ ls) e
                ∙ ap (λ (w : List (List ℕ)). w ∷ []) first.right.0;
          }
      ends (w ∷ ws) e h =
          let more : Leads (AtEnd k done) (w ∷ ws) =
          subst (λ (ls : List (List (List ℕ))). Leads (AtEnd k done) ls) e
          (moved first.next (AtEnd k done) first.others at h) in
          absurd more.1

    read_callers : (done : List Page) (counts : List ℕ) (lines : List (List (List ℕ)))
        → IsSound operations (done ++ unanswered_book counts)
        → Leads (InCalls k (done ++ unanswered_book counts) (all_calls (length done) counts)) lines
        → AreCallersRead done counts lines
    read_callers done [] lines sound h =
        read_end done lines (subst (IsSound operations) (append-nil done) sound) (done ++ [])
        (append-nil done) (has_line (InCalls k (done ++ []) []) lines (λ e. absurd cc) h)
    read_callers done (count ∷ counts) lines sound h =
        let later = unanswered_book counts in
        let due = all_calls (length done + 1) counts in
        let mine = read_caller done (unanswered_page count) later 0 count due lines (omega arith)
        (omega (arith, length-replicate {A = ℕ} count 0)) sound h in
        let prefix : List Page = done ++ mine.whole ∷ [] in
        let size : length prefix ≡ length done + 1 = length-append done (mine.whole ∷ []) in
        let joined : (ps : List Page) → prefix ++ ps ≡ done ++ mine.whole ∷ ps =
        λ ps. append_assoc done (mine.whole ∷ []) ps in
        let others = read_callers prefix counts mine.others
        (subst (IsSound operations) (sym (joined later)) mine.sound)
        (subst (λ (i : ℕ). Leads (InCalls k (prefix ++ later) (all_calls i counts)) mine.others)
        (sym size) (subst (λ (b : List Page). Leads (InCalls k b due) mine.others)
        (sym (joined later)) mine.leads)) in
        let whole : book ≡ done ++ mine.whole ∷ others.later = others.whole ∙ joined others.later in
        let page : page_of book (length done) ≡ mine.whole =
        ap (λ (b : List Page). page_of b (length done)) whole
        ∙ page_of-middle done mine.whole others.later in
        let line = line_of version operations book in
        let calls = calls_from (length done) 0 count in
        record {
          later = mine.whole ∷ others.later;
          whole = whole;
          count =
              ap (λ (n : ℕ). n ∷ announced others.later) (mine.same.size ∙ length-replicate count 0)
              ∙ ap (λ (ns : List ℕ). count ∷ ns) others.count;
          same_kind = others.same_kind;
          sound = others.sound;
          text = mine.text
              ∙ ap (λ (ls : List (List (List ℕ))). ls ++ mine.others)
              (caller_lines mine.whole (length done) 0 count page)
              ∙ ap (λ (ls : List (List (List ℕ))). map line calls ++ ls)
              (others.text ∙ ap (λ (i : ℕ). map line (all_calls i counts) ++ end_words ∷ []) size)
              ∙ sym (append_assoc (map line calls) (map line due) (end_words ∷ []))
              ∙ ap (λ (ls : List (List (List ℕ))). ls ++ end_words ∷ [])
              (sym (map-append line calls due));
        }

  -- ---- the head

  four_lines : (lines a b c d : List (List (List ℕ))) (p q r s t u v w : List (List ℕ))
      → lines ≡ p ∷ a → a ≡ q ∷ b → b ≡ r ∷ c → c ≡ s ∷ d → p ≡ t → q ≡ u → r ≡ v → s ≡ w
      → lines ≡ t ∷ u ∷ v ∷ w ∷ d
  four_lines lines a b c d p q r s t u v w h0 h1 h2 h3 e f g h = cc

  record IsHeadRead (lines : List (List (List ℕ))) : Type 0 where
    pub object : Kind
    pub known : has_kind version object ≡ true
    pub n : ℕ
    pub callers : AreCallers version n
    pub counts : List ℕ
    pub calls : AreCalls version n counts
    pub others : List (List (List ℕ))
    pub text : lines ≡ head_lines version (codes "book") object counts ++ others
    pub leads : Leads (InCalls object (unanswered_book counts) (all_calls 0 counts)) others

  head_read : (lines : List (List (List ℕ))) → Leads (InHead TitleDue) lines → IsHeadRead lines
  head_read lines h =
      let title = has_line (InHead TitleDue) lines (λ e. absurd cc) h in
      let at_object = moved title.next (InHead ObjectDue) title.others
      (title.right.2 ∙ ap after_head title.right.1.1) title.leads in
      let object = has_line (InHead ObjectDue) title.others (λ e. absurd cc) at_object in
      let k = object.right.1.0 in
      let at_callers = moved object.next (InHead (CallersDue k)) object.others
      (object.right.2 ∙ ap after_head object.right.1.3) object.leads in
      let callers = has_line (InHead (CallersDue k)) object.others (λ e. absurd cc) at_callers in
      let n = callers.right.1.0 in
      let at_counts = moved callers.next (InHead (CountsDue k n)) callers.others
      (callers.right.2 ∙ ap after_head callers.right.1.3) callers.leads in
      let calls = has_line (InHead (CountsDue k n)) callers.others (λ e. absurd cc) at_counts in
      let counts = calls.right.1.0 in
      let size : n ≡ length counts = sym calls.right.1.1.count in
      record {
        object = k;
        known = object.right.1.1;
        n = n;
        callers = callers.right.1.1;
        counts = counts;
        calls = calls.right.1.1;
        others = calls.others;
        text = four_lines lines title.others object.others callers.others calls.others title.words
            object.words callers.words calls.words
            (title_words version (codes "book")) (object_words k) (callers_words (length counts))
            (calls_words counts)
            title.text object.text callers.text calls.text title.right.1.0 object.right.1.2
            (callers.right.1.2 ∙ ap callers_words size) calls.right.1.2;
        leads = moved calls.next (InCalls k (unanswered_book counts) (all_calls 0 counts))
            calls.others (calls.right.2 ∙ ap after_head calls.right.1.3) calls.leads;
      }

few_from_all : (most : ℕ) (counts : List ℕ) → AreAtMost most counts → (i : ℕ)
    → get_or counts i 0 ≤ most
few_from_all most [] h i = omega arith
few_from_all most (c ∷ counts) h zero = h.0
few_from_all most (c ∷ counts) h (suc i) = few_from_all most counts h.1 i

-- a book that is read is the one of which the bytes are written
pub read_is_written : (version : Version) (bytes : List ℕ) (kind : Kind) (book : List Page)
    → IsBookText version bytes kind book → IsWrittenText version bytes kind book
read_is_written version bytes kind book h =
    let lines = h.1.goes.lines in
    let head = head_read version kind book lines h.1.goes.right in
    let read = read_callers version kind book head.object [] head.counts head.others
    (sound-unanswered version head.object head.counts) head.leads in
    let counts : announced book ≡ head.counts = ap announced read.whole ∙ read.count in
    let size : length book ≡ length head.counts =
    sym (length-map book (λ (p : Page). length p.operations)) ∙ ap (length {A = ℕ}) counts in
    let object = sym read.same_kind in
    let whole : lines ≡ book_lines version kind book
    = head.text
    ∙ ap
    (λ (ls : List (List (List ℕ))). head_lines version (codes "book") head.object head.counts ++ ls)
    read.text
    ∙ ap (λ (ns : List ℕ). head_lines version (codes "book") head.object ns ++ (map (line_of version
    (kind_operations version head.object) book) (all_calls 0 ns) ++ end_words ∷ [])) (sym counts)
    ∙ ap (λ (o : Kind). book_lines version o book) object in
    record {
      writable = record {
        valid = read.sound.valid;
        kind_known = ap (has_kind version) (sym object) ∙ head.known;
        some = omega (arith, size, head.callers.some, head.calls.count);
        callers = omega (arith, size, head.callers.few, head.calls.count);
        calls = λ i. omega (
          arith,
          announced_at book i,
          ap (λ (ns : List ℕ). get_or ns i 0) counts,
          few_from_all (most_calls version) head.counts head.calls.few i,
        );
        operations = λ call op e. read.sound.has call op e;
        replies = λ call answer e. read.sound.replies call answer e;
      };
      text = h.1.goes.bytes ∙ ap (λ (b : List ℕ). text_of lines ++ b) h.1.through
          ∙ append-nil (text_of lines) ∙ ap text_of whole;
    }
