-- The first fault is where bytes stop being the beginning of a book's text.
use Rattle.std.proofs.Common.{◌≡◌, ◌≢◌, ℕ, zero, suc, ◌+◌, ◌<◌, ◌≤◌, ◌^◌, ◌⊎◌, Bool, List, [], ◌∷◌, ◌++◌, length, replicate, set, Option, Some, None, refl, sym, ap, subst, ◌∙◌, arith, inl, inr}
use Rattle.std.specs.Prelude.{codes}
use Rattle.std.specs.List.{AllByRecursion}
use Rattle.std.proofs.lemmas.List.{length-map, length-set}
use Rattle.book_base.specs.declared.call.Call.{Call}
use Rattle.book_base.specs.declared.call.Record.{Record}
use Rattle.book_base.specs.declared.fault.BookFault.{BookFault}
use Rattle.book_base.specs.declared.fault.BookFault.TheVariants as tests
use Rattle.book_base.specs.declared.fault.TextFault.{TextFault}
use Rattle.book_base.specs.declared.fault.What.{What}
use Rattle.book_base.specs.declared.fault.What.TheVariants as what
use Rattle.book_base.specs.declared.TheConstants.{MAX_CALLERS}
use Rattle.book_base.specs.Book.{Page, page_of, unanswered_page, unanswered_book, with_answer}
use Rattle.list_laws.proofs.Elements.{AllByRecursion-append}
use Rattle.seq_objects.specs.declared.kind.Kind.{Kind}
use Rattle.text_fields.specs.declared.version.Version.{Version}
use Rattle.text_fields.specs.declared.version.Version.TheVariants.{First, Second}
use Rattle.text_fields.specs.Version.{most_callers, most_calls}
use Rattle.text_fields.specs.Counts.{AreAtMost}
use Rattle.text_fields.specs.Operations.{Operations, kind_operations}
use Rattle.text_fields.specs.Head.{TitleDue, ObjectDue, CallersDue, CountsDue, HeadRead}
use Rattle.text_fields.specs.Faults.{ALine}
use Rattle.book_text.specs.CallLines.{BookSoFar, with_line, IsNamedCall, IsCallLine, call_words, calls_from, all_calls, EntryFails, view_test}
use Rattle.book_text.specs.Grammar.{end_words}
use Rattle.book_text.specs.BookRules.{BookDue, InHead, InCalls, AtEnd, after_head, BookPasses, BookFails, book_wanted, book_rules, IsBookText, IsFirstBookFault}
use Rattle.book_text.specs.AnyTextBeginnings.{BreaksOff, GoesPast}
use Rattle.book_text.specs.Beginnings.{BreaksText, EndsEarly, GoesOn, LeavesTexts}
use Rattle.book_text.proofs.CallTexts.{no_calls}
use Rattle.book_text.proofs.Leavings as leavings
use Rattle.book_text.proofs.Leavings.{Completes, one_more}
use Rattle.book_text.proofs.HeadLines.{HeadCanCome, one_caller, head_named, head_comes}
use Rattle.book_text.proofs.SharpBooks.{book_sharp}
use Rattle.book_text.proofs.ReadTexts.{has_zero}

few_callers : (version : Version) → most_callers version ≤ MAX_CALLERS
few_callers First = omega arith
few_callers Second = omega arith

few_calls : (version : Version) → most_calls version < 2 ^ 64
few_calls First = omega arith
few_calls Second = omega arith

-- ---- right lines can be completed

length-with_line : (book : List Page) (call : Call) (op : ℕ) (answer : Option Record)
    → length (with_line book call op answer) ≡ length book
length-with_line book call op None = length-set book call.caller (record (page_of book call.caller)
    { operations = set (page_of book call.caller).operations call.number op })
length-with_line book call op (Some r) =
    let answered : List Page = with_answer book call.caller r in
    length-set answered call.caller (record (page_of answered call.caller)
    { operations = set (page_of answered call.caller).operations call.number op })
    ∙ length-set book call.caller
    (record (page_of book call.caller) { records = (page_of book call.caller).records ++ r ∷ [] })

named_still : (book after : List Page) (calls : List Call) → length after ≡ length book
    → AllByRecursion (IsNamedCall book) calls → AllByRecursion (IsNamedCall after) calls
named_still book after [] size h = tt
named_still book after (call ∷ calls) size h = (
  record {
    caller = omega (arith, h.0.caller, size);
    callers = omega (arith, h.0.callers, size);
    number = h.0.number;
  },
  named_still book after calls size h.1,
)

-- right lines can complete a text from the state: each call that is due has a caller and a number
-- that can be written
abbrev pub CanCome : Version → BookDue → Type 0
CanCome version (InHead due) = HeadCanCome (λ n. n ≤ most_callers version) due
CanCome version (InCalls kind book calls) = AllByRecursion (IsNamedCall book) calls
CanCome version (AtEnd kind book) = Unit {0}

named_calls : (book : List Page) (i k more : ℕ) → i < length book → length book ≤ MAX_CALLERS
    → k + more < 2 ^ 64 → AllByRecursion (IsNamedCall book) (calls_from i k more)
named_calls book i k zero inside few small = tt
named_calls book i k (suc more) inside few small = (
  record { caller = inside; callers = few; number = omega arith },
  named_calls book i (k + 1) more inside few (omega arith),
)

all_named : (book : List Page) (most i : ℕ) (counts : List ℕ) → i + length counts ≤ length book
    → length book ≤ MAX_CALLERS → most < 2 ^ 64 → AreAtMost most counts
    → AllByRecursion (IsNamedCall book) (all_calls i counts)
all_named book most i [] inside few small h = tt
all_named book most i (count ∷ counts) inside few small h =
    AllByRecursion-append (IsNamedCall book) (calls_from i 0 count) (all_calls (i + 1) counts)
    (named_calls book i 0 count (omega arith) few (omega (arith, h.0)))
    (all_named book most (i + 1) counts (omega arith) few small h.1)

-- the name of a fault of a view isn't one of those for the end of a text, Cut and Rest
pub view_fault_named : (fault : BookFault) (name : What) → view_test fault ≡ Some name
    → (name ≢ what.Cut) × (name ≢ what.Rest)
view_fault_named tests.TooManyCalls name h = absurd cc
view_fault_named tests.NoSuchCall name h = absurd cc
view_fault_named (tests.ViewOutside j) name h = (λ e. absurd (cc (h, e)), λ e. absurd (cc (h, e)))
view_fault_named (tests.ViewLacksOwn count) name h =
    (λ e. absurd (cc (h, e)), λ e. absurd (cc (h, e)))
view_fault_named (tests.ViewHasLater count) name h =
    (λ e. absurd (cc (h, e)), λ e. absurd (cc (h, e)))
view_fault_named (tests.ViewsCross call) name h = (λ e. absurd (cc (h, e)), λ e. absurd (cc (h, e)))
view_fault_named tests.NoMemory name h = absurd cc

module _ (version : Version) where
  -- from the state after a right line a text can be completed, where it can be from that before it
  pub comes_next : (due after : BookDue) (words : List (List ℕ)) → CanCome version due
      → BookPasses version due words after → CanCome version after
  comes_next (InHead TitleDue) after words can h =
      subst (CanCome version) (sym (h.2 ∙ ap after_head h.1.1)) tt
  comes_next (InHead ObjectDue) after words can h =
      subst (CanCome version) (sym (h.2 ∙ ap after_head h.1.3)) tt
  comes_next (InHead (CallersDue kind)) after words can h =
      subst (CanCome version) (sym (h.2 ∙ ap after_head h.1.3)) h.1.1.few
  comes_next (InHead (CountsDue kind n)) after words can h =
      let counts = h.1.0 in
      let book = unanswered_book counts in
      let size : length book ≡ length counts = length-map counts unanswered_page in
      subst (CanCome version) (sym (h.2 ∙ ap after_head h.1.3))
      (all_named book (most_calls version) 0 counts (omega arith)
      (omega (arith, size, h.1.1.count, few_callers version)) (few_calls version) h.1.1.few)
  comes_next (InHead (HeadRead kind calls)) after words can h = absurd can
  comes_next (InCalls kind book []) after words can h = subst (CanCome version) (sym h.1) tt
  comes_next (InCalls kind book (call ∷ calls)) after words can h =
      let read = h.1.0 in
      let size : length h.0.book ≡ length book =
      ap (length {A = Page}) read.book_is ∙ length-with_line book call read.op read.answer in
      let is : after ≡ InCalls kind h.0.book calls = h.2 ∙ ap (InCalls kind h.0.book) h.1.1 in
      subst (CanCome version) (sym is) (named_still book h.0.book calls size can.1)
  comes_next (AtEnd kind book) after words can h = absurd h

  -- what the end of a book's text says, as a state of reading it
  abbrev pub ended : Kind × List Page → BookDue
  ended said = AtEnd said.0 said.1

  abbrev pub Done : BookDue → Type 0
  Done due = Completes (book_rules version) ended due

  more : (due next : BookDue) (words : List (List ℕ)) → BookPasses version due words next
      → Done next → Done due
  more = one_more (book_rules version) ended

  end_comes : (kind : Kind) (book : List Page) → Done (InCalls kind book [])
  end_comes kind book = record {
    said = (kind, book);
    lines = end_words ∷ [];
    right = (AtEnd kind book, (refl, refl), refl);
  }

  -- the lines of the calls that are due, without answers, and the end complete a text
  calls_come : (kind : Kind) (book : List Page) (calls : List Call)
      → AllByRecursion (IsNamedCall book) calls → Done (InCalls kind book calls)
  calls_come kind book [] h = end_comes kind book
  calls_come kind book (call ∷ calls) h =
      let operations : Operations = kind_operations version kind in
      let after : List Page = with_line book call 0 None in
      let read : IsCallLine version operations book call
      (call_words version operations call 0 None) after
      = record {
        named = h.0;
        op = 0;
        answer = None;
        has = has_zero version;
        stands = tt;
        text = refl;
        book_is = refl;
      } in
      let next : BookSoFar = record { book = after; due = calls } in
      more (InCalls kind book (call ∷ calls)) (InCalls kind after calls)
      (call_words version operations call 0 None) (next, (read, refl), refl)
      (calls_come kind after calls
      (named_still book after calls (length-with_line book call 0 None) h.1))

  -- the end completes a text whose head says that there are no calls
  no_call_comes : (kind : Kind) (n : ℕ) → Done (after_head (HeadRead kind (replicate n 0)))
  no_call_comes kind n =
      let book : List Page = unanswered_book (replicate n 0) in
      subst (λ (calls : List Call). Done (InCalls kind book calls)) (sym (no_calls 0 n))
      (end_comes kind book)

  pub completes : (due : BookDue) → CanCome version due → Done due
  completes (InHead due) can = head_comes version (codes "book") (λ n. n ≤ most_callers version)
      (one_caller version) (book_rules version) ended InHead after_head
      (λ head next words h. (next, h, refl)) (refl, λ kind. refl, λ kind n. refl)
      (λ kind n few. no_call_comes kind n) due can
  completes (InCalls kind book calls) can = calls_come kind book calls can
  completes (AtEnd kind book) can = record { said = (kind, book); lines = []; right = refl }

  -- ---- the names of faults

  pub entry_fault_named : (operations : Operations) (n : ℕ) (gap : Bool) (call : Call)
      (words : List (List ℕ)) (name : What) → EntryFails version operations n gap call words name
      → (name ≢ what.Cut) × (name ≢ what.Rest)
  entry_fault_named operations n gap call words what.Place h = (λ e. absurd cc, λ e. absurd cc)
  entry_fault_named operations n gap call words what.Op h = (λ e. absurd cc, λ e. absurd cc)
  entry_fault_named operations n gap call words what.Gap h = (λ e. absurd cc, λ e. absurd cc)
  entry_fault_named operations n gap call words what.Reply h = (λ e. absurd cc, λ e. absurd cc)
  entry_fault_named operations n gap call words what.View h = (λ e. absurd cc, λ e. absurd cc)
  entry_fault_named operations n gap call words _ h = absurd h

  pub line_named : (due : BookDue) (words : List (List ℕ)) (name : What)
      → BookFails version due words name → (name ≢ what.Cut) × (name ≢ what.Rest)
  line_named (InHead due) words name h = head_named version (codes "book") due words name h
  line_named (InCalls kind book []) words name h =
      (λ e. absurd (cc (h.0, e)), λ e. absurd (cc (h.0, e)))
  line_named (InCalls kind book (call ∷ calls)) words name (inl h) =
      entry_fault_named (kind_operations version kind) _ _ call words name h
  line_named (InCalls kind book (call ∷ calls)) words name (inr h) =
      view_fault_named h.fault name h.test
  line_named (AtEnd kind book) words name h = absurd h

  line_or_end : (due : BookDue) → CanCome version due → (book_wanted due ≡ ALine)
      ⊎ ((said : Kind × List Page) × (due ≡ ended said))
  line_or_end (InHead due) can = inl refl
  line_or_end (InCalls kind book calls) can = inl refl
  line_or_end (AtEnd kind book) can = inr ((kind, book), refl)

  abbrev IsText : List ℕ → Kind × List Page → Type 0
  IsText bytes said = IsBookText version bytes said.0 said.1

  leaves_so : (prefix rest : List ℕ) (name : What) → BreaksOff IsText prefix rest name
      ⊎ (EndsEarly rest name ⊎ GoesPast IsText prefix rest name)
      → BreaksText version prefix rest name
      ⊎ (EndsEarly rest name ⊎ GoesOn version prefix rest name)
  leaves_so prefix rest name (inl breaks) = inl (record {
    named = breaks.named;
    line = breaks.line;
    suffix = breaks.suffix;
    whole = breaks.whole;
    none = λ kind book after text. breaks.none (kind, book) after text;
  })
  leaves_so prefix rest name (inr (inl early)) = inr (inl early)
  leaves_so prefix rest name (inr (inr past)) = inr (inr (record {
    named = past.named;
    kind = past.said.0;
    book = past.said.1;
    text = past.text;
    more = past.more;
  }))

same_end : (a b : Kind × List Page) → AtEnd a.0 a.1 ≡ AtEnd b.0 b.1 → a ≡ b
same_end a b e =
    let kinds : a.0 ≡ b.0 = cc in
    let books : a.1 ≡ b.1 = cc in
    λ i. (kinds i, books i)

-- the first fault is where the bytes stop being the beginning of a text
pub leaves_texts : (version : Version) (bytes : List ℕ) (fault : TextFault)
    → IsFirstBookFault version bytes fault → LeavesTexts version bytes fault
leaves_texts version bytes fault h =
    let at = leavings.leaves_texts (book_rules version) (book_sharp version) (InHead TitleDue)
    (ended version) same_end (λ said. refl) (CanCome version) tt (comes_next version)
    (completes version) (line_named version) (line_or_end version) bytes fault h in
    record {
      count = at.count;
      prefix = at.prefix;
      rest = at.rest;
      line = at.line;
      bytes_are = at.bytes_are;
      lines = at.lines;
      begins = (at.begins.0.0, at.begins.0.1, at.begins.1, at.begins.2);
      leaves = leaves_so version at.prefix at.rest fault.what at.leaves;
      no_text = λ kind book text. at.no_text (kind, book) text;
    }
