-- The states of reading a model's book can be completed, and what its faults are named.
use Rattle.std.proofs.Common.{◌≡◌, ◌≢◌, ℕ, zero, suc, ◌+◌, ◌≤◌, List, [], ◌∷◌, length, replicate, refl, sym, ap, subst, ◌∙◌, arith, inl, inr, None}
use Rattle.std.specs.List.{AllByRecursion}
use Rattle.std.proofs.lemmas.List.{length-map, length-replicate}
use Rattle.book_base.specs.declared.call.Call.{Call}
use Rattle.book_base.specs.declared.fault.What.{What}
use Rattle.book_base.specs.declared.fault.What.TheVariants as what
use Rattle.book_base.specs.Book.{Page, unanswered_page, unanswered_book}
use Rattle.text_fields.specs.declared.version.Version.TheVariants.{Second}
use Rattle.text_fields.specs.Counts.{AreAtMost}
use Rattle.text_fields.specs.Head.{callers_words, calls_words}
use Rattle.book_text.specs.CallLines.{BookSoFar, with_line, IsNamedCall, IsCallLine, call_words, all_calls, is_gap}
use Rattle.book_text.specs.Grammar.{end_words}
use Rattle.book_text.proofs.FaultTexts.{entry_fault_named, view_fault_named}
use Rattle.book_text.proofs.Leavings.{Completes, one_more}
use Rattle.book_text.proofs.ReadTexts.{has_zero}
use Rattle.model_text.specs.ModelWords.{model_operations}
use Rattle.model_text.specs.ModelBookRules.{ModelBookDue, TitleDue, ObjectDue, CallersDue, CountsDue, InCalls, AtEnd, title_words, object_words, ModelBookPasses, ModelBookFails, model_book_rules}
use Rattle.model_text.proofs.NamedCalls.{length-with_line, named_still, all_named}

-- the state can be completed to a text: each call that is due has a caller and a number that can be
-- written
abbrev pub CanCome : ModelBookDue → Type 0
CanCome TitleDue = Unit {0}
CanCome ObjectDue = Unit {0}
CanCome CallersDue = Unit {0}
CanCome (CountsDue n) = n ≤ 16
CanCome (InCalls book calls) = AllByRecursion (IsNamedCall book) calls
CanCome (AtEnd book) = Unit {0}

pub comes_next : (due after : ModelBookDue) (words : List (List ℕ)) → CanCome due
    → ModelBookPasses due words after → CanCome after
comes_next TitleDue after words can h = subst CanCome (sym h.1) tt
comes_next ObjectDue after words can h = subst CanCome (sym h.1) tt
comes_next CallersDue after words can h = subst CanCome (sym h.3) h.1.few
comes_next (CountsDue n) after words can h =
    let counts : List ℕ = h.0 in
    let size : length (unanswered_book counts) ≡ length counts =
    length-map counts unanswered_page in
    let few : n ≤ 16 = can in
    subst CanCome (sym h.3) (all_named (unanswered_book counts) 0 counts (omega (arith, size))
    (omega (arith, size, h.1.count, few)) h.1.few)
comes_next (InCalls book []) after words can h = subst CanCome (sym h.1) tt
comes_next (InCalls book (call ∷ calls)) after words can h =
    let read : IsCallLine Second model_operations book call words h.0.book = h.1.0 in
    let size : length h.0.book ≡ length book =
    ap (length {A = Page}) read.book_is ∙ length-with_line book call read.op read.answer in
    let is : after ≡ InCalls h.0.book calls = h.2 ∙ ap (InCalls h.0.book) h.1.1 in
    subst CanCome (sym is) (named_still book h.0.book calls size can.1)
comes_next (AtEnd book) after words can h = absurd h

-- ---- lines that complete a text

abbrev pub Done : ModelBookDue → Type 0
Done due = Completes model_book_rules AtEnd due

more : (due next : ModelBookDue) (words : List (List ℕ)) → ModelBookPasses due words next
    → Done next → Done due
more = one_more model_book_rules AtEnd

-- the calls that are due can be written without answers
calls_come : (book : List Page) (calls : List Call) → AllByRecursion (IsNamedCall book) calls
    → Done (InCalls book calls)
calls_come book [] h =
    record { said = book; lines = end_words ∷ []; right = (AtEnd book, (refl, refl), refl) }
calls_come book (call ∷ calls) h =
    let after : List Page = with_line book call 0 None in
    let words : List (List ℕ) = call_words Second model_operations call 0 None in
    let read : IsCallLine Second model_operations book call words after
    = record {
      named = h.0;
      op = 0;
      answer = None;
      has = has_zero Second;
      stands = tt;
      text = refl;
      book_is = refl;
    } in
    let next : BookSoFar = record { book = after; due = calls } in
    more (InCalls book (call ∷ calls)) (InCalls after calls) words (next, (read, refl), refl)
    (calls_come after calls (named_still book after calls (length-with_line book call 0 None) h.1))

no_calls : (i n : ℕ) → all_calls i (replicate n 0) ≡ []
no_calls i zero = refl
no_calls i (suc n) = no_calls (i + 1) n

no_calls_few : (n : ℕ) → AreAtMost 256 (replicate n 0)
no_calls_few zero = tt
no_calls_few (suc n) = (omega arith, no_calls_few n)

counts_come : (n : ℕ) → Done (CountsDue n)
counts_come n =
    let counts : List ℕ = replicate n 0 in
    more (CountsDue n) (InCalls (unanswered_book counts) (all_calls 0 counts)) (calls_words counts)
    (counts, record { count = length-replicate n 0; few = no_calls_few n }, refl, refl)
    (subst (λ (calls : List Call). Done (InCalls (unanswered_book counts) calls))
    (sym (no_calls 0 n)) (calls_come (unanswered_book counts) [] tt))

callers_come : Done CallersDue
callers_come = more CallersDue (CountsDue 1) (callers_words 1)
    (1, record { some = omega arith; few = omega arith }, refl, refl) (counts_come 1)

object_comes : Done ObjectDue
object_comes = more ObjectDue CallersDue object_words (refl, refl) callers_come

pub completes : (due : ModelBookDue) → CanCome due → Done due
completes TitleDue can = more TitleDue ObjectDue title_words (refl, refl) object_comes
completes ObjectDue can = object_comes
completes CallersDue can = callers_come
completes (CountsDue n) can = counts_come n
completes (InCalls book calls) can = calls_come book calls can
completes (AtEnd book) can = record { said = book; lines = []; right = refl }

-- ---- the names of faults

pub line_named : (due : ModelBookDue) (words : List (List ℕ)) (name : What) → ModelBookFails due words name
    → (name ≢ what.Cut) × (name ≢ what.Rest)
line_named TitleDue words name h = (λ e. absurd (cc (h.0, e)), λ e. absurd (cc (h.0, e)))
line_named ObjectDue words name h = (λ e. absurd (cc (h.0, e)), λ e. absurd (cc (h.0, e)))
line_named CallersDue words name h = (λ e. absurd (cc (h.0, e)), λ e. absurd (cc (h.0, e)))
line_named (CountsDue n) words name h = (λ e. absurd (cc (h.0, e)), λ e. absurd (cc (h.0, e)))
line_named (InCalls book []) words name h = (λ e. absurd (cc (h.0, e)), λ e. absurd (cc (h.0, e)))
line_named (InCalls book (call ∷ calls)) words name (inl h) =
    entry_fault_named Second model_operations (length book) (is_gap book call) call words name h
line_named (InCalls book (call ∷ calls)) words name (inr h) = view_fault_named h.fault name h.test
line_named (AtEnd book) words name h = absurd h
