-- The line of a call beside the book that the lines before it give.
use Rattle.std.proofs.Common.{◌≡◌, ◌≢◌, ℕ, zero, suc, ◌+◌, ◌<◌, ◌≤◌, ◌^◌, ◌⊎◌, List, [], ◌∷◌, ◌++◌, length, replicate, get_or, decimal, Option, Some, None, refl, sym, ap, subst, ◌∙◌, arith, inl, inr, drop, drop-cons, add-one}
use Rattle.std.specs.Prelude.{IfSome, IfNone, IsSomeAnd, codes}
use Rattle.std.proofs.lemmas.Option.{some_pair_parts}
use Rattle.book_base.specs.declared.call.Call.{Call}
use Rattle.book_base.specs.declared.call.Record.{Record}
use Rattle.book_base.specs.declared.fault.BookFault.{BookFault}
use Rattle.book_base.specs.declared.fault.BookFault.TheVariants as tests
use Rattle.book_base.specs.declared.fault.What.{What}
use Rattle.book_base.specs.declared.fault.What.TheVariants as what
use Rattle.book_base.specs.declared.fault.ReadFault.{ReadFault}
use Rattle.book_base.specs.declared.fault.ReadFault.TheVariants.{Text, NoMemory}
use Rattle.book_base.specs.Book.{Page, page_of, calls_of, answers_of, unanswered_book, with_answer, IsCall}
use Rattle.book_base.specs.Refusal as refusal
use Rattle.book_base.specs.Refusal.{MayAnswer, FailsTest, IsFirstFault}
use Rattle.book_base.proofs.GrowthLemmas.{calls_of-with_operation, calls_of-with_answer, records-with_operation, page_of-set_same, page_of-set_other, page_of-unanswered_book}
use Rattle.std.proofs.lemmas.List.{length-set, length-replicate, length-append}
use Rattle.text_fields.specs.declared.version.Version.{Version}
use Rattle.text_fields.specs.declared.version.Version.TheVariants.{First, Second}
use Rattle.text_fields.specs.Lines.{Unread, cut_at}
use Rattle.text_fields.specs.Counts.{AreNumbers, AreAtMost, cut_words, pair_word, pair_words}
use Rattle.text_fields.specs.Faults as faults
use Rattle.text_fields.specs.Faults.{turn_of, IsFirstTest, Rules, StopsFor}
use Rattle.text_fields.specs.Operations.{Operations}
use Rattle.text_fields.proofs.NumberTexts.{same_first, same_number, pair_parts}
use Rattle.text_fields.proofs.Sharp.{stops_later}
use Rattle.text_fields.proofs.HeadTexts.{same_numbers}
use Rattle.book_text.specs.CallLines.{answer_words, IsAfterOperation, IsAfterReply, HasView, EntryFails, view_test, is_gap, with_line, IsNamedCall, IsCallLine, CallFails, calls_from, all_calls, MayRefuse, IsUnanswered}
use Rattle.book_text.specs.Entries.{IsEntry}
use Rattle.book_text.proofs.EntryTexts.{OneOperation, no_earlier, one_after, passes_place, passes_op, passes_gap, passes_reply, passes_view}

-- ---- right lines

pub right_line : (version : Version) (operations : Operations) (book : List Page) (call : Call)
    (words : List (List ℕ)) (op : ℕ) (answer : Option Record) (after : List Page)
    → IsNamedCall book call
    → IsEntry version operations (length book) (is_gap book call) call words op answer
    → IfSome answer (λ r. MayAnswer book call.caller r.view) → after ≡ with_line book call op answer
    → IsCallLine version operations book call words after
right_line version operations book call words op None after named h may e = record {
  named = named;
  op = op;
  answer = None;
  has = h.has;
  stands = tt;
  text = h.text;
  book_is = e;
}
right_line version operations book call words op (Some r) after named h may e = record {
  named = named;
  op = op;
  answer = Some r;
  has = h.has;
  stands = (h.answered.0, h.answered.1, h.answered.2, h.answered.3, may);
  text = h.text;
  book_is = e;
}

pub calls_of-with_line : (book : List Page) (call : Call) (op : ℕ) (answer : Option Record) (j : ℕ)
    → call.caller < length book → calls_of (with_line book call op answer) j ≡ calls_of book j
calls_of-with_line book call op None j lt = calls_of-with_operation book call op j lt
calls_of-with_line book call op (Some r) j lt =
    let same : call.caller < length (with_answer book call.caller r) = omega (
      arith,
      length-set book call.caller (record (page_of book call.caller)
          { records = (page_of book call.caller).records ++ r ∷ [] }),
    ) in
    calls_of-with_operation (with_answer book call.caller r) call op j same
    ∙ calls_of-with_answer book call.caller r j lt

-- the line of a call doesn't change the number of answers of any other caller
pub answers_of-with_line : (book : List Page) (call : Call) (op : ℕ) (answer : Option Record)
    (j : ℕ) → call.caller < length book → j ≢ call.caller
    → answers_of (with_line book call op answer) j ≡ answers_of book j
answers_of-with_line book call op None j lt other =
    ap (λ (rs : List Record). length rs) (records-with_operation book call op j lt)
answers_of-with_line book call op (Some r) j lt other =
    let page : Page =
    record (page_of book call.caller) { records = (page_of book call.caller).records ++ r ∷ [] } in
    let same : call.caller < length (with_answer book call.caller r) =
    omega (arith, length-set book call.caller page) in
    ap (λ (rs : List Record). length rs)
    (records-with_operation (with_answer book call.caller r) call op j same)
    ∙ ap (λ (p : Page). length p.records) (page_of-set_other book call.caller j page other)

-- the line of a call adds at most one answer to its caller's
pub answers_of-with_line_own : (book : List Page) (call : Call) (op : ℕ) (answer : Option Record)
    → call.caller < length book
    → answers_of (with_line book call op answer) call.caller ≤ answers_of book call.caller + 1
answers_of-with_line_own book call op None lt = omega (
  arith,
  ap (λ (rs : List Record). length rs) (records-with_operation book call op call.caller lt),
)
answers_of-with_line_own book call op (Some r) lt =
    let page : Page =
    record (page_of book call.caller) { records = (page_of book call.caller).records ++ r ∷ [] } in
    let same : call.caller < length (with_answer book call.caller r) =
    omega (arith, length-set book call.caller page) in
    let records : answers_of (with_line book call op (Some r)) call.caller ≡ length page.records
    = ap (λ (rs : List Record). length rs)
    (records-with_operation (with_answer book call.caller r) call op call.caller same)
    ∙ ap (λ (p : Page). length p.records) (page_of-set_same book call.caller page lt) in
    omega (arith, records, length-append (page_of book call.caller).records (r ∷ []))

-- the book refuses an answer of a call without one only by a test of its view
pub may_refuse : (book : List Page) (call : Call) (view : List ℕ) (fault : BookFault)
    → IsCall book call → IsUnanswered book call → FailsTest book call.caller view fault
    → MayRefuse fault
may_refuse book call view tests.NoSuchCall is due h = absurd (omega (arith, is, due, h))
may_refuse book call view (tests.ViewOutside j) is due h = tt
may_refuse book call view (tests.ViewLacksOwn count) is due h = tt
may_refuse book call view (tests.ViewHasLater count) is due h = tt
may_refuse book call view (tests.ViewsCross other) is due h = tt
may_refuse book call view tests.TooManyCalls is due h = absurd h
may_refuse book call view tests.NoMemory is due h = tt

pub entry_may_refuse : (book : List Page) (call : Call) (answer : Option Record) (fault : BookFault)
    → IsCall book call → IsUnanswered book call
    → (fault ≡ tests.NoMemory) ⊎ IsSomeAnd answer (λ r. IsFirstFault book call.caller r.view fault)
    → MayRefuse fault
entry_may_refuse book call answer fault is due (inl none) = subst MayRefuse (sym none) tt
entry_may_refuse book call None fault is due (inr first) = absurd first
entry_may_refuse book call (Some r) fault is due (inr first) =
    may_refuse book call r.view fault is due first.fails

-- ---- one view

pub pairs_above : (b b' : ℕ) (cut : List ℕ) (c : ℕ) (rest : List (List ℕ)) → b < b'
    → b' + length cut ≤ 2 ^ 64 → pair_words b' cut ≡ pair_word b c ∷ rest → ⊥
pairs_above b b' [] c rest lt few e = absurd cc
pairs_above b b' (zero ∷ cut) c rest lt few e =
    pairs_above b (b' + 1) cut c rest (omega arith) (omega arith) e
pairs_above b b' (suc d ∷ cut) c rest lt few e =
    let word = (same_first _ _ _ _ e).0 in
    let parts = some_pair_parts (decimal b') (decimal b) (decimal (suc d)) (decimal c) (sym
    (pair_parts b' (suc d) (omega arith)) ∙ ap (cut_at 58) word ∙ pair_parts b c (omega arith)) in
    let same : b' ≡ b = same_number b' b (omega arith) (omega arith) parts.0 in
    omega arith

pub pairs_once : (b : ℕ) (xs ys : List ℕ) → length xs ≡ length ys → b + length xs ≤ 2 ^ 64
    → AreNumbers xs → AreNumbers ys → pair_words b xs ≡ pair_words b ys → xs ≡ ys
pairs_once b [] [] same few h k e = refl
pairs_once b [] (y ∷ ys) same few h k e = absurd (omega arith)
pairs_once b (x ∷ xs) [] same few h k e = absurd (omega arith)
pairs_once b (zero ∷ xs) (zero ∷ ys) same few h k e =
    ap (λ (zs : List ℕ). 0 ∷ zs) (pairs_once (b + 1) xs ys (omega arith) (omega arith) h.1 k.1 e)
pairs_once b (zero ∷ xs) (suc y ∷ ys) same few h k e =
    absurd (pairs_above b (b + 1) xs (suc y) (pair_words (b + 1) ys) (omega arith) (omega arith) e)
pairs_once b (suc x ∷ xs) (zero ∷ ys) same few h k e = absurd
    (pairs_above b (b + 1) ys (suc x) (pair_words (b + 1) xs) (omega arith) (omega arith) (sym e))
pairs_once b (suc x ∷ xs) (suc y ∷ ys) same few h k e =
    let line = same_first _ _ _ _ e in
    let parts = some_pair_parts (decimal b) (decimal b) (decimal (suc x)) (decimal (suc y))
    (sym (pair_parts b (suc x) (omega arith)) ∙ ap (cut_at 58) line.0
    ∙ pair_parts b (suc y) (omega arith)) in
    let first : suc x ≡ suc y = same_number (suc x) (suc y) h.0 k.0 parts.1 in
    let others = pairs_once (b + 1) xs ys (omega arith) (omega arith) h.1 k.1 line.1 in
    ap (λ (z : ℕ). z ∷ xs) first ∙ ap (λ (zs : List ℕ). suc y ∷ zs) others

-- two cuts of as many callers with the same words are equal
pub cut_once : (version : Version) (n : ℕ) (xs ys : List ℕ) → n < 2 ^ 64 → length xs ≡ n → length ys
    ≡ n → AreNumbers xs → AreNumbers ys → cut_words version xs ≡ cut_words version ys → xs ≡ ys
cut_once First n xs ys small x y h k e = same_numbers xs ys h k e
cut_once Second n xs ys small x y h k e = pairs_once 0 xs ys (omega arith) (omega arith) h k e

-- a test of views has its turn after the tests of the line by itself
pub test_turn : (fault : BookFault) (name : What) → view_test fault ≡ Some name
    → turn_of name ≡ refusal.turn_of fault + 10
test_turn tests.TooManyCalls name e = absurd cc
test_turn tests.NoSuchCall name e = absurd cc
test_turn (tests.ViewOutside j) name e = let same : what.ViewOutside ≡ name = cc in
    sym (ap turn_of same)
test_turn (tests.ViewLacksOwn count) name e = let same : what.ViewLacksOwn ≡ name = cc in
    sym (ap turn_of same)
test_turn (tests.ViewHasLater count) name e = let same : what.ViewHasLater ≡ name = cc in
    sym (ap turn_of same)
test_turn (tests.ViewsCross other) name e = let same : what.ViewsCross ≡ name = cc in
    sym (ap turn_of same)
test_turn tests.NoMemory name e = absurd cc

pub test_late : (fault : BookFault) (name : What) → view_test fault ≡ Some name → 10 < turn_of name
test_late tests.TooManyCalls name e = absurd cc
test_late tests.NoSuchCall name e = absurd cc
test_late (tests.ViewOutside j) name e = let turn = test_turn (tests.ViewOutside j) name e in
    omega arith
test_late (tests.ViewLacksOwn count) name e = let turn =
    test_turn (tests.ViewLacksOwn count) name e in omega arith
test_late (tests.ViewHasLater count) name e = let turn =
    test_turn (tests.ViewHasLater count) name e in omega arith
test_late (tests.ViewsCross other) name e = let turn = test_turn (tests.ViewsCross other) name e in
    omega arith
test_late tests.NoMemory name e = absurd cc

module _ (version : Version) (operations : Operations) (book : List Page) (call : Call)
    (words : List (List ℕ)) (one : OneOperation operations) (small : length book < 2 ^ 64) where
  pub one_view : (v w : List ℕ) → HasView version operations (length book) call words v
      → HasView version operations (length book) call words w → v ≡ w
  one_view v w h k =
      let suffix = (same_first _ _ _ _ (one_after version operations (length book)
      (is_gap book call) call words one _ _ h.text.text k.text.text)).1 in
      cut_once version (length book) v w small h.wide k.wide h.numbers k.numbers
      (same_first _ _ _ _ suffix).1

  -- ---- first tests

  abbrev EntryTest : What → Type 0
  EntryTest name = EntryFails version operations (length book) (is_gap book call) call words name

  entry_early : (name : What) → EntryTest name → turn_of name ≤ 10
  entry_early what.Place h = omega arith
  entry_early what.Op h = omega arith
  entry_early what.Gap h = omega arith
  entry_early what.Reply h = omega arith
  entry_early what.View h = omega arith
  entry_early _ h = absurd h

  -- the first test that the line fails by itself is its first test
  pub entry_first : (more : List Call) (name : What) → IsFirstTest EntryTest name
      → IsFirstTest (CallFails version operations book (call ∷ more) words) name
  entry_first more name h = record {
    fails = inl h.fails;
    first = λ other lt k. elim k [
      | inl entry ↦ h.first other lt entry
      | inr view ↦ let late = test_late view.fault other view.test in
          let early = entry_early name h.fails in omega arith
    ];
  }

  -- where the line has a view, the first test by which the book refuses it is the line's first test
  pub view_first : (more : List Call) (op : ℕ) (r : Record) (fault : BookFault) (name : What)
      → IsEntry version operations (length book) (is_gap book call) call words op (Some r)
      → IsFirstFault book call.caller r.view fault → view_test fault ≡ Some name
      → IsFirstTest (CallFails version operations book (call ∷ more) words) name
  view_first more op r fault name h k e =
      let at : IsAfterOperation operations call words (answer_words version (Some r)) =
      record { op = op; has = h.has; text = h.text } in
      let replied : IsAfterReply operations call words (codes "view" ∷ cut_words version r.view) =
      record { reply = r.reply; small = h.answered.1; text = at } in
      let viewed : HasView version operations (length book) call words r.view =
      record { wide = h.answered.2; numbers = h.answered.3; text = replied } in
      let gap = is_gap book call in
      record {
        fails =
            inr (record { view = r.view; has = viewed; fault = fault; test = e; fails = k.fails });
        first = λ other lt f. elim f [
          | inl entry ↦ no_earlier version operations (length book) gap call words (turn_of name)
              (λ _. passes_place version operations (length book) gap call words _ h.text)
              (λ _. passes_op version operations (length book) gap call words _ at)
              (λ _. passes_gap version operations (length book) gap call words h.answered.0)
              (λ _. passes_reply version operations (length book) gap call words one _ replied)
              (λ _. passes_view version operations
              (length book) gap call words one r.view small viewed) other lt entry
          | inr view ↦
              let same : view.view ≡ r.view = one_view view.view r.view view.has viewed in
              let before : refusal.turn_of view.fault < refusal.turn_of fault =
              omega (arith, test_turn view.fault other view.test, test_turn fault name e) in
              k.first view.fault (inl before) (subst
              (λ (v : List ℕ). refusal.FailsTest book call.caller v view.fault) same view.fails)
        ];
      }

  -- the test by which the book refuses a line's answer is the line's first test
  pub refused_first : (more : List Call) (op : ℕ) (answer : Option Record) (fault : BookFault)
      (name : What)
      → IsEntry version operations (length book) (is_gap book call) call words op answer
      → (fault ≡ tests.NoMemory)
      ⊎ IsSomeAnd answer (λ r. IsFirstFault book call.caller r.view fault) → view_test fault
      ≡ Some name → IsFirstTest (CallFails version operations book (call ∷ more) words) name
  refused_first more op answer fault name h (inl none) e =
      let same : view_test tests.NoMemory ≡ Some name = ap view_test (sym none) ∙ e in absurd cc
  refused_first more op None fault name h (inr some) e = absurd some
  refused_first more op (Some r) fault name h (inr some) e =
      view_first more op r fault name h some e

-- a refusal of the book is the fault of the text, or want of memory
pub stops_refused : {Due : Type 0} (rules : Rules Due) (due : Due) (text : Unread) (line : ℕ)
    (o : Option What) (result : ReadFault)
    → IfSome o (λ name. result ≡ Text (record { line = line; what = name }))
    → IfNone o (result ≡ NoMemory)
    → ((name : What) → o ≡ Some name
    → faults.IsFirstFault rules due text (record { line = line; what = name }))
    → StopsFor rules due text result
stops_refused rules due text line (Some name) result h k f = rw h (f name refl)
stops_refused rules due text line None result h k f = rw k tt

-- a fault after right lines is the first fault of the whole text
pub stops_then : {Due : Type 0} (rules : Rules Due) (due middle : Due) (text between : Unread)
    (e : ReadFault) → faults.GoesTo rules due text middle between → StopsFor rules middle between e
    → StopsFor rules due text e
stops_then rules due middle text between NoMemory h k = tt
stops_then rules due middle text between (Text fault) h k =
    stops_later rules due middle text between fault h k

-- a book without answers has these numbers of calls
pub calls_of-unanswered : (calls : List ℕ) (j : ℕ)
    → calls_of (unanswered_book calls) j ≡ get_or calls j 0
calls_of-unanswered [] j = refl
calls_of-unanswered (count ∷ calls) zero = length-replicate count 0
calls_of-unanswered (count ∷ calls) (suc j) = calls_of-unanswered calls j

-- a book without answers has no answered call
pub answers_of-unanswered : (calls : List ℕ) (j : ℕ) → answers_of (unanswered_book calls) j ≡ 0
answers_of-unanswered calls j =
    ap (λ (p : Page). length p.records) (page_of-unanswered_book calls j)

-- the calls that are due are those of the next caller, and then those of all others
pub next_caller : (calls : List ℕ) (i : ℕ) → i < length calls → all_calls i (drop i calls)
    ≡ calls_from i 0 (get_or calls i 0) ++ all_calls (i + 1) (drop (i + 1) calls)
next_caller calls i lt = let one : drop i calls ≡ get_or calls i 0 ∷ drop (i + 1) calls =
    rw (add-one, drop-cons calls i 0) refl in ap (all_calls i) one

-- where each caller has no call, no call is due
pub no_calls : (i n : ℕ) → all_calls i (replicate n 0) ≡ []
no_calls i zero = refl
no_calls i (suc n) = no_calls (i + 1) n

-- counts that are all zero are at most any number
pub no_calls_few : (most n : ℕ) → AreAtMost most (replicate n 0)
no_calls_few most zero = tt
no_calls_few most (suc n) = (omega arith, no_calls_few most n)
