-- The rules of a set book's text are sharp: bytes are read as at most one set book, and have at
-- most one first fault.
use Rattle.std.proofs.Common.{◌≡◌, ℕ, ◌⊎◌, List, [], ◌∷◌, ◌++◌, map, decimal, Result, refl, sym, ap, subst, ◌∙◌, arith}
use Rattle.std.specs.Prelude.{codes, IfOk, IfErr, MatchResult}
use Rattle.book_base.specs.declared.call.Call.{Call}
use Rattle.book_base.specs.declared.fault.TextFault.{TextFault}
use Rattle.book_base.specs.declared.fault.ReadFault.{ReadFault}
use Rattle.book_base.specs.declared.fault.ReadFault.TheVariants.{Text, NoMemory}
use Rattle.book_base.specs.declared.fault.What.{What}
use Rattle.book_base.specs.declared.fault.What.TheVariants.{End}
use Rattle.book_base.specs.Book.{Page}
use Rattle.text_fields.specs.declared.version.Version.TheVariants.{Second}
use Rattle.text_fields.specs.Lines.{Unread, AreSolid}
use Rattle.text_fields.specs.Faults.{ALine, AreSharp, IsWrong, IsFirstFault, GoesTo, StopsFor}
use Rattle.text_fields.proofs.Sharp as sharp
use Rattle.text_fields.proofs.Readings as readings
use Rattle.text_fields.proofs.NumberTexts.{same_first, same_number, solid_decimal}
use Rattle.text_fields.proofs.HeadTexts.{plain, same_numbers, numbers_at_most, solid_numbers}
use Rattle.book_text.specs.CallLines.{BookSoFar, CallPasses, call_wanted, call_rules, no_call_read}
use Rattle.book_text.specs.BookRules.{whole_text}
use Rattle.book_text.specs.Ending.{IsEnded, IsNoEnd}
use Rattle.book_text.proofs.Endings.{goes_end, stops_end}
use Rattle.book_text.proofs.SharpBooks.{line_one_way, line_apart, line_solid}
use Rattle.text_fields.proofs.Within.{AreWithin, wrong_alike}
use Rattle.set_order.specs.JoinWords.{join_operations}
use Rattle.set_order.specs.JoinLaws.{one_join, solid_join}
use Rattle.set_order.specs.SetBookRules.{SetBookDue, TitleDue, ObjectDue, CallersDue, CountsDue, InCalls, AtEnd, in_calls, SetBookPasses, SetBookFails, setbook_wanted, setbook_rules, IsSetBookText, IsNoSetBookText, IsFirstSetBookFault}

one_way : (due a b : SetBookDue) (words : List (List ℕ)) → SetBookPasses due words a
    → SetBookPasses due words b → a ≡ b
one_way TitleDue a b words h k = h.1 ∙ sym k.1
one_way ObjectDue a b words h k = h.1 ∙ sym k.1
one_way CallersDue a b words h k =
    let parts = same_first (codes "callers") (codes "callers") (decimal h.0 ∷ []) (decimal k.0 ∷ [])
    (sym h.2 ∙ k.2) in
    let numbers = same_first (decimal h.0) (decimal k.0) [] [] parts.1 in
    let same = same_number h.0 k.0 (omega (arith, h.1.few)) (omega (arith, k.1.few)) numbers.0 in
    h.3 ∙ ap CountsDue same ∙ sym k.3
one_way (CountsDue n) a b words h k =
    let parts = same_first (codes "calls") (codes "calls") (map decimal h.0) (map decimal k.0)
    (sym h.2 ∙ k.2) in
    let same = same_numbers h.0 k.0 (numbers_at_most 256 h.0 (omega arith) h.1.few)
    (numbers_at_most 256 k.0 (omega arith) k.1.few) parts.1 in
    h.3 ∙ ap (λ (calls : List ℕ). in_calls (no_call_read calls)) same ∙ sym k.3
one_way (InCalls book []) a b words h k = h.1 ∙ sym k.1
one_way (InCalls book (call ∷ calls)) a b words h k =
    let books = line_one_way Second join_operations one_join solid_join book call words h.0.book
    k.0.book h.1.0 k.1.0 in
    let dues : h.0.due ≡ k.0.due = h.1.1 ∙ sym k.1.1 in
    h.2 ∙ ap (λ (b : List Page). InCalls b h.0.due) books ∙ ap (InCalls k.0.book) dues ∙ sym k.2
one_way (AtEnd book) a b words h k = absurd h

apart : (due after : SetBookDue) (words : List (List ℕ)) (name : What)
    → SetBookPasses due words after → SetBookFails due words name → ⊥
apart TitleDue after words name h k = k.1 h.0
apart ObjectDue after words name h k = k.1 h.0
apart CallersDue after words name h k = k.1 h.0 h.1 h.2
apart (CountsDue n) after words name h k = k.1 h.0 h.1 h.2
apart (InCalls book []) after words name h k = k.1 h.0
apart (InCalls book (call ∷ calls)) after words name h k = line_apart Second join_operations
    one_join solid_join book call calls words h.0.book name h.1.0 k
apart (AtEnd book) after words name h k = h

solid : (due after : SetBookDue) (words : List (List ℕ)) → SetBookPasses due words after
    → AreSolid words
solid TitleDue after words h = subst AreSolid (sym h.0) (record {
  some = omega arith;
  each = (
    plain (codes "setbook") (
      omega arith,
      (omega arith, (omega arith, (omega arith, (omega arith, (omega arith, (omega arith, tt)))))),
    ) (omega arith),
    (plain (codes "2") (omega arith, tt) (omega arith), tt),
  );
})
solid ObjectDue after words h = subst AreSolid (sym h.0) (record {
  some = omega arith;
  each = (
    plain (codes "object")
        (omega arith, (omega arith, (omega arith, (omega arith, (omega arith, (omega arith, tt))))))
        (omega arith),
    (
      plain (codes "joins")
          (omega arith, (omega arith, (omega arith, (omega arith, (omega arith, tt)))))
          (omega arith),
      tt,
    ),
  );
})
solid CallersDue after words h = subst AreSolid (sym h.2) (record {
  some = omega arith;
  each = (
    plain (codes "callers") (
      omega arith,
      (omega arith, (omega arith, (omega arith, (omega arith, (omega arith, (omega arith, tt)))))),
    ) (omega arith),
    (solid_decimal h.0 (omega (arith, h.1.few)), tt),
  );
})
solid (CountsDue n) after words h = subst AreSolid (sym h.2) (record {
  some = omega arith;
  each = (
    plain (codes "calls")
        (omega arith, (omega arith, (omega arith, (omega arith, (omega arith, tt))))) (omega arith),
    solid_numbers h.0 (numbers_at_most 256 h.0 (omega arith) h.1.few),
  );
})
solid (InCalls book []) after words h = subst AreSolid (sym h.0) (record {
  some = omega arith;
  each = (plain (codes "end") (omega arith, (omega arith, (omega arith, tt))) (omega arith), tt);
})
solid (InCalls book (call ∷ calls)) after words h =
    line_solid Second join_operations one_join solid_join book call words h.0.book h.1.0
solid (AtEnd book) after words h = absurd h

wanted : (due after : SetBookDue) (words : List (List ℕ)) → SetBookPasses due words after
    → setbook_wanted due ≡ ALine
wanted TitleDue after words h = refl
wanted ObjectDue after words h = refl
wanted CallersDue after words h = refl
wanted (CountsDue n) after words h = refl
wanted (InCalls book calls) after words h = refl
wanted (AtEnd book) after words h = absurd h

pub setbook_sharp : AreSharp setbook_rules
setbook_sharp = record { one_way = one_way; apart = apart; solid = solid; lines = wanted }

-- ---- the lines of calls within the text

calls_right : (due after : BookSoFar) (words : List (List ℕ))
    → (call_rules Second join_operations).Passes due words after
    → SetBookPasses (in_calls due) words (in_calls after)
calls_right due after words h = right_here due.book due.due h where
  right_here : (book : List Page) (calls : List Call)
      → CallPasses Second join_operations book calls words after
      → SetBookPasses (InCalls book calls) words (in_calls after)
  right_here book [] h = absurd h
  right_here book (call ∷ calls) h = (after, h, refl)

calls_wrong : (due : BookSoFar) (bytes : List ℕ) (what : What)
    → IsWrong (call_rules Second join_operations) due (call_wanted due.due) bytes what
    → IsWrong setbook_rules (in_calls due) (setbook_wanted (in_calls due)) bytes what
calls_wrong due bytes what h = wrong_here due.book due.due h where
  wrong_here : (book : List Page) (calls : List Call) → IsWrong (call_rules Second join_operations)
      (record { book = book; due = calls }) (call_wanted calls) bytes what
      → IsWrong setbook_rules (InCalls book calls) ALine bytes what
  wrong_here book [] = λ h. absurd h
  wrong_here book (call ∷ calls) = wrong_alike (call_rules Second join_operations) setbook_rules
      (record { book = book; due = call ∷ calls }) (InCalls book (call ∷ calls))
      (λ words what. (λ h. h, λ h. h)) bytes what

pub calls_within : AreWithin (call_rules Second join_operations) setbook_rules in_calls
calls_within = record { right = calls_right; wrong = calls_wrong }

-- ---- the end

pub set_book_ends : (book : List Page) (text left : Unread) → IsEnded text left
    → GoesTo setbook_rules (InCalls book []) text (AtEnd book) left
set_book_ends book text left h =
    goes_end setbook_rules (InCalls book []) (AtEnd book) (refl, refl) text left h

pub set_book_no_end : (book : List Page) (text : Unread) (fault : TextFault) → IsNoEnd text fault
    → IsFirstFault setbook_rules (InCalls book []) text fault
set_book_no_end book text fault h =
    stops_end setbook_rules (InCalls book []) (AtEnd book) (refl, refl) text fault refl refl
    (λ words unlike.
    sharp.only_test (SetBookFails (InCalls book []) words) End (refl, unlike) (λ other k. k.0)) h

-- ---- readings

pub same_end : (a b : List Page) → AtEnd a ≡ AtEnd b → a ≡ b
same_end a b e = cc

-- bytes are read as at most one set book
pub one_book : (bytes : List ℕ) (a b : List Page) → IsSetBookText bytes a
    → IsSetBookText bytes b → a ≡ b
one_book = readings.one_said setbook_rules setbook_sharp TitleDue AtEnd same_end (λ book. refl)

-- bytes have at most one first fault
pub one_first_fault : (bytes : List ℕ) (a b : TextFault) → IsFirstSetBookFault bytes a
    → IsFirstSetBookFault bytes b → a ≡ b
one_first_fault =
    readings.one_first setbook_rules setbook_sharp TitleDue AtEnd same_end (λ book. refl)

-- bytes that are read as a set book have no fault
pub no_first_fault : (bytes : List ℕ) (book : List Page) (fault : TextFault)
    → IsSetBookText bytes book → IsFirstSetBookFault bytes fault → ⊥
no_first_fault =
    readings.no_first setbook_rules setbook_sharp TitleDue AtEnd same_end (λ book. refl)

-- no set book's text is a proper prefix of another's
pub no_prefix : (bytes more : List ℕ) (a b : List Page) → IsSetBookText bytes a
    → IsSetBookText (bytes ++ more) b → more ≡ []
no_prefix = readings.no_prefix setbook_rules setbook_sharp TitleDue AtEnd same_end (λ book. refl)

pub only_read : (bytes : List ℕ) (result : Result (List Page) ReadFault)
    → IfOk result (λ x. IsSetBookText bytes x)
    → IfErr result (λ e. StopsFor setbook_rules TitleDue (whole_text bytes) e)
    → (book : List Page) → IsSetBookText bytes book
    → MatchResult result (λ x. x ≡ book) (λ e. e ≡ NoMemory)
only_read = readings.only_read setbook_rules setbook_sharp TitleDue AtEnd same_end (λ book. refl)

pub refused_read : (bytes : List ℕ) (result : Result (List Page) ReadFault)
    → IfErr result (λ e. StopsFor setbook_rules TitleDue (whole_text bytes) e)
    → IfErr result (λ e. (e ≡ NoMemory) ⊎ ((fault : TextFault) × (e ≡ Text fault)
    × IsFirstSetBookFault bytes fault × IsNoSetBookText bytes))
refused_read =
    readings.refused_read setbook_rules setbook_sharp TitleDue AtEnd same_end (λ book. refl)

pub first_read : (bytes : List ℕ) (result : Result (List Page) ReadFault)
    → IfOk result (λ x. IsSetBookText bytes x)
    → IfErr result (λ e. StopsFor setbook_rules TitleDue (whole_text bytes) e)
    → (fault : TextFault) → IsFirstSetBookFault bytes fault
    → MatchResult result (λ x. ⊥) (λ e. (e ≡ Text fault) ⊎ (e ≡ NoMemory))
first_read = readings.first_read setbook_rules setbook_sharp TitleDue AtEnd same_end (λ book. refl)
