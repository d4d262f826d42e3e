-- The head of a set book is read as at most one head, and has at most one first fault; and what is
-- read or refused of it is read or refused in the text of a set book.
use Rattle.std.proofs.Common.{◌≡◌, ℕ, List, [], ◌∷◌, refl, ap, sym, subst, ◌∙◌}
use Rattle.std.proofs.lemmas.List.{length-replicate}
use Rattle.book_base.specs.declared.fault.TextFault.{TextFault}
use Rattle.book_base.specs.declared.fault.ReadFault.TheVariants.{Text}
use Rattle.book_base.specs.declared.fault.What.{What}
use Rattle.book_base.specs.Book.{announced, unanswered_book}
use Rattle.text_fields.specs.Lines.{Unread}
use Rattle.text_fields.specs.Faults.{ALine, AreSharp, IsWrong, IsFirstFault, GoesTo, StopsFor}
use Rattle.text_fields.proofs.Readings.{one_part, no_part_fault}
use Rattle.text_fields.proofs.Sharp.{one_fault}
use Rattle.book_text.specs.BookRules.{whole_text}
use Rattle.book_text.specs.CallLines.{no_call_read}
use Rattle.text_fields.proofs.Within.{AreWithin, wrong_alike, goes_within, fault_within}
use Rattle.set_order.specs.SetBookRules.{SetBookDue, TitleDue, ObjectDue, CallersDue, CountsDue, InCalls, AtEnd, in_calls, SetBookPasses, SetBookFails, setbook_wanted, setbook_rules, SetHeadPasses, SetHeadFails, set_head_wanted, set_head_rules, IsSetHead, IsSetHeadFault}
use Rattle.set_order.proofs.SharpSetBooks.{setbook_sharp}

-- the right lines of the head are right in the text of a set book, and its wrong ones wrong
right : (due after : SetBookDue) (words : List (List ℕ)) → SetHeadPasses due words after
    → SetBookPasses due words after
right TitleDue after words h = h
right ObjectDue after words h = h
right CallersDue after words h = h
right (CountsDue n) after words h = h
right (InCalls book calls) after words h = absurd h
right (AtEnd book) after words h = h

failing : (due : SetBookDue) (words : List (List ℕ)) (name : What) → SetHeadFails due words name
    → SetBookFails due words name
failing TitleDue words name h = h
failing ObjectDue words name h = h
failing CallersDue words name h = h
failing (CountsDue n) words name h = h
failing (InCalls book calls) words name h = absurd h
failing (AtEnd book) words name h = h

wrong : (due : SetBookDue) (bytes : List ℕ) (what : What)
    → IsWrong set_head_rules due (set_head_wanted due) bytes what
    → IsWrong setbook_rules due (setbook_wanted due) bytes what
wrong TitleDue =
    wrong_alike set_head_rules setbook_rules TitleDue TitleDue (λ words what. (λ h. h, λ h. h))
wrong ObjectDue =
    wrong_alike set_head_rules setbook_rules ObjectDue ObjectDue (λ words what. (λ h. h, λ h. h))
wrong CallersDue =
    wrong_alike set_head_rules setbook_rules CallersDue CallersDue (λ words what. (λ h. h, λ h. h))
wrong (CountsDue n) =
    wrong_alike set_head_rules setbook_rules (CountsDue n) (CountsDue n)
    (λ words what. (λ h. h, λ h. h))
wrong (InCalls book calls) = λ bytes what h. absurd h
wrong (AtEnd book) = λ bytes what h. absurd h

within : AreWithin set_head_rules setbook_rules (λ due. due)
within = record { right = right; wrong = wrong }

pub head_goes : (calls : List ℕ) (text left : Unread) → IsSetHead calls text left
    → GoesTo setbook_rules TitleDue text (in_calls (no_call_read calls)) left
head_goes calls text left h =
    goes_within within TitleDue (in_calls (no_call_read calls)) text left h

pub head_stops : (bytes : List ℕ) (text : Unread) (fault : TextFault) → text ≡ whole_text bytes
    → IsSetHeadFault text fault → StopsFor setbook_rules TitleDue (whole_text bytes) (Text fault)
head_stops bytes text fault is h =
    subst (λ (t : Unread). IsFirstFault setbook_rules TitleDue t fault) is
    (fault_within within TitleDue text fault h)

lines : (due after : SetBookDue) (words : List (List ℕ)) → SetHeadPasses due words after
    → set_head_wanted due ≡ ALine
lines TitleDue after words h = refl
lines ObjectDue after words h = refl
lines CallersDue after words h = refl
lines (CountsDue n) after words h = refl
lines (InCalls book calls) after words h = absurd h
lines (AtEnd book) after words h = absurd h

head_sharp : AreSharp set_head_rules
head_sharp =
    record {
      one_way = λ due a b words h k.
          setbook_sharp.one_way due a b words (right due a words h) (right due b words k);
      apart = λ due after words name h k. setbook_sharp.apart due after words name
          (right due after words h) (failing due words name k);
      solid = λ due after words h. setbook_sharp.solid due after words (right due after words h);
      lines = lines;
    }

-- the book with these numbers of calls and without answers has these numbers of calls
announced_again : (calls : List ℕ) → announced (unanswered_book calls) ≡ calls
announced_again [] = refl
announced_again (count ∷ calls) =
    (λ i. length-replicate {A = ℕ} count 0 i ∷ announced_again calls i)

same_calls : (a b : List ℕ) → in_calls (no_call_read a) ≡ in_calls (no_call_read b) → a ≡ b
same_calls a b e =
    let books : unanswered_book a ≡ unanswered_book b = cc in
    sym (announced_again a) ∙ ap announced books ∙ announced_again b

pub one_head : (a b : List ℕ) (text x y : Unread) → IsSetHead a text x → IsSetHead b text y
    → (a ≡ b) × (x ≡ y)
one_head a b text x y h k =
    let one = one_part set_head_rules head_sharp TitleDue text (in_calls (no_call_read a))
    (in_calls (no_call_read b)) x y tt tt h k in
    (same_calls a b one.0, one.1)

pub no_head_fault : (calls : List ℕ) (text left : Unread) (fault : TextFault)
    → IsSetHead calls text left → IsSetHeadFault text fault → ⊥
no_head_fault calls text left fault h k = no_part_fault set_head_rules head_sharp TitleDue text
    (in_calls (no_call_read calls)) left fault tt h k

pub one_head_fault : (text : Unread) (a b : TextFault) → IsSetHeadFault text a
    → IsSetHeadFault text b → a ≡ b
one_head_fault text a b h k = one_fault set_head_rules head_sharp TitleDue text a b h k
