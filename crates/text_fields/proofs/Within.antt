-- The rules of a part of a text within those of the whole text.
use Rattle.std.proofs.Common.{◌≡◌, ℕ, ◌↔◌, List, [], ◌∷◌, sym, ap, subst, inl, inr}
use Rattle.book_base.specs.declared.fault.TextFault.{TextFault}
use Rattle.book_base.specs.declared.fault.What.{What}
use Rattle.book_base.specs.declared.fault.ReadFault.{ReadFault}
use Rattle.book_base.specs.declared.fault.ReadFault.TheVariants.{Text, NoMemory}
use Rattle.seq_objects.specs.declared.kind.Kind.{Kind}
use Rattle.text_fields.specs.declared.version.Version.{Version}
use Rattle.text_fields.specs.Lines.{Unread, words_of}
use Rattle.text_fields.specs.Faults.{Wanted, ALine, Rules, IsWrong, AllPass, GoesTo, IsFirstFault, StopsFor}
use Rattle.text_fields.specs.Head.{HeadDue, TitleDue, ObjectDue, CallersDue, CountsDue, HeadRead, HeadPasses, HeadFails, head_wanted, head_rules}

-- The states of a part are states of the text: each line that is right in the part is right there,
-- and what is wrong in the part is wrong there.
pub record AreWithin {Inner Outer : Type 0} (inner : Rules Inner) (outer : Rules Outer)
    (placed : Inner → Outer) : Type 0 where
  pub right : (due after : Inner) (words : List (List ℕ)) → inner.Passes due words after
      → outer.Passes (placed due) words (placed after)
  pub wrong : (due : Inner) (bytes : List ℕ) (what : What)
      → IsWrong inner due (inner.wanted due) bytes what
      → IsWrong outer (placed due) (outer.wanted (placed due)) bytes what

-- the same is wrong by two lists of rules where lines fail the same tests by both
pub wrong_alike : {Inner Outer : Type 0} (inner : Rules Inner) (outer : Rules Outer) (due : Inner)
    (there : Outer) → ((words : List (List ℕ)) (what : What)
    → inner.Fails due words what ↔ outer.Fails there words what)
    → (bytes : List ℕ) (what : What) → IsWrong inner due ALine bytes what
    → IsWrong outer there ALine bytes what
wrong_alike inner outer due there same bytes what (inl h) = inl h
wrong_alike inner outer due there same bytes what (inr h) = inr (record {
  line = h.line;
  rest = h.rest;
  whole = h.whole;
  test = record {
    fails = (same (words_of h.line) what).0 h.test.fails;
    first = λ other earlier fails.
        h.test.first other earlier ((same (words_of h.line) other).1 fails);
  };
})

-- The head of a text within the text. A state in which a line of the head is due is placed as
-- in_head says; and in that state of the text a line is due, each line that is right in the head is
-- right, and a line fails the tests that it fails in the head.
module _ {Outer : Type 0} (version : Version) (title : List ℕ) (outer : Rules Outer)
    (in_head placed : HeadDue → Outer)
    (at_title : in_head TitleDue ≡ placed TitleDue)
    (at_object : in_head ObjectDue ≡ placed ObjectDue)
    (at_callers : (kind : Kind) → in_head (CallersDue kind) ≡ placed (CallersDue kind))
    (at_counts : (kind : Kind) (n : ℕ) → in_head (CountsDue kind n) ≡ placed (CountsDue kind n))
    (line : (due : HeadDue) → outer.wanted (in_head due) ≡ ALine)
    (passes : (due after : HeadDue) (words : List (List ℕ))
    → HeadPasses version title due words after → outer.Passes (in_head due) words (placed after))
    (fails : (due : HeadDue) (words : List (List ℕ)) (what : What)
    → HeadFails version title due words what ↔ outer.Fails (in_head due) words what) where
  module _ (bytes : List ℕ) (what : What) where
    wrong_in : (due : HeadDue) (there : Outer) → in_head due ≡ there
        → IsWrong (head_rules version title) due ALine bytes what
        → IsWrong outer there (outer.wanted there) bytes what
    wrong_in due there at h =
        subst (λ (o : Outer). IsWrong outer o (outer.wanted o) bytes what) at
        (subst (λ (w : Wanted). IsWrong outer (in_head due) w bytes what) (sym (line due))
        (wrong_alike (head_rules version title) outer due (in_head due) (fails due) bytes what h))

    head_wrong : (due : HeadDue)
        → IsWrong (head_rules version title) due (head_wanted due) bytes what
        → IsWrong outer (placed due) (outer.wanted (placed due)) bytes what
    head_wrong TitleDue = wrong_in TitleDue (placed TitleDue) at_title
    head_wrong ObjectDue = wrong_in ObjectDue (placed ObjectDue) at_object
    head_wrong (CallersDue kind) =
        wrong_in (CallersDue kind) (placed (CallersDue kind)) (at_callers kind)
    head_wrong (CountsDue kind n) =
        wrong_in (CountsDue kind n) (placed (CountsDue kind n)) (at_counts kind n)
    head_wrong (HeadRead kind calls) = λ h. absurd h

  module _ (after : HeadDue) (words : List (List ℕ)) where
    right_in : (due : HeadDue) (there : Outer) → in_head due ≡ there
        → HeadPasses version title due words after → outer.Passes there words (placed after)
    right_in due there at h =
        subst (λ (o : Outer). outer.Passes o words (placed after)) at (passes due after words h)

    head_right : (due : HeadDue) → HeadPasses version title due words after
        → outer.Passes (placed due) words (placed after)
    head_right TitleDue = right_in TitleDue (placed TitleDue) at_title
    head_right ObjectDue = right_in ObjectDue (placed ObjectDue) at_object
    head_right (CallersDue kind) =
        right_in (CallersDue kind) (placed (CallersDue kind)) (at_callers kind)
    head_right (CountsDue kind n) =
        right_in (CountsDue kind n) (placed (CountsDue kind n)) (at_counts kind n)
    head_right (HeadRead kind calls) = λ h. absurd h

  pub head_is_within : AreWithin (head_rules version title) outer placed
  head_is_within = record {
    right = λ due after words. head_right after words due;
    wrong = λ due bytes what. head_wrong bytes what due;
  }

module _ {Inner Outer : Type 0} {inner : Rules Inner} {outer : Rules Outer}
    {placed : Inner → Outer} (within : AreWithin inner outer placed) where
  all_right : (due after : Inner) (lines : List (List (List ℕ)))
      → AllPass inner.Passes due lines after
      → AllPass outer.Passes (placed due) lines (placed after)
  all_right due after [] h = ap placed h
  all_right due after (words ∷ lines) h =
      (placed h.0, within.right due h.0 words h.1, all_right h.0 after lines h.2)

  pub goes_within : (due after : Inner) (text left : Unread) → GoesTo inner due text after left
      → GoesTo outer (placed due) text (placed after) left
  goes_within due after text left h = record {
    lines = h.lines;
    right = all_right due after h.lines h.right;
    bytes = h.bytes;
    number = h.number;
  }

  pub fault_within : (due : Inner) (text : Unread) (fault : TextFault)
      → IsFirstFault inner due text fault → IsFirstFault outer (placed due) text fault
  fault_within due text fault h = record {
    reached = placed h.reached;
    left = h.left;
    before = goes_within due h.reached text h.left h.before;
    line = h.line;
    wrong = within.wrong h.reached h.left.bytes fault.what h.wrong;
  }

  pub stops_within : (due : Inner) (text : Unread) (e : ReadFault) → StopsFor inner due text e
      → StopsFor outer (placed due) text e
  stops_within due text NoMemory h = tt
  stops_within due text (Text fault) h = fault_within due text fault h
