-- The end of a text by any rules by which only the last line is right there.
use Rattle.std.proofs.Common.{◌≡◌, ◌≢◌, ℕ, List, sym, subst, inl, inr}
use Rattle.book_base.specs.declared.fault.TextFault.{TextFault}
use Rattle.book_base.specs.declared.fault.What.TheVariants.{End}
use Rattle.text_fields.specs.Lines.{Unread, words_of}
use Rattle.text_fields.specs.Faults.{ALine, TheEnd, Rules, IsFirstTest, GoesTo, IsFirstFault}
use Rattle.text_fields.proofs.Sharp.{goes_line, stops_cut, stops_line, stops_rest, stops_later}
use Rattle.book_text.specs.Grammar.{end_words}
use Rattle.book_text.specs.Ending.{IsEnded, IsNoEnd}

module _ {Due : Type 0} (rules : Rules Due) (due after : Due)
    (right : rules.Passes due end_words after) (text : Unread) where
  right_line : (words : List (List ℕ)) → words ≡ end_words → rules.Passes due words after
  right_line words e = subst (λ (w : List (List ℕ)). rules.Passes due w after) (sym e) right

  pub goes_end : (left : Unread) → IsEnded text left → GoesTo rules due text after left
  goes_end left h =
      goes_line rules due after text left h.line h.next (right_line (words_of h.line) h.words)

  pub stops_end : (fault : TextFault) → rules.wanted due ≡ ALine → rules.wanted after ≡ TheEnd
      → ((words : List (List ℕ)) → words ≢ end_words → IsFirstTest (rules.Fails due words) End)
      → IsNoEnd text fault → IsFirstFault rules due text fault
  stops_end fault line last test (inl cut) = stops_cut rules due text fault line cut
  stops_end fault line last test (inr (inl h)) =
      subst (IsFirstFault rules due text) (sym h.fault_is)
      (stops_line rules due text h.left h.line End line h.next (test (words_of h.line) h.words))
  stops_end fault line last test (inr (inr h)) =
      subst (IsFirstFault rules due text) (sym h.fault_is) (stops_later rules due after text h.left
      _ (goes_line rules due after text h.left h.line h.next (right_line (words_of h.line) h.words))
      (stops_rest rules after h.left last h.more))
