-- The lines of a book and the lines after the title within the text of a refutation.
use Rattle.std.proofs.Common.{◌≡◌, ℕ, List, [], ◌∷◌, decimal, Some, None, Vec, Global, refl, sym, ap}
use Rattle.book_base.specs.declared.fault.TextFault.{TextFault}
use Rattle.book_base.specs.declared.fault.ReadFault.TheVariants.{Text}
use Rattle.book_base.specs.declared.fault.What.{What}
use Rattle.book_base.specs.declared.fault.What.TheVariants as what
use Rattle.book_base.specs.Book.{Page}
use Rattle.seq_objects.specs.declared.kind.Kind.{Kind}
use Rattle.text_fields.specs.declared.version.Version.TheVariants.{Second}
use Rattle.text_fields.specs.Lines.{Unread}
use Rattle.text_fields.specs.Faults.{IsFirstTest, IsWrong}
use Rattle.text_fields.proofs.Sharp.{only_test}
use Rattle.text_fields.proofs.Within.{AreWithin, wrong_alike}
use Rattle.book_text.specs.BookRules.{BookDue, InHead, InCalls, AtEnd, BookPasses}
use Rattle.certificate_text.specs.Reading.{part_wanted, book_part}
use Rattle.book_text.specs.Grammar.{end_words}
use Rattle.refutations.specs.declared.entry.Entry.{Entry}
use Rattle.pair_refutations.specs.declared.entry.PairEntry.{PairEntry}
use Rattle.level_refutations.specs.declared.entry.LevelEntry.{LevelEntry}
use Rattle.level_refutations.specs.Said.{EntrySaid}
use Rattle.refutation_text.specs.Said.{ending_said, StepSaid, EndingSaid, Impossible, Takes, Find, Closed, Pairs, Levels, LineSaid, StepLine, ImpossibleLine, TakesLine, FindLine, PlainLine, PairsLine, LevelsLine, ItemLine, MoveLine, TableLine, EndLine}
use Rattle.refutation_text.specs.declared.refutation.Ending.{Ending}
use Rattle.refutation_text.specs.declared.refutation.Ending.TheVariants as endings
use Rattle.refutation_text.specs.Grammar.{IsEntry, IsPairEntry, pair_entry_words, IsTableEntry, table_words, IsLine}
use Rattle.refutation_text.specs.RefutationRules.{BodyDue, InSteps, EndDue, InEntries, InPairs, InLevels, BodyRead, after_line, body_wanted, BodyFails, body_rules, InBody, after_book, RefutationPasses, refutation_wanted, refutation_rules}
use Rattle.refutation_text.specs.Reading.{opening_line, HasNoEntries, ending_due, IsNoEnd, IsNoRestOf}

book_right : (due after : BookDue) (words : List (List ℕ)) → BookPasses Second due words after
    → RefutationPasses (after_book due) words (after_book after)
book_right (InHead due) after words h = (after, h, refl)
book_right (InCalls kind book calls) after words h = (after, h, refl)
book_right (AtEnd kind book) after words h = absurd h

book_wrong : (due : BookDue) (bytes : List ℕ) (what : What)
    → IsWrong book_part due (part_wanted due) bytes what → IsWrong refutation_rules
    (after_book due) (refutation_wanted (after_book due)) bytes what
book_wrong (InHead due) bytes what h = wrong_alike book_part refutation_rules (InHead due)
    (after_book (InHead due)) (λ words what. (λ h. h, λ h. h)) bytes what h
book_wrong (InCalls kind book calls) bytes what h =
    wrong_alike book_part refutation_rules (InCalls kind book calls)
    (after_book (InCalls kind book calls)) (λ words what. (λ h. h, λ h. h)) bytes what h
book_wrong (AtEnd kind book) bytes what h = absurd h

pub book_within : AreWithin book_part refutation_rules after_book
book_within = record { right = book_right; wrong = book_wrong }

module _ (kind : Kind) (book : List Page) where
  body_wrong : (due : BodyDue) (bytes : List ℕ) (what : What)
      → IsWrong body_rules due (body_wanted due) bytes what
      → IsWrong refutation_rules (InBody kind book due) (body_wanted due) bytes what
  body_wrong (InSteps steps) bytes what h = wrong_alike body_rules refutation_rules
      (InSteps steps) (InBody kind book (InSteps steps)) (λ words what. (λ h. h, λ h. h))
      bytes what h
  body_wrong (EndDue steps ending) bytes what h = wrong_alike body_rules refutation_rules
      (EndDue steps ending) (InBody kind book (EndDue steps ending))
      (λ words what. (λ h. h, λ h. h))
      bytes what h
  body_wrong (InEntries steps entries) bytes what h = wrong_alike body_rules refutation_rules
      (InEntries steps entries) (InBody kind book (InEntries steps entries))
      (λ words what. (λ h. h, λ h. h)) bytes what h
  body_wrong (InPairs steps entries) bytes what h = wrong_alike body_rules refutation_rules
      (InPairs steps entries) (InBody kind book (InPairs steps entries))
      (λ words what. (λ h. h, λ h. h)) bytes what h
  body_wrong (InLevels steps entries) bytes what h = wrong_alike body_rules refutation_rules
      (InLevels steps entries) (InBody kind book (InLevels steps entries))
      (λ words what. (λ h. h, λ h. h)) bytes what h
  body_wrong (BodyRead steps ending) bytes what h = h

  pub body_within : AreWithin body_rules refutation_rules (InBody kind book)
  body_within =
      record { right = λ due after words h. (after, h, refl); wrong = body_wrong }

-- ---- the one test of a line that isn't right

-- a line that is neither a step nor begins an ending fails the test of a step
pub no_step : (steps : List StepSaid) (words : List (List ℕ))
    → ((step : StepSaid) → IsLine words (StepLine step) → ⊥)
    → ((ending : EndingSaid) → IsLine words (opening_line ending) → ⊥)
    → IsFirstTest (BodyFails (InSteps steps) words) what.Op
no_step steps words none opens =
    only_test (BodyFails (InSteps steps) words) what.Op (refl, fails) (λ other k. k.0) where
      fails : (line : LineSaid) → IsLine words line → after_line (InSteps steps) line ≡ None
      fails (StepLine step) h = absurd (none step h)
      fails (ImpossibleLine call) h = absurd (opens (Impossible call) h)
      fails (TakesLine value moment) h = absurd (opens (Takes value moment) h)
      fails (FindLine call values) h = absurd (opens (Find call values) h)
      fails PlainLine h = absurd (opens (Closed []) h)
      fails PairsLine h = absurd (opens (Pairs []) h)
      fails LevelsLine h = absurd (opens (Levels []) h)
      fails line h = refl

-- a line that is neither an entry nor the end fails the test of an entry
pub no_entry : (steps : List StepSaid) (entries : List Entry) (words : List (List ℕ))
    → ((entry : Entry) → IsEntry entry
    → words ≡ decimal entry.item ∷ decimal entry.caller ∷ [] → ⊥)
    → (words ≡ end_words → ⊥)
    → IsFirstTest (BodyFails (InEntries steps entries) words) what.Place
no_entry steps entries words none not_end =
    only_test (BodyFails (InEntries steps entries) words) what.Place (refl, fails)
    (λ other k. k.0) where
      fails : (line : LineSaid) → IsLine words line
          → after_line (InEntries steps entries) line ≡ None
      fails (ItemLine entry) h = absurd (none entry h.may h.text)
      fails EndLine h = absurd (not_end h.text)
      fails line h = refl

-- a line that is neither an entry that makes a standing nor the end fails the test of an entry
pub no_pair_entry : (steps : List StepSaid) (entries : List PairEntry) (words : List (List ℕ))
    → ((entry : PairEntry) → IsPairEntry entry → words ≡ pair_entry_words entry → ⊥)
    → (words ≡ end_words → ⊥)
    → IsFirstTest (BodyFails (InPairs steps entries) words) what.Place
no_pair_entry steps entries words none not_end =
    only_test (BodyFails (InPairs steps entries) words) what.Place (refl, fails)
    (λ other k. k.0) where
      fails : (line : LineSaid) → IsLine words line
          → after_line (InPairs steps entries) line ≡ None
      fails (MoveLine entry) h = absurd (none entry h.may h.text)
      fails EndLine h = absurd (not_end h.text)
      fails line h = refl

-- a line that is neither an entry of a table of levels nor the end fails the test of an entry
pub no_table_entry : (steps : List StepSaid) (entries : List EntrySaid) (words : List (List ℕ))
    → ((entry : EntrySaid) → IsTableEntry entry → words ≡ table_words entry → ⊥)
    → (words ≡ end_words → ⊥)
    → IsFirstTest (BodyFails (InLevels steps entries) words) what.Place
no_table_entry steps entries words none not_end =
    only_test (BodyFails (InLevels steps entries) words) what.Place (refl, fails)
    (λ other k. k.0) where
      fails : (line : LineSaid) → IsLine words line
          → after_line (InLevels steps entries) line ≡ None
      fails (TableLine entry) h = absurd (none entry h.may h.text)
      fails EndLine h = absurd (not_end h.text)
      fails line h = refl

-- a line that isn't the end fails the test of the end
pub no_end : (steps : List StepSaid) (ending : EndingSaid) (words : List (List ℕ))
    → (words ≡ end_words → ⊥) → IsFirstTest (BodyFails (EndDue steps ending) words) what.End
no_end steps ending words not_end =
    only_test (BodyFails (EndDue steps ending) words) what.End (refl, fails) (λ other k. k.0) where
      fails : (line : LineSaid) → IsLine words line → after_line (EndDue steps ending) line ≡ None
      fails EndLine h = absurd (not_end h.text)
      fails line h = refl

-- the line that begins an ending leads to what is due then
pub opens : (steps : List StepSaid) (ending : EndingSaid) → HasNoEntries ending
    → after_line (InSteps steps) (opening_line ending) ≡ Some (ending_due steps ending)
opens steps (Impossible call) none = refl
opens steps (Takes value moment) none = refl
opens steps (Find call values) none = refl
opens steps (Closed entries) none = ap (λ (e : List Entry). Some (InEntries steps e)) (sym none)
opens steps (Pairs entries) none = ap (λ (e : List PairEntry). Some (InPairs steps e)) (sym none)
opens steps (Levels entries) none =
    ap (λ (e : List EntrySaid). Some (InLevels steps e)) (sym none)

-- where no entries follow, what stops the end stops the rest
pub no_rest : (begun : Ending) (text : Unread) (fault : TextFault)
    → ((e : Vec Entry Global) → begun ≡ endings.Closed e → ⊥)
    → ((e : Vec PairEntry Global) → begun ≡ endings.Pairs e → ⊥)
    → ((e : Vec LevelEntry Global) → begun ≡ endings.Levels e → ⊥) → IsNoEnd text fault
    → IsNoRestOf (ending_said begun) text (Text fault)
no_rest (endings.Impossible call) text fault a b c h steps = h steps (Impossible call)
no_rest (endings.CountsTakes v m) text fault a b c h steps = h steps (Takes v m)
no_rest (endings.CountsFind i n values) text fault a b c h steps =
    h steps (Find (record { caller = i; number = n }) values.items)
no_rest (endings.Closed entries) text fault a b c h steps = absurd (a entries refl)
no_rest (endings.Pairs entries) text fault a b c h steps = absurd (b entries refl)
no_rest (endings.Levels entries) text fault a b c h steps = absurd (c entries refl)
