-- The first fault is where bytes stop being the beginning of a model's text.
use Rattle.std.proofs.Common.{◌≡◌, ◌≢◌, ℕ, ◌⊎◌, List, [], ◌∷◌, ◌++◌, refl, sym, subst, inl, inr}
use Rattle.book_base.specs.declared.fault.What.{What}
use Rattle.book_base.specs.declared.fault.What.TheVariants as what
use Rattle.text_fields.specs.Faults.{ALine}
use Rattle.text_fields.proofs.Sharp.{AllPass-append}
use Rattle.book_text.specs.Grammar.{end_words}
use Rattle.book_text.proofs.Leavings as leavings
use Rattle.book_text.proofs.Leavings.{Completes}
use Rattle.model_text.specs.declared.told_line.ToldLine.{ToldLine}
use Rattle.model_text.specs.Grammar.{steps_lines}
use Rattle.model_text.specs.ModelBookRules.{ModelBookDue, TitleDue, ObjectDue, CallersDue, CountsDue, InCalls, AtEnd}
use Rattle.model_text.specs.ModelRules.{ModelDue, InBook, StepsDue, InSteps, AllRead, after_book, nothing_read, ToldFails, ModelPasses, ModelFails, model_wanted, model_rules}
use Rattle.model_text.specs.Laws.{FirstFaultsLeaveTexts}
use Rattle.model_text.proofs.BookFaults as book_faults
use Rattle.model_text.proofs.SharpModels.{model_sharp}
use Rattle.model_text.proofs.Readings.{Said, ended, same_end}
use Rattle.model_text.proofs.WrittenTexts.{book_passes, steps_pass}

-- ---- right lines can be completed

-- right lines can complete a text from the state: within the book those of a book can
abbrev CanCome : ModelDue → Type 0
CanCome (InBook TitleDue) = book_faults.CanCome TitleDue
CanCome (InBook ObjectDue) = book_faults.CanCome ObjectDue
CanCome (InBook CallersDue) = book_faults.CanCome CallersDue
CanCome (InBook (CountsDue n)) = book_faults.CanCome (CountsDue n)
CanCome (InBook (InCalls pages calls)) = book_faults.CanCome (InCalls pages calls)
CanCome (InBook (AtEnd pages)) = ⊥
CanCome (StepsDue pages) = Unit {0}
CanCome (InSteps pages told) = Unit {0}
CanCome (AllRead pages told) = Unit {0}

comes_after : (due : ModelBookDue) → book_faults.CanCome due → CanCome (after_book due)
comes_after TitleDue can = can
comes_after ObjectDue can = can
comes_after CallersDue can = can
comes_after (CountsDue n) can = can
comes_after (InCalls pages calls) can = can
comes_after (AtEnd pages) can = tt

-- where a state of reading the book can be completed, it isn't after the book's end
in_book : (due : ModelBookDue) → CanCome (InBook due)
    → book_faults.CanCome due × (after_book due ≡ InBook due)
in_book TitleDue can = (can, refl)
in_book ObjectDue can = (can, refl)
in_book CallersDue can = (can, refl)
in_book (CountsDue n) can = (can, refl)
in_book (InCalls pages calls) can = (can, refl)
in_book (AtEnd pages) can = absurd can

comes_next : (due after : ModelDue) (words : List (List ℕ)) → CanCome due
    → ModelPasses due words after → CanCome after
comes_next (InBook due) after words can h = subst CanCome (sym h.2)
    (comes_after h.0 (book_faults.comes_next due h.0 words (in_book due can).0 h.1))
comes_next (StepsDue pages) after words can h = subst CanCome (sym h.1) tt
comes_next (InSteps pages told) after words can (inl h) = subst CanCome (sym h.1) tt
comes_next (InSteps pages told) after words can (inr h) = subst CanCome (sym h.3) tt
comes_next (AllRead pages told) after words can h = absurd h

abbrev Done : ModelDue → Type 0
Done due = Completes model_rules ended due

then_steps : (due : ModelBookDue) → book_faults.Done due → Done (after_book due)
then_steps due c = record {
  said = (c.said, []);
  lines = c.lines ++ steps_lines [];
  right = AllPass-append model_rules (after_book due) (StepsDue c.said) (AllRead c.said [])
      c.lines (steps_lines []) (book_passes due (AtEnd c.said) c.lines c.right)
      (steps_pass c.said [] tt tt);
}

completes : (due : ModelDue) → CanCome due → Done due
completes (InBook due) can =
    let here = in_book due can in
    subst Done here.1 (then_steps due (book_faults.completes due here.0))
completes (StepsDue pages) can = record {
  said = (pages, []);
  lines = steps_lines [];
  right = steps_pass pages [] tt tt;
}
completes (InSteps pages told) can = record {
  said = (pages, told);
  lines = end_words ∷ [];
  right = (AllRead pages told, inl (refl, refl), refl);
}
completes (AllRead pages told) can =
    record { said = (pages, told); lines = []; right = refl }

-- ---- the names of faults

-- the test is one of a whole line: not that the text is cut, and not that bytes follow the end
abbrev IsOfLine : What → Type 0
IsOfLine name = (name ≢ what.Cut) × (name ≢ what.Rest)

told_named : (told : List ToldLine) (words : List (List ℕ)) (name : What)
    → ToldFails told words name → IsOfLine name
told_named told words what.Place h = (λ e. absurd cc, λ e. absurd cc)
told_named told words what.Reply h = (λ e. absurd cc, λ e. absurd cc)
told_named told words what.Last h = (λ e. absurd cc, λ e. absurd cc)
told_named told words _ h = absurd h

line_named : (due : ModelDue) (words : List (List ℕ)) (name : What) → ModelFails due words name
    → IsOfLine name
line_named (InBook due) words name h = book_faults.line_named due words name h
line_named (StepsDue pages) words name h =
    (λ e. absurd (cc (h.0, e)), λ e. absurd (cc (h.0, e)))
line_named (InSteps pages told) words name h = told_named told words name h
line_named (AllRead pages told) words name h = absurd h

line_or_end : (due : ModelDue) → CanCome due → (model_wanted due ≡ ALine)
    ⊎ ((said : Said) × (due ≡ ended said))
line_or_end (InBook due) can = inl refl
line_or_end (StepsDue pages) can = inl refl
line_or_end (InSteps pages told) can = inl refl
line_or_end (AllRead pages told) can = inr ((pages, told), refl)

-- the first fault is where the bytes stop being the beginning of a model's text
pub leaves_texts : FirstFaultsLeaveTexts
leaves_texts bytes fault h = leavings.leaves_texts model_rules model_sharp nothing_read ended
    same_end (λ said. refl) CanCome tt comes_next completes line_named line_or_end bytes fault h
