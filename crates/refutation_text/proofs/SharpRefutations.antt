-- The rules of a refutation's text are sharp.
use Rattle.std.proofs.Common.{◌≡◌, ℕ, List, Option, Some, refl, sym, ap, subst, ◌∙◌, arith}
use Rattle.std.specs.Prelude.{codes}
use Rattle.book_base.specs.declared.fault.What.{What}
use Rattle.text_fields.specs.declared.version.Version.TheVariants.{Second}
use Rattle.text_fields.specs.Lines.{AreSolid}
use Rattle.text_fields.specs.Faults.{ALine, AreSharp}
use Rattle.text_fields.proofs.HeadTexts.{plain}
use Rattle.book_text.specs.BookRules.{book_rules}
use Rattle.book_text.proofs.SharpBooks.{book_sharp}
use Rattle.refutation_text.specs.Grammar.{refutation_words}
use Rattle.refutation_text.specs.RefutationRules.{BodyDue, InSteps, EndDue, InEntries, InPairs, InLevels, BodyRead, after_line, body_wanted, BodyPasses, BodyFails, RefutationDue, InBook, StepsDue, InBody, after_book, RefutationPasses, RefutationFails, refutation_wanted, refutation_rules}
use Rattle.refutation_text.proofs.Lines.{one_line, line_solid}

same_some : (a b : BodyDue) → ◌≡◌ {A = Option BodyDue} (Some a) (Some b) → a ≡ b
same_some a b e = cc

body_one_way : (due a b : BodyDue) (words : List (List ℕ)) → BodyPasses due words a
    → BodyPasses due words b → a ≡ b
body_one_way due a b words h k =
    same_some a b (sym h.2 ∙ ap (after_line due) (one_line words h.0 k.0 h.1 k.1) ∙ k.2)

body_apart : (due after : BodyDue) (words : List (List ℕ)) (name : What)
    → BodyPasses due words after → BodyFails due words name → ⊥
body_apart due after words name h k = absurd (cc (h.2, k.1 h.0 h.1))

body_lines : (due after : BodyDue) (words : List (List ℕ)) → BodyPasses due words after
    → body_wanted due ≡ ALine
body_lines (InSteps steps) after words h = refl
body_lines (EndDue steps ending) after words h = refl
body_lines (InEntries steps entries) after words h = refl
body_lines (InPairs steps entries) after words h = refl
body_lines (InLevels steps entries) after words h = refl
body_lines (BodyRead steps ending) after words h = absurd (cc (h.2))

book : AreSharp (book_rules Second)
book = book_sharp Second

title_solid : AreSolid refutation_words
title_solid = record {
  some = omega arith;
  each = (
    plain (codes "refutation") (
      omega arith,
      (
        omega arith,
        (
          omega arith,
          (
            omega arith,
            (
              omega arith,
              (
                omega arith,
                (omega arith, (omega arith, (omega arith, (omega arith, tt)))),
              ),
            ),
          ),
        ),
      ),
    ) (omega arith),
    (plain (codes "2") (omega arith, tt) (omega arith), tt),
  );
}

one_way : (due a b : RefutationDue) (words : List (List ℕ)) → RefutationPasses due words a
    → RefutationPasses due words b → a ≡ b
one_way (InBook due) a b words h k =
    h.2 ∙ ap after_book (book.one_way due h.0 k.0 words h.1 k.1) ∙ sym k.2
one_way (StepsDue kind pages) a b words h k = h.1 ∙ sym k.1
one_way (InBody kind pages due) a b words h k =
    h.2 ∙ ap (InBody kind pages) (body_one_way due h.0 k.0 words h.1 k.1) ∙ sym k.2

apart : (due after : RefutationDue) (words : List (List ℕ)) (name : What)
    → RefutationPasses due words after → RefutationFails due words name → ⊥
apart (InBook due) after words name h k = book.apart due h.0 words name h.1 k
apart (StepsDue kind pages) after words name h k = k.1 h.0
apart (InBody kind pages due) after words name h k = body_apart due h.0 words name h.1 k

solid : (due after : RefutationDue) (words : List (List ℕ)) → RefutationPasses due words after
    → AreSolid words
solid (InBook due) after words h = book.solid due h.0 words h.1
solid (StepsDue kind pages) after words h = subst AreSolid (sym h.0) title_solid
solid (InBody kind pages due) after words h = line_solid words h.1.0 h.1.1

wanted : (due after : RefutationDue) (words : List (List ℕ)) → RefutationPasses due words after
    → refutation_wanted due ≡ ALine
wanted (InBook due) after words h = refl
wanted (StepsDue kind pages) after words h = refl
wanted (InBody kind pages due) after words h = body_lines due h.0 words h.1

-- the rules of a refutation's text are sharp
pub refutation_sharp : AreSharp refutation_rules
refutation_sharp = record { one_way = one_way; apart = apart; solid = solid; lines = wanted }
