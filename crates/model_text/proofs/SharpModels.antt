-- The rules of a model's text are sharp.
use Rattle.std.proofs.Common.{◌≡◌, ℕ, ◌<◌, List, [], ◌∷◌, ◌++◌, length, false, refl, sym, ap, subst, ◌∙◌, arith, inl, inr}
use Rattle.std.specs.Prelude.{codes, IsTrue}
use Rattle.std.proofs.lemmas.Bool.{both_ways}
use Rattle.book_base.specs.declared.fault.What.{What}
use Rattle.book_base.specs.declared.fault.What.TheVariants as what
use Rattle.seq_objects.specs.Replies.{reply_word}
use Rattle.text_fields.specs.Lines.{AreSolid}
use Rattle.text_fields.specs.Faults.{ALine, AreSharp, turn_of, IsFirstTest}
use Rattle.text_fields.proofs.HeadTexts.{plain}
use Rattle.book_text.specs.Grammar.{end_words}
use Rattle.model_text.specs.declared.told_line.Subject.{Subject}
use Rattle.model_text.specs.declared.told_line.ToldLine.{ToldLine}
use Rattle.model_text.specs.Told.{rises_after, keeps}
use Rattle.model_text.specs.Grammar.{steps_words, subject_words, told_words}
use Rattle.model_text.specs.ModelRules.{ModelDue, InBook, StepsDue, InSteps, AllRead, after_book, IsToldLine, ToldFails, ModelPasses, ModelFails, model_wanted, model_rules}
use Rattle.model_text.proofs.Subjects.{one_subject, one_line, two_words, line_solid}
use Rattle.model_text.proofs.SharpModelBooks.{model_book_sharp}

-- ---- told lines

-- the last line of a text is no told line
pub end_or_told : (told : List ToldLine) (words : List (List ℕ)) (line : ToldLine)
    → words ≡ end_words → IsToldLine told words line → ⊥
end_or_told told words line e h =
    let size : length (told_words line) ≡ length end_words =
    ap (length {A = List ℕ}) (sym h.text ∙ e) in
    let two = two_words line.subject (reply_word line.reply ∷ []) h.may.subject in
    omega (arith, size, two)

pub one_told : (told : List ToldLine) (words : List (List ℕ)) (a b : ToldLine)
    → IsToldLine told words a → IsToldLine told words b → a ≡ b
one_told told words a b h k = one_line a b h.may k.may (sym h.text ∙ k.text)

-- a told line doesn't fail the tests of its form
pub no_place : (told : List ToldLine) (words : List (List ℕ)) (line : ToldLine)
    → IsToldLine told words line → ToldFails told words what.Place → ⊥
no_place told words line h k =
    k.1 line.subject (reply_word line.reply ∷ []) h.may.subject h.text

pub no_reply : (told : List ToldLine) (words : List (List ℕ)) (line : ToldLine)
    → IsToldLine told words line → ToldFails told words what.Reply → ⊥
no_reply told words line h k =
    let one = one_subject k.0 line.subject k.1 (reply_word line.reply ∷ []) k.2 h.may.subject
    (sym k.3 ∙ h.text) in
    k.4 line.reply h.may.reply
    (subst (λ (s : Subject). IsTrue (keeps told s line.reply)) (sym one.subjects) h.keeps_promises)
    one.suffix

-- a told line that comes after the one before it fails no test
pub told_apart : (told : List ToldLine) (words : List (List ℕ)) (line : ToldLine) (name : What)
    → IsToldLine told words line → IsTrue (rises_after told line) → ToldFails told words name → ⊥
told_apart told words line what.Place h rises k = no_place told words line h k
told_apart told words line what.Reply h rises k = no_reply told words line h k
told_apart told words line what.Last h rises k =
    let same : k.0 ≡ line = one_told told words k.0 line k.1 h in
    both_ways (rises_after told line)
    (subst (λ (l : ToldLine). rises_after told l ≡ false) same k.2) rises
told_apart told words line _ h rises k = k

-- a told line that doesn't come after the one before it fails this test first
last_first : (told : List ToldLine) (words : List (List ℕ)) (line : ToldLine) (other : What)
    → IsToldLine told words line → turn_of other < turn_of what.Last → ToldFails told words other
    → ⊥
last_first told words line what.Place h lt k = no_place told words line h k
last_first told words line what.Reply h lt k = no_reply told words line h k
last_first told words line what.Last h lt k = omega arith
last_first told words line _ h lt k = k

pub last_test : (told : List ToldLine) (words : List (List ℕ)) (line : ToldLine)
    → IsToldLine told words line → rises_after told line ≡ false
    → IsFirstTest (ToldFails told words) what.Last
last_test told words line h falls = record {
  fails = (line, h, falls);
  first = λ other lt k. last_first told words line other h lt k;
}

-- the last line of a text fails no test
pub end_apart : (told : List ToldLine) (words : List (List ℕ)) (name : What) → words ≡ end_words
    → ToldFails told words name → ⊥
end_apart told words what.Place e k = k.0 e
end_apart told words what.Reply e k =
    let size : length (subject_words k.0 ++ k.1) ≡ length end_words =
    ap (length {A = List ℕ}) (sym k.3 ∙ e) in
    omega (arith, size, two_words k.0 k.1 k.2)
end_apart told words what.Last e k = end_or_told told words k.0 e k.1
end_apart told words _ e k = k

end_solid : AreSolid end_words
end_solid = record {
  some = omega arith;
  each = (plain (codes "end") (omega arith, (omega arith, (omega arith, tt))) (omega arith), tt);
}

steps_solid : AreSolid steps_words
steps_solid = record {
  some = omega arith;
  each = (
    plain (codes "steps")
        (omega arith, (omega arith, (omega arith, (omega arith, (omega arith, tt))))) (omega arith),
    (plain (codes "2") (omega arith, tt) (omega arith), tt),
  );
}

-- ---- all lines

one_way : (due a b : ModelDue) (words : List (List ℕ)) → ModelPasses due words a
    → ModelPasses due words b → a ≡ b
one_way (InBook due) a b words h k =
    h.2 ∙ ap after_book (model_book_sharp.one_way due h.0 k.0 words h.1 k.1) ∙ sym k.2
one_way (StepsDue pages) a b words h k = h.1 ∙ sym k.1
one_way (InSteps pages told) a b words (inl h) (inl k) = h.1 ∙ sym k.1
one_way (InSteps pages told) a b words (inl h) (inr k) =
    absurd (end_or_told told words k.0 h.0 k.1)
one_way (InSteps pages told) a b words (inr h) (inl k) =
    absurd (end_or_told told words h.0 k.0 h.1)
one_way (InSteps pages told) a b words (inr h) (inr k) =
    h.3 ∙ ap (λ (line : ToldLine). InSteps pages (told ++ line ∷ []))
    (one_told told words h.0 k.0 h.1 k.1) ∙ sym k.3
one_way (AllRead pages told) a b words h k = absurd h

apart : (due after : ModelDue) (words : List (List ℕ)) (name : What)
    → ModelPasses due words after → ModelFails due words name → ⊥
apart (InBook due) after words name h k = model_book_sharp.apart due h.0 words name h.1 k
apart (StepsDue pages) after words name h k = k.1 h.0
apart (InSteps pages told) after words name (inl h) k = end_apart told words name h.0 k
apart (InSteps pages told) after words name (inr h) k = told_apart told words h.0 name h.1 h.2 k
apart (AllRead pages told) after words name h k = h

solid : (due after : ModelDue) (words : List (List ℕ)) → ModelPasses due words after
    → AreSolid words
solid (InBook due) after words h = model_book_sharp.solid due h.0 words h.1
solid (StepsDue pages) after words h = subst AreSolid (sym h.0) steps_solid
solid (InSteps pages told) after words (inl h) = subst AreSolid (sym h.0) end_solid
solid (InSteps pages told) after words (inr h) =
    subst AreSolid (sym h.1.text) (line_solid h.0 h.1.may)
solid (AllRead pages told) after words h = absurd h

wanted : (due after : ModelDue) (words : List (List ℕ)) → ModelPasses due words after
    → model_wanted due ≡ ALine
wanted (InBook due) after words h = refl
wanted (StepsDue pages) after words h = refl
wanted (InSteps pages told) after words h = refl
wanted (AllRead pages told) after words h = absurd h

-- the rules of a model's text are sharp
pub model_sharp : AreSharp model_rules
model_sharp = record { one_way = one_way; apart = apart; solid = solid; lines = wanted }
