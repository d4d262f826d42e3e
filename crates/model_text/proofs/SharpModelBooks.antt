-- The rules of a model's book are sharp.
use Rattle.std.proofs.Common.{◌≡◌, ℕ, List, [], ◌∷◌, map, decimal, refl, sym, ap, subst, ◌∙◌, arith}
use Rattle.std.specs.Prelude.{codes}
use Rattle.book_base.specs.declared.fault.What.{What}
use Rattle.book_base.specs.Book.{Page}
use Rattle.text_fields.specs.declared.version.Version.TheVariants.{Second}
use Rattle.text_fields.specs.Lines.{AreSolid}
use Rattle.text_fields.specs.Faults.{ALine, AreSharp}
use Rattle.text_fields.proofs.NumberTexts.{same_first, same_number, solid_decimal}
use Rattle.text_fields.proofs.HeadTexts.{plain, same_numbers, numbers_at_most, solid_numbers}
use Rattle.book_text.specs.CallLines.{no_call_read}
use Rattle.book_text.proofs.SharpBooks.{line_one_way, line_apart, line_solid}
use Rattle.model_text.specs.ModelWords.{model_operations}
use Rattle.model_text.specs.ModelWordLaws.{one_model_operation, solid_model_words}
use Rattle.model_text.specs.ModelBookRules.{ModelBookDue, TitleDue, ObjectDue, CallersDue, CountsDue, InCalls, AtEnd, in_calls, ModelBookPasses, ModelBookFails, model_book_wanted, model_book_rules}

one_way : (due a b : ModelBookDue) (words : List (List ℕ)) → ModelBookPasses due words a
    → ModelBookPasses due words b → a ≡ b
one_way TitleDue a b words h k = h.1 ∙ sym k.1
one_way ObjectDue a b words h k = h.1 ∙ sym k.1
one_way CallersDue a b words h k =
    let parts = same_first (codes "callers") (codes "callers") (decimal h.0 ∷ []) (decimal k.0 ∷ [])
    (sym h.2 ∙ k.2) in
    let numbers = same_first (decimal h.0) (decimal k.0) [] [] parts.1 in
    let same = same_number h.0 k.0 (omega (arith, h.1.few)) (omega (arith, k.1.few)) numbers.0 in
    h.3 ∙ ap CountsDue same ∙ sym k.3
one_way (CountsDue n) a b words h k =
    let parts = same_first (codes "calls") (codes "calls") (map decimal h.0) (map decimal k.0)
    (sym h.2 ∙ k.2) in
    let same = same_numbers h.0 k.0 (numbers_at_most 256 h.0 (omega arith) h.1.few)
    (numbers_at_most 256 k.0 (omega arith) k.1.few) parts.1 in
    h.3 ∙ ap (λ (calls : List ℕ). in_calls (no_call_read calls)) same ∙ sym k.3
one_way (InCalls book []) a b words h k = h.1 ∙ sym k.1
one_way (InCalls book (call ∷ calls)) a b words h k =
    let books = line_one_way Second model_operations one_model_operation solid_model_words book call words h.0.book
    k.0.book h.1.0 k.1.0 in
    let dues : h.0.due ≡ k.0.due = h.1.1 ∙ sym k.1.1 in
    h.2 ∙ ap (λ (b : List Page). InCalls b h.0.due) books ∙ ap (InCalls k.0.book) dues ∙ sym k.2
one_way (AtEnd book) a b words h k = absurd h

apart : (due after : ModelBookDue) (words : List (List ℕ)) (name : What)
    → ModelBookPasses due words after → ModelBookFails due words name → ⊥
apart TitleDue after words name h k = k.1 h.0
apart ObjectDue after words name h k = k.1 h.0
apart CallersDue after words name h k = k.1 h.0 h.1 h.2
apart (CountsDue n) after words name h k = k.1 h.0 h.1 h.2
apart (InCalls book []) after words name h k = k.1 h.0
apart (InCalls book (call ∷ calls)) after words name h k = line_apart Second model_operations
    one_model_operation solid_model_words book call calls words h.0.book name h.1.0 k
apart (AtEnd book) after words name h k = h

solid : (due after : ModelBookDue) (words : List (List ℕ)) → ModelBookPasses due words after
    → AreSolid words
solid TitleDue after words h = subst AreSolid (sym h.0) (record {
  some = omega arith;
  each = (
    plain (codes "book") (omega arith, (omega arith, (omega arith, (omega arith, tt))))
        (omega arith),
    (plain (codes "2") (omega arith, tt) (omega arith), tt),
  );
})
solid ObjectDue after words h = subst AreSolid (sym h.0) (record {
  some = omega arith;
  each = (
    plain (codes "object")
        (omega arith, (omega arith, (omega arith, (omega arith, (omega arith, (omega arith, tt))))))
        (omega arith),
    (
      plain (codes "model")
          (omega arith, (omega arith, (omega arith, (omega arith, (omega arith, tt)))))
          (omega arith),
      tt,
    ),
  );
})
solid CallersDue after words h = subst AreSolid (sym h.2) (record {
  some = omega arith;
  each = (
    plain (codes "callers") (
      omega arith,
      (omega arith, (omega arith, (omega arith, (omega arith, (omega arith, (omega arith, tt)))))),
    ) (omega arith),
    (solid_decimal h.0 (omega (arith, h.1.few)), tt),
  );
})
solid (CountsDue n) after words h = subst AreSolid (sym h.2) (record {
  some = omega arith;
  each = (
    plain (codes "calls")
        (omega arith, (omega arith, (omega arith, (omega arith, (omega arith, tt))))) (omega arith),
    solid_numbers h.0 (numbers_at_most 256 h.0 (omega arith) h.1.few),
  );
})
solid (InCalls book []) after words h = subst AreSolid (sym h.0) (record {
  some = omega arith;
  each = (plain (codes "end") (omega arith, (omega arith, (omega arith, tt))) (omega arith), tt);
})
solid (InCalls book (call ∷ calls)) after words h =
    line_solid Second model_operations one_model_operation solid_model_words book call words h.0.book h.1.0
solid (AtEnd book) after words h = absurd h

wanted : (due after : ModelBookDue) (words : List (List ℕ)) → ModelBookPasses due words after
    → model_book_wanted due ≡ ALine
wanted TitleDue after words h = refl
wanted ObjectDue after words h = refl
wanted CallersDue after words h = refl
wanted (CountsDue n) after words h = refl
wanted (InCalls book calls) after words h = refl
wanted (AtEnd book) after words h = absurd h

pub model_book_sharp : AreSharp model_book_rules
model_book_sharp = record { one_way = one_way; apart = apart; solid = solid; lines = wanted }
