-- Lines of a refutation that are written one after another.
use Rattle.std.proofs.Common.{◌≡◌, ℕ, ◌+◌, ◌<◌, ◌≤◌, List, [], ◌∷◌, ◌++◌, length, map, take, get_or, sym, ap, subst, ◌∙◌}
use Rattle.std.specs.Prelude.{Result, Ok, Err, OnOk}
use Rattle.std.proofs.lemmas.List.{append-nil, map-append, take_more, take_all}
use Rattle.list_laws.proofs.Elements.{AllByRecursion-append}
use Rattle.text_fields.specs.Lines.{line_text, text_of}
use Rattle.book_text.proofs.Texts.{text_of-both, text_of-one}
use Rattle.book_text.proofs.WrittenLines.{both_pieces}
use Rattle.refutation_text.specs.Said.{LineSaid}
use Rattle.refutation_text.specs.Grammar.{MaySay, line_words}
use Rattle.evidence_text.specs.Written.{IsWritten}

-- one line is written
pub one_written : (old new : List ℕ) (line : LineSaid) → MaySay line
    → new ≡ old ++ line_text (line_words line) → IsWritten old (line ∷ []) new
one_written old new line may h = record {
  may = (may, tt);
  text = h ∙ ap (λ (x : List ℕ). old ++ x) (sym (text_of-one (line_words line)));
}

-- one line is written where a writer succeeds
pub one_if_ok : {T E : Type 0} (r : Result T E) (old new : List ℕ) (line : LineSaid)
    → OnOk r (new ≡ old ++ line_text (line_words line)) → OnOk r (MaySay line)
    → OnOk r (IsWritten old (line ∷ []) new)
one_if_ok (Ok x) old new line text may = one_written old new line may text
one_if_ok (Err e) old new line text may = tt

-- lines are written after others
pub both_written : (old middle new : List ℕ) (a b : List LineSaid) → IsWritten old a middle
    → IsWritten middle b new → IsWritten old (a ++ b) new
both_written old middle new a b h k =
    let firsts : List (List (List ℕ)) = map line_words a in
    let others : List (List (List ℕ)) = map line_words b in
    record {
      may = AllByRecursion-append MaySay a b h.may k.may;
      text = both_pieces old middle new (text_of firsts) (text_of others) h.text k.text
          ∙ ap (λ (x : List ℕ). old ++ x)
          (sym (text_of-both firsts others) ∙ ap text_of (sym (map-append line_words a b)));
    }

module _ {X : Type 0} (line : X → LineSaid) (items : List X) where
  -- the lines of all items are written
  pub all_written : (old new : List ℕ) (i : ℕ) → length items ≤ i
      → IsWritten old (map line (take i items)) new → IsWritten old (map line items) new
  all_written old new i le h =
      subst (λ (xs : List X). IsWritten old (map line xs) new) (take_all i items le) h
