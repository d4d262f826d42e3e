-- The lines of places, which are written one after another after those of a book.
use Rattle.std.proofs.Common.{◌≡◌, ℕ, ◌+◌, ◌<◌, ◌≤◌, List, [], ◌∷◌, ◌++◌, length, map, take, get_or, sym, ap, subst, ◌∙◌, append_assoc}
use Rattle.std.specs.List.{AllByRecursion}
use Rattle.std.proofs.lemmas.List.{map-append, take_more, take_all}
use Rattle.list_laws.proofs.Elements.{AllByRecursion-append}
use Rattle.book_base.specs.declared.call.Place.{Place}
use Rattle.text_fields.specs.Lines.{line_text, text_of}
use Rattle.book_text.specs.Grammar.{end_words}
use Rattle.book_text.proofs.Texts.{one_more}
use Rattle.certificate_text.specs.Grammar.{order_words, place_line, order_lines, IsPlace}

module _ (prefix : List (List (List ℕ))) (order : List Place) where
  -- the lines before the order, its title, and the lines of these places
  abbrev pub lines_to : List Place → List (List (List ℕ))
  lines_to places = prefix ++ order_words ∷ map place_line places

  pub place_written : (old new : List ℕ) (i : ℕ) (d : Place) → i < length order → old
      ≡ text_of (lines_to (take i order)) → new ≡ old ++ line_text (place_line (get_or order i d))
      → new ≡ text_of (lines_to (take (i + 1) order))
  place_written old new i d lt h k =
      let place : Place = get_or order i d in
      one_more [] old new (lines_to (take i order)) (place_line place) h k
      ∙ ap text_of
      (append_assoc prefix (order_words ∷ map place_line (take i order)) (place_line place ∷ [])
      ∙ ap (λ (ls : List (List (List ℕ))). prefix ++ order_words ∷ ls)
      (sym (map-append place_line (take i order) (place ∷ []))
      ∙ ap (map place_line) (sym (take_more order i d lt))))

  pub end_written : (old new : List ℕ) (i : ℕ) → length order ≤ i
      → old ≡ text_of (lines_to (take i order)) → new ≡ old ++ line_text end_words
      → new ≡ text_of (prefix ++ order_lines order)
  end_written old new i le h k =
      one_more [] old new (lines_to (take i order)) end_words h k
      ∙ ap text_of
      (append_assoc prefix (order_words ∷ map place_line (take i order)) (end_words ∷ [])
      ∙ ap
      (λ (places : List Place). prefix ++ order_words ∷ (map place_line places ++ end_words ∷ []))
      (take_all i order le))

  pub places_more : (i : ℕ) (d : Place) → i < length order → AllByRecursion IsPlace (take i order)
      → IsPlace (get_or order i d) → AllByRecursion IsPlace (take (i + 1) order)
  places_more i d lt h k = subst (AllByRecursion IsPlace) (sym (take_more order i d lt))
      (AllByRecursion-append IsPlace (take i order) (get_or order i d ∷ []) h (k, tt))

  pub places_all : (i : ℕ) → length order ≤ i → AllByRecursion IsPlace (take i order)
      → AllByRecursion IsPlace order
  places_all i le h = subst (AllByRecursion IsPlace) (take_all i order le) h
