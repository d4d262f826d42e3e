-- One more part of what is written of a log.
use Rattle.std.proofs.Common.{◌≡◌, ◌∙◌, ◌&&◌, ◌++◌, ◌∷◌, [], Bool, true, ℕ, List, arith, ap, refl, subst, sym}
use Rattle.std.proofs.lemmas.List.{append-nil, map-append}
use Rattle.std.proofs.lemmas.List.Concat.{flat_map-append}
use Rattle.std.proofs.lemmas.List.Folds.{list_all-append}
use Rattle.list_laws.proofs.Elements.{AllByRecursion-append}
use Rattle.history_text.specs.declared.call.LogCall.{LogCall}
use Rattle.log_books.specs.declared.options.Options.{Options}
use Rattle.log_books.specs.Keys.{KeyAt}
use Rattle.log_books.specs.Parts.{IsPart, Part, AreParts}

-- the parts with one more are parts of the longer text
pub parts_more : (options : Options) (log : List LogCall) (keys : List KeyAt) (at : KeyAt)
    (has more : Bool) (text part : List ℕ) → IsPart options log at more part
    → AreParts options log keys has text
    → AreParts options log (keys ++ at ∷ []) (has && more) (text ++ part)
parts_more options log keys at has more text part is are =
    let one : Part = record { at = at; has_book = more; text = part } in
    record {
      parts = are.parts ++ one ∷ [];
      of_keys = map-append Part.at are.parts (one ∷ []) ∙ ap (λ (l : List KeyAt). l ++ at ∷ []) are.of_keys;
      whole = flat_map-append Part.text are.parts (one ∷ [])
          ∙ ap (λ (l : List ℕ). l ++ (part ++ [])) are.whole
          ∙ ap (λ (l : List ℕ). text ++ l) (append-nil part);
      each = AllByRecursion-append (λ p. IsPart options log p.at p.has_book p.text) are.parts
          (one ∷ []) are.each (is, tt);
      books = grind (arith, list_all-append Part.has_book are.parts (one ∷ []), are.books);
    }

-- the same, where the longer text and whether it has books are known by equations
pub parts_more_at : (options : Options) (log : List LogCall) (keys : List KeyAt) (at : KeyAt)
    (has more all : Bool) (text part joined : List ℕ) → all ≡ (has && more) → joined ≡ text ++ part
    → IsPart options log at more part → AreParts options log keys has text
    → AreParts options log (keys ++ at ∷ []) all joined
parts_more_at options log keys at has more all text part joined both whole is are =
    subst (λ (b : Bool). AreParts options log (keys ++ at ∷ []) b joined) (sym both)
    (subst (λ (l : List ℕ). AreParts options log (keys ++ at ∷ []) (has && more) l) (sym whole)
    (parts_more options log keys at has more text part is are))

-- no parts, of an empty text
pub no_parts : (options : Options) (log : List LogCall) (text : List ℕ) → text ≡ []
    → AreParts options log [] true text
no_parts options log text none =
    subst (λ (l : List ℕ). AreParts options log [] true l) (sym none)
    (record { parts = []; of_keys = refl; whole = refl; each = tt; books = refl })
