-- Words that are callers and numbers, as they are read one after another.
use Rattle.std.proofs.Common.{◌≡◌, ℕ, List, [], ◌∷◌, ◌++◌, decimal, sym, ap, ◌∙◌}
use Rattle.std.specs.List.{AllByRecursion, flat_map}
use Rattle.book_base.specs.declared.call.Call.{Call}
use Rattle.text_fields.proofs.NumberTexts.{same_first}
use Rattle.book_text.specs.CallLines.{place_words}
use Rattle.certificate_text.specs.Grammar.{IsNamed}

-- the words after some calls are calls where all words are
calls_after : (xs ys : List Call) (words : List (List ℕ))
    → flat_map place_words xs ++ words ≡ flat_map place_words ys → AllByRecursion IsNamed ys
    → (zs : List Call) × AllByRecursion IsNamed zs × (words ≡ flat_map place_words zs)
calls_after [] ys words e h = (ys, h, e)
calls_after (x ∷ xs) [] words e h = absurd cc
calls_after (x ∷ xs) (y ∷ ys) words e h =
    calls_after xs ys words (same_first _ _ _ _ (same_first _ _ _ _ e).1).1 h.1

begins_with_none : (zs : List Call) (words : List (List ℕ)) (word : List ℕ)
    (more : List (List ℕ)) → words ≡ flat_map place_words zs → AllByRecursion IsNamed zs
    → words ≡ word ∷ more
    → ((call : Call) (suffix : List (List ℕ)) → IsNamed call
    → words ≡ place_words call ++ suffix → ⊥) → ⊥
begins_with_none [] words word more e h some none = absurd (cc (sym e ∙ some))
begins_with_none (z ∷ zs) words word more e h some none = none z (flat_map place_words zs) h.0 e

-- words that begin with calls, and go on with words that name none, aren't all calls
pub not_all_calls : (xs ys : List Call) (words more : List (List ℕ)) (word : List ℕ)
    → flat_map place_words xs ++ words ≡ flat_map place_words ys → AllByRecursion IsNamed ys
    → words ≡ word ∷ more
    → ((call : Call) (suffix : List (List ℕ)) → IsNamed call
    → words ≡ place_words call ++ suffix → ⊥) → ⊥
not_all_calls xs ys words more word e h some none =
    let after = calls_after xs ys words e h in
    begins_with_none after.0 words word more after.2 after.1 some none
