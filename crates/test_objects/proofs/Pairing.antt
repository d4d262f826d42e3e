-- The pairs of a caller in a log, in a log that extends it, and in one with one entry more.
use Rattle.std.proofs.Common.{◌≡◌, ℕ, ◌==◌, true, false, List, [], ◌∷◌, ◌++◌, map, refl, sym, ap, ◌∙◌, inl, inr, append_assoc}
use Rattle.std.specs.List.{filter}
use Rattle.std.proofs.lemmas.Bool.{cases_Bool, cond-true, cond-false}
use Rattle.std.proofs.lemmas.List.{append-nil}
use Rattle.shared_words.specs.declared.entry.Entry.{Entry}
use Rattle.shared_words.specs.Entries.{calls_by}
use Rattle.test_objects.specs.Pairs.{pairs_after, PairsHaveTheCalls}

module _ (answer : List Entry → ℕ) (i : ℕ) where
  -- an entry that is put first in the rest of the log adds a pair where it is the caller's, and
  -- else none
  pub after_own : (prefix rest : List Entry) (e : Entry) → (e.caller == i) ≡ true
      → pairs_after answer i prefix (e ∷ rest)
      ≡ (e.op, answer (prefix ++ e ∷ [])) ∷ pairs_after answer i (prefix ++ e ∷ []) rest
  after_own prefix rest e own = cond-true (e.caller == i) _ _ own

  after_other : (prefix rest : List Entry) (e : Entry) → (e.caller == i) ≡ false
      → pairs_after answer i prefix (e ∷ rest) ≡ pairs_after answer i (prefix ++ e ∷ []) rest
  after_other prefix rest e other = cond-false (e.caller == i) _ _ other

  pub pairs_after-append : (prefix xs ys : List Entry) → pairs_after answer i prefix (xs ++ ys)
      ≡ pairs_after answer i prefix xs ++ pairs_after answer i (prefix ++ xs) ys
  pairs_after-append prefix [] ys =
      ap (λ (f : List Entry). pairs_after answer i f ys) (sym (append-nil prefix))
  pairs_after-append prefix (e ∷ xs) ys =
      let rest : pairs_after answer i (prefix ++ e ∷ []) (xs ++ ys)
      ≡ pairs_after answer i (prefix ++ e ∷ []) xs ++ pairs_after answer i (prefix ++ e ∷ xs) ys =
      pairs_after-append (prefix ++ e ∷ []) xs ys ∙ ap
      (λ (f : List Entry). pairs_after answer i (prefix ++ e ∷ []) xs ++ pairs_after answer i f ys)
      (append_assoc prefix (e ∷ []) xs) in
      elim (cases_Bool (e.caller == i)) [
        | inl own ↦
            after_own prefix (xs ++ ys) e own
            ∙ ap (λ (l : List (ℕ × ℕ)). (e.op, answer (prefix ++ e ∷ [])) ∷ l) rest
            ∙ ap (λ (l : List (ℕ × ℕ)). l ++ pairs_after answer i (prefix ++ e ∷ xs) ys)
            (sym (after_own prefix xs e own))
        | inr other ↦
            after_other prefix (xs ++ ys) e other
            ∙ rest
            ∙ ap (λ (l : List (ℕ × ℕ)). l ++ pairs_after answer i (prefix ++ e ∷ xs) ys)
            (sym (after_other prefix xs e other))
      ]

  -- the operations of the pairs are those of the caller
  calls_after : (prefix log : List Entry)
      → map (λ (pair : ℕ × ℕ). pair.0) (pairs_after answer i prefix log) ≡ calls_by i log
  calls_after prefix [] = refl
  calls_after prefix (e ∷ log) = elim (cases_Bool (e.caller == i)) [
    | inl own ↦
        ap (map (λ (pair : ℕ × ℕ). pair.0)) (after_own prefix log e own)
        ∙ ap (λ (l : List ℕ). e.op ∷ l) (calls_after (prefix ++ e ∷ []) log)
        ∙ sym (ap (map (λ (d : Entry). d.op)) (cond-true (e.caller == i) (e ∷ filter
        (λ (d : Entry). d.caller == i) log) (filter (λ (d : Entry). d.caller == i) log) own))
    | inr other ↦
        ap (map (λ (pair : ℕ × ℕ). pair.0)) (after_other prefix log e other)
        ∙ calls_after (prefix ++ e ∷ []) log
        ∙ sym (ap (map (λ (d : Entry). d.op)) (cond-false (e.caller == i) (e ∷ filter
        (λ (d : Entry). d.caller == i) log) (filter (λ (d : Entry). d.caller == i) log) other))
  ]

  -- where the log has no call of the caller, there is no pair
  pub none_after : (prefix log : List Entry)
      → calls_by i log ≡ [] → pairs_after answer i prefix log ≡ []
  none_after prefix log none =
      nil_from_map (pairs_after answer i prefix log) (calls_after prefix log ∙ none)
    where
      nil_from_map : (l : List (ℕ × ℕ)) → map (λ (pair : ℕ × ℕ). pair.0) l ≡ [] → l ≡ []
      nil_from_map [] e = refl
      nil_from_map (x ∷ xs) e = absurd cc

pub pairs_have_the_calls : PairsHaveTheCalls
pairs_have_the_calls answer log i = calls_after answer i [] log
