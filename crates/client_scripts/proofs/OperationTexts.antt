-- The words of an operation, taken one by one to the end of a line.
use Rattle.std.proofs.Common.{◌≡◌, ℕ, ◌+◌, ◌-◌, ◌<◌, List, [], ◌∷◌, ◌++◌, length, refl, sym, ap, ◌∙◌, arith, inl, inr}
use Rattle.std.proofs.lemmas.List.{append-nil, length-append}
use Rattle.seq_objects.specs.declared.kind.Kind.{Kind}
use Rattle.seq_objects.specs.Words.{operation_words}
use Rattle.text_fields.specs.declared.version.Version.{Version}
use Rattle.text_fields.specs.Version.{word_limit}
use Rattle.text_fields.specs.Operations.{IsSpelled, kind_operations}
use Rattle.text_fields.specs.OperationLaws.{few_operation_words, few_kind_words}
use Rattle.book_text.proofs.EntryTexts.{same_after}
use Rattle.book_text.proofs.WordTexts.{AreTaken}
use Rattle.client_scripts.proofs.SharpScripts.{small_has, one_operation}
use Rattle.std.proofs.lemmas.Bool.{ltb-true}

nothing_after : (xs : List (List ℕ)) → length xs ≡ 0 → xs ≡ []
nothing_after [] e = refl
nothing_after (x ∷ xs) e = absurd (omega arith)

module _ (version : Version) (kind : Kind) (all prefix left : List (List ℕ))
    (taken : AreTaken all prefix left) where
  -- no operation has more than three words
  pub too_many : (word : List ℕ) (words : List (List ℕ)) → left ≡ word ∷ words → (op : ℕ)
      → all ≡ operation_words kind op → ⊥
  too_many word words more op is =
      let size : length all ≡ length prefix + length left =
      ap length taken.whole ∙ length-append prefix left in
      elim taken.enough [
        | inl none ↦ absurd (cc (none, more))
        | inr three ↦ omega (arith, ap length more, ap length is, few_kind_words kind op)
      ]

  all_prefix : left ≡ [] → all ≡ prefix
  all_prefix end = taken.whole ∙ ap (λ (ws : List (List ℕ)). prefix ++ ws) end ∙ append-nil prefix

  pub none_spelled : left
      ≡ [] → ((op used : ℕ) → IsSpelled (kind_operations version kind) prefix op used → ⊥)
      → (op : ℕ) → op < word_limit version → all ≡ operation_words kind op → ⊥
  none_spelled end none op small is = none op (length (operation_words kind op) - 1) (record {
    has = small_has version op small;
    suffix = [];
    whole = sym (all_prefix end) ∙ is ∙ sym (append-nil (operation_words kind op));
    count = omega (arith, (few_operation_words kind op).some);
  })

  -- an operation whose words are all that is left is the one that the line gives
  pub spelled_all : left ≡ [] → (op used : ℕ)
      → IsSpelled (kind_operations version kind) prefix op used → length prefix ≡ used + 1
      → (op < word_limit version) × (all ≡ operation_words kind op)
  spelled_all end op used h size =
      let sizes : length prefix ≡ length (operation_words kind op) + length h.suffix =
      ap length h.whole ∙ length-append (operation_words kind op) h.suffix in
      let none : h.suffix ≡ [] = nothing_after h.suffix (omega (arith, h.count)) in (
        ltb-true op (word_limit version) h.has,
        all_prefix end ∙ h.whole ∙ ap (λ (ws : List (List ℕ)). operation_words kind op ++ ws) none
            ∙ append-nil (operation_words kind op),
      )

  -- where an operation's words are only a part of what is left, no operation's words are all of it
  pub spelled_part : left ≡ [] → (op used : ℕ)
      → IsSpelled (kind_operations version kind) prefix op used → (length prefix ≡ used + 1 → ⊥)
      → (other : ℕ) → other < word_limit version → all ≡ operation_words kind other → ⊥
  spelled_part end op used h part other small is =
      let joined : operation_words kind op ++ h.suffix ≡ operation_words kind other ++ [] =
      sym h.whole ∙ sym (all_prefix end) ∙ is ∙ sym (append-nil (operation_words kind other)) in
      let same : op ≡ other = one_operation version kind op other
      h.suffix [] (ltb-true op (word_limit version) h.has) small joined in
      let none : h.suffix ≡ [] = same_after (operation_words kind op)
      h.suffix [] (joined ∙ ap (λ (o : ℕ). operation_words kind o ++ []) (sym same)) in
      let sizes : length prefix ≡ length (operation_words kind op) + length h.suffix =
      ap length h.whole ∙ length-append (operation_words kind op) h.suffix in
      part (omega (arith, h.count, ap length none))
