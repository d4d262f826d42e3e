-- The words of a line, as they are taken one after another from its beginning.
use Rattle.std.proofs.Common.{◌≡◌, ℕ, zero, suc, ◌+◌, ◌-◌, ◌<◌, ◌≤◌, ◌^◌, ◌⊎◌, List, [], ◌∷◌, ◌++◌, length, drop, Bor, Option, Some, None, refl, sym, ap, subst, ◌∙◌, append_assoc, arith, inl, inr}
use Rattle.std.specs.Prelude.{IfSome, MatchOption, IsTrue, option_copied}
use Rattle.std.proofs.lemmas.List.{append-nil, drop_at, length-append}
use Rattle.list_laws.proofs.Places.{append_cases}
use Rattle.seq_objects.specs.Words.{further}
use Rattle.text_fields.specs.Counts.{AreAtMost, AreNumbers, HasWordAfterPairs, NoPairFirst}
use Rattle.text_fields.specs.Operations.{Operations, IsSpelled}

pub IfSome_then : {X : Type 0} {P Q : X → Type 0} (o : Option X) → IfSome o P
    → ((x : X) → P x → Q x) → IfSome o Q
IfSome_then None h f = tt
IfSome_then (Some x) h f = f x h

-- ---- views

pub numbers_below : (xs : List ℕ) → AreAtMost (2 ^ 64 - 1) xs → AreNumbers xs
numbers_below [] h = tt
numbers_below (x ∷ xs) h = (let le : x ≤ 2 ^ 64 - 1 = h.0 in omega arith, numbers_below xs h.1)

pub below_numbers : (xs : List ℕ) → AreNumbers xs → AreAtMost (2 ^ 64 - 1) xs
below_numbers [] h = tt
below_numbers (x ∷ xs) h = (let lt : x < 2 ^ 64 = h.0 in omega arith, below_numbers xs h.1)

-- words that go on with a word without a colon after pairs have a word after the pairs
pub after_pairs : (xs ys all : List (List ℕ)) (word : List ℕ) (words : List (List ℕ))
    → all ≡ xs ++ ys → ys ≡ word ∷ words → NoPairFirst ys → HasWordAfterPairs all
after_pairs [] ys all word words e f h =
    subst HasWordAfterPairs (sym (e ∙ f)) (inl (subst NoPairFirst f h))
after_pairs (x ∷ xs) ys all word words e f h =
    subst HasWordAfterPairs (sym e) (inr (after_pairs xs ys (xs ++ ys) word words refl f h))

-- ---- operations

-- the next word is taken, where there is one
abbrev Next : Option (Bor (List ℕ)) → List (List ℕ) → List (List ℕ) → Type 0
Next next words left =
    MatchOption next ((words ≡ []) × (left ≡ [])) (λ word. words ≡ word.now ∷ left)

-- the words that are left once the next word is taken
pub next_drops : (next : Option (Bor (List ℕ))) (words left : List (List ℕ)) → Next next words left
    → left ≡ drop 1 words
next_drops None words left h = h.1 ∙ sym (ap (drop 1) h.0)
next_drops (Some word) words left h = sym (ap (drop 1) h)

pub drop_more : (k : ℕ) (xs : List (List ℕ)) → drop (k + 1) xs ≡ drop 1 (drop k xs)
drop_more zero xs = refl
drop_more (suc k) [] = let same : suc k + 1 ≡ suc (k + 1) = omega arith in
    ap (λ (m : ℕ). drop {A = List ℕ} m []) same
drop_more (suc k) (x ∷ xs) = let same : suc k + 1 ≡ suc (k + 1) = omega arith in
    ap (λ (m : ℕ). drop m (x ∷ xs)) same ∙ drop_more k xs

-- after a first word the next two are taken, where they are there
pub record AreTaken (all prefix left : List (List ℕ)) : Type 0 where
  pub whole : all ≡ prefix ++ left
  pub enough : (left ≡ []) ⊎ (length prefix ≡ 3)

pub three_taken : (first : List ℕ) (second third : Option (Bor (List ℕ)))
    (all one two three : List (List ℕ)) → all ≡ first ∷ one → Next second one two
    → Next third two three
    → AreTaken all (first ∷ further (option_copied second) (option_copied third)) three
three_taken first None None all one two three e h k =
    record { whole = rw (e, h.0, k.1) refl; enough = inl k.1 }
three_taken first None (Some t) all one two three e h k = absurd (cc (h.1, k))
three_taken first (Some s) None all one two three e h k =
    record { whole = rw (e, h, k.0, k.1) refl; enough = inl k.1 }
three_taken first (Some s) (Some t) all one two three e h k =
    record { whole = rw (e, h, k) refl; enough = inr refl }

-- the words after an operation that was spelled are those that are left
pub spelled_prefix : (operations : Operations) (first : List ℕ)
    (all prefix one left : List (List ℕ)) (op used : ℕ) → all ≡ first ∷ one
    → AreTaken all prefix left → IsSpelled operations prefix op used
    → all ≡ operations.words op ++ drop used one
spelled_prefix operations first all prefix one left op used e taken h =
    let whole : all ≡ operations.words op ++ (h.suffix ++ left) =
    taken.whole ∙ ap (λ (ws : List (List ℕ)). ws ++ left) h.whole
    ∙ append_assoc (operations.words op) h.suffix left in
    let dropped : drop (used + 1) all ≡ h.suffix ++ left = ap (drop (used + 1)) whole
    ∙ drop_at (operations.words op) (h.suffix ++ left) (used + 1) h.count in
    let same : used + 1 ≡ suc used = omega arith in
    let here : drop (used + 1) all ≡ drop used one =
    ap (drop (used + 1)) e ∙ ap (λ (k : ℕ). drop k (first ∷ one)) same in
    whole ∙ ap (λ (ws : List (List ℕ)). operations.words op ++ ws) (sym dropped ∙ here)

empty_list : (xs : List (List ℕ)) → length xs ≡ 0 → xs ≡ []
empty_list [] e = refl
empty_list (x ∷ xs) e = absurd (omega arith)

-- where the words that were taken spell no operation, the words begin with none
pub not_in_prefix : (operations : Operations) (all prefix left others : List (List ℕ)) (op : ℕ)
    → AreTaken all prefix left → IsTrue (operations.has op) → 0 < length (operations.words op)
    → length (operations.words op) ≤ 3
    → ((op used : ℕ) → IsSpelled operations prefix op used → ⊥)
    → all ≡ operations.words op ++ others → ⊥
not_in_prefix operations all prefix left others op taken has some few none e =
    let words = operations.words op in
    let joined : words ++ others ≡ prefix ++ left = sym e ∙ taken.whole in
    let spelled : (zs : List (List ℕ)) → prefix ≡ words ++ zs → ⊥ = λ zs same. none op
    (length words - 1) (record { has = has; suffix = zs; whole = same; count = omega arith }) in
    elim (append_cases words prefix others left joined) [
      | inl longer ↦ spelled longer.0 longer.1
      | inr shorter ↦
          let size : length words ≡ length prefix + length shorter.0 =
          ap length shorter.1 ∙ length-append prefix shorter.0 in
          let sizes : length words + length others ≡ length prefix + length left =
          sym (length-append words others) ∙ ap length joined ∙ length-append prefix left in
          let none_left : length shorter.0 ≡ 0 = elim taken.enough [
            | inl nothing ↦ omega (arith, ap length nothing)
            | inr three ↦ omega arith
          ] in
          let same : words ≡ prefix = shorter.1 ∙ ap (λ (ws : List (List ℕ)). prefix ++ ws)
          (empty_list shorter.0 none_left) ∙ append-nil prefix in
          spelled [] (sym same ∙ sym (append-nil words))
    ]
