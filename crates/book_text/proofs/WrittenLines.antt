-- A line that is written field by field.
use Rattle.std.proofs.Common.{◌≡◌, ℕ, zero, suc, ◌+◌, ◌<◌, List, [], ◌∷◌, ◌++◌, length, map, take, get_or, decimal, refl, sym, ap, ◌∙◌, append_assoc, arith}
use Rattle.std.specs.Prelude.{Result, Ok, Err, OnOk}
use Rattle.std.specs.List.{join_with_byte}
use Rattle.std.proofs.lemmas.List.{append-nil, map-append, take_more, length-take}
use Rattle.seq_objects.specs.declared.kind.Kind.{Kind}
use Rattle.seq_objects.specs.Words.{operation_words, operation_text}
use Rattle.text_fields.specs.Lines.{line_text}
use Rattle.text_fields.specs.Counts.{pair_word, pair_words}
use Rattle.text_fields.specs.OperationLaws.{few_operation_words}
use Rattle.book_text.specs.Fields.{spaced}

-- two pieces that are appended one after another are appended as one
pub both_pieces : (old middle new a b : List ℕ) → middle ≡ old ++ a → new ≡ middle ++ b
    → new ≡ old ++ (a ++ b)
both_pieces old middle new a b h k = k ∙ ap (λ (x : List ℕ). x ++ b) h ∙ append_assoc old a b

-- the words of a line are its first word and the others, each after a space
pub join-spaced : (word : List ℕ) (words : List (List ℕ))
    → join_with_byte 32 (word ∷ words) ≡ word ++ spaced words
join-spaced word [] = sym (append-nil word)
join-spaced word (next ∷ words) = ap (λ (x : List ℕ). word ++ 32 ∷ x) (join-spaced next words)

pub spaced-append : (a b : List (List ℕ)) → spaced (a ++ b) ≡ spaced a ++ spaced b
spaced-append [] b = refl
spaced-append (word ∷ a) b = ap (λ (x : List ℕ). 32 ∷ x) (ap (λ (x : List ℕ). word ++ x)
    (spaced-append a b) ∙ sym (append_assoc word (spaced a) (spaced b)))

pub spaced-one : (word : List ℕ) → spaced (word ∷ []) ≡ 32 ∷ word
spaced-one word = ap (λ (x : List ℕ). 32 ∷ x) (append-nil word)

pub spaced-join : (words : List (List ℕ)) → 0 < length words
    → spaced words ≡ 32 ∷ join_with_byte 32 words
spaced-join [] some = absurd (omega arith)
spaced-join (word ∷ words) some = ap (λ (x : List ℕ). 32 ∷ x) (sym (join-spaced word words))

-- the part of a line that is written so far: its first word, and others after it
pub record IsLine (old new word : List ℕ) (words : List (List ℕ)) : Type 0 where
  pub text : new ≡ old ++ (word ++ spaced words)

pub first_word : (old new word : List ℕ) → new ≡ old ++ word → IsLine old new word []
first_word old new word h =
    record { text = h ∙ ap (λ (x : List ℕ). old ++ x) (sym (append-nil word)) }

pub more_words : (old middle new word : List ℕ) (words more : List (List ℕ))
    → IsLine old middle word words → new ≡ middle ++ spaced more
    → IsLine old new word (words ++ more)
more_words old middle new word words more h k = record {
  text = both_pieces old middle new (word ++ spaced words) (spaced more) h.text k
      ∙ ap (λ (x : List ℕ). old ++ x) (append_assoc word (spaced words) (spaced more)
      ∙ ap (λ (x : List ℕ). word ++ x) (sym (spaced-append words more)));
}

pub more_word : (old middle new word : List ℕ) (words : List (List ℕ)) (next : List ℕ)
    → IsLine old middle word words → new ≡ middle ++ 32 ∷ next
    → IsLine old new word (words ++ next ∷ [])
more_word old middle new word words next h k = more_words old middle new word words (next ∷ []) h
    (k ∙ ap (λ (x : List ℕ). middle ++ x) (sym (spaced-one next)))

pub line_ends : (old middle new word : List ℕ) (words : List (List ℕ))
    → IsLine old middle word words → new ≡ middle ++ 10 ∷ [] → new ≡ old ++ line_text (word ∷ words)
line_ends old middle new word words h k =
    both_pieces old middle new (word ++ spaced words) (10 ∷ []) h.text k
    ∙ ap (λ (x : List ℕ). old ++ (x ++ 10 ∷ [])) (sym (join-spaced word words))

-- the words of an operation, each after a space
pub spaced-operation : (kind : Kind) (op : ℕ)
    → spaced (operation_words kind op) ≡ 32 ∷ operation_text kind op
unfolding operation_text
spaced-operation kind op =
    spaced-join (operation_words kind op) (omega (arith, (few_operation_words kind op).some))

-- ---- counts and pairs, one after the other

pub counts_more : (cut : List ℕ) (i : ℕ) → i < length cut → spaced (map decimal (take (i + 1) cut))
    ≡ spaced (map decimal (take i cut)) ++ 32 ∷ decimal (get_or cut i 0)
counts_more cut i lt =
    ap (λ (xs : List ℕ). spaced (map decimal xs)) (take_more cut i 0 lt)
    ∙ ap spaced (map-append decimal (take i cut) (get_or cut i 0 ∷ []))
    ∙ spaced-append (map decimal (take i cut)) (decimal (get_or cut i 0) ∷ [])
    ∙ ap (λ (x : List ℕ). spaced (map decimal (take i cut)) ++ x)
    (spaced-one (decimal (get_or cut i 0)))

pair_words-push : (b : ℕ) (cut : List ℕ) (c : ℕ)
    → pair_words b (cut ++ c ∷ []) ≡ pair_words b cut ++ pair_words (b + length cut) (c ∷ [])
pair_words-push b [] c = let here : b ≡ b + 0 = omega arith in
    ap (λ (j : ℕ). pair_words j (c ∷ [])) here
pair_words-push b (zero ∷ cut) c =
    let there : b + 1 + length cut ≡ b + suc (length cut) = omega arith in
    pair_words-push (b + 1) cut c
    ∙ ap (λ (j : ℕ). pair_words (b + 1) cut ++ pair_words j (c ∷ [])) there
pair_words-push b (suc d ∷ cut) c =
    let there : b + 1 + length cut ≡ b + suc (length cut) = omega arith in
    ap (λ (ws : List (List ℕ)). pair_word b (suc d) ∷ ws) (pair_words-push (b + 1) cut c
    ∙ ap (λ (j : ℕ). pair_words (b + 1) cut ++ pair_words j (c ∷ [])) there)

pub pairs_more : (cut : List ℕ) (j : ℕ) → j < length cut → spaced (pair_words 0 (take (j + 1) cut))
    ≡ spaced (pair_words 0 (take j cut)) ++ spaced (pair_words j (get_or cut j 0 ∷ []))
pairs_more cut j lt =
    let there : 0 + length (take j cut) ≡ j = omega (arith, length-take j cut) in
    ap (λ (xs : List ℕ). spaced (pair_words 0 xs)) (take_more cut j 0 lt)
    ∙ ap spaced (pair_words-push 0 (take j cut) (get_or cut j 0))
    ∙ spaced-append (pair_words 0 (take j cut))
    (pair_words (0 + length (take j cut)) (get_or cut j 0 ∷ []))
    ∙ ap
    (λ (k : ℕ). spaced (pair_words 0 (take j cut)) ++ spaced (pair_words k (get_or cut j 0 ∷ [])))
    there

pub pair_zero : (j count : ℕ) → count ≡ 0 → pair_words j (count ∷ []) ≡ []
pair_zero j zero h = refl
pair_zero j (suc count) h = absurd (omega arith)

pub pair_some : (j count : ℕ) → 0 < count
    → spaced (pair_words j (count ∷ [])) ≡ 32 ∷ (decimal j ++ 58 ∷ decimal count)
pair_some j zero h = absurd (omega arith)
pair_some j (suc count) h = spaced-one (pair_word j (suc count))

-- ---- steps of the writers

pub step_counts : (old middle new cut : List ℕ) (i count : ℕ) → i < length cut
    → count ≡ get_or cut i 0 → middle ≡ old ++ spaced (map decimal (take i cut))
    → new ≡ middle ++ 32 ∷ decimal count
    → new ≡ old ++ spaced (map decimal (take (i + 1) cut))
step_counts old middle new cut i count lt is h k =
    both_pieces old middle new (spaced (map decimal (take i cut))) (32 ∷ decimal (get_or cut i 0)) h
    (k ∙ ap (λ (n : ℕ). middle ++ 32 ∷ decimal n) is)
    ∙ ap (λ (x : List ℕ). old ++ x) (sym (counts_more cut i lt))

pub step_pairs : (old middle new cut : List ℕ) (j count : ℕ) → j < length cut
    → count ≡ get_or cut j 0 → middle ≡ old ++ spaced (pair_words 0 (take j cut))
    → new ≡ middle ++ spaced (pair_words j (count ∷ []))
    → new ≡ old ++ spaced (pair_words 0 (take (j + 1) cut))
step_pairs old middle new cut j count lt is h k =
    both_pieces old middle new (spaced (pair_words 0 (take j cut)))
    (spaced (pair_words j (get_or cut j 0 ∷ []))) h
    (k ∙ ap (λ (n : ℕ). middle ++ spaced (pair_words j (n ∷ []))) is)
    ∙ ap (λ (x : List ℕ). old ++ x) (sym (pairs_more cut j lt))

pub pair_written : (old m1 m2 new : List ℕ) (j count : ℕ) → 0 < count → m1 ≡ old ++ 32 ∷ decimal j
    → m2 ≡ m1 ++ 58 ∷ [] → new ≡ m2 ++ decimal count
    → new ≡ old ++ spaced (pair_words j (count ∷ []))
pair_written old m1 m2 new j count some h k l =
    both_pieces old m2 new ((32 ∷ decimal j) ++ 58 ∷ []) (decimal count)
    (both_pieces old m1 m2 (32 ∷ decimal j) (58 ∷ []) h k) l
    ∙ ap (λ (x : List ℕ). old ++ x)
    (append_assoc (32 ∷ decimal j) (58 ∷ []) (decimal count) ∙ sym (pair_some j count some))

pub pair_left_out : (old : List ℕ) (j count : ℕ) → count ≡ 0
    → old ≡ old ++ spaced (pair_words j (count ∷ []))
pair_left_out old j count none = sym (append-nil old)
    ∙ ap (λ (ws : List (List ℕ)). old ++ spaced ws) (sym (pair_zero j count none))

pub place_written : (old middle new a b : List ℕ) → middle ≡ old ++ 32 ∷ a → new ≡ middle ++ 32 ∷ b
    → new ≡ old ++ spaced (a ∷ b ∷ [])
place_written old middle new a b h k =
    both_pieces old middle new (32 ∷ a) (32 ∷ b) h k
    ∙ ap (λ (x : List ℕ). old ++ 32 ∷ (a ++ 32 ∷ x)) (sym (append-nil b))

pub operation_written : (old middle new : List ℕ) (kind : Kind) (op : ℕ) → middle ≡ old ++ 32 ∷ []
    → new ≡ middle ++ operation_text kind op → new ≡ old ++ spaced (operation_words kind op)
operation_written old middle new kind op h k =
    both_pieces old middle new (32 ∷ []) (operation_text kind op) h k
    ∙ ap (λ (x : List ℕ). old ++ x) (sym (spaced-operation kind op))

pub answer_written : (old m1 m2 m3 new reply view : List ℕ) (pairs : List (List ℕ))
    → m1 ≡ old ++ 32 ∷ [] → m2 ≡ m1 ++ reply → m3 ≡ m2 ++ 32 ∷ view → new ≡ m3 ++ spaced pairs
    → new ≡ old ++ spaced (reply ∷ view ∷ pairs)
answer_written old m1 m2 m3 new reply view pairs h k l m =
    both_pieces old m3 new ((32 ∷ reply) ++ 32 ∷ view) (spaced pairs)
    (both_pieces old m2 m3 (32 ∷ reply) (32 ∷ view) (both_pieces old m1 m2 (32 ∷ []) reply h k) l) m
    ∙ ap (λ (x : List ℕ). old ++ x) (append_assoc (32 ∷ reply) (32 ∷ view) (spaced pairs))

-- Where a claim holds if a result is `Ok`, what follows from the claim holds if the result is.
pub OnOk_then : {T E P Q : Type 0} (r : Result T E) → OnOk r P → (P → Q) → OnOk r Q
OnOk_then (Ok x) holds gives = gives holds
OnOk_then (Err e) holds gives = tt
