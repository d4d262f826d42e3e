-- Reading a word as a reply, and writing a reply, are the two directions of one spelling.
use Rattle.std.proofs.Common.{◌≡◌, ◌≢◌, ℕ, ◌/◌, ◌%◌, ◌^◌, ◌<◌, Bool, true, false, not, ◌==◌, ◌&&◌, ◌⊎◌, List, ◌∷◌, get_or, drop, decimal, bytes_eq, Some, None, is_some, inl, inr, sym, ap, subst, refl, ◌∙◌, arith}
use Rattle.std.specs.List.{list_all}
use Rattle.std.proofs.lemmas.Bool.{cases_Bool, both_ways, not-true, eqb-true, eqb-false, eq-eqb, and_parts, cond-true, cond-false, or_from, or_parts}
use Rattle.std.proofs.lemmas.Option.{none-some, same_Some}
use Rattle.std.proofs.lemmas.Fmt.{decimal_injective}
use Rattle.std.proofs.lemmas.Slice.Eq.{bytes_eq-Decides}
use Rattle.seq_objects.specs.Replies.{NamedReply, named_replies, named_reply, is_value, is_known_reply, reply_value, reply_word, reply_word_by_entry}
use Rattle.seq_objects.specs.ReplyView.{reply_named}
use Rattle.seq_objects.proofs.Tables.{is_plain_name, marked-name}
use Rattle.list_laws.proofs.Finds.{IsIn, find_inside, find_only, list_all-inside, are_distinct, are_distinct-inside}
use Rattle.list_laws.proofs.Options.{cases_Option, none_from_is_some}

abbrev same_word : NamedReply → NamedReply → Bool
same_word a b = a.word == b.word

abbrev same_name : NamedReply → NamedReply → Bool
same_name a b = bytes_eq a.name b.name

distinct_words : are_distinct same_word named_replies ≡ true
unfolding named_replies
distinct_words = refl

distinct_names : are_distinct same_name named_replies ≡ true
unfolding named_replies
distinct_names = refl

no_values : list_all (λ r. not (is_value r.word)) named_replies ≡ true
unfolding named_replies
no_values = refl

-- The entry that is found for the word of an entry is this entry.
named_reply-word : (r : NamedReply) → IsIn r named_replies → named_reply r.word ≡ Some r
unfolding named_reply
named_reply-word r inside =
    find_only (λ q. r.word == q.word) named_replies r inside (eq-eqb r.word r.word refl)
    (λ q q_in q_same.
    are_distinct-inside same_word (λ a b h. eq-eqb b.word a.word (sym (eqb-true a.word b.word h)))
    named_replies q r distinct_words q_in inside
    (eq-eqb q.word r.word (sym (eqb-true r.word q.word q_same))))

named_reply-inside : (reply : ℕ) (r : NamedReply) → named_reply reply ≡ Some r
    → IsIn r named_replies × (reply ≡ r.word)
unfolding named_reply
named_reply-inside reply r found =
    let both = find_inside (λ q. reply == q.word) named_replies r found in
    (both.0, eqb-true reply r.word both.1)

reply_named-inside : (name : List ℕ) (r : NamedReply) → reply_named name ≡ Some r
    → IsIn r named_replies × (r.name ≡ name)
unfolding reply_named
reply_named-inside name r found =
    let both = find_inside (λ q. bytes_eq q.name name) named_replies r found in
    (both.0, (bytes_eq-Decides r.name name).0 both.1)

reply_named-name : (name : List ℕ) (r : NamedReply) → IsIn r named_replies → r.name ≡ name
    → reply_named name ≡ Some r
unfolding reply_named
reply_named-name name r inside same =
    find_only (λ q. bytes_eq q.name name) named_replies r inside
    ((bytes_eq-Decides r.name name).1 same) (λ q q_in q_same.
    are_distinct-inside same_name
    (λ a b h. (bytes_eq-Decides b.name a.name).1 (sym ((bytes_eq-Decides a.name b.name).0 h)))
    named_replies q r distinct_names q_in inside
    ((bytes_eq-Decides q.name r.name).1 ((bytes_eq-Decides q.name name).0 q_same ∙ sym same)))

-- A reply that gives a value has no name.
named_reply-value : (reply : ℕ) → is_value reply ≡ true → named_reply reply ≡ None
named_reply-value reply value = elim (cases_Option (named_reply reply)) [
  | inl none ↦ none
  | inr named ↦
      let at = named_reply-inside reply named.0 named.1 in
      absurd (both_ways (is_value reply) (ap is_value at.1 ∙ not-true (is_value named.0.word)
      (list_all-inside (λ r. not (is_value r.word)) named_replies named.0 no_values at.0)) value)
]

-- The text of a reply with a name is that name.
pub reply_word-named : (reply : ℕ) (r : NamedReply) → named_reply reply ≡ Some r
    → reply_word reply ≡ r.name
unfolding reply_word
reply_word-named reply r named = ap (λ o. reply_word_by_entry o reply) named

-- The text of a reply that gives a value is '=' and the value.
pub reply_word-value : (reply : ℕ) → is_value reply ≡ true
    → reply_word reply ≡ 61 ∷ decimal (reply % 2 ^ 32)
unfolding reply_word
reply_word-value reply value =
    ap (λ o. reply_word_by_entry o reply) (named_reply-value reply value)
    ∙ cond-true (is_value reply) (61 ∷ decimal (reply % 2 ^ 32)) (35 ∷ decimal reply) value

-- The text of any other reply is '#' and the whole number.
pub reply_word-other : (reply : ℕ) → named_reply reply ≡ None → is_value reply ≡ false
    → reply_word reply ≡ 35 ∷ decimal reply
unfolding reply_word
reply_word-other reply none other =
    ap (λ o. reply_word_by_entry o reply) none
    ∙ cond-false (is_value reply) (61 ∷ decimal (reply % 2 ^ 32)) (35 ∷ decimal reply) other

-- The text of a reply is its name, '=' and its value, or '#' and the whole number.
pub reply_word-cases : (reply : ℕ) →
    ((r : NamedReply) × IsIn r named_replies × (reply ≡ r.word) × (reply_word reply ≡ r.name))
    ⊎ (((is_value reply ≡ true) × (reply_word reply ≡ 61 ∷ decimal (reply % 2 ^ 32)))
    ⊎ ((is_known_reply reply ≡ false) × (reply_word reply ≡ 35 ∷ decimal reply)))
unfolding is_known_reply
reply_word-cases reply = elim (cases_Option (named_reply reply)) [
  | inr named ↦
      let inside = named_reply-inside reply named.0 named.1 in
      inl (named.0, inside.0, inside.1, reply_word-named reply named.0 named.1)
  | inl none ↦ elim (cases_Bool (is_value reply)) [
    | inl value ↦ inr (inl (value, reply_word-value reply value))
    | inr other ↦ inr (inr (
      or_from (is_some (named_reply reply)) (is_value reply) (ap is_some none) other,
      reply_word-other reply none other,
    ))
  ]
]

-- A name is the text of the reply with this name.
pub reply_word-name : (word : List ℕ) (r : NamedReply) → reply_named word ≡ Some r
    → reply_word r.word ≡ word
reply_word-name word r named =
    let at = reply_named-inside word r named in
    reply_word-named r.word r (named_reply-word r at.0) ∙ at.1

-- '=' and the digits of a value are the text of the reply that gives it.
pub reply_word-digits : (word digits : List ℕ) (value : ℕ) → value < 2 ^ 32 → word ≡ 61 ∷ digits
    → decimal value ≡ digits → reply_word (reply_value value) ≡ word
reply_word-digits word digits value small begins spelled =
    let tag : reply_value value / 2 ^ 32 ≡ 2 = omega arith in
    let low : reply_value value % 2 ^ 32 ≡ value = omega arith in
    reply_word-value (reply_value value) (eq-eqb (reply_value value / 2 ^ 32) 2 tag)
    ∙ ap (λ n. 61 ∷ decimal n) low ∙ ap (λ ds. 61 ∷ ds) spelled ∙ sym begins

-- '#' and the digits of a reply without a text of its own are the text of that reply.
pub reply_word-unknown : (word digits : List ℕ) (reply : ℕ) → word ≡ 35 ∷ digits
    → decimal reply ≡ digits → is_known_reply reply ≡ false → reply_word reply ≡ word
unfolding is_known_reply
reply_word-unknown word digits reply begins spelled unknown =
    let parts = or_parts (is_some (named_reply reply)) (is_value reply) unknown in
    reply_word-other reply (none_from_is_some (named_reply reply) parts.0) parts.1
    ∙ ap (λ ds. 35 ∷ ds) spelled ∙ sym begins

-- '=' and digits that are no value's are no reply's text.
pub not-reply-value : (word digits : List ℕ) → reply_named word ≡ None → word ≡ 61 ∷ digits
    → ((n : ℕ) → n < 2 ^ 32 → decimal n ≢ digits) → (reply : ℕ) → reply_word reply ≢ word
not-reply-value word digits none begins lacking reply same = elim (reply_word-cases reply) [
  | inl named ↦
      none-some named.0 (sym none ∙ reply_named-name word named.0 named.1 (sym named.3 ∙ same))
  | inr (inl value) ↦
      let spelled = ap (drop 1) (sym value.1 ∙ same ∙ begins) in
      lacking (reply % 2 ^ 32) (omega arith) spelled
  | inr (inr other) ↦
      omega (arith, ap (λ (ds : List ℕ). get_or ds 0 0) (sym other.1 ∙ same ∙ begins))
]

-- A word that is no name and begins with neither mark is no reply's text.
pub not-reply-unmarked : (word : List ℕ) → reply_named word ≡ None
    → ((rest : List ℕ) → word ≢ 61 ∷ rest) → ((rest : List ℕ) → word ≢ 35 ∷ rest) → (reply : ℕ)
    → reply_word reply ≢ word
not-reply-unmarked word none no_value no_number reply same = elim (reply_word-cases reply) [
  | inl named ↦
      none-some named.0 (sym none ∙ reply_named-name word named.0 named.1 (sym named.3 ∙ same))
  | inr (inl value) ↦ no_value (decimal (reply % 2 ^ 32)) (sym same ∙ value.1)
  | inr (inr other) ↦ no_number (decimal reply) (sym same ∙ other.1)
]

-- '#' and digits are no reply's text where the reply with these digits has another text.
pub not-reply-marked : (word digits : List ℕ) → reply_named word ≡ None → word ≡ 35 ∷ digits
    → ((reply : ℕ) → reply < 2 ^ 64 → decimal reply ≡ digits → is_known_reply reply ≡ true)
    → (reply : ℕ) → reply < 2 ^ 64 → reply_word reply ≢ word
not-reply-marked word digits none begins known reply small same = elim (reply_word-cases reply) [
  | inl named ↦
      none-some named.0 (sym none ∙ reply_named-name word named.0 named.1 (sym named.3 ∙ same))
  | inr (inl value) ↦
      omega (arith, ap (λ (ds : List ℕ). get_or ds 0 0) (sym value.1 ∙ same ∙ begins))
  | inr (inr other) ↦
      let spelled = ap (drop 1) (sym other.1 ∙ same ∙ begins) in
      both_ways (is_known_reply reply) other.0 (known reply small spelled)
]

plain_names : list_all
    (λ r. is_plain_name r.name && not (get_or r.name 0 0 == 61)) named_replies ≡ true
unfolding named_replies
plain_names = refl

-- The name of a reply is a word that begins with neither mark.
pub named-plain : (r : NamedReply) → IsIn r named_replies
    → (is_plain_name r.name ≡ true) × (get_or r.name 0 0 ≢ 61)
named-plain r inside =
    let parts = and_parts (is_plain_name r.name) (not (get_or r.name 0 0 == 61))
    (list_all-inside (λ q. is_plain_name q.name && not (get_or q.name 0 0 == 61)) named_replies r
    plain_names inside) in
    (parts.0, eqb-false (get_or r.name 0 0) 61 (not-true (get_or r.name 0 0 == 61) parts.1))

-- A name of a reply doesn't begin with a mark.
not-marked-name : (r : NamedReply) (rest : List ℕ) → IsIn r named_replies
    → ((r.name ≡ 61 ∷ rest) → ⊥) × ((r.name ≡ 35 ∷ rest) → ⊥)
not-marked-name r rest inside =
    let plain = named-plain r inside in (
      λ value. plain.1 (ap (λ (ds : List ℕ). get_or ds 0 0) value),
      λ number. marked-name rest (subst (λ n. is_plain_name n ≡ true) number plain.0),
    )

-- Replies that give one value are equal.
one_value : (a b : ℕ) → is_value a ≡ true → is_value b ≡ true
    → decimal (a % 2 ^ 32) ≡ decimal (b % 2 ^ 32) → a ≡ b
one_value a b a_value b_value digits =
    let low : a % 2 ^ 32 ≡ b % 2 ^ 32 =
    decimal_injective (a % 2 ^ 32) (b % 2 ^ 32) (omega arith) (omega arith) digits in
    let tags : a / 2 ^ 32 ≡ b / 2 ^ 32 =
    eqb-true (a / 2 ^ 32) 2 a_value ∙ sym (eqb-true (b / 2 ^ 32) 2 b_value) in
    omega arith

-- Replies with one text are equal.
pub reply_word-once : (a b : ℕ) → a < 2 ^ 64 → b < 2 ^ 64 → reply_word a ≡ reply_word b → a ≡ b
reply_word-once a b a_small b_small same = elim (reply_word-cases a) [
  | inl a_named ↦ elim (reply_word-cases b) [
    | inl b_named ↦
        let names : b_named.0.name ≡ a_named.0.name = sym b_named.3 ∙ sym same ∙ a_named.3 in
        let found : Some b_named.0 ≡ Some a_named.0 =
        sym (reply_named-name a_named.0.name b_named.0 b_named.1 names)
        ∙ reply_named-name a_named.0.name a_named.0 a_named.1 refl in
        a_named.2 ∙ ap (λ r. r.word) (sym (same_Some b_named.0 a_named.0 found)) ∙ sym b_named.2
    | inr (inl b_value) ↦ absurd ((not-marked-name a_named.0 (decimal (b % 2 ^ 32)) a_named.1).0
        (sym a_named.3 ∙ same ∙ b_value.1))
    | inr (inr b_other) ↦ absurd
        ((not-marked-name a_named.0 (decimal b) a_named.1).1 (sym a_named.3 ∙ same ∙ b_other.1))
  ]
  | inr (inl a_value) ↦ elim (reply_word-cases b) [
    | inl b_named ↦ absurd ((not-marked-name b_named.0 (decimal (a % 2 ^ 32)) b_named.1).0
        (sym b_named.3 ∙ sym same ∙ a_value.1))
    | inr (inl b_value) ↦ one_value a b a_value.0 b_value.0 (cc)
    | inr (inr b_other) ↦ cc
  ]
  | inr (inr a_other) ↦ elim (reply_word-cases b) [
    | inl b_named ↦ absurd
        ((not-marked-name b_named.0 (decimal a) b_named.1).1 (sym b_named.3 ∙ sym same ∙ a_other.1))
    | inr (inl b_value) ↦ cc
    | inr (inr b_other) ↦ decimal_injective a b a_small b_small (cc)
  ]
]
