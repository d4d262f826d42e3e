-- All calls that are about some keys may be left out together.
use Rattle.std.proofs.Common.{◌≡◌, ℕ, ◌∙◌, Bool, true, false, List, Option, Some, None, option_map, sym, ap, inl, inr}
use Rattle.std.proofs.lemmas.Bool.{cases_Bool, cond-true, cond-false, true≢false}
use Rattle.std.proofs.lemmas.Option.{slice_get_within}
use Rattle.list_laws.proofs.Options.{cases_Option}
use Rattle.book_base.specs.declared.call.Call.{Call}
use Rattle.book_base.specs.declared.call.Record.{Record}
use Rattle.book_base.specs.Book.{Page, IsAnswered, record_of}
use Rattle.legal_orders.proofs.LegalOrder.{answer_stands}
use Rattle.seq_objects.specs.declared.kind.Kind.{Kind}
use Rattle.seq_objects.specs.declared.kind.Kind.TheVariants as kinds
use Rattle.seq_objects.specs.Words as words
use Rattle.seq_objects.specs.Words.{OperationEntry, is_known_word, is_operation_of, argument_of}
use Rattle.seq_objects.specs.Objects.{kind_next}
use Rattle.smaller_book.specs.Keys.{value_shown, value_moved, key_by_kind, key_of_step, key_of_call, is_among, all_without, items_without, KeysMayGo, HasOneWithoutKeys}
use Rattle.smaller_book.proofs.Following.{word_at, AgreesAt, IsFollowed, has_one_in_part}
use Rattle.smaller_book.proofs.KeySteps.{Restricts, keeps_keys, unanswered_kept}
use Rattle.smaller_book.proofs.KeyRows.{named_stays, unnamed_goes}

-- Where the value that an operation of a container moves is one of some keys before a reply is
-- known, it is one of them with each reply.
moved_with : (keys : ℕ → Bool) (put : OperationEntry) (word reply : ℕ)
    → is_among keys (value_moved put word None) ≡ true
    → is_among keys (value_moved put word (Some reply)) ≡ true
moved_with keys put word reply among = elim (cases_Bool (is_operation_of word put)) [
  | inl puts ↦
      ap (is_among keys)
      (cond-true (is_operation_of word put) (Some (argument_of word)) (value_shown (Some reply))
      puts ∙ sym (cond-true (is_operation_of word put) (Some (argument_of word)) None puts))
      ∙ among
  | inr other ↦
      absurd (true≢false (sym among ∙ ap (is_among keys)
      (cond-false (is_operation_of word put) (Some (argument_of word)) None other)))
]

kind_key_with : (kind : Kind) (keys : ℕ → Bool) (word reply : ℕ)
    → is_among keys (key_by_kind kind word None) ≡ true
    → is_among keys (key_by_kind kind word (Some reply)) ≡ true
kind_key_with kinds.Queue keys word reply among = moved_with keys words.enq word reply among
kind_key_with kinds.Stack keys word reply among = moved_with keys words.push word reply among
kind_key_with kinds.Pqueue keys word reply among = moved_with keys words.insert word reply among
kind_key_with kinds.IntSet keys word reply among = among
kind_key_with kinds.Map keys word reply among = among
kind_key_with kinds.Register keys word reply among = moved_with keys words.write word reply among
kind_key_with kinds.Counter keys word reply among = among
kind_key_with kinds.CasRegister keys word reply among = among

key_with : (kind : Kind) (keys : ℕ → Bool) (word reply : ℕ)
    → is_among keys (key_of_step kind word None) ≡ true
    → is_among keys (key_of_step kind word (Some reply)) ≡ true
key_with kind keys word reply among = elim (cases_Bool (is_known_word kind word)) [
  | inl known ↦
      let before : is_among keys (key_by_kind kind word None) ≡ true
      = ap (is_among keys)
      (sym (cond-true (is_known_word kind word) (key_by_kind kind word None) None known))
      ∙ among in
      ap (is_among keys)
      (cond-true (is_known_word kind word) (key_by_kind kind word (Some reply)) None known)
      ∙ kind_key_with kind keys word reply before
  | inr unknown ↦
      absurd (true≢false (sym among ∙ ap (is_among keys)
      (cond-false (is_known_word kind word) (key_by_kind kind word None) None unknown)))
]

-- The key of an answered call is the key of its operation with the reply that the object gives at a
-- list, where this is the recorded reply.
answered_key : (kind : Kind) (book : List Page) (whole : List ℕ) (call : Call) (r : Record)
    → AgreesAt book (kind_next kind) whole call → record_of book call ≡ Some r
    → key_of_call kind book call
    ≡ key_of_step kind (word_at book call) (Some (kind_next kind whole (word_at book call)).1)
answered_key kind book whole call r agrees known =
    let word : ℕ = word_at book call in
    ap (λ (o : Option Record). key_of_step kind word (option_map (λ s. s.reply) o)) known
    ∙ ap (λ (reply : ℕ). key_of_step kind word (Some reply)) (agrees r known)

-- Where a call is about one of some keys, and its recorded reply, if it has one, is the reply that
-- the object gives at a list, its operation with that reply is about one of them too.
goes_at : (kind : Kind) (keys : ℕ → Bool) (book : List Page) (whole : List ℕ) (call : Call)
    → AgreesAt book (kind_next kind) whole call
    → is_among keys (key_of_call kind book call) ≡ true → is_among keys
    (key_of_step kind (word_at book call) (Some (kind_next kind whole (word_at book call)).1))
    ≡ true
goes_at kind keys book whole call agrees goes =
    let word : ℕ = word_at book call in
    elim (cases_Option (record_of book call)) [
      | inl none ↦
          let before : is_among keys (key_of_step kind word None) ≡ true
          = sym (ap (λ (o : Option Record).
          is_among keys (key_of_step kind word (option_map (λ s. s.reply) o))) none) ∙ goes in
          key_with kind keys word (kind_next kind whole word).1 before
      | inr some ↦
          sym (ap (is_among keys) (answered_key kind book whole call some.0 agrees some.1)) ∙ goes
    ]

-- A call that is about none of some keys, and that has no record, is about none of them before a
-- reply is known.
stays_before : (kind : Kind) (keys : ℕ → Bool) (book : List Page) (call : Call)
    → ¬ IsAnswered book call → is_among keys (key_of_call kind book call) ≡ false
    → is_among keys (key_of_step kind (word_at book call) None) ≡ false
stays_before kind keys book call unanswered stays = elim (cases_Option (record_of book call)) [
  | inl none ↦
      sym (ap (λ (o : Option Record).
      is_among keys (key_of_step kind (word_at book call) (option_map (λ s. s.reply) o))) none)
      ∙ stays
  | inr some ↦ absurd (unanswered (slice_get_within _ call.number some.0 some.1))
]

-- Where calls of keys may be left out of a book, each call of it keeps the relation between a list
-- with all items and one without the items of some keys, as `IsFollowed` says.
followed : (kind : Kind) (keys : ℕ → Bool) (book : List Page) → KeysMayGo kind book
    → IsFollowed (Restricts kind keys) (kind_next kind) book (all_without kind keys book)
followed kind keys book may = record {
  lacks = λ whole few call related inside unnamed agrees.
      (keeps_keys kind keys).gone whole few (word_at book call) related
      (goes_at kind keys book whole call agrees (unnamed_goes kind keys book call inside unnamed));
  has = λ whole few call related inside named agrees.
      let word : ℕ = word_at book call in
      let reply : ℕ = (kind_next kind whole word).1 in
      let about_none = named_stays kind keys book call inside named in
      elim (cases_Bool (is_among keys (key_of_step kind word (Some reply)))) [
        | inr stays ↦
            let kept = (keeps_keys kind keys).kept whole few word related stays in
            inl (λ answered. kept.0, kept.1)
        | inl goes ↦
            let unanswered : ¬ IsAnswered book call = λ answered.
            let known = answer_stands book call answered in
            true≢false
            (sym goes
            ∙ (sym (ap (is_among keys) (answered_key kind book whole call known.0 agrees known.1))
            ∙ about_none)) in
            elim (unanswered_kept kind keys book may whole few word related
            (stays_before kind keys book call unanswered about_none)) [
              | inl one_open ↦ inr (
                one_open,
                unanswered,
                (keeps_keys kind keys).gone whole few word related goes,
              )
              | inr kept ↦ inl (λ answered. absurd (unanswered answered), kept)
            ]
      ];
}

-- Where calls of keys may be left out of a book, a legal order of the book gives one of the part
-- without all calls that are about some keys.
pub has_one_without_keys : HasOneWithoutKeys
has_one_without_keys kind keys book part may is list formed legal =
    has_one_in_part (Restricts kind keys) (kind_next kind) book (all_without kind keys book) part
    list (items_without kind keys list) is (followed kind keys book may)
    ((keeps_keys kind keys).begins list formed) legal
