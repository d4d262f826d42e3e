use Rattle.std.proofs.Common.{◌≡◌, ℕ, zero, suc, ◌+◌, ◌<◌, ◌≤◌, ◌∙◌, List, [], ◌∷◌, length, get_or, Some, None, refl, sym, ap, subst, inl, inr, arith}
use Rattle.std.proofs.lemmas.Option.{same_Some, none-some, slice_get_within}
use Rattle.book_base.specs.declared.call.Call.{Call}
use Rattle.book_base.specs.declared.call.Record.{Record}
use Rattle.book_base.specs.Cut.{Holds}
use Rattle.book_base.specs.Book.{Page, page_of, calls_of, answers_of, IsCall, IsAnswered, record_of, IsValid, Precedes}
use Rattle.book_base.specs.BookAt.{IsBookAt}
use Rattle.book_base.proofs.PageLemmas.{caller_from_call, caller_from_answer}
use Rattle.legal_orders.proofs.BookAt.{record_of-part}
use Rattle.judging_examples.specs.Books.{answer}
use Rattle.judging_examples.specs.Runs.{operation}
use Rattle.seq_objects.specs.declared.kind.Kind.{Kind}
use Rattle.seq_objects.specs.declared.kind.Kind.TheVariants as kinds
use Rattle.seq_objects.specs.Words.{is_known_word, entry_of, entries, inc, read}
use Rattle.seq_objects.specs.Replies.{reply_done, reply_value}
use Rattle.seq_objects.specs.Objects.{kind_next}
use Rattle.smaller_book.specs.Part.{original, IsPart, KeepsAnswers}
use Rattle.smaller_book.specs.ReadOnly.{IsReadOnly}
use Rattle.smaller_book.specs.Unseen.{IsHiddenFrom}
use Rattle.smaller_book.specs.Keys.{key_of_call}
use Rattle.smaller_book.specs.Evidence.{IsStep, AreSteps}
use Rattle.judging_examples.specs.EvidenceBooks.{three_increments, last_increment, read_of_write, read_alone, one_miscount, unanswered_increment}
use Rattle.smaller_book.proofs.Following.{some_that, record_was}
use Rattle.smaller_book.proofs.Evidence.{evidence_keeps_the_rest}
use Rattle.smaller_book.proofs.Removing.{original_is_call}
use Rattle.smaller_book.proofs.Steps.{book_at_some_cut, step_part, evidence_part}
use Rattle.judging_examples.proofs.EvidenceBooks.{increments_views}
use Rattle.judging_examples.proofs.evidence.parts_by_no_rule.Goals as goal

-- The first call of caller 0.
abbrev first_call : Call
first_call = record { caller = 0; number = 0 }

last_view : (number : ℕ) (r : Record)
    → record_of three_increments (record { caller = 2; number = number }) ≡ Some r
    → Holds r.view first_call
last_view zero r e = subst (λ (s : Record). Holds s.view first_call) (same_Some _ r e) (omega arith)
last_view (suc number) r e = absurd (none-some r e)

increment_changes : ¬ IsReadOnly (kind_next kinds.Counter) three_increments first_call
unfolding kind_next
increment_changes leaves =
    let same : ◌≡◌ {A = List ℕ} (1 ∷ []) (0 ∷ []) =
    leaves.1 (reply_value 0) (λ r e. sym (ap (λ (s : Record). s.reply) (same_Some _ r e)))
    (0 ∷ []) refl in
    let apart : ◌≡◌ {A = ℕ} 1 0 = ap (λ (xs : List ℕ). get_or xs 0 0) same in
    omega (arith, apart)

increment_has_no_key : key_of_call kinds.Counter three_increments first_call ≡ None
unfolding is_known_word entry_of entries
increment_has_no_key = refl

-- No call precedes the one that replies 1.
none_precedes : (between : Call)
    → ¬ Precedes three_increments between (record { caller = 2; number = 0 })
none_precedes between before =
    elim before [
      | inl there ↦
          let found = some_that (record_of three_increments between)
          (λ (r : Record). get_or r.view 2 0 ≤ 0) there in
          let holds : get_or found.0.view 2 0 ≡ 1 =
          increments_views (λ i k v. get_or v 2 0 ≡ 1) refl refl refl between.caller between.number
          found.0 found.1 in
          omega (arith, found.2, holds)
      | inr own ↦ omega (arith, own.1)
    ]

-- The increment that replies 1 tells that the first one has set the count 1.
increment_is_seen : (number : ℕ) (r : Record)
    → record_of three_increments (record { caller = 2; number = number }) ≡ Some r
    → ¬ IsHiddenFrom (kind_next kinds.Counter) three_increments
    (record { caller = 2; number = number }) first_call
unfolding kind_next
increment_is_seen zero r e (after, sets, cannot) =
    let one : ◌≡◌ {A = List ℕ} (1 ∷ []) after =
    sets (0 ∷ []) tt (λ s known. sym (ap (λ (x : Record). x.reply) (same_Some _ s known))) in
    elim cannot [
      | inl blind ↦
          let same : ◌≡◌ {A = List ℕ} (1 ∷ []) (2 ∷ []) =
          (blind (0 ∷ []) (1 ∷ []) tt tt).0 in
          let apart : ◌≡◌ {A = ℕ} 1 2 = ap (λ (xs : List ℕ). get_or xs 0 0) same in
          omega (arith, apart)
      | inr rest ↦ elim rest [
        | inl earlier ↦ elim earlier [
          | inl seen ↦ let low : 1 ≤ 0 = seen in omega (arith, low)
          | inr own ↦ omega (arith, own.0)
        ]
        | inr last ↦ elim last [
          | inl (between, changes, later, before) ↦ none_precedes between before
          | inr differs ↦ differs (λ s known.
              sym (ap (λ (x : Record). x.reply) (same_Some _ s known))
              ∙ ap (λ (list : List ℕ). (kind_next kinds.Counter list (operation inc 0)).1) one)
        ]
      ]
    ]
increment_is_seen (suc number) r e hidden = absurd (none-some r e)

pub returns-clause-increment : goal.returns-clause-increment
returns-clause-increment c names evidence =
    let call : Call = record { caller = 2; number = 0 } in
    let is = evidence_part kinds.Counter three_increments names last_increment evidence in
    let small : Record = answer (reply_value 1) (0 ∷ 0 ∷ 1 ∷ []) in
    let was = record_was three_increments names last_increment is call small refl in
    let named = evidence_keeps_the_rest kinds.Counter three_increments names last_increment evidence
    call first_call was.0 (omega arith) was.1 (last_view _ was.0 was.1) increment_changes
    (increment_is_seen _ was.0 was.1) increment_has_no_key in
    omega (arith, is.calls 0, named.1)

read_view : (number : ℕ) (r : Record)
    → record_of read_of_write (record { caller = 1; number = number }) ≡ Some r
    → Holds r.view first_call
read_view zero r e = subst (λ (s : Record). Holds s.view first_call) (same_Some _ r e) (omega arith)
read_view (suc number) r e = absurd (none-some r e)

write_changes : ¬ IsReadOnly (kind_next kinds.CasRegister) read_of_write first_call
unfolding kind_next
write_changes leaves =
    let same : ◌≡◌ {A = List ℕ} (5 ∷ []) (0 ∷ []) =
    leaves.1 reply_done (λ r e. sym (ap (λ (s : Record). s.reply) (same_Some _ r e)))
    (0 ∷ []) refl in
    let apart : ◌≡◌ {A = ℕ} 5 0 = ap (λ (xs : List ℕ). get_or xs 0 0) same in
    omega (arith, apart)

write_has_no_key : key_of_call kinds.CasRegister read_of_write first_call ≡ None
unfolding is_known_word entry_of entries
write_has_no_key = refl

-- No call stands between the write and the read.
none_between : (i k : ℕ)
    → Precedes read_of_write (record { caller = i; number = k })
    (record { caller = 1; number = 0 })
    → ¬ Precedes read_of_write first_call (record { caller = i; number = k })
none_between zero zero before later = elim later [
  | inl seen ↦ let low : 1 ≤ 0 = seen in omega (arith, low)
  | inr own ↦ omega (arith, own.1)
]
none_between zero (suc k) before later = elim before [
  | inl there ↦ absurd there
  | inr own ↦ omega (arith, own.0)
]
none_between (suc zero) zero before later = elim before [
  | inl seen ↦ let low : 1 ≤ 0 = seen in omega (arith, low)
  | inr own ↦ omega (arith, own.1)
]
none_between (suc zero) (suc k) before later = elim before [
  | inl there ↦ absurd there
  | inr own ↦ omega (arith, own.1)
]
none_between (suc (suc i)) k before later = elim before [
  | inl there ↦ absurd there
  | inr own ↦ omega (arith, own.0)
]

-- The read tells that 5 was written.
write_is_seen : (number : ℕ) (r : Record)
    → record_of read_of_write (record { caller = 1; number = number }) ≡ Some r
    → ¬ IsHiddenFrom (kind_next kinds.CasRegister) read_of_write
    (record { caller = 1; number = number }) first_call
unfolding kind_next
write_is_seen zero r e (after, sets, cannot) =
    let five : ◌≡◌ {A = List ℕ} (5 ∷ []) after =
    sets (0 ∷ []) tt (λ s known. sym (ap (λ (x : Record). x.reply) (same_Some _ s known))) in
    elim cannot [
      | inl blind ↦
          let same : ◌≡◌ {A = List ℕ} (0 ∷ []) (1 ∷ []) =
          (blind (0 ∷ []) (1 ∷ []) tt tt).0 in
          let apart : ◌≡◌ {A = ℕ} 0 1 = ap (λ (xs : List ℕ). get_or xs 0 0) same in
          omega (arith, apart)
      | inr rest ↦ elim rest [
        | inl earlier ↦ elim earlier [
          | inl seen ↦ let low : 1 ≤ 0 = seen in omega (arith, low)
          | inr own ↦ omega (arith, own.0)
        ]
        | inr last ↦ elim last [
          | inl (between, changes, later, before) ↦
              none_between between.caller between.number before later
          | inr differs ↦ differs (λ s known.
              sym (ap (λ (x : Record). x.reply) (same_Some _ s known))
              ∙ ap (λ (list : List ℕ). (kind_next kinds.CasRegister list (operation read 0)).1) five)
        ]
      ]
    ]
write_is_seen (suc number) r e hidden = absurd (none-some r e)

pub returns-clause-read : goal.returns-clause-read
returns-clause-read c names evidence =
    let call : Call = record { caller = 1; number = 0 } in
    let is = evidence_part kinds.CasRegister read_of_write names read_alone evidence in
    let small : Record = answer (reply_value 5) (0 ∷ 1 ∷ []) in
    let was = record_was read_of_write names read_alone is call small refl in
    let named = evidence_keeps_the_rest kinds.CasRegister read_of_write names read_alone evidence
    call first_call was.0 (omega arith) was.1 (read_view _ was.0 was.1) write_changes
    (write_is_seen _ was.0 was.1) write_has_no_key in
    omega (arith, is.calls 0, named.1)

-- Each call of the book is answered.
abbrev AreAllAnswered : List Page → Type 0
AreAllAnswered book = (call : Call) → IsCall book call → IsAnswered book call

-- In a book of one caller whose calls are all answered, the book at a cut has all its calls
-- answered: its last record's view holds no later call.
cut_stays_answered : (book : List Page) (cut : List ℕ) (part : List Page) → IsValid book
    → length book ≡ 1 → IsBookAt book cut part → AreAllAnswered part
cut_stays_answered book cut part valid lone at call inside =
    let found = (at.calls call).0 inside in
    let other : Call = found.0 in
    let r : Record = found.1 in
    let there : record_of part other ≡ Some r =
    record_of-part book cut part at other found.2 ∙ found.3 in
    let here : other.number < answers_of part other.caller =
    slice_get_within (page_of part other.caller).records other.number r there in
    let first : other.caller ≡ 0 = omega
    (arith, caller_from_answer part other.caller other.number here, at.callers, lone) in
    let own_first : call.caller ≡ 0 = omega
    (arith, caller_from_call part call.caller call.number inside, at.callers, lone) in
    let seen : call.number < get_or r.view 0 0 =
    subst (λ (i : ℕ). call.number < get_or r.view i 0) own_first found.4 in
    let own : get_or r.view 0 0 ≡ other.number + 1 =
    subst (λ (i : ℕ). get_or r.view i 0 ≡ other.number + 1) first (valid.own other r found.3) in
    let many : other.number < answers_of part 0 =
    subst (λ (i : ℕ). other.number < answers_of part i) first here in
    subst (λ (i : ℕ). call.number < answers_of part i) (sym own_first) (omega arith)

part_stays_answered : (book : List Page) (names : List (List ℕ)) (part : List Page)
    → IsPart book names part → KeepsAnswers book names part → AreAllAnswered book
    → AreAllAnswered part
part_stays_answered book names part is answers all call inside =
    answers call inside (all (original names call)
    (original_is_call book names part is call inside))

step_stays_answered : (kind : Kind) (book : List Page) (names : List (List ℕ)) (part : List Page)
    → IsStep kind book names part → length book ≡ 1 → AreAllAnswered book → AreAllAnswered part
step_stays_answered kind book names part step lone all =
    elim step.rule [
      | inl back ↦
          cut_stays_answered book back.at_some_cut.cut part step.valid lone
          (book_at_some_cut book part step.valid back.at_some_cut)
      | inr other ↦ elim other [
        | inl lacks ↦ part_stays_answered book names part lacks.is_part lacks.answers all
        | inr lacks ↦ part_stays_answered book names part lacks.is_part lacks.answers all
      ]
    ]

steps_stay_answered : (kind : Kind) (book : List Page) (steps : List (List (List ℕ)))
    (names : List (List ℕ)) (part : List Page) → AreSteps kind book steps names part
    → length book ≡ 1 → AreAllAnswered book → AreAllAnswered part
steps_stay_answered kind book [] names part (valid, same, named) lone all =
    subst AreAllAnswered (sym same) all
steps_stay_answered kind book (first ∷ later) names part (mid, rest, step, on, named) lone all =
    steps_stay_answered kind mid later rest part on
    ((step_part kind book first mid step).callers ∙ lone)
    (step_stays_answered kind book first mid step lone all)

one_is_answered : (i k : ℕ) → k < calls_of one_miscount i → k < answers_of one_miscount i
one_is_answered zero k less = less
one_is_answered (suc i) k less = less

pub returns-clause-answer : goal.returns-clause-answer
returns-clause-answer c names evidence =
    let answered = steps_stay_answered kinds.Counter one_miscount evidence.steps names
    unanswered_increment evidence.lead refl
    (λ call less. one_is_answered call.caller call.number less) in
    omega (arith, answered first_call (omega arith))
