-- What evidence tells of a book, and which calls it keeps.
use Rattle.std.proofs.Common.{◌≡◌, ℕ, ◌<◌, ◌≤◌, ◌∙◌, Bool, true, false, List, [], ◌∷◌, length, get_or, unwrap_or, Option, Some, None, refl, sym, ap, subst, inl, inr, arith}
use Rattle.std.specs.Prelude.{option_map, if◌then◌else◌}
use Rattle.std.specs.List.{range_with_len}
use Rattle.std.proofs.lemmas.Bool.{true≢false}
use Rattle.std.proofs.lemmas.List.FromFn.{get_or-range_with_len, length-range_with_len}
use Rattle.std.proofs.lemmas.List.{length-map}
use Rattle.std.proofs.lemmas.Option.{slice_get_within, same_Some}
use Rattle.list_laws.proofs.Options.{map_some}
use Rattle.book_base.specs.declared.call.Call.{Call}
use Rattle.book_base.specs.declared.call.Record.{Record}
use Rattle.book_base.specs.SeqSpec.{spec_from}
use Rattle.book_base.specs.Cut.{Holds}
use Rattle.book_base.specs.Book.{Page, calls_of, answers_of, IsCall, IsAnswered, operation_of, record_of, Precedes}
use Rattle.book_base.specs.Order.{HasLegalOrder}
use Rattle.book_base.specs.Reaching.{Leaves}
use Rattle.book_base.proofs.ViewLemmas.{same_call, answer_stands, record_from_part}
use Rattle.book_base.proofs.GrowthLemmas.{below_calls}
use Rattle.seq_objects.specs.declared.kind.Kind.{Kind}
use Rattle.seq_objects.specs.declared.kind.Kind.TheVariants as kinds
use Rattle.seq_objects.specs.Words as words
use Rattle.seq_objects.specs.Words.{OperationEntry, is_known_word, is_operation_of, argument_of}
use Rattle.seq_objects.specs.Objects.{kind_next, kind_spec}
use Rattle.smaller_book.specs.Part.{numbers_of, count_below, original, IsNamed, IsPart}
use Rattle.smaller_book.specs.Numbers.{picked}
use Rattle.smaller_book.specs.ReadOnly.{IsReadOnly}
use Rattle.smaller_book.specs.Unseen.{IsAnyList, Sets, IsHiddenFrom}
use Rattle.smaller_book.specs.Earliest.{all_numbers}
use Rattle.smaller_book.specs.Keys.{value_shown, key_by_kind, key_of_step, key_of_call, is_among, CarriesOverWithoutSome}
use Rattle.smaller_book.specs.Evidence.{IsStep, AreSteps, EvidenceIsAPart, EvidenceCarriesOver, EvidenceTells, EvidenceKeepsTheRest}
use Rattle.smaller_book.proofs.Counts.{counted_from_below, find_number}
use Rattle.smaller_book.proofs.Following.{some_that, record_was, preceded_in_book}
use Rattle.smaller_book.proofs.OneKeyCarries.{all_named, unseen_carries, hidden_without_key}
use Rattle.smaller_book.proofs.LeastCuts.{numbers_of-all, original-all, carried_to_cut}
use Rattle.smaller_book.proofs.CarryingOver.{carries_from_all, carries_twice}
use Rattle.smaller_book.proofs.KeyRows.{unnamed_goes}
use Rattle.smaller_book.proofs.KeyLaw.{has_one_without_keys}
use Rattle.smaller_book.proofs.Removing.{original_is_call}
use Rattle.smaller_book.proofs.PartsOfParts.{numbers_of-composed, get_or-picked, original-composed}
use Rattle.smaller_book.proofs.Steps.{book_at_some_cut, step_part, steps_part, evidence_part}

-- Each part that is evidence of a book is the part of the book that has the calls with its numbers.
pub evidence_is_a_part : EvidenceIsAPart
evidence_is_a_part = evidence_part

step_carries : (kind : Kind) (book : List Page) (names : List (List ℕ)) (part : List Page)
    → IsStep kind book names part → CarriesOverWithoutSome kind book part
step_carries kind book names part step =
    elim step.rule [
      | inl back ↦
          carries_from_all kind book part
          (carried_to_cut (kind_next kind) book back.at_some_cut.cut part step.valid
          back.at_some_cut.within (book_at_some_cut book part step.valid back.at_some_cut))
      | inr other ↦ elim other [
        | inl lacks ↦
            unseen_carries kind book names part step.valid lacks.is_part lacks.unseen
        | inr lacks ↦ (
          lacks.keys,
          λ list formed once. has_one_without_keys kind lacks.keys book part lacks.may_go
              (subst (λ (ns : List (List ℕ)). IsPart book ns part) lacks.named lacks.is_part) list
              formed,
        )
      ]
    ]

steps_carry : (kind : Kind) (book : List Page) (steps : List (List (List ℕ)))
    (names : List (List ℕ)) (part : List Page) → AreSteps kind book steps names part
    → CarriesOverWithoutSome kind book part
steps_carry kind book [] names part (valid, same, named) =
    carries_from_all kind book part
    (λ (list : List ℕ) legal. subst
    (λ (b : List Page). HasLegalOrder (spec_from list (kind_next kind)) b) (sym same) legal)
steps_carry kind book (first ∷ later) names part (mid, rest, step, on, named) =
    carries_twice kind book mid part (step_carries kind book first mid step)
    (steps_carry kind mid later rest part on)

-- A book carries over, without the items of some keys, to each part that is evidence of it.
pub evidence_carries_over : EvidenceCarriesOver
evidence_carries_over kind book names part evidence =
    steps_carry kind book evidence.steps names part evidence.lead

-- A legal order of a book gives one of each part to which the book carries over, since no object
-- begins with an item that has a key.
carries_tells : (kind : Kind) (book part : List Page) → CarriesOverWithoutSome kind book part
    → HasLegalOrder (kind_spec kind) book → HasLegalOrder (kind_spec kind) part
carries_tells kinds.Queue book part (keys, carries) order = carries [] tt tt order
carries_tells kinds.Stack book part (keys, carries) order = carries [] tt tt order
carries_tells kinds.Register book part (keys, carries) order = carries (0 ∷ []) tt tt order
carries_tells kinds.Counter book part (keys, carries) order = carries (0 ∷ []) tt tt order
carries_tells kinds.IntSet book part (keys, carries) order = carries [] tt tt order
carries_tells kinds.Pqueue book part (keys, carries) order = carries [] tt tt order
carries_tells kinds.CasRegister book part (keys, carries) order = carries (0 ∷ []) tt tt order
carries_tells kinds.Map book part (keys, carries) order = carries [] tt tt order

-- A legal order of a book gives one of each part that is evidence of it.
pub evidence_tells : EvidenceTells
evidence_tells kind book names part evidence order =
    carries_tells kind book part (evidence_carries_over kind book names part evidence) order

-- ---- the calls that evidence keeps

-- A call of a part has the operation that it had in the book.
word_was : (book : List Page) (names : List (List ℕ)) (part : List Page) → IsPart book names part
    → (call : Call) → IsCall part call
    → unwrap_or (operation_of part call) 0 ≡ unwrap_or (operation_of book (original names call)) 0
word_was book names part is call inside =
    ap (λ (o : Option ℕ). unwrap_or o 0) (is.operations call inside)

-- A call of a part that sets a list set it in the book.
was_set : (next : List ℕ → ℕ → List ℕ × ℕ) (book : List Page) (names : List (List ℕ))
    (part : List Page) → IsPart book names part → (call : Call) (after : List ℕ) → IsCall part call
    → Sets next part IsAnyList call after
    → Sets next book IsAnyList (original names call) after
was_set next book names part is call after inside sets before any may =
    let word = word_was book names part is call inside in
    ap (λ (op : ℕ). (next before op).0) (sym word)
    ∙ sets before any (λ (r : Record) known.
    let was = record_was book names part is call r known in
    was.2.reply ∙ (may was.0 was.1 ∙ ap (λ (op : ℕ). (next before op).1) (sym word)))

-- A read-only call of a part was a read-only call of the book.
was_read_only : (next : List ℕ → ℕ → List ℕ × ℕ) (book : List Page) (names : List (List ℕ))
    (part : List Page) → IsPart book names part → (call : Call) → IsCall part call
    → IsReadOnly next part call → IsReadOnly next book (original names call)
was_read_only next book names part is call inside (_, leaves) = (
  original_is_call book names part is call inside,
  λ reply may.
      subst (λ (op : ℕ). Leaves next op reply) (word_was book names part is call inside)
      (leaves reply (λ (r : Record) known.
      let was = record_was book names part is call r known in
      was.2.reply ∙ may was.0 was.1)),
)

-- An answered call of a part that was read-only in the book is read-only in the part.
stays_read_only : (next : List ℕ → ℕ → List ℕ × ℕ) (book : List Page) (names : List (List ℕ))
    (part : List Page) → IsPart book names part → (call : Call) (small : Record) → IsCall part call
    → record_of part call ≡ Some small → IsReadOnly next book (original names call)
    → IsReadOnly next part call
stays_read_only next book names part is call small inside known (_, leaves) = (
  inside,
  λ reply may.
      let was = record_was book names part is call small known in
      subst (λ (op : ℕ). Leaves next op reply) (sym (word_was book names part is call inside))
      (leaves reply (λ (r : Record) there.
      ap (λ (x : Record). x.reply) (same_Some r was.0 (sym there ∙ was.1))
      ∙ (sym was.2.reply ∙ may small known))),
)

-- A call that precedes an answered one is answered.
preceding_record : (part : List Page) (before seer : Call) → IsAnswered part seer
    → Precedes part before seer → (r : Record) × (record_of part before ≡ Some r)
preceding_record part before seer answered precedes =
    elim precedes [
      | inl known ↦
          let found = some_that (record_of part before)
          (λ (r : Record). get_or r.view seer.caller 0 ≤ seer.number) known in
          (found.0, found.1)
      | inr own ↦
          let there : seer.number < answers_of part before.caller =
          subst (λ (i : ℕ). seer.number < answers_of part i) (sym own.0) answered in
          answer_stands part before (omega (arith, own.1, there))
    ]

-- What a call of a part sets, and an answered call of it can't tell, it set in the book, where the
-- other call couldn't tell either.
was_hidden : (next : List ℕ → ℕ → List ℕ × ℕ) (book : List Page) (names : List (List ℕ))
    (part : List Page) → IsPart book names part → (seer setting : Call) → IsAnswered part seer
    → IsCall part setting → IsHiddenFrom next part seer setting
    → IsHiddenFrom next book (original names seer) (original names setting)
was_hidden next book names part is seer setting answered inside (after, sets, cannot) =
    let here : IsCall part seer = omega (arith, answered, is.answers seer.caller) in
    let word = word_was book names part is seer here in (
      after,
      was_set next book names part is setting after inside sets,
      elim cannot [
        | inl blind ↦ inl (λ before other any also.
            let same = blind before other any also in (
              subst (λ (op : ℕ). (next before op).0 ≡ (next other op).0) word same.0,
              λ known. subst (λ (op : ℕ). (next before op).1 ≡ (next other op).1) word
                  (same.1 answered),
            ))
        | inr rest ↦ elim rest [
          | inl earlier ↦
              inr (inl (preceded_in_book book names part is seer setting inside earlier))
          | inr last ↦ elim last [
            | inl (between, changes, later, before) ↦
                let known = preceding_record part between seer answered before in
                let there : IsCall part between = omega (
                  arith,
                  is.answers between.caller,
                  slice_get_within _ between.number known.0 known.1,
                ) in
                inr (inr (inl (
                  original names between,
                  λ only. changes (stays_read_only next book names part is between known.0 there
                      known.1 only),
                  preceded_in_book book names part is setting between there later,
                  preceded_in_book book names part is between seer here before,
                )))
            | inr differs ↦ inr (inr (inr (λ may. differs (λ (r : Record) known.
                let was = record_was book names part is seer r known in
                was.2.reply ∙ (may was.0 was.1
                ∙ ap (λ (op : ℕ). (next after op).1) (sym word))))))
          ]
        ]
      ],
    )

shown_none : (is_put : Bool) (value : ℕ) (reply : Option ℕ)
    → (if is_put then Some value else value_shown reply) ≡ None
    → (if is_put then Some value else value_shown None) ≡ None
shown_none true value reply none = none
shown_none false value reply none = refl

kind_key_none : (kind : Kind) (word : ℕ) (reply : Option ℕ) → key_by_kind kind word reply ≡ None
    → key_by_kind kind word None ≡ None
kind_key_none kinds.Queue word reply none =
    shown_none (is_operation_of word words.enq) (argument_of word) reply none
kind_key_none kinds.Stack word reply none =
    shown_none (is_operation_of word words.push) (argument_of word) reply none
kind_key_none kinds.Pqueue word reply none =
    shown_none (is_operation_of word words.insert) (argument_of word) reply none
kind_key_none kinds.IntSet word reply none = none
kind_key_none kinds.Map word reply none = none
kind_key_none kinds.Register word reply none =
    shown_none (is_operation_of word words.write) (argument_of word) reply none
kind_key_none kinds.Counter word reply none = none
kind_key_none kinds.CasRegister word reply none = none

step_key_none : (kind : Kind) (is_known : Bool) (word : ℕ) (reply : Option ℕ)
    → (if is_known then key_by_kind kind word reply else None) ≡ None
    → (if is_known then key_by_kind kind word None else None) ≡ None
step_key_none kind true word reply none = kind_key_none kind word reply none
step_key_none kind false word reply none = refl

-- An operation that is about no key with a reply is about none without it.
fewer_keys : (kind : Kind) (word : ℕ) (small whole : Option ℕ)
    → ((reply : ℕ) → small ≡ Some reply → whole ≡ Some reply) → key_of_step kind word whole ≡ None
    → key_of_step kind word small ≡ None
fewer_keys kind word None whole same none =
    step_key_none kind (is_known_word kind word) word whole none
fewer_keys kind word (Some reply) whole same none =
    subst (λ (o : Option ℕ). key_of_step kind word o ≡ None) (same reply refl) none

-- Where a call of a part was about no key, it is about none.
key_was_none : (kind : Kind) (book : List Page) (names : List (List ℕ)) (part : List Page)
    → IsPart book names part → (call : Call) → IsCall part call
    → key_of_call kind book (original names call) ≡ None → key_of_call kind part call ≡ None
key_was_none kind book names part is call inside none =
    let whole : Option ℕ =
    option_map (λ (r : Record). r.reply) (record_of book (original names call)) in
    let small : Option ℕ = option_map (λ (r : Record). r.reply) (record_of part call) in
    let same : (reply : ℕ) → small ≡ Some reply → whole ≡ Some reply = λ reply e.
    let known = map_some (record_of part call) (λ (r : Record). r.reply) reply e in
    let was = record_was book names part is call known.0 known.1 in
    ap (option_map (λ (r : Record). r.reply)) was.1
    ∙ ap (λ (n : ℕ). Some n) (sym was.2.reply ∙ known.2) in
    let here : key_of_step kind (unwrap_or (operation_of part call) 0) whole ≡ None =
    subst (λ (o : Option ℕ). key_of_step kind (unwrap_or o 0) whole ≡ None)
    (sym (is.operations call inside)) none in
    fewer_keys kind (unwrap_or (operation_of part call) 0) small whole same here

-- A step keeps each call that is neither read-only nor about a key, is held by the view of an
-- answered call which it keeps, and isn't hidden from this call.
step_keeps : (kind : Kind) (book : List Page) (names : List (List ℕ)) (part : List Page)
    → IsStep kind book names part → (call other : Call) (small r : Record)
    → record_of part call ≡ Some small → record_of book (original names call) ≡ Some r
    → Holds r.view other → ¬ IsReadOnly (kind_next kind) book other
    → ¬ IsHiddenFrom (kind_next kind) book (original names call) other
    → key_of_call kind book other ≡ None → IsNamed names other
step_keeps kind book names part step call other small r there known held writes seen_by keyless =
    let is : IsPart book names part = step_part kind book names part step in
    let inside : IsCall book other = omega (
      arith,
      held,
      below_calls book r.view (step.valid.within (original names call) r known) other.caller,
    ) in
    let here : IsCall part call = omega (
      arith,
      is.answers call.caller,
      slice_get_within _ call.number small there,
    ) in
    let named = find_number (numbers_of names other.caller) other.number in
    elim named [
      | inl found ↦ found
      | inr none ↦
          let unnamed : ¬ IsNamed names other = λ h. none h.0 h.1 h.2 in
          elim step.rule [
            | inl back ↦
                let at = book_at_some_cut book part step.valid back.at_some_cut in
                let was = record_from_part book back.at_some_cut.cut part at call small there in
                let same : original names call ≡ call =
                ap (λ (ns : List (List ℕ)). original ns call) back.named
                ∙ original-all part call here in
                let one : small ≡ r = same_Some small r
                (sym was.1 ∙ (sym (ap (record_of book) same) ∙ known)) in
                let seen : Holds small.view other =
                subst (λ (x : Record). Holds x.view other) (sym one) held in
                let stays : IsCall part other =
                (at.calls other).1 (call, small, was.0, was.1, seen) in
                absurd (unnamed (subst (λ (ns : List (List ℕ)). IsNamed ns other) (sym back.named)
                (all_named part other stays)))
            | inr by_calls ↦ elim by_calls [
              | inl lacks ↦ absurd (elim (lacks.unseen other inside unnamed) [
                | inl only ↦ writes only
                | inr unseen ↦ seen_by (hidden_without_key kind book (original names call) other
                    inside keyless unseen.after unseen.sets
                    (unseen.unseen (original names call)
                    (original_is_call book names part is call here)
                    (call.number, omega (arith, is.calls call.caller, here), refl)))
              ])
              | inr lacks ↦
                  let goes : is_among lacks.keys (key_of_call kind book other) ≡ true =
                  unnamed_goes kind lacks.keys book other inside
                  (subst (λ (ns : List (List ℕ)). ¬ IsNamed ns other) lacks.named unnamed) in
                  absurd (true≢false (sym goes ∙ ap (is_among lacks.keys) keyless))
            ]
          ]
    ]

steps_keep : (kind : Kind) (book : List Page) (steps : List (List (List ℕ)))
    (names : List (List ℕ)) (part : List Page) → AreSteps kind book steps names part
    → (call other : Call) (r : Record) → IsAnswered part call
    → record_of book (original names call) ≡ Some r → Holds r.view other
    → ¬ IsReadOnly (kind_next kind) book other
    → ¬ IsHiddenFrom (kind_next kind) book (original names call) other
    → key_of_call kind book other ≡ None → IsNamed names other
steps_keep kind book [] names part (valid, same, named) call other r answered known held writes
    seen_by keyless =
    let inside : IsCall book other = omega (
      arith,
      held,
      below_calls book r.view (valid.within (original names call) r known) other.caller,
    ) in
    subst (λ (ns : List (List ℕ)). IsNamed ns other) (sym named) (all_named book other inside)
steps_keep kind book (first ∷ later) names part (mid, rest, step, on, named) call other r answered
    known held writes seen_by keyless =
    let outer : IsPart book first mid = step_part kind book first mid step in
    let inner : IsPart mid rest part = steps_part kind mid later rest part on in
    let i : ℕ = other.caller in
    let here : IsCall part call = omega (arith, answered, inner.answers call.caller) in
    let there = answer_stands part call answered in
    let middle = record_was mid rest part inner call there.0 there.1 in
    let moved : Call = original rest call in
    let whole = record_was book first mid outer moved middle.0 middle.1 in
    let same : original names call ≡ original first moved =
    ap (λ (ns : List (List ℕ)). original ns call) named
    ∙ original-composed book mid part first rest outer inner call here in
    let one : whole.0 ≡ r = same_Some whole.0 r (sym whole.1
    ∙ (sym (ap (record_of book) same) ∙ known)) in
    let seen : Holds whole.0.view other =
    subst (λ (x : Record). Holds x.view other) (sym one) held in
    let stays : IsNamed first other =
    step_keeps kind book first mid step moved other middle.0 whole.0 middle.1 whole.1 seen writes
    (subst (λ (seer : Call). ¬ IsHiddenFrom (kind_next kind) book seer other) same seen_by)
    keyless in
    let next : Call = record { caller = i; number = stays.0 } in
    let was : original first next ≡ other =
    same_call (original first next) other refl stays.2 in
    let in_mid : IsCall mid next = omega (arith, stays.1, outer.calls i) in
    let counted : stays.0 < count_below (numbers_of first i) (get_or whole.0.view i 0) =
    counted_from_below (numbers_of first i) (get_or whole.0.view i 0) stays.0 (outer.rising i)
    stays.1 (omega (arith, seen, stays.2)) in
    let held_there : Holds middle.0.view next = omega (arith, counted, whole.2.view i) in
    let later_named : IsNamed rest next =
    steps_keep kind mid later rest part on call next middle.0 answered middle.1 held_there
    (λ leaves. writes (subst (IsReadOnly (kind_next kind) book) was
    (was_read_only (kind_next kind) book first mid outer next in_mid leaves)))
    (λ hidden. seen_by (subst (λ (seer : Call). IsHiddenFrom (kind_next kind) book seer other)
    (sym same) (subst (IsHiddenFrom (kind_next kind) book (original first moved)) was
    (was_hidden (kind_next kind) book first mid outer moved next
    (slice_get_within _ moved.number middle.0 middle.1) in_mid hidden))))
    (key_was_none kind book first mid outer next in_mid
    (subst (λ (c : Call). key_of_call kind book c ≡ None) (sym was) keyless)) in
    let row : numbers_of names i ≡ picked (numbers_of first i) (numbers_of rest i) =
    ap (λ (ns : List (List ℕ)). numbers_of ns i) named ∙ numbers_of-composed first rest i in
    let P : List ℕ → Type 0 = λ xs. (k : ℕ) × (k < length xs) × (get_or xs k 0 ≡ other.number) in
    let found : P (picked (numbers_of first i) (numbers_of rest i)) = (
      later_named.0,
      omega (
        arith,
        later_named.1,
        length-map (numbers_of rest i) (λ (place : ℕ). get_or (numbers_of first i) place 0),
      ),
      get_or-picked (numbers_of first i) (numbers_of rest i) later_named.0 later_named.1
          ∙ (ap (λ (place : ℕ). get_or (numbers_of first i) place 0) later_named.2 ∙ stays.2),
    ) in
    subst P (sym row) found

-- Evidence keeps each call that is neither read-only nor about a key, is held by the view of an
-- answered call which it keeps, and isn't hidden from this call.
pub evidence_keeps_the_rest : EvidenceKeepsTheRest
evidence_keeps_the_rest kind book names part evidence =
    steps_keep kind book evidence.steps names part evidence.lead
