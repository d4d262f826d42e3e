-- The operation and the reply of each answered call of a caller that has made this many phases.
use Rattle.std.proofs.Common.{◌≡◌, ℕ, zero, suc, ◌%◌, ◌<◌, ◌≤◌, ◌⊎◌, Bool, true, false, cond, ◌==◌, nat_lt, List, [], ◌∷◌, ◌++◌, length, map, take, replicate, Some, slice_get, slice_index, slice_index_or, refl, sym, ap, ◌∙◌, inl, inr, arith}
use Rattle.std.specs.Option.{option_map}
use Rattle.std.proofs.lemmas.Bool.{cases_lt, lt-ltb, le-ltb, ltb-true, ne_eqb}
use Rattle.std.proofs.lemmas.List.{length-replicate, get_or-replicate}
use Rattle.std.proofs.lemmas.List.FromFn.{length-map-range_with_len}
use Rattle.std.proofs.lemmas.Option.{same_Some, none-some, slice_get_within, slice_get-get_or, slice_get-map}
use Rattle.list_laws.proofs.Prefixes.{slice_get-append_within}
use Rattle.list_laws.proofs.Places.{slice_get-push_last}
use Rattle.book_base.specs.declared.call.Record.{Record}
use Rattle.world_core.specs.Local.{Local}
use Rattle.world_core.specs.Calls.{Reached, Is_announced, Has_record, Has_seen, Made, record_in, reached_in, call_in, calls_in, records_of}
use Rattle.world_laws.proofs.Pages.{HasLengths, slice_get-made, operations_with}
use Rattle.report_lines.specs.Phases.{CallMark, Announced, Recorded, Seen, begun, answered, judged, mark_of, mark_under_way, marks_after, progress_of, HasMade, answers_in}
use Rattle.report_lines.proofs.Telling.{as_many_calls}

-- ---- answers, call by call

-- The operation and the reply of a call, where it has its record.
abbrev answer_with : Made → List (ℕ × ℕ)
answer_with c = map (λ (r : Record). (c.operation, r.reply)) (records_of c.reached)

-- where the first calls have an answer each, and the later ones none, these are the answers
answers_are : (calls : List Made) (pairs : List (ℕ × ℕ)) (a : ℕ) → a ≤ length calls
    → ((k : ℕ) (c : Made) → k < a → slice_get calls k ≡ Some c → (pair : ℕ × ℕ)
    × (slice_get pairs k ≡ Some pair) × (answer_with c ≡ pair ∷ []))
    → ((k : ℕ) (c : Made) → a ≤ k → slice_get calls k ≡ Some c → answer_with c ≡ [])
    → take a pairs ≡ answers_in calls
answers_are [] pairs zero few some none = refl
answers_are [] pairs (suc a) few some none = absurd (omega (arith, few))
answers_are (c ∷ calls) pairs zero few some none =
    answers_are calls pairs zero (omega arith) (λ k d low at. absurd (omega (arith, low)))
    (λ k d past at. none (suc k) d (omega arith) at)
    ∙ sym (ap (λ (ps : List (ℕ × ℕ)). ps ++ answers_in calls) (none 0 c (omega arith) refl))
answers_are (c ∷ calls) [] (suc a) few some none = let first = some 0 c (omega arith) refl in
    absurd (none-some first.0 first.1)
answers_are (c ∷ calls) (q ∷ pairs) (suc a) few some none =
    let first = some 0 c (omega arith) refl in
    let rest : take a pairs ≡ answers_in calls =
    answers_are calls pairs a (omega (arith, few))
    (λ k d low at. some (suc k) d (omega (arith, low)) at)
    (λ k d past at. none (suc k) d (omega (arith, past)) at) in
    ap (λ (ps : List (ℕ × ℕ)). q ∷ ps) rest
    ∙ ap (λ (p : ℕ × ℕ). p ∷ answers_in calls) (same_Some q first.0 first.1)
    ∙ sym (ap (λ (ps : List (ℕ × ℕ)). ps ++ answers_in calls) first.2)

-- ---- which calls have their record

-- How far a call has come, by whether it has its seen cut and whether it has its record.
abbrev reached_by : Bool → Bool → Record → List ℕ → Reached
reached_by seen recorded r cut =
    cond seen (Has_seen r cut) (cond recorded (Has_record r) Is_announced)

recorded_by : (seen recorded : Bool) (r : Record) (cut : List ℕ)
    → (mark_of (reached_by seen recorded r cut) ≡ Announced → ⊥)
    → ((seen ≡ true) ⊎ (recorded ≡ true)) × (records_of (reached_by seen recorded r cut) ≡ r ∷ [])
recorded_by true recorded r cut more = (inl refl, refl)
recorded_by false true r cut more = (inr refl, refl)
recorded_by false false r cut more = absurd (more refl)

announced_by : (seen recorded : Bool) (r : Record) (cut : List ℕ)
    → mark_of (reached_by seen recorded r cut) ≡ Announced
    → records_of (reached_by seen recorded r cut) ≡ []
announced_by true recorded r cut none = absurd cc
announced_by false true r cut none = absurd cc
announced_by false false r cut none = refl

-- ---- the marks after this many phases, by place

replicate_at : (n k : ℕ) (m : CallMark) → k < n → slice_get (replicate n m) k ≡ Some m
replicate_at n k m low =
    slice_get-get_or (replicate n m) k m (omega (arith, low, length-replicate n m))
    ∙ ap Some (get_or-replicate n k m m low)

abbrev under_way : Bool → Bool → List CallMark
under_way none early = cond none [] (cond early (Announced ∷ []) (Recorded ∷ []))

started : (n : ℕ) → 0 < n → (n == 0) ≡ false
started n some = ne_eqb n 0 (λ same. omega (arith, same, some))

announced_under_way : (n : ℕ) → 0 < n → n < 3 → mark_under_way n ≡ Announced ∷ []
announced_under_way n some early = ap (λ none. under_way none (nat_lt n 3)) (started n some)
    ∙ ap (λ early. under_way false early) (lt-ltb n 3 early)

recorded_under_way : (n : ℕ) → 3 ≤ n → mark_under_way n ≡ Recorded ∷ []
recorded_under_way n late =
    ap (λ none. under_way none (nat_lt n 3)) (started n (omega (arith, late)))
    ∙ ap (λ early. under_way false early) (le-ltb n 3 late)

last_mark : (p k : ℕ) (m : CallMark) → k ≡ judged p
    → mark_under_way (p % 5) ≡ m ∷ [] → slice_get (marks_after p) k ≡ Some m
last_mark p k m at is =
    ap (λ (ms : List CallMark). slice_get (replicate (judged p) Seen ++ ms) k) is
    ∙ ap (slice_get (replicate (judged p) Seen ++ m ∷ []))
    (at ∙ sym (length-replicate (judged p) Seen))
    ∙ slice_get-push_last (replicate (judged p) Seen) m

answered_mark : (p k : ℕ) → k < answered p → slice_get (marks_after p) k ≡ Some Announced → ⊥
answered_mark p k low none =
    elim (cases_lt k (judged p)) [
      | inl early ↦
          let is : slice_get (marks_after p) k ≡ Some Seen =
          slice_get-append_within (replicate (judged p) Seen) (mark_under_way (p % 5)) k
          (omega (arith, early, length-replicate (judged p) Seen))
          ∙ replicate_at (judged p) k Seen early in
          let same : Seen ≡ Announced = same_Some Seen Announced (sym is ∙ none) in
          absurd cc
      | inr past ↦
          let is = last_mark p k Recorded (omega (arith, low, past))
          (recorded_under_way (p % 5) (omega (arith, low, past))) in
          let same : Recorded ≡ Announced = same_Some Recorded Announced (sym is ∙ none) in
          absurd cc
    ]

unanswered_mark : (p k : ℕ) → answered p ≤ k → k < begun p
    → slice_get (marks_after p) k ≡ Some Announced
unanswered_mark p k past low =
    last_mark p k Announced (omega (arith, past, low))
    (announced_under_way (p % 5) (omega (arith, past, low)) (omega (arith, past, low)))

-- ---- a caller that has made this many phases

module _ (operations : List ℕ) (p : ℕ) (l : Local) (made : HasMade operations p l) where
  -- the caller has announced as many operations as its phases announce
  pub has_begun : length l.operations ≡ begun p
  has_begun = ap (λ (ops : List ℕ). length ops) (sym (operations_with l))
      ∙ as_many_calls operations p (progress_of l) made

  call_at : (k : ℕ) → k < begun p → slice_get (calls_in l) k ≡ Some (call_in l k)
  call_at k low =
      slice_get-made (λ j. call_in l j) (length l.operations) k (omega (arith, low, has_begun))

  mark_at : (k : ℕ) → k < begun p → slice_get (marks_after p) k ≡ Some (mark_of (reached_in l k))
  mark_at k low =
      ap (λ (ms : List CallMark). slice_get ms k) (sym made.marks)
      ∙ slice_get-map (λ (c : Made). mark_of c.reached) (calls_in l) k
      ∙ ap (option_map (λ (c : Made). mark_of c.reached)) (call_at k low)

  -- The operation and the reply of call k.
  abbrev pub answer_at : ℕ → ℕ × ℕ
  answer_at k = (slice_index l.operations k, slice_index l.replies k)

  -- an answered call has its record
  pub answered_has : HasLengths l → (k : ℕ) → k < answered p → (k < length l.views)
      × (records_of (reached_in l k) ≡ record_in l k ∷ [])
  answered_has lengths k low =
      let found =
      recorded_by (nat_lt k (length l.seen)) (nat_lt k (length l.views)) (record_in l k)
      (slice_index_or l.seen k [])
      (λ none. answered_mark p k low (mark_at k (omega (arith, low)) ∙ ap Some none)) in (
        elim found.0 [
          | inl seen ↦ omega (arith, ltb-true k (length l.seen) seen, lengths.seen)
          | inr recorded ↦ ltb-true k (length l.views) recorded
        ],
        found.1,
      )

  unanswered_has : (k : ℕ) → answered p ≤ k → k < begun p → records_of (reached_in l k) ≡ []
  unanswered_has k past low =
      announced_by (nat_lt k (length l.seen)) (nat_lt k (length l.views)) (record_in l k)
      (slice_index_or l.seen k [])
      (sym (same_Some Announced (mark_of (reached_in l k))
      (sym (unanswered_mark p k past low) ∙ mark_at k low)))

  in_range : (k : ℕ) (c : Made) → slice_get (calls_in l) k ≡ Some c → (k < begun p)
      × (call_in l k ≡ c)
  in_range k c at =
      let low : k < begun p = omega (
        arith,
        slice_get_within (calls_in l) k c at,
        length-map-range_with_len (λ j. call_in l j) 0 (length l.operations),
        has_begun,
      ) in
      (low, same_Some (call_in l k) c (sym (call_at k low) ∙ at))

  -- the first pairs are those of the answered calls
  pub answers_are_first : HasLengths l → (pairs : List (ℕ × ℕ))
      → ((k : ℕ) → k < answered p → slice_get pairs k ≡ Some (answer_at k))
      → take (answered p) pairs ≡ answers_in (calls_in l)
  answers_are_first lengths pairs are =
      answers_are (calls_in l) pairs (answered p) (omega
      (arith, length-map-range_with_len (λ j. call_in l j) 0 (length l.operations), has_begun))
      (λ k c low at.
      let here = in_range k c at in (
        answer_at k,
        are k low,
        ap answer_with (sym here.1)
            ∙ ap (map (λ (r : Record). (slice_index l.operations k, r.reply)))
            (answered_has lengths k low).1,
      ))
      (λ k c past at.
      let here = in_range k c at in
      ap answer_with (sym here.1) ∙ ap (map (λ (r : Record). (slice_index l.operations k, r.reply)))
      (unanswered_has k past here.0))
