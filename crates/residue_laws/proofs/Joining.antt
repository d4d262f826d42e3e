-- A legal order, and a legal continuation from where it comes to, are a legal order together.
use Rattle.std.proofs.Common.{◌≡◌, ℕ, ◌+◌, ◌<◌, ◌≤◌, ◌⊎◌, ◌∙◌, List, ◌++◌, length, map, Some, sym, ap, subst, inl, inr, slice_get, arith}
use Rattle.std.proofs.lemmas.Bool.{cases_lt}
use Rattle.std.proofs.lemmas.Option.{slice_get_within}
use Rattle.book_base.specs.SeqSpec.{SeqSpec}
use Rattle.book_base.specs.Sequential.{IsRunFrom}
use Rattle.book_base.specs.Reaching.{list_after_run}
use Rattle.streams.specs.Stream.{StreamEvent, Called, Returns, StreamPrecedes}
use Rattle.streams.specs.StreamOrder.{StreamPlace, stream_step, IsAmong, IsLegalStreamOrder}
use Rattle.streams.proofs.Returning.{get-longer, returns-longer, returns-shorter, cases_returned, call_within}
use Rattle.residue_laws.specs.Residue.{Configuration, StreamReaches}
use Rattle.residue_laws.specs.Continuation.{IsContinuation}
use Rattle.residue_laws.proofs.Appending.{get-cases, run-both, map-both, steps-longer, among-left, among-right, among-cases}

module _ (spec : SeqSpec) (stream later : List StreamEvent) (front rest : List StreamPlace)
    (at : Configuration) (reaches : StreamReaches spec stream front at)
    (continues : IsContinuation spec.next stream later at rest) where
  -- no call is in both
  in-one : (a b : StreamPlace) → IsAmong front a → IsAmong rest b → a.call ≡ b.call → ⊥
  in-one a b first second same = elim (cases_returned stream a.call) [
    | inl (end, reply, returns) ↦
        let longer : Returns (stream ++ later) b.call end reply =
        subst (λ (c : ℕ). Returns (stream ++ later) c end reply) same
        (returns-longer stream later a.call end reply returns) in
        let past : length stream ≤ end = continues.pending b second end reply longer in
        omega (arith, slice_get_within stream end _ returns.returned)
    | inr not ↦ continues.unplaced b a second ((reaches.placed a).1 (first, not)) same
  ]

  joined-once : (j k : ℕ) (a b : StreamPlace)
      → (slice_get front j ≡ Some a)
      ⊎ ((i : ℕ) × (j ≡ length front + i) × (slice_get rest i ≡ Some a))
      → (slice_get front k ≡ Some b)
      ⊎ ((i : ℕ) × (k ≡ length front + i) × (slice_get rest i ≡ Some b))
      → a.call ≡ b.call → j ≡ k
  joined-once j k a b (inl first) (inl second) same = reaches.legal.once j k a b first second same
  joined-once j k a b (inl first) (inr (i, e, second)) same =
      absurd (in-one a b (j, first) (i, second) same)
  joined-once j k a b (inr (i, e, first)) (inl second) same =
      absurd (in-one b a (k, second) (i, first) (sym same))
  joined-once j k a b (inr (i, e, first)) (inr (h, f, second)) same =
      let equal : i ≡ h = continues.once i h a b first second same in omega arith

  joined-precedence : (j k : ℕ) (a b : StreamPlace)
      → (slice_get front j ≡ Some a)
      ⊎ ((i : ℕ) × (j ≡ length front + i) × (slice_get rest i ≡ Some a))
      → (slice_get front k ≡ Some b)
      ⊎ ((i : ℕ) × (k ≡ length front + i) × (slice_get rest i ≡ Some b))
      → StreamPrecedes (stream ++ later) a.call b.call → j < k
  joined-precedence j k a b (inl first) (inl second) (end, reply, returns, before) =
      let low : b.call < length stream =
      call_within stream b.call (reaches.legal.calls b (k, second)) in
      reaches.legal.precedence j k a b first second
      (end, reply, returns-shorter stream later a.call end reply (omega arith) returns, before)
  joined-precedence j k a b (inl first) (inr (i, e, second)) before =
      omega (arith, slice_get_within front j a first)
  joined-precedence j k a b (inr (i, e, first)) (inl second) (end, reply, returns, before) =
      let low : b.call < length stream =
      call_within stream b.call (reaches.legal.calls b (k, second)) in
      let past : length stream ≤ end = continues.pending a (i, first) end reply returns in
      absurd (omega arith)
  joined-precedence j k a b (inr (i, e, first)) (inr (h, f, second)) before =
      let less : i < h = continues.precedence i h a b first second before in omega arith

  pub joined_is_legal : IsLegalStreamOrder spec (stream ++ later) (front ++ rest)
  joined_is_legal = record {
    calls = λ place among. elim (among-cases front rest place among) [
      | inl left ↦ let is = reaches.legal.calls place left in
          (is.0, is.1, get-longer stream later place.call (Called is.0 is.1) is.2)
      | inr right ↦ continues.calls place right
    ];
    once = λ j k a b first second same.
        joined-once j k a b (get-cases front rest j a first) (get-cases front rest k b second) same;
    returned = λ call end reply returns.
        let place : StreamPlace = record { call = call; reply = reply } in
        elim (cases_lt end (length stream)) [
          | inl low ↦ among-left front rest place (reaches.legal.returned call end reply
              (returns-shorter stream later call end reply low returns))
          | inr past ↦ elim (continues.returned call end reply returns past) [
            | inl placed ↦ among-left front rest place ((reaches.placed place).0 placed).0
            | inr right ↦ among-right front rest place right
          ]
        ];
    run =
        let step = stream_step (stream ++ later) in
        let steps : map step front ≡ map (stream_step stream) front =
        steps-longer stream later front reaches.legal.calls in
        let first : IsRunFrom spec.next spec.init (map step front) =
        subst (λ (s : List (ℕ × ℕ)). IsRunFrom spec.next spec.init s)
        (sym steps) reaches.legal.run in
        let list : list_after_run spec.next spec.init (map step front) ≡ at.list =
        ap (λ (s : List (ℕ × ℕ)). list_after_run spec.next spec.init s) steps ∙ reaches.list in
        let second : IsRunFrom spec.next (list_after_run spec.next spec.init (map step front))
        (map step rest) =
        subst (λ (l : List ℕ). IsRunFrom spec.next l (map step rest)) (sym list) continues.run in
        subst (λ (s : List (ℕ × ℕ)). IsRunFrom spec.next spec.init s)
        (sym (map-both step front rest))
        (run-both spec.next spec.init (map step front) (map step rest) first second);
    precedence = λ j k a b first second before. joined-precedence j k a b
        (get-cases front rest j a first) (get-cases front rest k b second) before;
  }
