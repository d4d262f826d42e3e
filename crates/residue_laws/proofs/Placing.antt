-- Calls that are placed one after another, as a whole.
use Rattle.std.proofs.Common.{◌≡◌, ℕ, zero, suc, ◌+◌, ◌<◌, ◌⊎◌, ◌∙◌, List, [], ◌∷◌, ◌++◌, length, map, Some, refl, sym, ap, subst, inl, inr, slice_get, arith}
use Rattle.std.specs.Prelude.{◌↔◌}
use Rattle.std.proofs.lemmas.Option.{same_Some, none-some, slice_get_within}
use Rattle.book_base.specs.SeqSpec.{SeqSpec}
use Rattle.book_base.specs.Sequential.{IsRunFrom}
use Rattle.book_base.specs.Reaching.{list_after_run}
use Rattle.streams.specs.Stream.{StreamEvent, IsStreamCall, HasReturned, StreamPrecedes}
use Rattle.streams.specs.StreamOrder.{StreamPlace, stream_step, IsAmong}
use Rattle.residue_laws.specs.Residue.{Configuration, StreamReaches}
use Rattle.residue_laws.specs.Step.{MayPlace, with_place, ArePlaced}
use Rattle.residue_laws.proofs.Appending.{get-cases, run-both, after-both, map-both, AreCalls, among-left, among-right, among-cases}
use Rattle.residue_laws.proofs.Fronts.{ArePending}

-- Some places follow on a configuration, which comes to another one by them: their calls are
-- different, haven't returned and aren't placed yet, and the replies are those of the object.
pub record FollowOn (next : List ℕ → ℕ → List ℕ × ℕ) (stream : List StreamEvent)
    (at : Configuration) (rest : List StreamPlace) (after : Configuration) : Type 0 where
  pub calls : AreCalls stream rest
  pub pending : ArePending stream rest
  pub unplaced : (place other : StreamPlace) → IsAmong rest place → IsAmong at.placed other
      → other.call ≡ place.call → ⊥
  pub once : (j k : ℕ) (a b : StreamPlace) → slice_get rest j ≡ Some a → slice_get rest k ≡ Some b
      → a.call ≡ b.call → j ≡ k
  pub run : IsRunFrom next at.list (map (stream_step stream) rest)
  pub placed : (place : StreamPlace)
      → (IsAmong after.placed place ↔ IsAmong at.placed place ⊎ IsAmong rest place)
  pub list : list_after_run next at.list (map (stream_step stream) rest) ≡ after.list

-- what is among some places with one more before them
pub among-cons : (first : StreamPlace) (rest : List StreamPlace) (place : StreamPlace)
    → IsAmong (first ∷ rest) place → (first ≡ place) ⊎ IsAmong rest place
among-cons first rest place (zero, at) = inl (same_Some first place at)
among-cons first rest place (suc k, at) = inr (k, at)

pub among-first : (first : StreamPlace) (rest : List StreamPlace) (place : StreamPlace)
    → first ≡ place → IsAmong (first ∷ rest) place
among-first first rest place same = (0, ap (λ (p : StreamPlace). Some p) same)

pub among-later : (first : StreamPlace) (rest : List StreamPlace) (place : StreamPlace)
    → IsAmong rest place → IsAmong (first ∷ rest) place
among-later first rest place (k, at) = (suc k, at)

pub nothing_among : (place : StreamPlace) → IsAmong [] place → ⊥
nothing_among place (k, at) = none-some place at

module _ (next : List ℕ → ℕ → List ℕ × ℕ) (stream : List StreamEvent) where
  placed-tail : (at after : Configuration) (first : StreamPlace) (rest : List StreamPlace)
      → FollowOn next stream at (first ∷ rest) after
      → FollowOn next stream (with_place next stream at first) rest after
  placed-tail at after first rest h = record {
    calls = λ place among. h.calls place (among-later first rest place among);
    pending = λ place among. h.pending place (among-later first rest place among);
    unplaced = λ place other (k, here) placed same. elim (among-cons first at.placed other placed) [
      | inl is ↦
          let twice : 0 ≡ suc k =
          h.once 0 (suc k) first place refl here (ap (λ (p : StreamPlace). p.call) is ∙ same) in
          omega arith
      | inr old ↦ h.unplaced place other (suc k, here) old same
    ];
    once = λ j k a b one two same.
        let equal : suc j ≡ suc k = h.once (suc j) (suc k) a b one two same in omega arith;
    run = h.run.1;
    placed = λ place. (
      λ among. elim ((h.placed place).0 among) [
        | inl old ↦ inl (among-later first at.placed place old)
        | inr new ↦ elim (among-cons first rest place new) [
          | inl is ↦ inl (among-first first at.placed place is)
          | inr more ↦ inr more
        ]
      ],
      λ either. (h.placed place).1 (elim either [
        | inl with ↦ elim (among-cons first at.placed place with) [
          | inl is ↦ inr (among-first first rest place is)
          | inr old ↦ inl old
        ]
        | inr more ↦ inr (among-later first rest place more)
      ]),
    );
    list = h.list;
  }

  placed-head : (at after : Configuration) (first : StreamPlace) (rest : List StreamPlace)
      → FollowOn next stream at (first ∷ rest) after → MayPlace next stream at first
  placed-head at after first rest h = record {
    call = h.calls first (0, refl);
    pending = h.pending first (0, refl);
    unplaced = λ other placed same. h.unplaced first other (0, refl) placed same;
    reply = h.run.0;
  }

  -- places that follow on may be placed one after another
  pub are_placed : (at after : Configuration) (rest : List StreamPlace)
      → FollowOn next stream at rest after → ArePlaced next stream at rest after
  are_placed at after [] h = (
    λ place. (
      λ among. (h.placed place).1 (inl among),
      λ among. elim ((h.placed place).0 among) [
        | inl old ↦ old
        | inr none ↦ absurd (nothing_among place none)
      ],
    ),
    h.list,
  )
  are_placed at after (first ∷ rest) h = (
    placed-head at after first rest h,
    are_placed (with_place next stream at first) after rest (placed-tail at after first rest h),
  )

  follow-once : (at after : Configuration) (first : StreamPlace) (rest : List StreamPlace)
      → FollowOn next stream (with_place next stream at first) rest after
      → (j k : ℕ) (a b : StreamPlace) → slice_get (first ∷ rest) j ≡ Some a
      → slice_get (first ∷ rest) k ≡ Some b → a.call ≡ b.call → j ≡ k
  follow-once at after first rest h zero zero a b one two same = refl
  follow-once at after first rest h zero (suc k) a b one two same =
      absurd (h.unplaced b a (k, two) (0, one) same)
  follow-once at after first rest h (suc j) zero a b one two same =
      absurd (h.unplaced a b (j, one) (0, two) (sym same))
  follow-once at after first rest h (suc j) (suc k) a b one two same =
      ap suc (h.once j k a b one two same)

  -- one more place before those that follow on
  follow-cons : (at after : Configuration) (first : StreamPlace) (rest : List StreamPlace)
      → MayPlace next stream at first
      → FollowOn next stream (with_place next stream at first) rest after
      → FollowOn next stream at (first ∷ rest) after
  follow-cons at after first rest may h = record {
    calls = λ place among. elim (among-cons first rest place among) [
      | inl is ↦ subst (λ (p : StreamPlace). IsStreamCall stream p.call) is may.call
      | inr more ↦ h.calls place more
    ];
    pending = λ place among. elim (among-cons first rest place among) [
      | inl is ↦ subst (λ (p : StreamPlace). HasReturned stream p.call → ⊥) is may.pending
      | inr more ↦ h.pending place more
    ];
    unplaced = λ place other among placed same. elim (among-cons first rest place among) [
      | inl is ↦ may.unplaced other placed (same ∙ sym (ap (λ (p : StreamPlace). p.call) is))
      | inr more ↦ h.unplaced place other more (among-later first at.placed other placed) same
    ];
    once = follow-once at after first rest h;
    run = (may.reply, h.run);
    placed = λ place. (
      λ among. elim ((h.placed place).0 among) [
        | inl with ↦ elim (among-cons first at.placed place with) [
          | inl is ↦ inr (among-first first rest place is)
          | inr old ↦ inl old
        ]
        | inr more ↦ inr (among-later first rest place more)
      ],
      λ either. (h.placed place).1 (elim either [
        | inl old ↦ inl (among-later first at.placed place old)
        | inr new ↦ elim (among-cons first rest place new) [
          | inl is ↦ inl (among-first first at.placed place is)
          | inr more ↦ inr more
        ]
      ]),
    );
    list = h.list;
  }

  -- calls that are placed one after another follow on
  pub follow_on : (at after : Configuration) (rest : List StreamPlace)
      → ArePlaced next stream at rest after → FollowOn next stream at rest after
  follow_on at after [] (placed, list) = record {
    calls = λ place among. absurd (nothing_among place among);
    pending = λ place among. absurd (nothing_among place among);
    unplaced = λ place other among. absurd (nothing_among place among);
    once = λ j k a b first second same. absurd (none-some a first);
    run = tt;
    placed = λ place. (
      λ among. inl ((placed place).1 among),
      λ either. elim either [
        | inl old ↦ (placed place).0 old
        | inr none ↦ absurd (nothing_among place none)
      ],
    );
    list = list;
  }
  follow_on at after (first ∷ rest) (may, later) = follow-cons at after first rest may
      (follow_on (with_place next stream at first) after rest later)

-- A legal order goes on by places that follow on the configuration to which it comes.
module _ (spec : SeqSpec) (stream : List StreamEvent) (order rest : List StreamPlace)
    (at after : Configuration) (reaches : StreamReaches spec stream order at)
    (follows : FollowOn spec.next stream at rest after) where
  order-in_one : (a b : StreamPlace) → IsAmong order a → IsAmong rest b → a.call ≡ b.call → ⊥
  order-in_one a b first second same =
      follows.unplaced b a second ((reaches.placed a).1 (
        first,
        λ returned.
            follows.pending b second (subst (HasReturned stream) same returned),
      )) same

  order-once : (j k : ℕ) (a b : StreamPlace)
      → (slice_get order j ≡ Some a)
      ⊎ ((i : ℕ) × (j ≡ length order + i) × (slice_get rest i ≡ Some a))
      → (slice_get order k ≡ Some b)
      ⊎ ((i : ℕ) × (k ≡ length order + i) × (slice_get rest i ≡ Some b))
      → a.call ≡ b.call → j ≡ k
  order-once j k a b (inl first) (inl second) same = reaches.legal.once j k a b first second same
  order-once j k a b (inl first) (inr (i, e, second)) same =
      absurd (order-in_one a b (j, first) (i, second) same)
  order-once j k a b (inr (i, e, first)) (inl second) same =
      absurd (order-in_one b a (k, second) (i, first) (sym same))
  order-once j k a b (inr (i, e, first)) (inr (h, f, second)) same =
      let equal : i ≡ h = follows.once i h a b first second same in omega arith

  order-precedence : (j k : ℕ) (a b : StreamPlace)
      → (slice_get order j ≡ Some a)
      ⊎ ((i : ℕ) × (j ≡ length order + i) × (slice_get rest i ≡ Some a))
      → (slice_get order k ≡ Some b)
      ⊎ ((i : ℕ) × (k ≡ length order + i) × (slice_get rest i ≡ Some b))
      → StreamPrecedes stream a.call b.call → j < k
  order-precedence j k a b (inl first) (inl second) before =
      reaches.legal.precedence j k a b first second before
  order-precedence j k a b (inl first) (inr (i, e, second)) before =
      omega (arith, slice_get_within order j a first)
  order-precedence j k a b (inr (i, e, first)) either (end, reply, returns, before) =
      absurd (follows.pending a (i, first) (end, reply, returns))

  pub reaches_on : StreamReaches spec stream (order ++ rest) after
  reaches_on =
      let step = stream_step stream in
      let list : list_after_run spec.next spec.init (map step order) ≡ at.list = reaches.list in
      let second : IsRunFrom spec.next (list_after_run spec.next spec.init (map step order))
      (map step rest) =
      subst (λ (l : List ℕ). IsRunFrom spec.next l (map step rest)) (sym list) follows.run in
      record {
        legal = record {
          calls = λ place among. elim (among-cases order rest place among) [
            | inl left ↦ reaches.legal.calls place left
            | inr right ↦ follows.calls place right
          ];
          once = λ j k a b one two same. order-once j k a b (get-cases order rest j a one)
              (get-cases order rest k b two) same;
          returned = λ call end reply returns. among-left order rest
              (record { call = call; reply = reply })
              (reaches.legal.returned call end reply returns);
          run = subst (λ (s : List (ℕ × ℕ)). IsRunFrom spec.next spec.init s)
              (sym (map-both step order rest))
              (run-both spec.next spec.init (map step order)
              (map step rest) reaches.legal.run second);
          precedence = λ j k a b one two before. order-precedence j k a b
              (get-cases order rest j a one) (get-cases order rest k b two) before;
        };
        placed = λ place. (
          λ among. elim ((follows.placed place).0 among) [
            | inl old ↦ let is = (reaches.placed place).0 old in
                (among-left order rest place is.0, is.1)
            | inr new ↦ (among-right order rest place new, follows.pending place new)
          ],
          λ (among, not). (follows.placed place).1 (elim (among-cases order rest place among) [
            | inl left ↦ inl ((reaches.placed place).1 (left, not))
            | inr right ↦ inr right
          ]),
        );
        list = ap (λ (s : List (ℕ × ℕ)). list_after_run spec.next spec.init s)
            (map-both step order rest)
            ∙ (after-both spec.next spec.init (map step order) (map step rest)
            ∙ (ap (λ (l : List ℕ). list_after_run spec.next l (map step rest)) list
            ∙ follows.list));
      }
