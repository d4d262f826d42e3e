-- The stream of a process that loses a call.
use Rattle.std.proofs.Common.{◌≡◌, ℕ, zero, suc, ◌<◌, ◌⊎◌, ◌∙◌, [], ◌∷◌, Some, refl, sym, ap, subst, inl, inr, slice_get, arith}
use Rattle.std.proofs.lemmas.Option.{same_Some, none-some}
use Rattle.streams.specs.Stream.{StreamEvent, Called, Returned, Lost, process_of, Ends, IsCalledAt, IsStreamCall, IsQuiet, Returns, HasReturned, IsValidStream}
use Rattle.streams.specs.StreamOrder.{StreamPlace, IsAmong, IsLegalStreamOrder}
use Rattle.residue_laws.specs.Late.{IsInLateResidue}
use Rattle.stream_examples.specs.Counted.{counter, crashed, placed, both, lost_one}

-- the calls are at 0 and 2, both of process 7
called : (k p o : ℕ) → IsCalledAt crashed k p o → ((k ≡ 0) ⊎ (k ≡ 2)) × (p ≡ 7)
called zero p o at = (inl refl, ap process_of (sym (same_Some (Called 7 1) (Called p o) at)))
called (suc zero) p o at = absurd cc
called (suc (suc zero)) p o at =
    (inr refl, ap process_of (sym (same_Some (Called 7 1) (Called p o) at)))
called (suc (suc (suc zero))) p o at = absurd cc
called (suc (suc (suc (suc k)))) p o at = absurd (none-some (Called p o) at)

-- the only return is at 3
return_at : (k p r : ℕ) → slice_get crashed k ≡ Some (Returned p r) → (k ≡ 3) × (r ≡ 1)
return_at zero p r at = absurd cc
return_at (suc zero) p r at = absurd cc
return_at (suc (suc zero)) p r at = absurd cc
return_at (suc (suc (suc zero))) p r at =
    let e : Returned 7 1 ≡ Returned p r = same_Some _ _ at in
    let reply : r ≡ 1 = cc in (refl, reply)
return_at (suc (suc (suc (suc k)))) p r at = absurd (none-some (Returned p r) at)

-- only the second call returns
returns : (call end reply : ℕ) → Returns crashed call end reply
    → (call ≡ 2) × (end ≡ 3) × (reply ≡ 1)
returns call end reply h =
    let back = return_at end h.process reply h.returned in
    let is = called call h.process h.op h.called in
    elim is.0 [
      | inl first ↦ absurd (h.quiet 1 (Lost 7) (omega (arith, first)) (omega (arith, back.0)) refl
          (sym is.1))
      | inr second ↦ (second, back.0, back.1)
    ]

second_returns : Returns crashed 2 3 1
second_returns = record {
  process = 7;
  op = 1;
  called = refl;
  returned = refl;
  after = omega arith;
  quiet = λ k event low high at is. omega arith;
}

between : (j k p op other : ℕ) → j < k → IsCalledAt crashed j p op → IsCalledAt crashed k p other
    → (end : ℕ) × (event : StreamEvent) × (j < end) × (end < k)
    × (slice_get crashed end ≡ Some event) × (process_of event ≡ p) × Ends event
between j k p op other less first second =
    let a = called j p op first in
    let b = called k p other second in
    elim a.0 [
      | inl low ↦ elim b.0 [
        | inl none ↦ absurd (omega arith)
        | inr high ↦ (1, Lost 7, omega arith, omega arith, refl, sym a.1, tt)
      ]
      | inr low ↦ elim b.0 [
        | inl none ↦ absurd (omega arith)
        | inr none ↦ absurd (omega arith)
      ]
    ]

ended : (end : ℕ) (event : StreamEvent) → slice_get crashed end ≡ Some event → Ends event
    → (call : ℕ) × (op : ℕ) × (call < end) × IsCalledAt crashed call (process_of event) op
    × IsQuiet crashed (process_of event) call end
ended zero event at is = absurd (subst Ends (sym (same_Some (Called 7 1) event at)) is)
ended (suc zero) event at is =
    let e : Lost 7 ≡ event = same_Some _ _ at in (
      0,
      1,
      omega arith,
      ap (λ (x : StreamEvent). Some (Called (process_of x) 1)) e,
      λ k other low high here same. omega arith,
    )
ended (suc (suc zero)) event at is = absurd (subst Ends (sym (same_Some (Called 7 1) event at)) is)
ended (suc (suc (suc zero))) event at is =
    let e : Returned 7 1 ≡ event = same_Some _ _ at in (
      2,
      1,
      omega arith,
      ap (λ (x : StreamEvent). Some (Called (process_of x) 1)) e,
      λ k other low high here same. omega arith,
    )
ended (suc (suc (suc (suc k)))) event at is = absurd (none-some event at)

pub crashed_is_valid : IsValidStream crashed
crashed_is_valid = record { calls = between; ends = ended }

-- a place of the order is one of the two
place_at : (k : ℕ) (place : StreamPlace) → slice_get both k ≡ Some place
    → ((k ≡ 0) × (placed 0 0 ≡ place)) ⊎ ((k ≡ 1) × (placed 2 1 ≡ place))
place_at zero place at = inl (refl, same_Some _ _ at)
place_at (suc zero) place at = inr (refl, same_Some _ _ at)
place_at (suc (suc k)) place at = absurd (none-some place at)

one_place : (j k : ℕ) (a b : StreamPlace) → slice_get both j ≡ Some a → slice_get both k ≡ Some b
    → a.call ≡ b.call → j ≡ k
one_place j k a b first second same = elim (place_at j a first) [
  | inl (low, is) ↦ elim (place_at k b second) [
    | inl (also, has) ↦ low ∙ sym also
    | inr (also, has) ↦ absurd (omega (
      arith,
      ap (λ (p : StreamPlace). p.call) is,
      ap (λ (p : StreamPlace). p.call) has,
    ))
  ]
  | inr (low, is) ↦ elim (place_at k b second) [
    | inl (also, has) ↦ absurd (omega (
      arith,
      ap (λ (p : StreamPlace). p.call) is,
      ap (λ (p : StreamPlace). p.call) has,
    ))
    | inr (also, has) ↦ low ∙ sym also
  ]
]

pub both_are_legal : IsLegalStreamOrder counter crashed both
both_are_legal = record {
  calls = λ place (k, at). elim (place_at k place at) [
    | inl (low, is) ↦ subst (λ (p : StreamPlace). IsStreamCall crashed p.call) is (7, 1, refl)
    | inr (low, is) ↦ subst (λ (p : StreamPlace). IsStreamCall crashed p.call) is (7, 1, refl)
  ];
  once = one_place;
  returned = λ call end reply h. let is = returns call end reply h in (
    1,
    ap (λ (c : ℕ). Some (placed c 1)) (sym is.0)
        ∙ ap (λ (r : ℕ). Some (placed call r)) (sym is.2),
  );
  run = (refl, (refl, tt));
  precedence = λ j k a b first second (end, reply, h, before).
      let is = returns a.call end reply h in
      elim (place_at k b second) [
        | inl (low, has) ↦ absurd (omega (arith, is.1, ap (λ (p : StreamPlace). p.call) has))
        | inr (low, has) ↦ absurd (omega (arith, is.1, ap (λ (p : StreamPlace). p.call) has))
      ];
}

first_is_pending : (k : ℕ) (place : StreamPlace) → slice_get (placed 0 0 ∷ []) k ≡ Some place
    → IsAmong both place × (HasReturned crashed place.call → ⊥)
first_is_pending zero place at = (
  (0, at),
  λ (end, reply, h).
      let is = returns place.call end reply h in
      let first : placed 0 0 ≡ place = same_Some _ _ at in
      absurd (omega (arith, is.0, ap (λ (p : StreamPlace). p.call) first)),
)
first_is_pending (suc k) place at = absurd (none-some place at)

pending_is_first : (place : StreamPlace) → IsAmong both place
    → (HasReturned crashed place.call → ⊥) → IsAmong (placed 0 0 ∷ []) place
pending_is_first place (k, at) not = elim (place_at k place at) [
  | inl (low, is) ↦ (0, ap (λ (p : StreamPlace). Some p) is)
  | inr (low, is) ↦ absurd (not (
    3,
    1,
    subst (λ (p : StreamPlace). Returns crashed p.call 3 1) is second_returns,
  ))
]

pub lost_one_is_late : IsInLateResidue counter crashed lost_one
lost_one_is_late = (
  both,
  record {
    legal = both_are_legal;
    placed = λ place.
        (λ (k, at). first_is_pending k place at, λ (among, not). pending_is_first place among not);
    list = refl;
  },
  inr (placed 0 0 ∷ [], placed 2 1, refl, (3, 1, second_returns)),
)
