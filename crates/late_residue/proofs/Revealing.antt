-- What is left of a late residue where a reply becomes known.
use Rattle.std.proofs.Common.{◌≡◌, ◌∙◌, ℕ, ◌+◌, ◌<◌, ◌≤◌, Bool, true, false, not, ◌==◌, ◌||◌, List, [], ◌∷◌, map, length, Some, slice_get, slice_set, if◌then◌else◌, refl, sym, ap, subst, inl, inr, arith}
use Rattle.std.specs.List.{filter, list_all}
use Rattle.std.proofs.lemmas.Bool.{cases_Bool, cases_eq, cases_lt, eqb-true}
use Rattle.std.proofs.lemmas.Option.{same_Some, slice_get_within}
use Rattle.book_base.specs.SeqSpec.{SeqSpec}
use Rattle.streams.specs.Stream.{StreamEvent}
use Rattle.streams.specs.StreamOrder.{StreamPlace, IsAmong}
use Rattle.residue_laws.specs.Residue.{Configuration}
use Rattle.residue_laws.proofs.Placing.{among-cons, nothing_among, follow_on}
use Rattle.late_residue.specs.declared.open_call.OpenCall.{OpenCall}
use Rattle.late_residue.specs.declared.reached.Placed.{Placed}
use Rattle.late_residue.specs.declared.reached.Reached.{Reached}
use Rattle.late_residue.specs.Description.{Description}
use Rattle.late_residue.specs.Reached.{Has, place_of, description_of, descriptions_of}
use Rattle.late_residue.specs.Meaning.{Means}
use Rattle.late_residue.specs.Known.{MayHaveReply, with_reply, IsKnownPlace, AgreesWithKnown}
use Rattle.late_residue.specs.Placing.{IsForgotten, AreAllForgotten}
use Rattle.late_residue.specs.LateOnes.{AreLate}
use Rattle.late_residue.proofs.Items.{eqb-same, map-at, map-from, has-map, filter-has, has-filter, set-from, set-to, set-at, all-has, has-all}
use Rattle.late_residue.proofs.Meanings.{least}

-- a call is placed at a configuration with this reply or not at all
abbrev pub HasOnly : ℕ → ℕ → Configuration → Type 0
HasOnly call reply at = (place : StreamPlace) → IsAmong at.placed place → place.call ≡ call
    → place.reply ≡ reply

module _ (call reply : ℕ) (calls : List OpenCall)
    (may : (one : OpenCall) → Has calls one → one.call ≡ call → MayHaveReply one reply) where
  abbrev later : List OpenCall
  later = map (with_reply call reply) calls

  revealed : (one : OpenCall) → one.call ≡ call
      → with_reply call reply one ≡ record one { reply = Some reply }
  revealed one same = ap (λ (b : Bool). if b then record one { reply = Some reply } else one)
      (eqb-same one.call call same)

  not_revealed : (one : OpenCall) → (one.call ≡ call → ⊥) → with_reply call reply one ≡ one
  not_revealed one apart = elim (cases_Bool (one.call == call)) [
    | inl is ↦ absurd (apart (eqb-true one.call call is))
    | inr differs ↦
        ap (λ (b : Bool). if b then record one { reply = Some reply } else one) differs
  ]

  -- where a configuration agrees with what was known, and has the call only with the reply, it
  -- agrees with what is known now, and the other way round
  agree-more : (at : Configuration) → AgreesWithKnown calls at → HasOnly call reply at
      → AgreesWithKnown later at
  agree-more at agrees only place among one (k, has) same known given =
      let old = map-from (with_reply call reply) calls k one has in
      elim (cases_eq old.0.call call) [
        | inl is ↦
            let now : record old.0 { reply = Some reply } ≡ one =
            sym (revealed old.0 is) ∙ old.2 in
            let named : old.0.call ≡ one.call = ap (λ (c : OpenCall). c.call) now in
            let told : Some reply ≡ Some known = ap (λ (c : OpenCall). c.reply) now ∙ given in
            only place among (sym same ∙ (sym named ∙ is)) ∙ same_Some reply known told
        | inr apart ↦
            let now : old.0 ≡ one = sym (not_revealed old.0 apart) ∙ old.2 in
            agrees place among old.0 (k, old.1) (ap (λ (c : OpenCall). c.call) now ∙ same) known
            (ap (λ (c : OpenCall). c.reply) now ∙ given)
      ]

  later_has : (one : OpenCall) → Has calls one → Has later (with_reply call reply one)
  later_has one has = has-map (with_reply call reply) calls one has

  agree-less : (at : Configuration) → AgreesWithKnown later at → AgreesWithKnown calls at
  agree-less at agrees place among one has same known given = elim (cases_eq one.call call) [
    | inl is ↦
        let now = revealed one is in
        let there = later_has one has in
        let replies : place.reply ≡ reply = agrees place among (with_reply call reply one) there
        (ap (λ (c : OpenCall). c.call) now ∙ same) reply (ap (λ (c : OpenCall). c.reply) now) in
        replies ∙ may one has is known given
    | inr apart ↦
        let now = not_revealed one apart in
        agrees place among (with_reply call reply one) (later_has one has)
        (ap (λ (c : OpenCall). c.call) now ∙ same) known
        (ap (λ (c : OpenCall). c.reply) now ∙ given)
  ]

  -- a call that is open and placed is placed with the reply alone
  only-later : (at : Configuration) (one : OpenCall) → Has calls one → one.call ≡ call
      → AgreesWithKnown later at → HasOnly call reply at
  only-later at one has is agrees place among same =
      let now = revealed one is in
      agrees place among (with_reply call reply one) (later_has one has)
      (ap (λ (c : OpenCall). c.call) now ∙ (is ∙ sym same)) reply
      (ap (λ (c : OpenCall). c.reply) now)

  -- what is left of a late residue where the optional places with other replies go too
  pub reveals : (spec : SeqSpec) (stream : List StreamEvent) (found : OpenCall) → Has calls found
      → found.call ≡ call → (ones new : List Description)
      → ((one : Description) → Has new one → (old : Description) × Has ones old
      × HasOnly call reply (least old) × IsForgotten call reply old one)
      → ((old : Description) → Has ones old → HasOnly call reply (least old)
      → (one : Description) × Has new one × IsForgotten call reply old one)
      → AreLate spec stream calls ones → AreLate spec stream later new
  reveals spec stream found has named ones new back each late = record {
    reached = λ one is.
        let old = back one is in
        let sound = late.reached old.0 old.1 in
        record {
          each = λ at means. sound.each at (old_means old.0 one old.3 at means);
          agree = λ place among. elim among [
            | inl placed ↦
                let there = subst (λ (ps : List StreamPlace). IsAmong ps place) old.3.placed placed in
                agree-more (record { placed = place ∷ []; list = [] })
                (λ p h. elim (among-cons place [] p h) [
                  | inl same ↦ subst (λ (q : StreamPlace). IsKnownPlace calls q) same
                      (sound.agree place (inl there))
                  | inr none ↦ absurd (nothing_among p none)
                ])
                (λ p h e. elim (among-cons place [] p h) [
                  | inl same ↦ old.2 p
                      (subst (λ (q : StreamPlace). IsAmong old.0.placed q) same there) e
                  | inr none ↦ absurd (nothing_among p none)
                ]) place (0, refl)
            | inr optional ↦
                let there = (old.3.optional place).0 optional in
                agree-more (record { placed = place ∷ []; list = [] })
                (λ p h. elim (among-cons place [] p h) [
                  | inl same ↦ subst (λ (q : StreamPlace). IsKnownPlace calls q) same
                      (sound.agree place (inr there.0))
                  | inr none ↦ absurd (nothing_among p none)
                ])
                (λ p h. elim (among-cons place [] p h) [
                  | inl same ↦ subst
                      (λ (q : StreamPlace). q.call ≡ call → q.reply ≡ reply) same there.1
                  | inr none ↦ absurd (nothing_among p none)
                ]) place (0, refl)
          ];
          once = λ a b first second. sound.once a b
              (subst (λ (ps : List StreamPlace). IsAmong ps a) old.3.placed first)
              (subst (λ (ps : List StreamPlace). IsAmong ps b) old.3.placed second);
        };
    whole = λ at residue agrees.
        let led = late.whole at residue (agree-less at agrees) in
        let only : HasOnly call reply led.0 = λ place among.
        only-later at found has named agrees place
        (((follow_on spec.next stream led.0 at led.2.0 led.2.1).placed place).1 (inl among)) in
        let one = each led.1.0 led.1.1 (λ place among. only place (led.1.2.placed place among)) in
        (led.0, (one.0, one.1, new_means led.1.0 one.0 one.2 led.0 only led.1.2), led.2);
  }
    where
      old_means : (old one : Description) → IsForgotten call reply old one → (at : Configuration)
          → Means one at → Means old at
      old_means old one forgot at means = record {
        list = means.list ∙ forgot.list;
        placed = λ p among. means.placed p
            (subst (λ (ps : List StreamPlace). IsAmong ps p) (sym forgot.placed) among);
        either = λ p among. elim (means.either p among) [
          | inl placed ↦ inl (subst (λ (ps : List StreamPlace). IsAmong ps p) forgot.placed placed)
          | inr optional ↦ inr ((forgot.optional p).0 optional).0
        ];
        once = means.once;
      }

      new_means : (old one : Description) → IsForgotten call reply old one → (at : Configuration)
          → HasOnly call reply at → Means old at → Means one at
      new_means old one forgot at only means = record {
        list = means.list ∙ sym forgot.list;
        placed = λ p among. means.placed p
            (subst (λ (ps : List StreamPlace). IsAmong ps p) forgot.placed among);
        either = λ p among. elim (means.either p among) [
          | inl placed ↦ inl (subst (λ (ps : List StreamPlace). IsAmong ps p) (sym forgot.placed)
              placed)
          | inr optional ↦ inr ((forgot.optional p).1 (optional, only p among))
        ];
        once = means.once;
      }

-- the test of a description of the code
abbrev pub only_test : ℕ → ℕ → Reached → Bool
only_test call reply r =
    list_all (λ (p : Placed). not (p.call == call) || p.reply == reply) r.placed.items

pub only_sound : (call reply : ℕ) (r : Reached) → only_test call reply r ≡ true
    → HasOnly call reply (least (description_of r))
only_sound call reply r e place (k, at) same =
    let from = map-from place_of r.placed.items k place at in
    let passes : (not (from.0.call == call) || from.0.reply == reply) ≡ true =
    all-has (λ (p : Placed). not (p.call == call) || p.reply == reply) r.placed.items e from.0
    (k, from.1) in
    let is : (from.0.call == call) ≡ true = eqb-same from.0.call call
    (ap (λ (p : StreamPlace). p.call) from.2 ∙ same) in
    let second : (from.0.reply == reply) ≡ true =
    subst (λ (b : Bool). (not b || from.0.reply == reply) ≡ true) is passes in
    ap (λ (p : StreamPlace). p.reply) (sym from.2) ∙ eqb-true from.0.reply reply second

pub only_complete : (call reply : ℕ) (r : Reached) → HasOnly call reply (least (description_of r))
    → only_test call reply r ≡ true
only_complete call reply r only =
    has-all (λ (p : Placed). not (p.call == call) || p.reply == reply) r.placed.items
    (λ p has. elim (cases_Bool (p.call == call)) [
      | inl is ↦
          let replies : p.reply ≡ reply = only (place_of p)
          (has-map place_of r.placed.items p has) (eqb-true p.call call is) in
          subst (λ (b : Bool). (not b || p.reply == reply) ≡ true) (sym is)
          (eqb-same p.reply reply replies)
      | inr differs ↦
          subst (λ (b : Bool). (not b || p.reply == reply) ≡ true) (sym differs) refl
    ])

-- the test of an optional place of the code
abbrev pub place_test : ℕ → ℕ → Placed → Bool
place_test call reply p = not (p.call == call) || p.reply == reply

or_second : (a b : Bool) → a ≡ true → (not a || b) ≡ true → b ≡ true
or_second a b is e = subst (λ (c : Bool). (not c || b) ≡ true) is e

or_first : (a b : Bool) → (a ≡ true → b ≡ true) → (not a || b) ≡ true
or_first true b both = both refl
or_first false b both = refl

pub forgotten : (call reply : ℕ) (placed items left : List Placed) (list : List ℕ)
    → left ≡ filter (place_test call reply) items
    → IsForgotten call reply
    (record { placed = map place_of placed; optional = map place_of items; list = list })
    (record { placed = map place_of placed; optional = map place_of left; list = list })
forgotten call reply placed items left list is = record {
  list = refl;
  placed = refl;
  optional = λ q. (
    λ (k, at).
        let from = map-from place_of left k q at in
        let there : Has (filter (place_test call reply) items) from.0 =
        subst (λ (l : List Placed). Has l from.0) is (k, from.1) in
        let kept = filter-has (place_test call reply) items from.0 there in (
          subst (λ (s : StreamPlace). IsAmong (map place_of items) s) from.2
              (has-map place_of items from.0 kept.0),
          λ (same : q.call ≡ call).
              let named : (from.0.call == call) ≡ true = eqb-same from.0.call call
              (ap (λ (s : StreamPlace). s.call) from.2 ∙ same) in
              ap (λ (s : StreamPlace). s.reply) (sym from.2)
              ∙ eqb-true from.0.reply reply
              (or_second (from.0.call == call) (from.0.reply == reply) named kept.1),
        ),
    λ ((k, at), only).
        let from = map-from place_of items k q at in
        let passes : place_test call reply from.0 ≡ true =
        or_first (from.0.call == call) (from.0.reply == reply) (λ named.
        eqb-same from.0.reply reply (ap (λ (s : StreamPlace). s.reply) from.2
        ∙ only (sym (ap (λ (s : StreamPlace). s.call) from.2) ∙ eqb-true from.0.call call named))) in
        subst (λ (s : StreamPlace). IsAmong (map place_of left) s) from.2
        (has-map place_of left from.0 (subst (λ (l : List Placed). Has l from.0) (sym is)
        (has-filter (place_test call reply) items from.0 (k, from.1) passes))),
  );
}

-- The descriptions at the places below a number are forgotten, and the others are the same.
abbrev pub IsForgottenAt : ℕ → ℕ → ℕ → ℕ → Reached → Reached → Type 0
IsForgottenAt call reply k j r s =
    (j < k → IsForgotten call reply (description_of r) (description_of s)) × (k ≤ j → s ≡ r)

pub record AreForgottenSoFar (call reply : ℕ) (old new : List Reached) (k : ℕ) : Type 0 where
  pub back : (j : ℕ) (s : Reached) → slice_get new j ≡ Some s
      → (r : Reached) × (slice_get old j ≡ Some r) × IsForgottenAt call reply k j r s
  pub each : (j : ℕ) (r : Reached) → slice_get old j ≡ Some r
      → (s : Reached) × (slice_get new j ≡ Some s) × IsForgottenAt call reply k j r s

pub forgotten_none : (call reply : ℕ) (old : List Reached) → AreForgottenSoFar call reply old old 0
forgotten_none call reply old = record {
  back = λ j s at. (s, at, (λ less. absurd (omega (arith, less)), λ above. refl));
  each = λ j r at. (r, at, (λ less. absurd (omega (arith, less)), λ above. refl));
}

not_past : (j k : ℕ) → j ≡ k → k + 1 ≤ j → ⊥
not_past j k same past = omega (arith, same, past)

still_below : (j k : ℕ) → j < k + 1 → (j ≡ k → ⊥) → j < k
still_below j k less apart = elim (cases_lt j k) [
  | inl below ↦ below
  | inr above ↦ let same : j ≡ k = omega (arith, less, above) in absurd (apart same)
]

still_past : (j k : ℕ) → k + 1 ≤ j → k ≤ j
still_past j k past = omega (arith, past)

pub forgotten_next : (call reply : ℕ) (old ones new : List Reached) (k : ℕ) (r s : Reached)
    → AreForgottenSoFar call reply old ones k → slice_get ones k ≡ Some r
    → new ≡ slice_set ones k s → IsForgotten call reply (description_of r) (description_of s)
    → AreForgottenSoFar call reply old new (k + 1)
forgotten_next call reply old ones new k r s so_far there is forgot = record {
  back = λ j x at. elim (set-from ones k s j x
      (subst (λ (l : List Reached). slice_get l j ≡ Some x) is at)) [
        | inl (same, equal) ↦
            let was = so_far.back k r there in
            let before : r ≡ was.0 = was.2.1 (omega arith) in (
              was.0,
              subst (λ (i : ℕ). slice_get old i ≡ Some was.0) (sym same) was.1,
              (
                λ less. subst (λ (y : Reached).
                    IsForgotten call reply (description_of was.0) (description_of y)) equal
                    (subst (λ (y : Reached).
                    IsForgotten call reply (description_of y) (description_of s)) before forgot),
                λ past. absurd (not_past j k same past),
              ),
            )
        | inr (apart, old_at) ↦
            let was = so_far.back j x old_at in (
              was.0,
              was.1,
              (
                λ less. was.2.0 (still_below j k less apart),
                λ past. was.2.1 (still_past j k past),
              ),
            )
      ];
  each = λ j a at.
      let now = so_far.each j a at in
      elim (cases_eq j k) [
        | inl same ↦
            let here : slice_get ones k ≡ Some now.0 =
            subst (λ (i : ℕ). slice_get ones i ≡ Some now.0) same now.1 in
            let low : k ≤ j = omega (arith, same) in
            let before : r ≡ a = same_Some r now.0 (sym there ∙ here) ∙ now.2.1 low in (
              s,
              subst (λ (l : List Reached). slice_get l j ≡ Some s) (sym is)
                  (subst (λ (i : ℕ). slice_get (slice_set ones k s) i ≡ Some s) (sym same)
                  (set-at ones k s r there)),
              (
                λ less. subst (λ (y : Reached).
                    IsForgotten call reply (description_of y) (description_of s)) before forgot,
                λ past. absurd (not_past j k same past),
              ),
            )
        | inr apart ↦ (
          now.0,
          subst (λ (l : List Reached). slice_get l j ≡ Some now.0) (sym is)
              (set-to ones k s j now.0 now.1 apart),
          (
            λ less. now.2.0 (still_below j k less apart),
            λ past. now.2.1 (still_past j k past),
          ),
        )
      ];
}

pub all_forgotten : (call reply : ℕ) (old new : List Reached) (k : ℕ)
    → AreForgottenSoFar call reply old new k → length old ≤ k
    → AreAllForgotten call reply (descriptions_of old) (descriptions_of new)
all_forgotten call reply old new k so_far whole = record {
  back = λ one (j, at).
      let from = map-from description_of new j one at in
      let was = so_far.back j from.0 from.1 in
      let within : j < length old = slice_get_within old j was.0 was.1 in
      let past : j < k = omega (arith, within, whole) in (
        description_of was.0,
        (j, map-at description_of old j was.0 was.1),
        subst (λ (d : Description). IsForgotten call reply (description_of was.0) d) from.2
            (was.2.0 past),
      );
  each = λ one (j, at).
      let from = map-from description_of old j one at in
      let now = so_far.each j from.0 from.1 in
      let within : j < length old = slice_get_within old j from.0 from.1 in
      let past : j < k = omega (arith, within, whole) in (
        description_of now.0,
        (j, map-at description_of new j now.0 now.1),
        subst (λ (d : Description). IsForgotten call reply d (description_of now.0)) from.2
            (now.2.0 past),
      );
}

-- what is left of a late residue, by the code's test and by what is forgotten then
pub reveals_all : (call reply : ℕ) (calls : List OpenCall)
    → ((one : OpenCall) → Has calls one → one.call ≡ call → MayHaveReply one reply)
    → (spec : SeqSpec) (stream : List StreamEvent) (found : OpenCall) → Has calls found
    → found.call ≡ call → (ones kept new : List Reached)
    → kept ≡ filter (only_test call reply) ones
    → AreAllForgotten call reply (descriptions_of kept) (descriptions_of new)
    → AreLate spec stream calls (descriptions_of ones)
    → AreLate spec stream (map (with_reply call reply) calls) (descriptions_of new)
reveals_all call reply calls may spec stream found has named ones kept new is forgot late =
    reveals call reply calls may spec stream found has named (descriptions_of ones)
    (descriptions_of new)
    (λ one there.
    let old = forgot.back one there in
    let from = map-from description_of kept old.1.0 old.0 old.1.1 in
    let passed = filter-has (only_test call reply) ones from.0
    (subst (λ (l : List Reached). Has l from.0) is (old.1.0, from.1)) in (
      old.0,
      subst (λ (d : Description). Has (descriptions_of ones) d) from.2
          (has-map description_of ones from.0 passed.0),
      subst (λ (d : Description). HasOnly call reply (least d)) from.2
          (only_sound call reply from.0 passed.1),
      old.2,
    ))
    (λ old (k, at) only.
    let from = map-from description_of ones k old at in
    let passes = only_complete call reply from.0
    (subst (λ (d : Description). HasOnly call reply (least d)) (sym from.2) only) in
    let there : Has kept from.0 = subst (λ (l : List Reached). Has l from.0) (sym is)
    (has-filter (only_test call reply) ones from.0 (k, from.1) passes) in
    forgot.each old (subst (λ (d : Description). Has (descriptions_of kept) d) from.2
    (has-map description_of kept from.0 there)))
    late
