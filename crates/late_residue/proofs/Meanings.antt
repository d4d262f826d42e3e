-- What descriptions mean.
use Rattle.std.proofs.Common.{◌≡◌, ◌⊎◌, ◌∙◌, ℕ, Bool, true, not, ◌==◌, List, [], ◌∷◌, ◌++◌, refl, sym, ap, subst, inl, inr}
use Rattle.std.specs.Prelude.{◌↔◌}
use Rattle.std.specs.List.{filter}
use Rattle.std.proofs.lemmas.Bool.{cases_Bool, cases_eq, eqb-true}
use Rattle.streams.specs.StreamOrder.{StreamPlace, IsAmong}
use Rattle.residue_laws.specs.Residue.{Configuration}
use Rattle.residue_laws.specs.Step.{AreAlike}
use Rattle.residue_laws.proofs.Appending.{among-left, among-right, among-cases}
use Rattle.residue_laws.proofs.Placing.{among-cons, among-first, among-later, nothing_among}
use Rattle.late_residue.specs.declared.open_call.OpenCall.{OpenCall}
use Rattle.late_residue.specs.Description.{Description}
use Rattle.late_residue.specs.Meaning.{AreOnce, Means, Serves, IsWider}
use Rattle.late_residue.specs.Known.{IsKnownPlace}
use Rattle.late_residue.specs.Placing.{AreOf, IsPlacedAt, AreOthers, IsPlacedOn, IsAllowed, IsSound, with_call}
use Rattle.late_residue.proofs.Items.{eqb-same, filter-has, has-filter}

-- places with the same call and the same reply are the same
pub same_place : (a b : StreamPlace) → a.call ≡ b.call → a.reply ≡ b.reply → a ≡ b
same_place a b call reply = ap (λ (c : ℕ). record { call = c; reply = a.reply }) call
    ∙ ap (λ (r : ℕ). record { call = b.call; reply = r }) reply

-- a place is among some places or not
pub among_or_not : (places : List StreamPlace) (place : StreamPlace)
    → IsAmong places place ⊎ (IsAmong places place → ⊥)
among_or_not [] place = inr (λ among. nothing_among place among)
among_or_not (first ∷ rest) place = elim (among_or_not rest place) [
  | inl later ↦ inl (among-later first rest place later)
  | inr none ↦ elim (cases_eq first.call place.call) [
    | inl call ↦ elim (cases_eq first.reply place.reply) [
      | inl reply ↦ inl (among-first first rest place (same_place first place call reply))
      | inr apart ↦ inr (λ among. elim (among-cons first rest place among) [
        | inl is ↦ apart (ap (λ (p : StreamPlace). p.reply) is)
        | inr later ↦ none later
      ])
    ]
    | inr apart ↦ inr (λ among. elim (among-cons first rest place among) [
      | inl is ↦ apart (ap (λ (p : StreamPlace). p.call) is)
      | inr later ↦ none later
    ])
  ]
]

-- a place names its call
pub names : (places : List StreamPlace) (place : StreamPlace) (call : ℕ) → place.call ≡ call
    → IsAmong places place → AreOf places call
names places place call same among = (
  place.reply,
  subst (λ (c : ℕ). IsAmong places (record { call = c; reply = place.reply })) same among,
)

-- a call is among some places or not
pub of_or_not : (places : List StreamPlace) (call : ℕ) → AreOf places call ⊎ (AreOf places call → ⊥)
of_or_not [] call = inr (λ (reply, among). nothing_among _ among)
of_or_not (first ∷ rest) call = elim (of_or_not rest call) [
  | inl (reply, later) ↦ inl (reply, among-later first rest _ later)
  | inr none ↦ elim (cases_eq first.call call) [
    | inl same ↦ inl (names (first ∷ rest) first call same (0, refl))
    | inr apart ↦ inr (λ (reply, among). elim (among-cons first rest _ among) [
      | inl is ↦ apart (ap (λ (p : StreamPlace). p.call) is)
      | inr later ↦ none (reply, later)
    ])
  ]
]

-- some places without those of a call
abbrev pub others_of : ℕ → List StreamPlace → List StreamPlace
others_of call places = filter (λ (p : StreamPlace). not (p.call == call)) places

pub others_are : (call : ℕ) (places : List StreamPlace) → AreOthers call places (others_of call places)
others_are call places q = (
  λ among.
      let is = filter-has (λ (p : StreamPlace). not (p.call == call)) places q among in (
        is.0,
        λ (e : q.call ≡ call).
            let clash : not true ≡ true =
            subst (λ (b : Bool). not b ≡ true) (eqb-same q.call call e) is.1 in cc,
      ),
  λ (among, apart).
      has-filter (λ (p : StreamPlace). not (p.call == call)) places q among
      (elim (cases_Bool (q.call == call)) [
        | inl same ↦ absurd (apart (eqb-true q.call call same))
        | inr differs ↦ subst (λ (b : Bool). not b ≡ true) (sym differs) refl
      ]),
)

-- what is among some places with one more after them
pub among-push : (places new : List StreamPlace) (one place : StreamPlace)
    → new ≡ places ++ one ∷ []
    → (IsAmong new place ↔ (one ≡ place) ⊎ IsAmong places place)
among-push places new one place is = (
  λ among. elim (among-cases places (one ∷ []) place
      (subst (λ (ps : List StreamPlace). IsAmong ps place) is among)) [
        | inl old ↦ inr old
        | inr last ↦ elim (among-cons one [] place last) [
          | inl same ↦ inl same
          | inr none ↦ absurd (nothing_among place none)
        ]
      ],
  λ either. subst (λ (ps : List StreamPlace). IsAmong ps place) (sym is) (elim either [
    | inl same ↦ among-right places (one ∷ []) place (among-first one [] place same)
    | inr old ↦ among-left places (one ∷ []) place old
  ]),
)

-- what a description serves for, it means
pub serves_means : (one other : Description) → Serves one other → (at : Configuration)
    → Means other at → Means one at
serves_means one other serves at means = record {
  list = means.list ∙ sym serves.list;
  placed = λ p among. means.placed p (serves.fewer p among);
  either = λ p among. elim (means.either p among) [
    | inl placed ↦ serves.either p placed
    | inr optional ↦ inr (serves.optional p optional)
  ];
  once = means.once;
}

-- what serves for a description with more optional places serves for it
pub serves_narrower : (one wider other : Description) → IsWider one wider
    → ((p : StreamPlace) → IsAmong one.optional p → IsAmong wider.optional p)
    → Serves other wider → Serves other one
serves_narrower one wider other is more serves = record {
  list = serves.list ∙ is.list;
  fewer = λ p among. subst (λ (ps : List StreamPlace). IsAmong ps p) is.placed (serves.fewer p among);
  either = λ p among. serves.either p
      (subst (λ (ps : List StreamPlace). IsAmong ps p) (sym is.placed) among);
  optional = λ p among. serves.optional p (more p among);
}

-- a description means the configuration with its placed calls alone
abbrev pub least : Description → Configuration
least one = record { placed = one.placed; list = one.list }

pub means_least : (one : Description) → AreOnce one.placed → Means one (least one)
means_least one once = record {
  list = refl;
  placed = λ p among. among;
  either = λ p among. inl among;
  once = once;
}

pub means-alike : (one : Description) (at other : Configuration) → AreAlike at other
    → Means one at → Means one other
means-alike one at other (placed, list) means = record {
  list = sym list ∙ means.list;
  placed = λ p among. (placed p).0 (means.placed p among);
  either = λ p among. means.either p ((placed p).1 among);
  once = λ a b first second. means.once a b ((placed a).1 first) ((placed b).1 second);
}

-- a configuration is that without one of its places, with it
pub rest-alike : (places : List StreamPlace) (list : List ℕ) (place : StreamPlace) → AreOnce places
    → IsAmong places place → (p : StreamPlace)
    → (IsAmong (place ∷ others_of place.call places) p → IsAmong places p)
    × (IsAmong places p → IsAmong (place ∷ others_of place.call places) p)
rest-alike places list place once there p =
    let others = others_are place.call places p in (
      λ among. elim (among-cons place (others_of place.call places) p among) [
        | inl is ↦ subst (λ (q : StreamPlace). IsAmong places q) is there
        | inr rest ↦ (others.0 rest).0
      ],
      λ among. elim (cases_eq p.call place.call) [
        | inl same ↦ among-first place (others_of place.call places) p
            (sym (once p place among there same))
        | inr apart ↦ among-later place (others_of place.call places) p (others.1 (among, apart))
      ],
    )

others-once : (call : ℕ) (places : List StreamPlace) → AreOnce places
    → AreOnce (others_of call places)
others-once call places once a b first second =
    once a b ((others_are call places a).0 first).0 ((others_are call places b).0 second).0

others-lack : (call : ℕ) (places : List StreamPlace) → AreOf (others_of call places) call → ⊥
others-lack call places (reply, among) = ((others_are call places _).0 among).1 refl

-- A place that becomes optional: what has it is what lacks it, with it.
module _ (one after : Description) (place : StreamPlace) (allowed : IsAllowed place one after)
    (lacks : AreOf one.placed place.call → ⊥) where
  old_placed : (p : StreamPlace) → IsAmong after.placed p → IsAmong one.placed p
  old_placed p among =
      subst (λ (ps : List StreamPlace). IsAmong ps p) allowed.placed among

  new_placed : (p : StreamPlace) → IsAmong one.placed p → IsAmong after.placed p
  new_placed p among =
      subst (λ (ps : List StreamPlace). IsAmong ps p) (sym allowed.placed) among

  pub allowed_wider : IsWider one after
  allowed_wider = record {
    list = allowed.list;
    placed = allowed.placed;
    means = λ at means. record {
      list = means.list ∙ sym allowed.list;
      placed = λ p among. means.placed p (old_placed p among);
      either = λ p among. elim (means.either p among) [
        | inl placed ↦ inl (new_placed p placed)
        | inr optional ↦ inr ((allowed.optional p).1 (inr optional))
      ];
      once = means.once;
    };
  }

  abbrev before : Configuration → Configuration
  before at = record { placed = others_of place.call at.placed; list = at.list }

  lacking : (at : Configuration) → Means after at → Means one (before at)
  lacking at means = record {
    list = means.list ∙ allowed.list;
    placed = λ p among. (others_are place.call at.placed p).1 (
      means.placed p (new_placed p among),
      λ (same : p.call ≡ place.call). lacks (names one.placed p place.call same among),
    );
    either = λ p among.
        let is = (others_are place.call at.placed p).0 among in
        elim (means.either p is.0) [
          | inl placed ↦ inl (old_placed p placed)
          | inr optional ↦ elim ((allowed.optional p).0 optional) [
            | inl equal ↦ absurd (is.1 (sym (ap (λ (q : StreamPlace). q.call) equal)))
            | inr old ↦ inr old
          ]
        ];
    once = others-once place.call at.placed means.once;
  }

  without : (at : Configuration) → (IsAmong at.placed place → ⊥) → Means after at → Means one at
  without at not means = record {
    list = means.list ∙ allowed.list;
    placed = λ p among. means.placed p (new_placed p among);
    either = λ p among. elim (means.either p among) [
      | inl placed ↦ inl (old_placed p placed)
      | inr optional ↦ elim ((allowed.optional p).0 optional) [
        | inl equal ↦ absurd (not (subst (λ (q : StreamPlace). IsAmong at.placed q) (sym equal)
            among))
        | inr old ↦ inr old
      ]
    ];
    once = means.once;
  }

  pub allowed_sound : (property : Configuration → Type 0) (calls : List OpenCall)
      → ((start at : Configuration) → property start → start.list ≡ one.list
      → (IsPlacedAt start place.call → ⊥)
      → AreAlike (record { placed = place ∷ start.placed; list = start.list }) at → property at)
      → IsKnownPlace calls place → IsSound property calls one → IsSound property calls after
  allowed_sound property calls step known sound = record {
    each = λ at means. elim (among_or_not at.placed place) [
      | inl there ↦
          let meant = lacking at means in
          step (before at) at (sound.each (before at) meant) meant.list
          (others-lack place.call at.placed)
          (rest-alike at.placed at.list place means.once there, refl)
      | inr not ↦ sound.each at (without at not means)
    ];
    agree = λ p is. elim is [
      | inl placed ↦ sound.agree p (inl (old_placed p placed))
      | inr optional ↦ elim ((allowed.optional p).0 optional) [
        | inl equal ↦ subst (λ (q : StreamPlace). IsKnownPlace calls q) equal known
        | inr old ↦ sound.agree p (inr old)
      ]
    ];
    once = λ a b first second. sound.once a b (old_placed a first) (old_placed b second);
  }

pub wider_none : (one : Description) → IsWider one one
wider_none one = record { list = refl; placed = refl; means = λ at means. means }

pub wider_on : (one two three : Description) → IsWider one two → IsWider two three
    → IsWider one three
wider_on one two three first second = record {
  list = second.list ∙ first.list;
  placed = second.placed ∙ first.placed;
  means = λ at means. second.means at (first.means at means);
}

-- what is sound for a property is sound for one that follows from it
pub sound_for : (property other : Configuration → Type 0) (calls : List OpenCall) (one : Description)
    → ((at : Configuration) → property at → other at) → IsSound property calls one
    → IsSound other calls one
sound_for property other calls one follows sound = record {
  each = λ at means. follows at (sound.each at means);
  agree = sound.agree;
  once = sound.once;
}

-- no call has two replies after another call is placed
pub once_with : (next : List ℕ → ℕ → List ℕ × ℕ) (at : Configuration) (call : OpenCall)
    → AreOnce at.placed → (IsPlacedAt at call.call → ⊥)
    → AreOnce (with_call next at call).placed
once_with next at call once lacks a b first second e =
    let it : StreamPlace = record { call = call.call; reply = (next at.list call.op).1 } in
    elim (among-cons it at.placed a first) [
      | inl is ↦ elim (among-cons it at.placed b second) [
        | inl also ↦ sym is ∙ also
        | inr old ↦ absurd (lacks (names at.placed b call.call
            (sym e ∙ sym (ap (λ (p : StreamPlace). p.call) is)) old))
      ]
      | inr early ↦ elim (among-cons it at.placed b second) [
        | inl also ↦ absurd (lacks (names at.placed a call.call
            (e ∙ sym (ap (λ (p : StreamPlace). p.call) also)) early))
        | inr old ↦ once a b early old e
      ]
    ]

-- An open call that is placed.
module _ (next : List ℕ → ℕ → List ℕ × ℕ) (from after : Description) (call : OpenCall)
    (on : IsPlacedOn next from call after) where
  abbrev place : StreamPlace
  place = record { call = call.call; reply = (next from.list call.op).1 }

  pub placed_means : (at : Configuration) → Means from at → (IsPlacedAt at call.call → ⊥)
      → Means after (with_call next at call)
  placed_means at means lacks =
      let it : StreamPlace = record { call = call.call; reply = (next at.list call.op).1 } in
      let same : it ≡ place =
      ap (λ (l : List ℕ). record { call = call.call; reply = (next l call.op).1 }) means.list in
      record {
        list = ap (λ (l : List ℕ). (next l call.op).0) means.list ∙ sym on.list;
        placed = λ p among. elim ((on.placed p).0 among) [
          | inl is ↦ among-first it at.placed p (same ∙ is)
          | inr old ↦ among-later it at.placed p (means.placed p old)
        ];
        either = λ p among. elim (among-cons it at.placed p among) [
          | inl is ↦ inl ((on.placed p).1 (inl (sym same ∙ is)))
          | inr old ↦ elim (means.either p old) [
            | inl placed ↦ inl ((on.placed p).1 (inr placed))
            | inr optional ↦ inr ((on.optional p).1 (
              optional,
              λ (e : p.call ≡ call.call). lacks (names at.placed p call.call e old),
            ))
          ]
        ];
        once = once_with next at call means.once lacks;
      }

  module _ (lacks : AreOf from.placed call.call → ⊥) where
    -- what is meant after the call is placed, without it
    pub placed_from : (at : Configuration) → Means after at
        → Means from (record { placed = others_of call.call at.placed; list = from.list })
    placed_from at means = record {
      list = refl;
      placed = λ p among. (others_are call.call at.placed p).1 (
        means.placed p ((on.placed p).1 (inr among)),
        λ (same : p.call ≡ call.call). lacks (names from.placed p call.call same among),
      );
      either = λ p among.
          let is = (others_are call.call at.placed p).0 among in
          elim (means.either p is.0) [
            | inl placed ↦ elim ((on.placed p).0 placed) [
              | inl equal ↦ absurd (is.1 (sym (ap (λ (q : StreamPlace). q.call) equal)))
              | inr old ↦ inl old
            ]
            | inr optional ↦ inr ((on.optional p).0 optional).0
          ];
      once = others-once call.call at.placed means.once;
    }

    pub placed_last : (at : Configuration) → Means after at
        → AreAlike (with_call next
        (record { placed = others_of call.call at.placed; list = from.list }) call) at
    placed_last at means = (
      rest-alike at.placed at.list place means.once
          (means.placed place ((on.placed place).1 (inl refl))),
      sym on.list ∙ sym means.list,
    )

    pub placed_lacks : (at : Configuration)
        → IsPlacedAt (record { placed = others_of call.call at.placed; list = from.list }) call.call
        → ⊥
    placed_lacks at is = others-lack call.call at.placed is

    pub placed_once : AreOnce from.placed → AreOnce after.placed
    placed_once once a b first second e = elim ((on.placed a).0 first) [
      | inl is ↦ elim ((on.placed b).0 second) [
        | inl also ↦ sym is ∙ also
        | inr old ↦ absurd (lacks (names from.placed b call.call
            (sym e ∙ sym (ap (λ (p : StreamPlace). p.call) is)) old))
      ]
      | inr one ↦ elim ((on.placed b).0 second) [
        | inl also ↦ absurd (lacks (names from.placed a call.call
            (e ∙ sym (ap (λ (p : StreamPlace). p.call) also)) one))
        | inr old ↦ once a b one old e
      ]
    ]

-- a call that is optional with the reply that it would get, and leaves the list, leads to what is
-- meant already
pub stays_means : (next : List ℕ → ℕ → List ℕ × ℕ) (one : Description) (call : OpenCall)
    (at : Configuration) → Means one at → (IsPlacedAt at call.call → ⊥)
    → IsAmong one.optional (record { call = call.call; reply = (next one.list call.op).1 })
    → (next one.list call.op).0 ≡ one.list → Means one (with_call next at call)
stays_means next one call at means lacks optional stays =
    let it : StreamPlace = record { call = call.call; reply = (next at.list call.op).1 } in
    let same : it ≡ record { call = call.call; reply = (next one.list call.op).1 } =
    ap (λ (l : List ℕ). record { call = call.call; reply = (next l call.op).1 }) means.list in
    record {
      list = ap (λ (l : List ℕ). (next l call.op).0) means.list ∙ stays;
      placed = λ p among. among-later it at.placed p (means.placed p among);
      either = λ p among. elim (among-cons it at.placed p among) [
        | inl is ↦ inr (subst (λ (q : StreamPlace). IsAmong one.optional q) (sym same ∙ is) optional)
        | inr old ↦ means.either p old
      ];
      once = once_with next at call means.once lacks;
    }
