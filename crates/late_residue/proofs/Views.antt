-- Descriptions of the code, by their places.
use Rattle.std.proofs.Common.{◌≡◌, ◌∙◌, ℕ, Bool, true, false, not, ◌⊎◌, ◌&&◌, ◌||◌, ◌==◌, List, map, refl, sym, ap, subst, inl, inr}
use Rattle.std.specs.List.{list_any, list_all, filter}
use Rattle.std.proofs.lemmas.Bool.{eqb-true, cases_Bool}
use Rattle.streams.specs.StreamOrder.{StreamPlace, IsAmong}
use Rattle.late_residue.specs.declared.reached.Placed.{Placed}
use Rattle.late_residue.specs.Reached.{place_of}
use Rattle.late_residue.specs.Placing.{AreOf, AreOthers}
use Rattle.late_residue.proofs.Items.{and_left, and_right, both_true, eqb-same, any-has, has-any, all-has, has-all, has-map, map-from, filter-has, has-filter}

pub place-same : (p q : Placed) → (p.call == q.call && p.reply == q.reply) ≡ true
    → place_of p ≡ place_of q
place-same p q e =
    let call : p.call ≡ q.call =
    eqb-true p.call q.call (and_left (p.call == q.call) (p.reply == q.reply) e) in
    let reply : p.reply ≡ q.reply =
    eqb-true p.reply q.reply (and_right (p.call == q.call) (p.reply == q.reply) e) in
    cc

module _ (items : List Placed) where
  abbrev here : List StreamPlace
  here = map place_of items

  -- a call that some place names is placed
  pub names_placed : (call : ℕ) → list_any (λ (p : Placed). p.call == call) items ≡ true
      → AreOf here call
  names_placed call e =
      let found = any-has (λ (p : Placed). p.call == call) items e in (
        found.0.reply,
        subst (λ (c : ℕ). IsAmong here
            (record { call = c; reply = found.0.reply })) (eqb-true found.0.call call found.2)
            (has-map place_of items found.0 found.1),
      )

  pub placed_names : (call : ℕ) → AreOf here call
      → list_any (λ (p : Placed). p.call == call) items ≡ true
  placed_names call (reply, (k, at)) =
      let found = map-from place_of items k (record { call = call; reply = reply }) at in
      has-any (λ (p : Placed). p.call == call) items found.0 (k, found.1)
      (eqb-same found.0.call call (ap (λ (s : StreamPlace). s.call) found.2))

  pub holds_among : (place : Placed)
      → list_any (λ (p : Placed). p.call == place.call && p.reply == place.reply) items ≡ true
      → IsAmong here (place_of place)
  holds_among place e =
      let found =
      any-has (λ (p : Placed). p.call == place.call && p.reply == place.reply) items e in
      subst (λ (s : StreamPlace). IsAmong here s) (place-same found.0 place found.2)
      (has-map place_of items found.0 found.1)

  pub among_holds : (place : Placed) → IsAmong here (place_of place)
      → list_any (λ (p : Placed). p.call == place.call && p.reply == place.reply) items ≡ true
  among_holds place (k, at) =
      let found = map-from place_of items k (place_of place) at in
      has-any (λ (p : Placed). p.call == place.call && p.reply == place.reply) items found.0
      (k, found.1)
      (both_true (found.0.call == place.call) (found.0.reply == place.reply)
      (eqb-same found.0.call place.call (ap (λ (s : StreamPlace). s.call) found.2))
      (eqb-same found.0.reply place.reply (ap (λ (s : StreamPlace). s.reply) found.2)))

  -- the places of other calls are those without a call
  pub without_others : (call : ℕ)
      → AreOthers call here (map place_of (filter (λ (p : Placed). not (p.call == call)) items))
  without_others call q = (
    λ among.
        let found = map-from place_of (filter (λ (p : Placed). not (p.call == call)) items)
        among.0 q among.1 in
        let is = filter-has (λ (p : Placed). not (p.call == call)) items found.0
        (among.0, found.1) in (
          subst (λ (s : StreamPlace). IsAmong (map place_of items) s) found.2
              (has-map place_of items found.0 is.0),
          λ (e : q.call ≡ call).
              let same : (found.0.call == call) ≡ true = eqb-same found.0.call call
              (ap (λ (s : StreamPlace). s.call) found.2 ∙ e) in
              let clash : not true ≡ true =
              subst (λ (b : Bool). not b ≡ true) same is.1 in cc,
        ),
    λ (among, apart).
        let found = map-from place_of items among.0 q among.1 in
        let other : not (found.0.call == call) ≡ true = elim (cases_Bool (found.0.call == call)) [
          | inl same ↦ absurd (apart (sym (ap (λ (s : StreamPlace). s.call) found.2)
              ∙ eqb-true found.0.call call same))
          | inr differs ↦ subst (λ (b : Bool). not b ≡ true) (sym differs) refl
        ] in
        subst (λ (s : StreamPlace). IsAmong
        (map place_of (filter (λ (p : Placed). not (p.call == call)) items)) s) found.2
        (has-map place_of (filter (λ (p : Placed). not (p.call == call)) items) found.0
        (has-filter (λ (p : Placed). not (p.call == call)) items found.0
        (among.0, found.1) other)),
  )

abbrev held : List Placed → Placed → Bool
held items place =
    list_any (λ (p : Placed). p.call == place.call && p.reply == place.reply) items

-- all of some places are among others
pub held_all : (places others : List Placed) → list_all (λ (p : Placed). held others p) places ≡ true
    → (q : StreamPlace) → IsAmong (map place_of places) q → IsAmong (map place_of others) q
held_all places others e q (k, at) =
    let found = map-from place_of places k q at in
    subst (λ (s : StreamPlace). IsAmong (map place_of others) s) found.2
    (holds_among others found.0
    (all-has (λ (p : Placed). held others p) places e found.0 (k, found.1)))

pub all_held : (places others : List Placed)
    → ((q : StreamPlace) → IsAmong (map place_of places) q → IsAmong (map place_of others) q)
    → list_all (λ (p : Placed). held others p) places ≡ true
all_held places others all = has-all (λ (p : Placed). held others p) places
    (λ p has. among_holds others p (all (place_of p) (has-map place_of places p has)))

or_cases : (a b : Bool) → (a || b) ≡ true → (a ≡ true) ⊎ (b ≡ true)
or_cases true b e = inl refl
or_cases false b e = inr e

or_left : (a b : Bool) → a ≡ true → (a || b) ≡ true
or_left a b e = subst (λ (c : Bool). (c || b) ≡ true) (sym e) refl

or_right : (a b : Bool) → b ≡ true → (a || b) ≡ true
or_right true b e = refl
or_right false b e = e

-- all of some places are among two others
pub held_either : (places ones others : List Placed)
    → list_all (λ (p : Placed). held ones p || held others p) places ≡ true
    → (q : StreamPlace) → IsAmong (map place_of places) q
    → IsAmong (map place_of ones) q ⊎ IsAmong (map place_of others) q
held_either places ones others e q (k, at) =
    let found = map-from place_of places k q at in
    elim (or_cases (held ones found.0) (held others found.0)
    (all-has (λ (p : Placed). held ones p || held others p) places e found.0 (k, found.1))) [
      | inl one ↦ inl (subst (λ (s : StreamPlace). IsAmong (map place_of ones) s) found.2
          (holds_among ones found.0 one))
      | inr other ↦ inr (subst (λ (s : StreamPlace). IsAmong (map place_of others) s) found.2
          (holds_among others found.0 other))
    ]

pub either_held : (places ones others : List Placed)
    → ((q : StreamPlace) → IsAmong (map place_of places) q
    → IsAmong (map place_of ones) q ⊎ IsAmong (map place_of others) q)
    → list_all (λ (p : Placed). held ones p || held others p) places ≡ true
either_held places ones others all =
    has-all (λ (p : Placed). held ones p || held others p) places
    (λ p has. elim (all (place_of p) (has-map place_of places p has)) [
      | inl one ↦ or_left (held ones p) (held others p) (among_holds ones p one)
      | inr other ↦ or_right (held ones p) (held others p) (among_holds others p other)
    ])

-- Whether all of some places are among others, and among two others.
abbrev pub all_in : List Placed → List Placed → Bool
all_in places others = list_all (λ (p : Placed). held others p) places

abbrev pub all_in_either : List Placed → List Placed → List Placed → Bool
all_in_either places ones others = list_all (λ (p : Placed). held ones p || held others p) places

pub all_in_same : (b : Bool) (places others items those : List Placed) → b ≡ all_in places others
    → places ≡ items → others ≡ those → b ≡ all_in items those
all_in_same b places others items those is same also = is
    ∙ (ap (λ (ps : List Placed). all_in ps others) same
    ∙ ap (λ (ps : List Placed). all_in items ps) also)

pub all_in_either_same : (b : Bool) (places ones others items these those : List Placed)
    → b ≡ all_in_either places ones others → places ≡ items → ones ≡ these → others ≡ those
    → b ≡ all_in_either items these those
all_in_either_same b places ones others items these those is same also last = is
    ∙ (ap (λ (ps : List Placed). all_in_either ps ones others) same
    ∙ (ap (λ (ps : List Placed). all_in_either items ps others) also
    ∙ ap (λ (ps : List Placed). all_in_either items these ps) last))
