-- Descriptions that are taken before a return.
use Rattle.std.proofs.Common.{◌≡◌, ◌⊎◌, ℕ, Bool, suc, ◌∙◌, ◌+◌, ◌<◌, List, [], ◌∷◌, ◌++◌, length, Some, slice_get, refl, sym, ap, subst, inl, inr, arith, get_or}
use Rattle.std.proofs.lemmas.Bool.{cases_lt}
use Rattle.std.proofs.lemmas.Option.{get_or_from_slice_get, slice_get-get_or, same_Some, slice_get_within}
use Rattle.list_laws.proofs.Prefixes.{slice_get-append_within}
use Rattle.book_base.specs.Reaching.{Leaves}
use Rattle.book_base.specs.SeqSpec.{SeqSpec}
use Rattle.streams.specs.Stream.{StreamEvent}
use Rattle.streams.specs.StreamOrder.{StreamPlace, IsAmong}
use Rattle.residue_laws.specs.Residue.{Configuration, IsInResidue}
use Rattle.residue_laws.specs.Step.{IsWithout}
use Rattle.late_residue.specs.declared.open_call.OpenCall.{OpenCall}
use Rattle.late_residue.specs.Description.{Description}
use Rattle.late_residue.specs.declared.reached.Reached.{Reached}
use Rattle.late_residue.specs.Reached.{Has, Grows, description_of, descriptions_of}
use Rattle.late_residue.specs.Meaning.{Means, AreMeant, Serves}
use Rattle.late_residue.specs.Placing.{AreOf, IsWithoutCall, MayBePlaced, IsSound, AreSound, IsLeftBy, IsHandled, IsTaken, Hides, LeadsTo, LeadsOn, with_call}
use Rattle.late_residue.specs.LateOnes.{AreOpen, AreReached, AreAdded, AreApart}
use Rattle.late_residue.proofs.Items.{has-cases, has-cons, has-none, map-at, map-from, grows-has, grows-not, grows-on}
use Rattle.late_residue.proofs.Leaving.{MayReturn, left_means, left_lacking, left_sound}

pub meant-grows : (ones new : List Description) → Grows ones new → (at : Configuration)
    → AreMeant ones at → AreMeant new at
meant-grows ones new grows at (one, has, means) = (one, grows-has ones new one grows has, means)

-- what is handled stays so where more is meant
pub handled-more : (next : List ℕ → ℕ → List ℕ × ℕ) (returning : OpenCall) (reply : ℕ)
    (ones left new after : List Description) → Grows ones new
    → ((at : Configuration) → AreMeant left at → AreMeant after at) → (at : Configuration)
    → IsHandled next returning reply ones left at → IsHandled next returning reply new after at
handled-more next returning reply ones left new after grows stays at handled = record {
  returned = λ among last without. stays last (handled.returned among last without);
  further = λ lacks. elim (handled.further lacks) [
    | inl meant ↦ inl (meant-grows ones new grows at meant)
    | inr (leaves, meant) ↦ inr (leaves, stays at meant)
  ];
}

-- what leads on does so where more is meant
pub to-more : (next : List ℕ → ℕ → List ℕ × ℕ) (writes : ℕ → Bool) (calls : List OpenCall)
    (returning : OpenCall) (reply : ℕ) (ones left new after : List Description) → Grows ones new
    → ((at : Configuration) → AreMeant left at → AreMeant after at) → (one : Description)
    (at : Configuration) (call : OpenCall)
    → LeadsTo next writes calls returning reply ones left one at call
    → LeadsTo next writes calls returning reply new after one at call
to-more next writes calls returning reply ones left new after grows stays one at call leads =
    elim leads [
      | inl handled ↦ inl (handled-more next returning reply ones left new after grows stays
          (with_call next at call) handled)
      | inr hidden ↦ inr hidden
    ]

pub leads-more : (next : List ℕ → ℕ → List ℕ × ℕ) (writes : ℕ → Bool) (calls : List OpenCall)
    (returning : OpenCall) (reply : ℕ) (ones left new after : List Description) (number : ℕ)
    → Grows ones new
    → ((at : Configuration) → AreMeant left at → AreMeant after at) → (one : Description)
    → LeadsOn next writes calls returning reply ones left number one
    → LeadsOn next writes calls returning reply new after number one
leads-more next writes calls returning reply ones left new after number grows stays one leads at
    covered j call less is may =
    to-more next writes calls returning reply ones left new after grows stays one at call
    (leads at covered j call less is may)

module _ (spec : SeqSpec) (calls : List OpenCall) (returning : OpenCall) (reply : ℕ) where
  pub added_none : (given ones left : List Description)
      → AreAdded spec calls returning reply given ones left ones left
  added_none given ones left = record {
    grows = grows-not ones;
    stays = λ at meant. meant;
    reached = λ stream are of_given reached. reached;
    sound = λ stream are of_given reached sound. sound;
    taken = λ all. all;
    apart = λ apart. apart;
  }

  pub added_on : (given ones left new after last end : List Description)
      → AreAdded spec calls returning reply given ones left new after
      → AreAdded spec calls returning reply given new after last end
      → AreAdded spec calls returning reply given ones left last end
  added_on given ones left new after last end first second = record {
    grows = grows-on ones new last first.grows second.grows;
    stays = λ at meant. second.stays at (first.stays at meant);
    reached = λ stream are of_given reached.
        second.reached stream are of_given (first.reached stream are of_given reached);
    sound = λ stream are of_given reached sound.
        second.sound stream are of_given (first.reached stream are of_given reached)
        (first.sound stream are of_given reached sound);
    taken = λ all. second.taken (first.taken all);
    apart = λ apart. second.apart (first.apart apart);
  }

  -- other descriptions are given, where those that are given follow from them
  pub added_given : (given other ones left new after : List Description)
      → ((stream : List StreamEvent) → AreOpen stream calls → AreReached spec stream calls ones
      → AreReached spec stream calls other → AreReached spec stream calls given)
      → AreAdded spec calls returning reply given ones left new after
      → AreAdded spec calls returning reply other ones left new after
  added_given given other ones left new after follows added = record {
    grows = added.grows;
    stays = added.stays;
    reached = λ stream are of_other reached.
        added.reached stream are (follows stream are reached of_other) reached;
    sound = λ stream are of_other reached sound.
        added.sound stream are (follows stream are reached of_other) reached sound;
    taken = added.taken;
    apart = added.apart;
  }

  -- what is left of a description is put to those that are left
  pub added_left : (one without : Description) (ones left after : List Description)
      → IsWithoutCall returning.call one without → MayReturn returning reply one
      → ((at : Configuration) → AreMeant left at → AreMeant after at)
      → ((other : Description) → Has after other → Has left other ⊎ (without ≡ other))
      → AreAdded spec calls returning reply (one ∷ []) ones left ones after
  added_left one without ones left after lacks may stays cases = record {
    grows = grows-not ones;
    stays = stays;
    reached = λ stream are of_given reached. reached;
    sound = λ stream are of_given reached sound other has. elim (cases other has) [
      | inl old ↦ sound other old
      | inr is ↦ subst
          (λ (d : Description). IsSound (IsLeftBy spec stream returning reply) calls d) is
          (left_sound returning reply one without lacks spec stream calls may (of_given one (0, refl)))
    ];
    taken = λ all other has at means. handled-more spec.next returning reply ones left ones after
        (grows-not ones) stays at (all other has at means);
    apart = λ apart. apart;
  }

  -- a description is put to those at which calls are still placed
  pub added_put : (one : Description) (ones left new : List Description) → Grows ones new
      → ((other : Description) → Has new other → Has ones other ⊎ (one ≡ other))
      → (AreApart ones → AreApart new) → IsTaken spec.next returning reply new left one
      → AreAdded spec calls returning reply (one ∷ []) ones left new left
  added_put one ones left new grows cases apart taken = record {
    grows = grows;
    stays = λ at meant. meant;
    reached = λ stream are of_given reached other has. elim (cases other has) [
      | inl old ↦ reached other old
      | inr is ↦ subst (λ (d : Description). IsSound (IsInResidue spec stream) calls d) is
          (of_given one (0, refl))
    ];
    sound = λ stream are of_given reached sound. sound;
    taken = λ all other has. elim (cases other has) [
      | inl old ↦ λ at means. handled-more spec.next returning reply ones left new left grows
          (λ c meant. meant) at (all other old at means)
      | inr is ↦ subst (λ (d : Description). IsTaken spec.next returning reply new left d) is taken
    ];
    apart = apart;
  }

-- Where the call that returns may be placed, and what is left is meant, what returns is handled.
pub handled_left : (returning : OpenCall) (reply : ℕ) (one without : Description)
    (left : List Description) → IsWithoutCall returning.call one without
    → ((at : Configuration) → Means without at → AreMeant left at) → (at : Configuration)
    → Means one at → (after : Configuration) → IsWithout returning.call at after
    → AreMeant left after
handled_left returning reply one without left lacks meant at means after is =
    meant after (left_means returning reply one without lacks at after means is)

-- a description at which the call is placed with the reply
pub taken_placed : (next : List ℕ → ℕ → List ℕ × ℕ) (returning : OpenCall) (reply : ℕ)
    (one without : Description) (ones left : List Description)
    → IsWithoutCall returning.call one without
    → ((at : Configuration) → Means without at → AreMeant left at)
    → IsAmong one.placed (record { call = returning.call; reply = reply })
    → IsTaken next returning reply ones left one
taken_placed next returning reply one without ones left lacks meant placed at means = record {
  returned = λ among. handled_left returning reply one without left lacks meant at means;
  further = λ free. absurd (free (reply, means.placed _ placed));
}

-- a description at which the call is placed with another reply
pub taken_other : (next : List ℕ → ℕ → List ℕ × ℕ) (returning : OpenCall) (reply : ℕ)
    (one : Description) (ones left : List Description) → AreOf one.placed returning.call
    → (IsAmong one.placed (record { call = returning.call; reply = reply }) → ⊥)
    → IsTaken next returning reply ones left one
taken_other next returning reply one ones left (other, there) not at means =
    let here = means.placed _ there in
    record {
      returned = λ among. absurd (not (subst (λ (p : StreamPlace). IsAmong one.placed p)
          (means.once _ _ here among refl) there));
      further = λ free. absurd (free (other, here));
    }

-- a description at which the call is optional with the reply, and changes no list at which it has it
pub taken_leaving : (next : List ℕ → ℕ → List ℕ × ℕ) (returning : OpenCall) (reply : ℕ)
    (one without : Description) (ones left : List Description)
    → IsWithoutCall returning.call one without
    → ((at : Configuration) → Means without at → AreMeant left at) → Leaves next returning.op reply
    → IsTaken next returning reply ones left one
taken_leaving next returning reply one without ones left lacks meant leaves at means = record {
  returned = λ among. handled_left returning reply one without left lacks meant at means;
  further = λ free.
      inr (leaves, meant at (left_lacking returning reply one without lacks at means free));
}

-- a description at which the call is optional with the reply, and that is put in
pub taken_both : (next : List ℕ → ℕ → List ℕ × ℕ) (returning : OpenCall) (reply : ℕ)
    (one without : Description) (ones left : List Description)
    → IsWithoutCall returning.call one without
    → ((at : Configuration) → Means without at → AreMeant left at)
    → ((at : Configuration) → Means one at → AreMeant ones at)
    → IsTaken next returning reply ones left one
taken_both next returning reply one without ones left lacks meant put at means = record {
  returned = λ among. handled_left returning reply one without left lacks meant at means;
  further = λ free. inl (put at means);
}

-- a description at which the call can't return
pub taken_put : (next : List ℕ → ℕ → List ℕ × ℕ) (returning : OpenCall) (reply : ℕ)
    (one : Description) (ones left : List Description)
    → (IsAmong one.placed (record { call = returning.call; reply = reply }) → ⊥)
    → (IsAmong one.optional (record { call = returning.call; reply = reply }) → ⊥)
    → ((at : Configuration) → Means one at → AreMeant ones at)
    → IsTaken next returning reply ones left one
taken_put next returning reply one ones left not neither put at means = record {
  returned = λ among. elim (means.either _ among) [
    | inl placed ↦ absurd (not placed)
    | inr optional ↦ absurd (neither optional)
  ];
  further = λ free. inl (put at means);
}

not_below_zero : (j : ℕ) → j < 0 → ⊥
not_below_zero j less = omega (arith, less)

pub leads_none : (next : List ℕ → ℕ → List ℕ × ℕ) (writes : ℕ → Bool) (calls : List OpenCall)
    (returning : OpenCall) (reply : ℕ) (ones left : List Description) (one : Description)
    → LeadsOn next writes calls returning reply ones left 0 one
leads_none next writes calls returning reply ones left one at covered j call less =
    absurd (not_below_zero j less)

-- what the open calls at the places below the next one lead to
pub leads_next : (next : List ℕ → ℕ → List ℕ × ℕ) (writes : ℕ → Bool) (calls : List OpenCall)
    (returning : OpenCall) (reply : ℕ) (ones left new after : List Description) (one : Description)
    (index : ℕ) (d : OpenCall) → Grows ones new
    → ((at : Configuration) → AreMeant left at → AreMeant after at)
    → LeadsOn next writes calls returning reply ones left index one
    → ((at : Configuration) → Means one at ⊎ Hides next writes calls returning.call one at
    → MayBePlaced next calls at (get_or calls index d)
    → LeadsTo next writes calls returning reply new after one at (get_or calls index d))
    → LeadsOn next writes calls returning reply new after (index + 1) one
leads_next next writes calls returning reply ones left new after one index d grows stays leads here
    at covered j call less is may = elim (cases_lt j index) [
      | inl earlier ↦ to-more next writes calls returning reply ones left new after grows stays one at
          call (leads at covered j call earlier is may)
      | inr later ↦
          let same : j ≡ index = omega (arith, less, later) in
          let there : slice_get calls index ≡ Some call =
          subst (λ (i : ℕ). slice_get calls i ≡ Some call) same is in
          let item : get_or calls index d ≡ call = get_or_from_slice_get calls index call d there in
          subst (λ (o : OpenCall). MayBePlaced next calls at o
          → LeadsTo next writes calls returning reply new after one at o) item (here at covered) may
    ]

-- one more that no description before it serves for
pub apart-push : (ones : List Description) (one : Description)
    → ((other : Description) → Has ones other → Serves other one → ⊥) → AreApart ones
    → AreApart (ones ++ one ∷ [])
apart-push [] one none apart = ((λ later has. absurd (has-none later has)), tt)
apart-push (first ∷ rest) one none (here, apart) = (
  λ later has. elim (has-cases rest (one ∷ []) later has) [
    | inl old ↦ here later old
    | inr last ↦ elim (has-cons one [] later last) [
      | inl is ↦ λ serves. none first (0, refl)
          (subst (λ (d : Description). Serves first d) (sym is) serves)
      | inr nothing ↦ absurd (has-none later nothing)
    ]
  ],
  apart-push rest one (λ other (k, at). none other (suc k, at)) apart,
)

-- what holds of all at the places below a place, and of that at the place, holds of all below the
-- next one
pub below_next : (P : Description → Type 0) (ones : List Description) (k : ℕ)
    → ((j : ℕ) (one : Description) → j < k → slice_get ones j ≡ Some one → P one)
    → ((one : Description) → slice_get ones k ≡ Some one → P one)
    → (j : ℕ) (one : Description) → j < k + 1 → slice_get ones j ≡ Some one → P one
below_next P ones k before here j one less is = elim (cases_lt j k) [
  | inl earlier ↦ before j one earlier is
  | inr later ↦
      let same : j ≡ k = omega (arith, less, later) in
      here one (subst (λ (i : ℕ). slice_get ones i ≡ Some one) same is)
]

-- the description of the code at a place
pub at_place : (ones : List Reached) (k : ℕ) (r : Reached) (one : Description)
    → slice_get ones k ≡ Some r → slice_get (descriptions_of ones) k ≡ Some one
    → description_of r ≡ one
at_place ones k r one is there =
    same_Some (description_of r) one (sym (map-at description_of ones k r is) ∙ there)

-- a place of the descriptions is one of the code's list
pub within_items : (ones : List Reached) (k : ℕ) (one : Description)
    → slice_get (descriptions_of ones) k ≡ Some one → k < length ones
within_items ones k one is =
    let found = map-from description_of ones k one is in
    slice_get_within ones k found.0 found.1

-- what holds of the description of the code at a place holds of that at the place
pub at_all : (P : Description → Type 0) (ones : List Reached) (k : ℕ) (r : Reached)
    → slice_get ones k ≡ Some r → P (description_of r) → (one : Description)
    → slice_get (descriptions_of ones) k ≡ Some one → P one
at_all P ones k r is holds one there = subst P (at_place ones k r one is there) holds

-- an item by its place
pub item_at : (ones : List Reached) (k : ℕ) (r d : Reached) → k < length ones → r ≡ get_or ones k d
    → slice_get ones k ≡ Some r
item_at ones k r d within is =
    slice_get-get_or ones k d within ∙ ap (λ (o : Reached). Some o) (sym is)

-- one description is sound where it is equal to one that is
pub all_of_one : (property : Configuration → Type 0) (calls : List OpenCall) (one : Description)
    → IsSound property calls one → AreSound property calls (one ∷ [])
all_of_one property calls one sound other has = elim (has-cons one [] other has) [
  | inl is ↦ subst (λ (d : Description). IsSound property calls d) is sound
  | inr none ↦ absurd (has-none other none)
]

-- the descriptions below the next place are closed in a list that grew
pub closed_old : (next : List ℕ → ℕ → List ℕ × ℕ) (writes : ℕ → Bool) (calls : List OpenCall)
    (returning : OpenCall) (reply : ℕ) (ones left new after : List Description) (k : ℕ) → Grows ones new
    → ((at : Configuration) → AreMeant left at → AreMeant after at) → k < length ones
    → ((j : ℕ) (one : Description) → j < k → slice_get ones j ≡ Some one
    → LeadsOn next writes calls returning reply ones left (length calls) one)
    → ((one : Description) → slice_get ones k ≡ Some one
    → LeadsOn next writes calls returning reply new after (length calls) one)
    → (j : ℕ) (one : Description) → j < k + 1 → slice_get new j ≡ Some one
    → LeadsOn next writes calls returning reply new after (length calls) one
closed_old next writes calls returning reply ones left new after k grows stays within leads here =
    below_next (λ (d : Description). LeadsOn next writes calls returning reply new after (length calls) d)
    new k
    (λ j one less is. leads-more next writes calls returning reply ones left new after (length calls) grows
    stays one (leads j one less (old j one (before j less) is)))
    (λ one is. here one (old k one within is))
  where
    before : (j : ℕ) → j < k → j < length ones
    before j less = omega (arith, less, within)

    old : (j : ℕ) (one : Description) → j < length ones → slice_get new j ≡ Some one
        → slice_get ones j ≡ Some one
    old j one less is = sym (slice_get-append_within ones grows.0 j less)
        ∙ subst (λ (l : List Description). slice_get l j ≡ Some one) grows.1 is
