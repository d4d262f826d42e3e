-- Configurations that descriptions hide.
use Rattle.std.proofs.Common.{◌≡◌, ◌≢◌, ◌⊎◌, ◌∙◌, ℕ, Bool, List, [], ◌∷◌, refl, sym, ap, subst, inl, inr}
use Rattle.std.specs.Prelude.{IsTrue}
use Rattle.streams.specs.StreamOrder.{StreamPlace, IsAmong}
use Rattle.residue_laws.specs.Residue.{Configuration}
use Rattle.residue_laws.proofs.Placing.{among-cons, among-first, among-later}
use Rattle.late_residue.specs.declared.open_call.OpenCall.{OpenCall}
use Rattle.late_residue.specs.Description.{Description}
use Rattle.late_residue.specs.Reached.{Has}
use Rattle.late_residue.specs.Meaning.{IsPlaceOf, AreOnce, Means, IsWider}
use Rattle.late_residue.specs.Known.{MayHaveReply}
use Rattle.late_residue.specs.Placing.{AreOf, Overwrites, IsPlacedOn, IsWritten, Rests, Hides, MayBePlaced, SeesNothing, IsUnseenBy, with_call}
use Rattle.late_residue.proofs.Items.{has-cons, has-none}
use Rattle.late_residue.proofs.Meanings.{names, of_or_not, once_with}

-- a place of one open call that is known to overwrite
pub written_one : (next : List ℕ → ℕ → List ℕ × ℕ) (writes : ℕ → Bool) (call : OpenCall)
    (place : StreamPlace) → IsWritten next writes (call ∷ []) place
    → (call.call ≡ place.call) × IsTrue (writes call.op)
    × ((list : List ℕ) → (next list call.op).1 ≡ place.reply) × MayHaveReply call place.reply
written_one next writes call place (one, has, number, write, replies, may) =
    elim (has-cons call [] one has) [
      | inl is ↦ subst (λ (o : OpenCall). (o.call ≡ place.call) × IsTrue (writes o.op)
          × ((list : List ℕ) → (next list o.op).1 ≡ place.reply) × MayHaveReply o place.reply)
          (sym is) (number, write, replies, may)
      | inr none ↦ absurd (has-none one none)
    ]

module _ (next : List ℕ → ℕ → List ℕ × ℕ) (writes : ℕ → Bool) (calls : List OpenCall)
    (over : (op : ℕ) → IsTrue (writes op) → Overwrites next op) where
  -- what a call that overwrites leads to from a configuration that a description hides is meant by the
  -- description after the call, with the others that overwrite as optional ones
  pub hidden_means : (from on hid : Description) (call : OpenCall) → IsPlacedOn next from call on
      → IsWider on hid
      → ((p : StreamPlace) → IsAmong on.optional p → IsAmong hid.optional p)
      → (IsTrue (writes call.op) → (p : StreamPlace) → IsWritten next writes calls p
      → (p.call ≢ call.call) → (AreOf on.placed p.call → ⊥) → IsAmong hid.optional p)
      → IsTrue (writes call.op) → (returning : ℕ) (at : Configuration)
      → Hides next writes calls returning from at → MayBePlaced next calls at call
      → Means hid (with_call next at call)
  hidden_means from on hid call placed wider stay hidden write returning at hides may =
      let both : next at.list call.op ≡ next from.list call.op =
      over call.op write at.list from.list in
      let it : StreamPlace = record { call = call.call; reply = (next at.list call.op).1 } in
      let same : it ≡ record { call = call.call; reply = (next from.list call.op).1 } =
      ap (λ (n : List ℕ × ℕ). record { call = call.call; reply = n.1 }) both in
      let to : (p : StreamPlace) → IsAmong on.placed p → IsAmong hid.placed p =
      λ (p : StreamPlace) (among : IsAmong on.placed p).
      subst (λ (ps : List StreamPlace). IsAmong ps p) (sym wider.placed) among in
      record {
        list = ap (λ (n : List ℕ × ℕ). n.0) both ∙ (sym placed.list ∙ sym wider.list);
        placed = λ p among. elim ((placed.placed p).0
            (subst (λ (ps : List StreamPlace). IsAmong ps p) wider.placed among)) [
              | inl is ↦ among-first it at.placed p (same ∙ is)
              | inr old ↦ among-later it at.placed p (hides.placed p old)
            ];
        either = λ p among. elim (among-cons it at.placed p among) [
          | inl is ↦ inl (to p ((placed.placed p).1 (inl (sym same ∙ is))))
          | inr old ↦
              let apart : p.call ≢ call.call =
              λ (e : p.call ≡ call.call). may.unplaced (names at.placed p call.call e old) in
              elim (hides.either p old) [
                | inl (inl here) ↦ inl (to p ((placed.placed p).1 (inr here)))
                | inl (inr optional) ↦ inr (stay p ((placed.optional p).1 (optional, apart)))
                | inr written ↦ elim (of_or_not from.placed p.call) [
                  | inl (r, here) ↦ inl (to p ((placed.placed p).1 (inr
                      (subst (λ (q : StreamPlace). IsAmong from.placed q)
                      (sym (hides.once p (record { call = p.call; reply = r }) old
                      (hides.placed (record { call = p.call; reply = r }) here) refl)) here))))
                  | inr none ↦ inr (hidden write p written apart
                      (λ (r, last). elim ((placed.placed _).0 last) [
                        | inl is ↦ apart (sym (ap (λ (q : StreamPlace). q.call) is))
                        | inr here ↦ none (r, here)
                      ]))
                ]
              ]
        ];
        once = once_with next at call hides.once may.unplaced;
      }

  pub covered_placed : (returning : ℕ) (one : Description) (at : Configuration)
      → Means one at ⊎ Hides next writes calls returning one at → (p : StreamPlace)
      → IsAmong one.placed p → IsAmong at.placed p
  covered_placed returning one at (inl means) p among = means.placed p among
  covered_placed returning one at (inr hides) p among = hides.placed p among

  covered_either : (returning : ℕ) (one : Description) (at : Configuration)
      → Means one at ⊎ Hides next writes calls returning one at → (p : StreamPlace)
      → IsAmong at.placed p → IsPlaceOf one p ⊎ IsWritten next writes calls p
  covered_either returning one at (inl means) p among = inl (means.either p among)
  covered_either returning one at (inr hides) p among = hides.either p among

  covered_once : (returning : ℕ) (one : Description) (at : Configuration)
      → Means one at ⊎ Hides next writes calls returning one at → AreOnce at.placed
  covered_once returning one at (inl means) = means.once
  covered_once returning one at (inr hides) = hides.once

  -- what an unseen call leads to is hidden
  pub hides_next : (returning : ℕ) (one : Description) (call : OpenCall) → IsTrue (writes call.op)
      → ((other : OpenCall) → Has calls other → IsUnseenBy next writes returning one call other)
      → (at : Configuration) → Means one at ⊎ Hides next writes calls returning one at
      → MayBePlaced next calls at call
      → Hides next writes calls returning one (with_call next at call)
  hides_next returning one call write unseen at covered may =
      let it : StreamPlace = record { call = call.call; reply = (next at.list call.op).1 } in
      record {
        placed = λ p among. among-later it at.placed p (covered_placed returning one at covered p among);
        either = λ p among. elim (among-cons it at.placed p among) [
          | inl is ↦ inr (
            call,
            may.is_open,
            ap (λ (q : StreamPlace). q.call) is,
            write,
            λ list. ap (λ (n : List ℕ × ℕ). n.1) (over call.op write list at.list)
                ∙ ap (λ (q : StreamPlace). q.reply) is,
            subst (λ (r : ℕ). MayHaveReply call r) (ap (λ (q : StreamPlace). q.reply) is) may.reply,
          )
          | inr old ↦ covered_either returning one at covered p old
        ];
        once = once_with next at call (covered_once returning one at covered) may.unplaced;
        unseen = λ other also. subst
            (λ (n : List ℕ × ℕ). IsTrue (writes other.op)
            ⊎ Rests next returning one other (next n.0 other.op).1)
            (over call.op write one.list at.list)
            (unseen other also.is_open
            (λ (e : other.call ≡ call.call). also.unplaced (names (it ∷ at.placed) it other.call
            (sym e) (among-first it at.placed it refl)))
            (λ (r, among). also.unplaced (
              r,
              among-later it at.placed _
                  (covered_placed returning one at covered _ among),
            ))
            (subst (λ (n : List ℕ × ℕ). MayHaveReply other (next n.0 other.op).1)
            (over call.op write at.list one.list) also.reply));
      }

  -- where no other call sees what is after a call, the call is unseen
  pub unseen_by : (returning : ℕ) (one after : Description) (call other : OpenCall)
      → IsPlacedOn next one call after → SeesNothing next writes returning after other
      → IsUnseenBy next writes returning one call other
  unseen_by returning one after call other on sees apart lacks may =
      subst (λ (l : List ℕ). IsTrue (writes other.op)
      ⊎ Rests next returning one other (next l other.op).1) on.list (elim (sees.written
      (λ (r, among). elim ((on.placed _).0 among) [
        | inl is ↦ apart (sym (ap (λ (p : StreamPlace). p.call) is))
        | inr old ↦ lacks (r, old)
      ]) (subst (λ (l : List ℕ). MayHaveReply other (next l other.op).1) (sym on.list) may)) [
        | inl write ↦ inl write
        | inr (other_one, leaves, among) ↦ inr (other_one, leaves, ((on.optional _).0 among).0)
      ])

  -- what a call that rests leads to from a configuration that is hidden is hidden
  pub hides_resting : (returning : ℕ) (one : Description) (call : OpenCall) (at : Configuration)
      → Hides next writes calls returning one at → MayBePlaced next calls at call
      → Rests next returning one call (next at.list call.op).1
      → Hides next writes calls returning one (with_call next at call)
  hides_resting returning one call at hides may (apart, leaves, optional) =
      let it : StreamPlace = record { call = call.call; reply = (next at.list call.op).1 } in
      let stays : (next at.list call.op).0 ≡ at.list = leaves at.list refl in
      record {
        placed = λ p among. among-later it at.placed p (hides.placed p among);
        either = λ p among. elim (among-cons it at.placed p among) [
          | inl is ↦ inl (inr (subst (λ (q : StreamPlace). IsAmong one.optional q) is optional))
          | inr old ↦ hides.either p old
        ];
        once = once_with next at call hides.once may.unplaced;
        unseen = λ other also. subst (λ (l : List ℕ). IsTrue (writes other.op)
            ⊎ Rests next returning one other (next l other.op).1) (sym stays)
            (hides.unseen other (record {
              is_open = also.is_open;
              unplaced = λ (r, among). also.unplaced (r, among-later it at.placed _ among);
              reply = subst (λ (l : List ℕ). MayHaveReply other (next l other.op).1) stays also.reply;
            }));
      }
