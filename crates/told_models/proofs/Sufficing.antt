-- Callers that wait at a cut and a state, and which of them needn't wait any more.
use Rattle.std.proofs.Common.{◌≡◌, ◌≢◌, ℕ, zero, suc, ◌<◌, ◌≤◌, ◌∙◌, ◌⊎◌, ◌↔◌, List, ◌∷◌, length, get_or, Option, Some, unwrap_or, refl, sym, ap, subst, inl, inr, arith}
use Rattle.std.proofs.lemmas.Bool.{cases_eq, cases_lt}
use Rattle.book_base.specs.declared.call.Call.{Call}
use Rattle.book_base.specs.declared.call.Place.{Place}
use Rattle.book_base.specs.declared.call.Record.{Record}
use Rattle.book_base.specs.SeqSpec.{SeqSpec}
use Rattle.book_base.specs.Book.{Page, IsValid, IsAnswered, answers_of, record_of}
use Rattle.book_base.specs.Order.{call_at}
use Rattle.book_base.specs.Next.{next_call, raised, list_after, MayComeNext, MayStandNext, Continues}
use Rattle.book_base.specs.Pruning.{HasOneOpen, IsForced}
use Rattle.legal_orders.specs.Standing.{answered_place, word_of}
use Rattle.legal_orders.specs.Twins.{IsTwin}
use Rattle.legal_orders.proofs.LegalOrder.{same_call, answer_stands}
use Rattle.legal_orders.proofs.Exchanging.{twin_serves}
use Rattle.legal_orders.proofs.Omitting.{idle_may_be_left_out}
use Rattle.search_hints.specs.declared.marked_callers.MarkedCallers.{MarkedCallers}
use Rattle.search_hints.specs.Marks.{IsMarked, MarksAllNext, MarksSuffice}
use Rattle.search_hints.proofs.PruningLemmas.{all_next_suffice}
use Rattle.told_models.specs.declared.table.Transition.{Transition}
use Rattle.told_models.specs.Table.{Table, told_step, IsPromised}
use Rattle.told_models.specs.Agreement.{AgreesBy}
use Rattle.told_models.specs.Walking.{IsDead, IsNode, IsRecorded, Serves}
use Rattle.told_models.proofs.Sooner.{goes_on_sooner}

-- Where a caller is forced after a cut, all callers whose next calls may come next wait there.
pub node_fresh : (table : Table) (book : List Page) (cut : List ℕ) (state forced : ℕ)
    (waiting : MarkedCallers) → IsForced book cut forced → MarksAllNext book cut waiting
    → IsNode table book cut state waiting
node_fresh table book cut state forced waiting is all = record {
  unended = λ held. let low : get_or cut forced 0 < get_or cut forced 0 =
      held (next_call cut forced) is.answered in absurd (omega (arith, low));
  may = λ i marked. (all i).0 marked;
  suffice = λ list_of spec agrees.
      all_next_suffice book spec.next cut (list_of state) forced waiting is all;
}

-- Some marks are others without the mark on one caller.
abbrev pub AreWithout : MarkedCallers → MarkedCallers → ℕ → Type 0
AreWithout new old caller = (i : ℕ) → IsMarked new i ↔ ((i ≢ caller) × IsMarked old i)

-- Places that continue an order may begin otherwise than with the next call of a caller: with that
-- of another marked one, or there are fewer of them.
abbrev pub BeginsOtherwise : List Page → (List ℕ → ℕ → List ℕ × ℕ) → List ℕ → List ℕ
    → MarkedCallers → ℕ → List Place → Type 0
BeginsOtherwise book next cut list old caller rest =
    ((other : Place) × (later : List Place) × (other.caller ≢ caller) × IsMarked old other.caller
    × Continues book next cut list (other ∷ later) × (length later ≤ length rest))
    ⊎ ((later : List Place) × Continues book next cut list later × (length later ≤ length rest))

module _ (book : List Page) (next : List ℕ → ℕ → List ℕ × ℕ) (cut list : List ℕ)
    (old new : MarkedCallers) (caller : ℕ) (without : AreWithout new old caller)
    (suffice : MarksSuffice book next cut list old)
    (otherwise : (place : Place) (rest : List Place) → place.caller ≡ caller
    → Continues book next cut list (place ∷ rest)
    → BeginsOtherwise book next cut list old caller rest) where
  within : (bound : ℕ) (rest : List Place) → length rest < bound
      → Continues book next cut list rest → (place : Place) × (other : List Place)
      × IsMarked new place.caller × Continues book next cut list (place ∷ other)
      × (length other < length rest)
  within zero rest few goes = absurd (omega (arith, few))
  within (suc bound) rest few goes =
      let found = suffice rest goes in
      elim (cases_eq found.0.caller caller) [
        | inr apart ↦
            (found.0, found.1, (without found.0.caller).1 (apart, found.2), found.3, found.4)
        | inl same ↦ elim (otherwise found.0 found.1 same found.3) [
          | inl it ↦ (
            it.0,
            it.1,
            (without it.0.caller).1 (it.2, it.3),
            it.4,
            omega (arith, it.5, found.4),
          )
          | inr shorter ↦
              let again =
              within bound shorter.0 (omega (arith, few, found.4, shorter.2)) shorter.1 in
              (again.0, again.1, again.2, again.3, omega (arith, again.4, found.4, shorter.2))
        ]
      ]

  -- Marks suffice without one caller, where places that begin with its next call may begin
  -- otherwise.
  pub suffice_without : MarksSuffice book next cut list new
  suffice_without rest goes = within (suc (length rest)) rest (omega arith) goes

-- A caller waits no more where that changes nothing for each object that agrees.
pub node_without : (table : Table) (book : List Page) (cut : List ℕ) (state : ℕ)
    (old new : MarkedCallers) (caller : ℕ) → AreWithout new old caller
    → IsNode table book cut state old
    → ((list_of : ℕ → List ℕ) (spec : SeqSpec) → AgreesBy list_of table spec → (place : Place)
    (rest : List Place) → place.caller ≡ caller
    → Continues book spec.next cut (list_of state) (place ∷ rest)
    → BeginsOtherwise book spec.next cut (list_of state) old caller rest)
    → IsNode table book cut state new
node_without table book cut state old new caller without node otherwise = record {
  unended = node.unended;
  may = λ i marked. node.may i ((without i).0 marked).1;
  suffice = λ list_of spec agrees. suffice_without book spec.next cut (list_of state) old new caller
      without (node.suffice list_of spec agrees) (otherwise list_of spec agrees);
}

-- A place of a caller that may stand next is that of its next call, and makes its told step.
record IsToldPlace (book : List Page) (next : List ℕ → ℕ → List ℕ × ℕ) (cut list : List ℕ)
    (caller : ℕ) (after : List ℕ) (reply : ℕ) (place : Place) : Type 0 where
  pub call : call_at place ≡ next_call cut caller
  pub gets : place.reply ≡ reply
  pub leads : list_after book next list place ≡ after

told_place : (table : Table) (book : List Page) (cut : List ℕ) (state caller : ℕ)
    (transition : Transition) (list_of : ℕ → List ℕ) (spec : SeqSpec) (place : Place)
    → told_step table state (word_of book (next_call cut caller)) ≡ Some transition
    → AgreesBy list_of table spec → place.caller ≡ caller
    → MayStandNext book spec.next cut (list_of state) place
    → IsToldPlace book spec.next cut (list_of state) caller (list_of transition.next)
    transition.reply place
told_place table book cut state caller transition list_of spec place told agrees by stands =
    let call : call_at place ≡ next_call cut caller =
    same_call (call_at place) (next_call cut place.caller) refl stands.may_come.next
    ∙ ap (next_call cut) by in
    let made : spec.next (list_of state) (word_of book (call_at place))
    ≡ (list_of transition.next, transition.reply) =
    ap (λ (c : Call). spec.next (list_of state) (word_of book c)) call
    ∙ agrees.steps state (word_of book (next_call cut caller)) transition told in record {
      call = call;
      gets = sym stands.reply ∙ ap (λ (p : List ℕ × ℕ). p.1) made;
      leads = ap (λ (p : List ℕ × ℕ). p.0) made;
    }

-- What is left out needn't wait.
module _ (table : Table) (book : List Page) (cut : List ℕ) (state : ℕ) (old new : MarkedCallers)
    (caller : ℕ) (transition : Transition) (without : AreWithout new old caller)
    (node : IsNode table book cut state old)
    (told : told_step table state (word_of book (next_call cut caller)) ≡ Some transition) where
  pub node_unreplied : (IsRecorded book (next_call cut caller) transition.reply → ⊥)
      → IsNode table book cut state new
  node_unreplied wrong = node_without table book cut state old new caller without node
      (λ list_of spec agrees place rest by goes.
      let it = told_place table book cut state caller transition list_of spec place told agrees by
      goes.0 in
      absurd (wrong (λ r at.
      goes.0.recorded r (ap (record_of book) it.call ∙ at) ∙ it.gets)))

  pub node_idle : length book ≤ length cut → HasOneOpen book
      → (IsAnswered book (next_call cut caller) → ⊥) → transition.next ≡ state
      → IsNode table book cut state new
  node_idle wide is_open unanswered stays = node_without table book cut state old new caller without
      node (λ list_of spec agrees place rest by goes.
      let it = told_place table book cut state caller transition list_of spec place told agrees by
      goes.0 in
      inr (idle_may_be_left_out book spec.next cut (list_of state) place rest wide is_open
      (subst (λ (c : Call). IsAnswered book c → ⊥) (sym it.call) unanswered)
      (it.leads ∙ ap list_of stays) goes))

  pub node_served : length book ≤ length cut → IsValid book → HasOneOpen book
      → IsRecorded book (next_call cut caller) transition.reply → (other : ℕ) → (other ≡ caller → ⊥)
      → IsMarked old other
      → IsMarked old caller
      → Serves book (next_call cut other) (next_call cut caller) transition.reply
      → IsNode table book cut state new
  node_served wide valid is_open gets other apart marked mine serves =
      node_without table book cut state old new caller without node
      (λ list_of spec agrees place rest by goes.
      let it = told_place table book cut state caller transition list_of spec place told agrees by
      goes.0 in
      let a : Call = next_call cut other in
      let b : Call = next_call cut caller in
      let same_word : word_of book a ≡ word_of book b =
      ap (λ (o : Option ℕ). unwrap_or o 0) serves.0 in
      let gives : (spec.next (list_of state) (word_of book a)).1 ≡ transition.reply =
      ap (λ (p : List ℕ × ℕ). p.1) (ap (spec.next (list_of state)) same_word
      ∙ agrees.steps state (word_of book b) transition told) in
      let twin : IsTwin book spec.next cut (list_of state) a b = record {
        apart = apart;
        first = node.may other marked;
        second = node.may caller mine;
        same = serves.0;
        serves = elim serves.1 [
          | inl it ↦ inl (
            it.0,
            it.1,
            elim (cases_lt b.number (answers_of book b.caller)) [
              | inl answered ↦
                  let there = answer_stands book b answered in
                  inl (there.0, there.1, gets there.0 there.1 ∙ sym it.2, it.3 answered)
              | inr is_open ↦
                  inr (λ answered. absurd (omega (arith, is_open, answered)), gives ∙ sym it.2)
            ],
          )
          | inr neither ↦ inr neither
        ];
      } in
      let found = twin_serves book spec.next cut (list_of state) a place rest wide valid is_open
      (subst (λ (c : Call). IsTwin book spec.next cut (list_of state) a c) (sym it.call) twin)
      goes in
      inl (
        record { caller = a.caller; number = a.number; reply = place.reply },
        found.0,
        apart,
        marked,
        found.1,
        found.2,
      ))

  -- A caller waits no more where its call leads to a dead end.
  pub node_dead : IsDead table book (raised cut caller) transition.next
      → IsNode table book cut state new
  node_dead dead = node_without table book cut state old new caller without node
      (λ list_of spec agrees place rest by goes.
      let it = told_place table book cut state caller transition list_of spec place told agrees by
      goes.0 in
      absurd (dead list_of spec agrees rest
      (subst (λ (i : ℕ). Continues book spec.next (raised cut i) (list_of transition.next) rest) by
      (subst (λ (l : List ℕ). Continues book spec.next (raised cut place.caller) l rest) it.leads
      goes.1))))

-- Where the next call of a caller is answered, makes a told step with its recorded reply, and is
-- promised to change no state, this caller alone needs to wait: the call may be taken at once.
pub node_at_once : (table : Table) (book : List Page) (cut : List ℕ) (state : ℕ)
    (old new : MarkedCallers) (caller : ℕ) (transition : Transition) (r : Record)
    → ((i : ℕ) → IsMarked new i ↔ (i ≡ caller)) → IsNode table book cut state old
    → IsMarked old caller → length book ≤ length cut
    → told_step table state (word_of book (next_call cut caller)) ≡ Some transition
    → record_of book (next_call cut caller) ≡ Some r → r.reply ≡ transition.reply
    → IsPromised table (word_of book (next_call cut caller)) r.reply
    → IsNode table book cut state new
node_at_once table book cut state old new caller transition r only node marked wide told known gets
    promised =
    let call : Call = next_call cut caller in record {
      unended = node.unended;
      may = λ i is. subst (λ (j : ℕ). MayComeNext book cut (next_call cut j)) (sym ((only i).0 is))
          (node.may caller marked);
      suffice = λ list_of spec agrees rest goes.
          let found = goes_on_sooner book spec.next cut (list_of state) call r rest wide (record {
            may_come = node.may caller marked;
            known = known;
            gives = ap (λ (p : List ℕ × ℕ). p.1)
                (agrees.steps state (word_of book call) transition told) ∙ sym gets;
            leaves = agrees.promises (word_of book call) r.reply promised;
          }) goes in
          (answered_place call r, found.0, (only caller).1 refl, found.1, found.2);
    }

-- A node at which no caller waits is a dead end.
pub node_ends : (table : Table) (book : List Page) (cut : List ℕ) (state : ℕ)
    (waiting : MarkedCallers) → IsNode table book cut state waiting
    → ((i : ℕ) → IsMarked waiting i → ⊥) → IsDead table book cut state
node_ends table book cut state waiting node none list_of spec agrees rest goes =
    let found = node.suffice list_of spec agrees rest goes in none found.0.caller found.2
