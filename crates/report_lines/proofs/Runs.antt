-- What the lines of a run's locals say of the run.
use Rattle.std.proofs.Common.{◌≡◌, ℕ, zero, suc, ◌<◌, Bool, nat_lt, List, [], ◌∷◌, length, map, cond, Some, slice_get, slice_index_or, refl, sym, ap, ◌∙◌, subst, arith, inl, inr}
use Rattle.std.proofs.lemmas.Bool.{cases_lt, lt-ltb, le-ltb, cond_both}
use Rattle.std.proofs.lemmas.List.{get_or_past}
use Rattle.std.proofs.lemmas.List.FromFn.{length-map-range_with_len}
use Rattle.std.proofs.lemmas.Option.{same_Some, slice_get_within}
use Rattle.list_laws.proofs.Options.{none_from_never}
use Rattle.book_base.specs.declared.call.Call.{Call}
use Rattle.book_base.specs.declared.call.Record.{Record}
use Rattle.world_core.specs.declared.region.Region.TheVariants.{M}
use Rattle.world_core.specs.Shape.{Shape}
use Rattle.world_core.specs.Local.{Local, fresh}
use Rattle.world_core.specs.World.{end_of}
use Rattle.world_core.specs.Calls.{Made, Reached, Is_announced, Has_record, Has_seen, AreTogether, record_in, reached_in, call_in, calls_in, local_at}
use Rattle.world_laws.specs.Cuts.{WereOwnCounts}
use Rattle.world_laws.proofs.Locals.{locals_have_phases}
use Rattle.world_laws.proofs.Giving.{seen_cuts_are_given}
use Rattle.world_laws.proofs.Instants.{given_cuts_were_counts}
use Rattle.world_laws.specs.Verdicts.{HasSeenCut}
use Rattle.world_laws.proofs.Judging.{no_run_has_this_error_seen}
use Rattle.world_laws.proofs.Pages.{slice_get-made}
use Rattle.report_lines.specs.Lines.{calls_of, error_at}
use Rattle.report_lines.specs.Reporting.{SeenCutsWerePublished, LinearizableRunsHaveNoError}
use Rattle.report_lines.proofs.Lines.{has_seen_cut, seen_from_error}
use Rattle.report_lines.proofs.Worlds.{illegal_at, sees}

-- A call that has seen a cut, by its local.
record IsSeenIn (l : Local) (k : ℕ) (cut : List ℕ) : Type 0 where
  below : k < length l.seen
  is : slice_index_or l.seen k [] ≡ cut

seen_in : (l : Local) (k : ℕ) (r : Record) (cut : List ℕ) → reached_in l k ≡ Has_seen r cut
    → IsSeenIn l k cut
seen_in l k r cut e =
    let own : List ℕ = slice_index_or l.seen k [] in
    let other : Reached =
    cond (nat_lt k (length l.views)) (Has_record (record_in l k)) Is_announced in
    let made : Bool → Reached = λ b. cond b (Has_seen (record_in l k) own) other in
    elim (cases_lt k (length l.seen)) [
      | inl below ↦
          let one : Has_seen (record_in l k) own ≡ Has_seen r cut =
          sym (ap made (lt-ltb k (length l.seen) below)) ∙ e in
          let same : own ≡ cut = cc in
          record { below = below; is = same }
      | inr past ↦
          let none : other ≡ Has_seen r cut = sym (ap made (le-ltb k (length l.seen) past)) ∙ e in
          absurd (cond_both (nat_lt k (length l.views)) (Has_record (record_in l k)) Is_announced
          (λ (v : Reached). v ≡ Has_seen r cut → ⊥) (λ _ h. absurd cc) (λ _ h. absurd cc) none)
    ]

-- the calls of a caller among those of all
pub calls_at : (locals : List Local) (i : ℕ)
    → slice_index_or (map calls_in locals) i [] ≡ calls_in (local_at locals i)
calls_at [] i = refl
calls_at (l ∷ ls) zero = refl
calls_at (l ∷ ls) (suc i) = calls_at ls i

seen_by : (locals : List Local) (call : Call) (cut : List ℕ)
    → HasSeenCut (map calls_in locals) call cut
    → IsSeenIn (local_at locals call.caller) call.number cut
seen_by locals call cut h =
    let l : Local = local_at locals call.caller in
    let made : Made = record { operation = h.operation; reached = Has_seen h.answer cut } in
    let there : slice_get (calls_in l) call.number ≡ Some made = ap
    (λ (cs : List Made). slice_get cs call.number) (sym (calls_at locals call.caller)) ∙ h.made in
    let low : call.number < length l.operations =
    omega (
      arith,
      slice_get_within (calls_in l) call.number made there,
      length-map-range_with_len (λ k. call_in l k) 0 (length l.operations),
    ) in
    let same : call_in l call.number ≡ made =
    same_Some (call_in l call.number) made
    (sym (slice_get-made (λ k. call_in l k) (length l.operations) call.number low) ∙ there) in
    seen_in l call.number h.answer cut (ap (λ (m : Made). m.reached) same)

-- who has seen a cut is one of the callers
seer : (s : Shape) (locals : List Local) → AreTogether s locals → (i k : ℕ)
    → k < length (local_at locals i).seen → i < s.callers
seer s locals t i k below = elim (cases_lt i s.callers) [
  | inl low ↦ low
  | inr past ↦ absurd (omega (
    arith,
    below,
    ap (λ (l : Local). length l.seen)
        (get_or_past locals i fresh (omega (arith, past, (locals_have_phases s locals t).0))),
  ))
]

pub seen_cuts_were_published : SeenCutsWerePublished
seen_cuts_were_published spec s locals lines call cut t are e =
    let seen = seen_by locals call cut (sees spec locals lines are call cut e) in
    let low : call.caller < s.callers = seer s locals t call.caller call.number seen.below in
    let given = seen_cuts_are_given s locals call.caller call.number t low seen.below in
    subst (WereOwnCounts s locals M) seen.is
    (given_cuts_were_counts s locals call.caller given.place
    (record {
      region = M;
      cut = slice_index_or (local_at locals call.caller).seen call.number [];
      since = given.since;
    }) t low given.is)

pub linearizable_runs_have_no_error : LinearizableRunsHaveNoError
linearizable_runs_have_no_error spec s steps lines call run linearizable are =
    none_from_never (error_at lines call) (λ cut e.
    no_run_has_this_error_seen spec (calls_of lines) call cut
    (has_seen_cut lines call cut (seen_from_error lines call cut e))
    (illegal_at spec (end_of s steps).locals lines are call cut e) s steps run
    (sym are.calls) linearizable)
