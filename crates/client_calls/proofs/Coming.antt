-- A client makes one phase of its caller after the other.
use Rattle.std.proofs.Common.{◌≡◌, ◌∙◌, sym, ap, refl, ℕ, ◌+◌, ◌*◌, ◌<◌, List, [], ◌∷◌, ◌++◌, length, slice_index, slice_index_or, arith}
use Rattle.std.proofs.lemmas.List.{append-nil, get_or_push}
use Rattle.book_base.specs.declared.call.Record.{Record}
use Rattle.world_core.specs.Shape.{Meaning}
use Rattle.world_core.specs.Local.{Local, Object_step, Announcing}
use Rattle.world_core.specs.CallSteps.{steps_now}
use Rattle.world_core.specs.Agreement.{HasPhase, unpublished_calls}
use Rattle.world_core.specs.Calls.{Is_announced, Has_record, Has_seen, Made}
use Rattle.report_lines.specs.declared.line.LineEnd.{LineEnd}
use Rattle.report_lines.specs.declared.line.Line.{Line}
use Rattle.report_lines.specs.Phases.{Progress, progress_of}
use Rattle.report_lines.specs.Progress.{after_announcing, after_viewing, after_publishing, after_seeing, with_last, with_seen}
use Rattle.report_lines.proofs.Stepping.{viewing_is_a_phase}
use Rattle.row_table.specs.declared.caller.Caller.{Caller}
use Rattle.row_table.specs.declared.rows.Rows.{Rows}
use Rattle.row_table.specs.Callers.{local_with, MayGet, IsStill}
use Rattle.drv_wrapper.specs.Growth.{Grows}
use Rattle.drv_wrapper.specs.declared.announced.Announced.{Announced}
use Rattle.drv_wrapper.specs.declared.answered.Answered.{Answered}
use Rattle.drv_wrapper.specs.declared.viewed.Viewed.{Viewed}
use Rattle.drv_wrapper.specs.States.{caller_announced, op_announced, announced_local, caller_answered, op_answered, reply_answered, answered_local, caller_viewed, viewed_local, record_viewed}
use Rattle.enforcer.specs.declared.published_call.Published.{Published}
use Rattle.enforcer.specs.States.{caller_published, record_published}
use Rattle.client_calls.specs.declared.stand.CallerState.{CallerState}
use Rattle.client_calls.specs.declared.stand.CallerState.TheVariants as at
use Rattle.client_calls.specs.Asking.{ComesNoFurther}
use Rattle.client_calls.specs.Course.{HasCome}
use Rattle.client_calls.proofs.Phases.{the_last_call_goes_on, announcing_is_a_phase, asking_is_a_phase, publishing_is_a_phase, progress_along}
use Rattle.client_calls.proofs.Lines.{lines_stay}

-- what the ends of lines say stays true as the caller makes further steps
abbrev pub Stays : (ℕ → Local → Record → List ℕ → LineEnd → Type 0) → Type 0
Stays says = (n : ℕ) (l m : Local) (r : Record) (cut : List ℕ) (end : LineEnd) → Grows l m
    → says n l r cut end → says n m r cut end

-- a call that was announced just now has no object step
pub none_yet : (l m : Local) → HasPhase l → l.phase ≡ Announcing → m.published ≡ l.published
    → m.object_steps ≡ l.object_steps ++ [] ∷ [] → steps_now m ≡ []
none_yet l m has phase published steps =
    ap (λ (k : ℕ). slice_index_or m.object_steps k []) published
    ∙ ap (λ (all : List (List Object_step)). slice_index_or all l.published []) steps
    ∙ get_or_push l.object_steps [] [] l.published
    (omega (arith, has.object_steps, has.announced, ap unpublished_calls phase))

-- an announcement adds the announced call to the calls that have ended
announced_calls : (progress progress' : Progress) (op : ℕ) (ended : List Made)
    → progress' ≡ after_announcing op progress → progress.calls ≡ ended ++ []
    → progress'.calls ≡ ended ++ record { operation = op; reached = Is_announced } ∷ []
announced_calls progress progress' op ended is calls =
    ap (λ (x : Progress). x.calls) is
    ∙ ap (λ (cs : List Made). cs ++ record { operation = op; reached = Is_announced } ∷ [])
    (calls ∙ append-nil ended)

viewed_calls : (progress progress' : Progress) (r : Record) (ended : List Made) (last : Made)
    → progress' ≡ after_viewing r progress → progress.calls ≡ ended ++ last ∷ []
    → progress'.calls ≡ ended ++ record { operation = last.operation; reached = Has_record r } ∷ []
viewed_calls progress progress' r ended last is calls =
    ap (λ (x : Progress). x.calls) is ∙ ap (with_last (λ _. Has_record r)) calls
    ∙ the_last_call_goes_on (λ _. Has_record r) ended last

pub seen_calls : (progress progress' : Progress) (cut : List ℕ) (r : Record) (op : ℕ)
    (ended : List Made) → progress' ≡ after_seeing cut progress
    → progress.calls ≡ ended ++ record { operation = op; reached = Has_record r } ∷ []
    → progress'.calls ≡ ended ++ record { operation = op; reached = Has_seen r cut } ∷ []
seen_calls progress progress' cut r op ended is calls =
    ap (λ (x : Progress). x.calls) is
    ∙ ap (with_last (with_seen cut)) calls
    ∙ the_last_call_goes_on (with_seen cut) ended
    (record { operation = op; reached = Has_record r })

module _ {P : Type 0} (meaning : P → ℕ → ℕ → Meaning) (r : Rows P)
    (says : ℕ → Local → Record → List ℕ → LineEnd → Type 0) (stays : Stays says) (who : ℕ)
    (operations : List ℕ) (own : List Line) where
  abbrev Come : CallerState P → Type 0
  Come s = HasCome meaning r says who operations s own

  abbrev op : ℕ
  op = slice_index operations (length own)

  pub announced_come : (c : Caller P) (a : Announced P) (next : ℕ) → next ≡ op → Come (at.Idle c)
      → length own < length operations
      → IsStill meaning r c (caller_announced a) → op_announced a ≡ next
      → progress_of (announced_local a) ≡ after_announcing next (progress_of (local_with c))
      → Grows (local_with c) (announced_local a)
      → steps_now (announced_local a) ≡ [] → Come (at.Announced a)
  announced_come c a next next_is h low still is progress' grows none =
      let progress : progress_of (announced_local a)
      ≡ after_announcing op (progress_of (local_with c)) =
      progress' ∙ ap (λ (o : ℕ). after_announcing o (progress_of (local_with c))) next_is in
      record {
        caller = still.0;
        number = still.1 ∙ h.number;
        made = progress_along operations (5 * length own + 1) (5 * length own + 1) _ _ refl
            (sym progress)
            (announcing_is_a_phase operations (length own) (progress_of (local_with c)) low
            (progress_along operations (5 * length own + 0) (5 * length own) _ _
            (omega arith) refl h.made));
        ended = h.ended;
        calls = announced_calls (progress_of (local_with c))
            (progress_of (announced_local a)) op h.ended progress h.calls;
        lines = lines_stay _ _
            (λ r' cut end. stays r.callers (local_with c) (announced_local a) r' cut end grows)
            h.ended own h.lines;
        errors = h.errors;
        may = (is ∙ next_is, none);
      }

  pub answered_come : (a : Announced P) (b : Answered P) → Come (at.Announced a)
      → IsStill meaning r (caller_announced a) (caller_answered b) → op_answered b ≡ op_announced a
      → MayGet meaning (caller_answered b) (reply_answered b)
      → ComesNoFurther (announced_local a) (answered_local b)
      → Grows (announced_local a) (answered_local b) → Come (at.Answered b)
  answered_come a b h still is may progress grows =
      let made =
      asking_is_a_phase operations (length own) (progress_of (announced_local a)) h.made in
      record {
        caller = still.0;
        number = still.1 ∙ h.number;
        made = progress_along operations (5 * length own + 2) (5 * length own + 2) _ _ refl
            (sym progress)
            (record { in_order = made.in_order; marks = made.marks; published = made.published });
        ended = h.ended;
        calls = ap (λ (x : Progress). x.calls) progress ∙ h.calls;
        lines = lines_stay _ _
            (λ r' cut end. stays r.callers (announced_local a) (answered_local b) r' cut end grows)
            h.ended own h.lines;
        errors = h.errors;
        may = (is ∙ h.may.0, may);
      }

  pub viewed_come : (a : Answered P) (v : Viewed P) → Come (at.Answered a)
      → IsStill meaning r (caller_answered a) (caller_viewed v) → length (record_viewed v).view ≡ r.callers
      → progress_of (viewed_local v)
      ≡ after_viewing (record_viewed v) (progress_of (answered_local a))
      → Grows (answered_local a) (viewed_local v) → Come (at.Viewed v)
  viewed_come a v h still wide progress grows =
      let rec : Record = record_viewed v in
      record {
        caller = still.0;
        number = still.1 ∙ h.number;
        made = progress_along operations (5 * length own + 3) (5 * length own + 3) _ _ refl
            (sym progress)
            (viewing_is_a_phase operations (length own)
            (progress_of (answered_local a)) rec h.made);
        ended = h.ended;
        calls = viewed_calls (progress_of (answered_local a)) (progress_of (viewed_local v)) rec
            h.ended (record { operation = op; reached = Is_announced }) progress h.calls;
        lines = lines_stay _ _
            (λ r' cut end. stays r.callers (answered_local a) (viewed_local v) r' cut end grows)
            h.ended own h.lines;
        errors = h.errors;
        may = wide;
      }

  pub published_come : (v : Viewed P) (p : Published P) → Come (at.Viewed v)
      → IsStill meaning r (caller_viewed v) (caller_published p)
      → record_published p ≡ record_viewed v
      → progress_of (local_with (caller_published p))
      ≡ after_publishing (progress_of (viewed_local v))
      → Grows (viewed_local v) (local_with (caller_published p)) → Come (at.Published p)
  published_come v p h still same progress grows =
      let l : Local = local_with (caller_published p) in
      record {
        caller = still.0;
        number = still.1 ∙ h.number;
        made = progress_along operations (5 * length own + 4) (5 * length own + 4) _ _ refl
            (sym progress)
            (publishing_is_a_phase operations (length own) (progress_of (viewed_local v)) h.made);
        ended = h.ended;
        calls = ap (λ (x : Progress). x.calls) progress ∙ h.calls
            ∙ ap (λ (x : Record). h.ended ++ record { operation = op; reached = Has_record x } ∷ [])
            (sym same);
        lines = lines_stay _ _
            (λ r' cut end. stays r.callers (viewed_local v) l r' cut end grows) h.ended own h.lines;
        errors = h.errors;
        may = tt;
      }
