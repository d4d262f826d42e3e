-- Turns, one by one.
use Rattle.std.proofs.Common.{◌≡◌, ◌≢◌, ◌∙◌, sym, subst, ap, inl, inr, ℕ, zero, suc, ◌+◌, ◌<◌, ◌⊎◌, ◌==◌, min, List, [], ◌∷◌, Some, length, take, set, get_or, slice_get, slice_index, arith}
use Rattle.std.specs.Prelude.{Option}
use Rattle.std.specs.List.{AllByRecursion}
use Rattle.std.proofs.lemmas.Bool.{eq-eqb, ne_eqb}
use Rattle.std.proofs.lemmas.List.Sums.{count_by_more_yes, count_by_more_no}
use Rattle.std.proofs.lemmas.List.FromFn.{get_or-map-range_with_len}
use Rattle.book_base.specs.SeqSpec.{SeqSpec}
use Rattle.report_lines.specs.Allotments.{turns_of}
use Rattle.client_scripts.specs.Plans.{Plan}
use Rattle.run_report.specs.Places.{AreDownFrom}
use Rattle.run_report.proofs.Places.{set_cases}
use Rattle.std.proofs.lemmas.Option.{same_Some}
use Rattle.world_core.specs.Shape.{Meaning}
use Rattle.row_table.specs.declared.rows.Rows.{Rows}
use Rattle.client_calls.specs.declared.stand.CallerState.{CallerState}
use Rattle.client_calls.specs.declared.stand.CallerState.TheVariants.{Idle, Announced, Answered, Viewed, Published, Halted, Unjudged}
use Rattle.client_calls.specs.declared.client.Client.{Client}
use Rattle.client_calls.specs.Asking.{Fits, PassCount}
use Rattle.client_calls.specs.Stands.{GoesOnFrom}
use Rattle.client_calls.specs.Clients.{phases_by, HasSpent, Says, IsAtWork}
use Rattle.client_calls.specs.Keeping.{IsSameSheet}
use Rattle.client_calls.proofs.Spending.{spent_by, spent_exact, spent_more}
use Rattle.run_report.specs.Starts.{run_allotments, replay_allotments, RunCourse, course_of, IsStart}
use Rattle.run_report.specs.Returns.{IsSpent}
use Rattle.run_report.specs.Turns.{IsTurned, IsTurning}
use Rattle.run_report.specs.declared.worker.Worker.{Worker}

-- a caller is halted or it isn't
goes_or_not : {P : Type 0} (s : CallerState P) → GoesOnFrom s ⊎ (GoesOnFrom s → ⊥)
goes_or_not (Idle c) = inl tt
goes_or_not (Announced a) = inl tt
goes_or_not (Answered a) = inl tt
goes_or_not (Viewed v) = inl tt
goes_or_not (Published p) = inl tt
goes_or_not (Halted c) = inr (λ goes. goes)
goes_or_not (Unjudged u) = inr (λ goes. goes)

module _ {P T E : Type 0} (meaning : P → ℕ → ℕ → Meaning) (r : Rows P) (says : Says)
    (object : E → SeqSpec) (fits : Fits T) (count : T → Option PassCount) (course : RunCourse) where
  abbrev Turned : ℕ → ℕ → Worker P T E → Type 0
  Turned i turns w = IsTurned meaning r says object fits count course i turns w

  -- a worker before any turn has taken no turn
  pub no_turn : (i : ℕ) (w : Worker P T E) → IsStart meaning r says object fits count course i w
      → Turned i 0 w
  no_turn i w start = record {
    client = start.client;
    here = start.here;
    of = start.of;
    spent = spent_by (min (slice_index course.allotments i) 0)
        (length start.client.sheet.lines.items) start.client.stand (omega (arith, start.none));
    left = λ goes. omega (arith, start.none, start.allotment);
    within = omega (arith, start.allotment, start.within);
  }

  -- a worker that took turns may take one more
  pub turning : (i turns : ℕ) (w : Worker P T E) → Turned i turns w
      → IsTurning meaning r says object fits count w
  turning i turns w h = record {
    client = h.client;
    here = h.here;
    work = h.of.work;
    left = λ goes. omega (arith, h.left goes, h.within);
  }

  -- a turn at which nothing is done, since no phase is left or the client is halted, is one turn
  -- more
  pub still_turned : (i turns : ℕ) (w d : Worker P T E) → d.client ≡ w.client
      → d.allotment ≡ w.allotment
      → ((c : Client P T E) → w.client ≡ Some c → GoesOnFrom c.stand → w.allotment ≡ 0)
      → Turned i turns w → Turned i (turns + 1) d
  still_turned i turns w d same left none h =
      let a = slice_index course.allotments i in
      let lines = length h.client.sheet.lines.items in
      record {
        client = h.client;
        here = same ∙ h.here;
        of = h.of;
        spent =
            elim (goes_or_not h.client.stand) [
              | inl goes ↦ spent_by (min a (turns + 1)) lines h.client.stand (omega (
                arith,
                spent_exact (min a turns) lines h.client.stand goes h.spent,
                h.left goes,
                none h.client h.here goes,
              ))
              | inr stops ↦ spent_more (min a turns) (min a (turns + 1)) lines h.client.stand stops
                  (omega arith) h.spent
            ];
        left = λ goes. omega (arith, h.left goes, left);
        within = h.within;
      }

  -- a turn at which a phase is made is one turn more
  pub phase_turned : (i turns : ℕ) (w d : Worker P T E) (before after : Client P T E)
      → w.client ≡ Some before → d.client ≡ Some after
      → IsAtWork meaning r says object fits count after
      → IsSameSheet object before.sheet after.sheet
      → GoesOnFrom before.stand → phases_by after ≡ phases_by before + 1
      → w.allotment ≡ d.allotment + 1 → Turned i turns w → Turned i (turns + 1) d
  phase_turned i turns w d before after was is work same goes phase fewer h =
      let a = slice_index course.allotments i in
      let f : IsSameSheet object h.client.sheet after.sheet × GoesOnFrom h.client.stand
      × (phases_by after ≡ phases_by h.client + 1) =
      subst (λ (c : Client P T E). IsSameSheet object c.sheet after.sheet × GoesOnFrom c.stand
      × (phases_by after ≡ phases_by c + 1))
      (same_Some before h.client (sym was ∙ h.here)) (same, goes, phase) in
      let made =
      spent_exact (min a turns) (length h.client.sheet.lines.items) h.client.stand f.1 h.spent in
      record {
        client = after;
        here = is;
        of = record {
          work = work;
          who = f.0.who ∙ h.of.who;
          operations = f.0.operations ∙ h.of.operations;
          judges = f.0.judges ∙ h.of.judges;
        };
        spent = spent_by (min a (turns + 1)) (length after.sheet.lines.items) after.stand
            (omega (arith, made, h.left f.1, f.2, fewer));
        left = λ goes. omega (arith, h.left f.1, f.2, fewer);
        within = omega (arith, h.within, ap (λ (o : List ℕ). length o) f.0.operations);
      }

all_at : (Is : ℕ → Type 0) (xs : List ℕ) (k d : ℕ) → k < length xs → AllByRecursion Is xs
    → Is (get_or xs k d)
all_at Is [] k d low h = absurd (omega (arith, low))
all_at Is (x ∷ xs) zero d low h = h.0
all_at Is (x ∷ xs) (suc k) d low h = all_at Is xs k d (omega (arith, low)) h.1

-- each turn names a caller
pub turn_within : (items turns : List ℕ) (n k : ℕ) → items ≡ turns → k < length items
    → AllByRecursion (λ caller. caller < n) turns → get_or items k 0 < n
turn_within items turns n k is low h = all_at (λ caller. caller < n) items k 0 low
    (subst (λ (l : List ℕ). AllByRecursion (λ caller. caller < n) l) (sym is) h)

-- how often the turns so far name a caller
more_named : (turns : List ℕ) (k i : ℕ) → k < length turns → get_or turns k 0 ≡ i
    → turns_of (take (k + 1) turns) i ≡ turns_of (take k turns) i + 1
more_named turns k i low is =
    count_by_more_yes (λ (turn : ℕ). turn == i) turns k 0 low (eq-eqb (get_or turns k 0) i is)

more_other : (turns : List ℕ) (k i : ℕ) → k < length turns → get_or turns k 0 ≢ i
    → turns_of (take (k + 1) turns) i ≡ turns_of (take k turns) i
more_other turns k i low other =
    count_by_more_no (λ (turn : ℕ). turn == i) turns k 0 low (ne_eqb (get_or turns k 0) i other)

module _ {P T E : Type 0} (meaning : P → ℕ → ℕ → Meaning) (r : Rows P) (says : Says)
    (object : E → SeqSpec) (fits : Fits T) (count : T → Option PassCount) (course : RunCourse) where
  abbrev Are : ℕ → List ℕ → List (Worker P T E) → Type 0
  Are n turns ws = AreDownFrom n
      (λ i w. IsTurned meaning r says object fits count course i (turns_of turns i) w) ws

  -- where the worker of turn k has taken it and is put back at its place, the workers have taken
  -- the first k + 1 turns
  pub turned_set : (n k place : ℕ) (turns : List ℕ) (ws : List (Worker P T E)) (w d : Worker P T E)
      → k < length turns → place + get_or turns k 0 + 1 ≡ n
      → slice_get ws place ≡ Some w
      → ((i turns : ℕ) → IsTurned meaning r says object fits count course i turns w
      → IsTurned meaning r says object fits count course i (turns + 1) d)
      → Are n (take k turns) ws → Are n (take (k + 1) turns) (set ws place d)
  turned_set n k place turns ws w d low at there turned all i j x here gets =
      elim (set_cases ws place j d x gets) [
        | inl mine ↦
            let named : get_or turns k 0 ≡ i = omega (arith, at, here, mine.0) in
            let before = all i place w (omega (arith, here, mine.0)) there in
            subst (λ (v : Worker P T E). IsTurned meaning r says object fits count course i
            (turns_of (take (k + 1) turns) i) v) (sym mine.1)
            (subst (λ (m : ℕ). IsTurned meaning r says object fits count course i m d)
            (sym (more_named turns k i low named))
            (turned i (turns_of (take k turns) i) before))
        | inr other ↦
            let unnamed : get_or turns k 0 ≢ i = λ same. other.0 (omega (arith, at, here, same)) in
            subst (λ (m : ℕ). IsTurned meaning r says object fits count course i m x)
            (sym (more_other turns k i low unnamed)) (all i j x here other.1)
      ]

-- how many phases a caller is given by turns
pub given_by_turns : (plan : Plan) (i : ℕ) → i < length plan.operations
    → slice_index (replay_allotments plan) i
    ≡ min (slice_index (run_allotments plan) i) (turns_of plan.turns i)
given_by_turns plan i low = get_or-map-range_with_len
    (λ i. min (slice_index (run_allotments plan) i) (turns_of plan.turns i)) 0
    (length plan.operations) i i 0 low (omega arith)

-- after all turns each worker has spent its allotment
pub turned_spent : {P T E : Type 0} (meaning : P → ℕ → ℕ → Meaning) (r : Rows P) (says : Says)
    (object : E → SeqSpec) (fits : Fits T) (count : T → Option PassCount) (plan : Plan)
    (judged : SeqSpec) (i : ℕ) (w : Worker P T E) → i < length plan.operations → IsTurned meaning r
    says object fits count (course_of plan (run_allotments plan) judged) i (turns_of plan.turns i) w
    → IsSpent meaning r says object fits count (course_of plan (replay_allotments plan) judged) i w
turned_spent meaning r says object fits count plan judged i w low h =
    record {
      client = h.client;
      here = h.here;
      of = record {
        work = h.of.work;
        who = h.of.who;
        operations = h.of.operations;
        judges = h.of.judges;
      };
      spent = subst (λ (m : ℕ). HasSpent m h.client) (sym (given_by_turns plan i low)) h.spent;
    }
