-- A caller's progress, by the parts of its local that determine it.
use Rattle.std.proofs.Common.{◌≡◌, ℕ, zero, suc, ◌+◌, ◌<◌, ◌≤◌, Bool, false, cond, nat_lt, List, [], ◌∷◌, ◌++◌, length, map, slice_index, slice_index_or, refl, sym, ap, ◌∙◌, arith, inl, inr}
use Rattle.std.specs.List.{range_with_len, flat_map}
use Rattle.std.proofs.lemmas.Bool.{cases_lt, lt-ltb, le-ltb}
use Rattle.std.proofs.lemmas.List.{length_push, get_or_append_left, get_or_at, append-nil, append_assoc}
use Rattle.std.proofs.lemmas.List.Concat.{flat_map-append}
use Rattle.std.proofs.lemmas.List.FromFn.{map-range_with_len_more}
use Rattle.book_base.specs.declared.call.Record.{Record}
use Rattle.world_core.specs.Local.{Local, Object_step, with_step}
use Rattle.world_core.specs.CallSteps.{all_steps_of}
use Rattle.world_core.specs.Event.{Announce, Object, Publish, staged_operation, local_after}
use Rattle.world_core.specs.Agreement.{unpublished_calls, unpublished_replies, unpublished_views, unseen_records}
use Rattle.world_core.specs.Calls.{Reached, Is_announced, Has_record, Has_seen, Made}
use Rattle.report_lines.specs.Phases.{Progress, progress_of}
use Rattle.report_lines.specs.Progress.{with_last, TheLastCallGoesOn, with_seen, after_viewing}
use Rattle.report_lines.specs.Account.{Account, account_of, NothingGrows, OperationsAreCalls, ObjectStepsAreOfTheLastCall, RepliesAreNoRecords, ViewsMakeRecords, PublicationsCount, SeenCutsAreOfTheLastCall, AnnouncementsAreCalls, ObjectStepsCount, PublishesCount}

-- The record of call k, how far the call has come, and the calls of a caller, by an account.
abbrev record_by : Account → ℕ → Record
record_by a k = record { reply = slice_index a.replies k; view = slice_index_or a.views k [] }

abbrev reached_when : Bool → Bool → Record → List ℕ → Reached
reached_when seen viewed r cut =
    cond seen (Has_seen r cut) (cond viewed (Has_record r) Is_announced)

abbrev reached_by : Account → ℕ → Reached
reached_by a k = reached_when (nat_lt k (length a.seen)) (nat_lt k (length a.views)) (record_by a k)
    (slice_index_or a.seen k [])

abbrev call_by : Account → ℕ → Made
call_by a k = record { operation = slice_index a.operations k; reached = reached_by a k }

abbrev calls_by : Account → List Made
calls_by a = map (λ k. call_by a k) (range_with_len 0 (length a.operations))

abbrev progress_by : Account → Progress
progress_by a = record { calls = calls_by a; published = a.published; steps = a.steps }

progress_of-account : (l : Local) → progress_of l ≡ progress_by (account_of l)
progress_of-account l = refl

-- calls that are equal below a number make equal lists up to it
same_range : (f g : ℕ → Made) (a n : ℕ) → ((k : ℕ) → k < a + n → g k ≡ f k)
    → map g (range_with_len a n) ≡ map f (range_with_len a n)
same_range f g a zero each = refl
same_range f g a (suc n) each =
    let first : g a ≡ f a = each a (omega arith) in
    let others = same_range f g (a + 1) n (λ k low. each k (omega (arith, low))) in
    cc

pub the_last_call_goes_on : TheLastCallGoesOn
the_last_call_goes_on further [] c = refl
the_last_call_goes_on further (d ∷ []) c = refl
the_last_call_goes_on further (d ∷ e ∷ calls) c =
    ap (λ (cs : List Made). d ∷ cs) (the_last_call_goes_on further (e ∷ calls) c)

-- where only the last call has changed, the list changes only in its last item
grown : (f g : ℕ → Made) (further : Reached → Reached) (n p : ℕ) → n ≡ p + 1
    → ((k : ℕ) → k < p → g k ≡ f k)
    → g p ≡ record { operation = (f p).operation; reached = further (f p).reached }
    → map g (range_with_len 0 n) ≡ with_last further (map f (range_with_len 0 n))
grown f g further n p long each last =
    let made : Made = record { operation = (f p).operation; reached = further (f p).reached } in
    ap (λ (m : ℕ). map g (range_with_len 0 m)) long
    ∙ map-range_with_len_more g 0 p p (omega arith)
    ∙ ap (λ (cs : List Made). cs ++ g p ∷ [])
    (same_range f g 0 p (λ k low. each k (omega (arith, low))))
    ∙ ap (λ (c : Made). map f (range_with_len 0 p) ++ c ∷ []) last
    ∙ sym (the_last_call_goes_on further (map f (range_with_len 0 p)) (f p))
    ∙ ap (with_last further) (sym (map-range_with_len_more f 0 p p (omega arith)))
    ∙ ap (λ (m : ℕ). with_last further (map f (range_with_len 0 m))) (sym long)

-- an account that gains an operation gains an announced call
announced : (a : Account) (op : ℕ) → length a.seen ≤ length a.operations
    → length a.views ≤ length a.operations
    → calls_by (record a { operations = a.operations ++ op ∷ [] })
    ≡ calls_by a ++ record { operation = op; reached = Is_announced } ∷ []
announced a op few fewer =
    let b : Account = record a { operations = a.operations ++ op ∷ [] } in
    let p : ℕ = length a.operations in
    let operation : slice_index (a.operations ++ op ∷ []) p ≡ op =
    get_or_at a.operations op [] 0 p refl in
    let reached : reached_by a p ≡ Is_announced =
    ap (λ seen. reached_when seen (nat_lt p (length a.views)) (record_by a p)
    (slice_index_or a.seen p [])) (le-ltb p (length a.seen) few)
    ∙ ap (λ viewed. reached_when false viewed (record_by a p) (slice_index_or a.seen p []))
    (le-ltb p (length a.views) fewer) in
    let last : call_by b p ≡ record { operation = op; reached = Is_announced } =
    ap (λ o. record { operation = o; reached = reached_by a p }) operation
    ∙ ap (λ v. record { operation = op; reached = v }) reached in
    ap (λ (m : ℕ). map (λ k. call_by b k) (range_with_len 0 m)) (length_push a.operations op)
    ∙ map-range_with_len_more (λ k. call_by b k) 0 p p (omega arith)
    ∙ ap (λ (c : Made). map (λ k. call_by b k) (range_with_len 0 p) ++ c ∷ []) last
    ∙ ap (λ (cs : List Made). cs ++ record { operation = op; reached = Is_announced } ∷ [])
    (same_range (λ k. call_by a k) (λ k. call_by b k) 0 p
    (λ k low. ap (λ o. record { operation = o; reached = reached_by a k })
    (get_or_append_left a.operations (op ∷ []) 0 k (omega (arith, low)))))

pub operations_are_calls : OperationsAreCalls
operations_are_calls l m op phase at e =
    let few : length l.seen ≤ length l.operations = omega (
      arith,
      phase.operations,
      phase.announced,
      phase.seen,
      ap unpublished_calls at,
      ap unseen_records at,
    ) in
    let fewer : length l.views ≤ length l.operations = omega (
      arith,
      phase.operations,
      phase.announced,
      phase.views,
      ap unpublished_calls at,
      ap unpublished_views at,
    ) in
    ap progress_by e ∙ ap
    (λ (cs : List Made). record { calls = cs; published = l.published; steps = all_steps_of l })
    (announced (account_of l) op few fewer)

-- a reply that an account gains changes no call, since it is no record yet
replied_at : (a : Account) (reply k : ℕ) → length a.views ≤ length a.replies
    → length a.seen ≤ length a.views
    → reached_by (record a { replies = a.replies ++ reply ∷ [] }) k ≡ reached_by a k
replied_at a reply k few fewer =
    let b : Account = record a { replies = a.replies ++ reply ∷ [] } in
    let seen : Bool = nat_lt k (length a.seen) in
    let viewed : Bool = nat_lt k (length a.views) in
    let cut : List ℕ = slice_index_or a.seen k [] in
    elim (cases_lt k (length a.views)) [
      | inl low ↦
          ap (λ x.
          reached_when seen viewed (record { reply = x; view = slice_index_or a.views k [] }) cut)
          (get_or_append_left a.replies (reply ∷ []) 0 k (omega (arith, low, few)))
      | inr past ↦
          let none : (r : Record) → reached_when seen viewed r cut ≡ Is_announced = λ r.
          ap (λ x. reached_when x viewed r cut)
          (le-ltb k (length a.seen) (omega (arith, past, fewer)))
          ∙ ap (λ x. reached_when false x r cut) (le-ltb k (length a.views) past) in
          none (record_by b k) ∙ sym (none (record_by a k))
    ]

pub replies_are_no_records : RepliesAreNoRecords
replies_are_no_records l m reply phase at e =
    let a : Account = account_of l in
    let few : length l.views ≤ length l.replies =
    omega (arith, phase.views, phase.replies, ap unpublished_views at, ap unpublished_replies at) in
    let fewer : length l.seen ≤ length l.views =
    omega (arith, phase.views, phase.seen, ap unpublished_views at) in
    ap progress_by e
    ∙ ap
    (λ (cs : List Made). record { calls = cs; published = l.published; steps = all_steps_of l })
    (same_range (λ k. call_by a k)
    (λ k. call_by (record a { replies = l.replies ++ reply ∷ [] }) k) 0 (length l.operations)
    (λ k low. ap (λ v. record { operation = slice_index l.operations k; reached = v })
    (replied_at a reply k few fewer)))

-- What changes in the calls of an account that gains a view.
module _ (a : Account) (view : List ℕ) (few : length a.seen ≤ length a.views) where
  abbrev with_view : Account
  with_view = record a { views = a.views ++ view ∷ [] }

  viewed_before : (k : ℕ) → k < length a.views → call_by with_view k ≡ call_by a k
  viewed_before k low =
      let seen : Bool = nat_lt k (length a.seen) in
      let cut : List ℕ = slice_index_or a.seen k [] in
      let now : nat_lt k (length (a.views ++ view ∷ [])) ≡ nat_lt k (length a.views) =
      lt-ltb k (length (a.views ++ view ∷ [])) (omega (arith, low, length_push a.views view))
      ∙ sym (lt-ltb k (length a.views) low) in
      ap (λ x. record {
        operation = slice_index a.operations k;
        reached = reached_when seen x (record_by with_view k) cut;
      }) now
      ∙ ap (λ v. record {
        operation = slice_index a.operations k;
        reached = reached_when seen (nat_lt k (length a.views))
            (record { reply = slice_index a.replies k; view = v }) cut;
      })
      (get_or_append_left a.views (view ∷ []) [] k low)

  viewed_last : call_by with_view (length a.views)
      ≡ record {
        operation = slice_index a.operations (length a.views);
        reached =
            Has_record (record { reply = slice_index a.replies (length a.views); view = view });
      }
  viewed_last =
      let p : ℕ = length a.views in
      let op : ℕ = slice_index a.operations p in
      let cut : List ℕ = slice_index_or a.seen p [] in
      let r : List ℕ → Record = λ v. record { reply = slice_index a.replies p; view = v } in
      ap (λ x. record {
        operation = op;
        reached =
            reached_when x (nat_lt p (length (a.views ++ view ∷ []))) (record_by with_view p) cut;
      })
      (le-ltb p (length a.seen) few)
      ∙ ap
      (λ x. record { operation = op; reached = reached_when false x (record_by with_view p) cut })
      (lt-ltb p (length (a.views ++ view ∷ [])) (omega (arith, length_push a.views view)))
      ∙ ap (λ v. record { operation = op; reached = Has_record (r v) })
      (get_or_at a.views view [] [] p refl)

pub views_make_records : ViewsMakeRecords
views_make_records l m view phase at e =
    let a : Account = account_of l in
    let p : ℕ = length l.views in
    let few : length l.seen ≤ p = omega (arith, phase.views, phase.seen, ap unpublished_views at) in
    let long : length l.operations ≡ p + 1 = omega (
      arith,
      phase.operations,
      phase.announced,
      phase.views,
      ap unpublished_calls at,
      ap unpublished_views at,
    ) in
    let last : p ≡ l.published = omega (arith, phase.views, ap unpublished_views at) in
    let record_with : ℕ → Record = λ k. record { reply = slice_index l.replies k; view = view } in
    ap progress_by e
    ∙ ap
    (λ (cs : List Made). record { calls = cs; published = l.published; steps = all_steps_of l })
    (grown (λ k. call_by a k) (λ k. call_by (with_view a view few) k)
    (λ _. Has_record (record_with p)) (length l.operations) p long
    (viewed_before a view few) (viewed_last a view few))
    ∙ ap (λ k. after_viewing (record_with k) (progress_of l)) last

-- What changes in the calls of an account that gains a seen cut.
module _ (a : Account) (cut : List ℕ) (few : length a.seen < length a.views) where
  abbrev with_cut : Account
  with_cut = record a { seen = a.seen ++ cut ∷ [] }

  seen_before : (k : ℕ) → k < length a.seen → call_by with_cut k ≡ call_by a k
  seen_before k low =
      let op : ℕ = slice_index a.operations k in
      let viewed : Bool = nat_lt k (length a.views) in
      let now : nat_lt k (length (a.seen ++ cut ∷ [])) ≡ nat_lt k (length a.seen) =
      lt-ltb k (length (a.seen ++ cut ∷ [])) (omega (arith, low, length_push a.seen cut))
      ∙ sym (lt-ltb k (length a.seen) low) in
      ap (λ x. record {
        operation = op;
        reached = reached_when x viewed (record_by a k) (slice_index_or (a.seen ++ cut ∷ []) k []);
      }) now
      ∙ ap (λ c. record {
        operation = op;
        reached = reached_when (nat_lt k (length a.seen)) viewed (record_by a k) c;
      })
      (get_or_append_left a.seen (cut ∷ []) [] k low)

  seen_last : call_by with_cut (length a.seen)
      ≡ record {
        operation = slice_index a.operations (length a.seen);
        reached = with_seen cut (reached_by a (length a.seen));
      }
  seen_last =
      let p : ℕ = length a.seen in
      let op : ℕ = slice_index a.operations p in
      let r : Record = record_by a p in
      let before : reached_by a p ≡ Has_record r =
      ap (λ x. reached_when x (nat_lt p (length a.views)) r (slice_index_or a.seen p []))
      (le-ltb p (length a.seen) (omega arith))
      ∙ ap (λ x. reached_when false x r (slice_index_or a.seen p []))
      (lt-ltb p (length a.views) few) in
      let now : reached_by with_cut p ≡ Has_seen r cut =
      ap
      (λ x. reached_when x (nat_lt p (length a.views)) r (slice_index_or (a.seen ++ cut ∷ []) p []))
      (lt-ltb p (length (a.seen ++ cut ∷ [])) (omega (arith, length_push a.seen cut)))
      ∙ ap (λ c. Has_seen r c) (get_or_at a.seen cut [] [] p refl) in
      ap (λ v. record { operation = op; reached = v }) (now ∙ sym (ap (with_seen cut) before))

pub seen_cuts_are_of_the_last_call : SeenCutsAreOfTheLastCall
seen_cuts_are_of_the_last_call l m cut phase at e =
    let a : Account = account_of l in
    let few : length l.seen < length l.views =
    omega (arith, phase.views, phase.seen, ap unpublished_views at, ap unseen_records at) in
    let long : length l.operations ≡ length l.seen + 1 =
    omega (
      arith,
      phase.operations,
      phase.announced,
      phase.seen,
      ap unpublished_calls at,
      ap unseen_records at,
    ) in
    ap progress_by e
    ∙ ap
    (λ (cs : List Made). record { calls = cs; published = l.published; steps = all_steps_of l })
    (grown (λ k. call_by a k) (λ k. call_by (with_cut a cut few) k) (with_seen cut)
    (length l.operations) (length l.seen) long
    (seen_before a cut few) (seen_last a cut few))

pub nothing_grows : NothingGrows
nothing_grows l m e = ap progress_by e

pub publications_count : PublicationsCount
publications_count l m e = ap progress_by e

-- an announced call has no object step yet
empty_adds_none : (steps : List (List Object_step)) → flat_map (λ (own : List Object_step). own)
    (steps ++ [] ∷ []) ≡ flat_map (λ (own : List Object_step). own) steps
empty_adds_none steps =
    flat_map-append (λ (own : List Object_step). own) steps ([] ∷ [])
    ∙ append-nil (flat_map (λ (own : List Object_step). own) steps)

-- one more operation, whose call has no object step yet, is all that an account gains at an
-- announcement
pub announced_account : (l m : Local) (op : ℕ) → m.object_steps ≡ l.object_steps ++ [] ∷ []
    → account_of (record m { object_steps = l.object_steps })
    ≡ record (account_of l) { operations = l.operations ++ op ∷ [] }
    → account_of m ≡ record (account_of l) { operations = l.operations ++ op ∷ [] }
announced_account l m op steps others =
    ap (λ (own : List Object_step). record (account_of m) { steps = own })
    (ap (flat_map (λ (own : List Object_step). own)) steps ∙ empty_adds_none l.object_steps)
    ∙ others

pub announcements_are_calls : AnnouncementsAreCalls
announcements_are_calls n l phase at =
    let m : Local = local_after n l Announce in
    operations_are_calls l m (staged_operation l.staged) phase at
    (announced_account l m (staged_operation l.staged) refl refl)

-- a step of the last call is the last of all steps
step_is_last : (steps : List (List Object_step)) (k : ℕ) (step : Object_step) → length steps ≡ k + 1
    → flat_map (λ (own : List Object_step). own) (with_step steps k step)
    ≡ flat_map (λ (own : List Object_step). own) steps ++ step ∷ []
step_is_last [] k step long = absurd (omega (arith, long))
step_is_last (own ∷ []) zero step long = append-nil (own ++ step ∷ [])
    ∙ ap (λ (before : List Object_step). before ++ step ∷ []) (sym (append-nil own))
step_is_last (own ∷ []) (suc k) step long = absurd (omega (arith, long))
step_is_last (own ∷ next ∷ steps) zero step long = absurd (omega (arith, long))
step_is_last (own ∷ next ∷ steps) (suc k) step long =
    ap (λ (later : List Object_step). own ++ later)
    (step_is_last (next ∷ steps) k step (omega (arith, long)))
    ∙ sym (append_assoc own (flat_map (λ (s : List Object_step). s) (next ∷ steps)) (step ∷ []))

pub object_steps_are_of_the_last_call : ObjectStepsAreOfTheLastCall
object_steps_are_of_the_last_call l m step e = ap progress_by e

pub object_steps_count : ObjectStepsCount
object_steps_count n l step phase at =
    let last : length l.object_steps ≡ l.published + 1 =
    omega (arith, phase.object_steps, phase.announced, ap unpublished_calls at) in
    object_steps_are_of_the_last_call l (local_after n l (Object step)) step
    (ap (λ (own : List Object_step). record (account_of l) { steps = own })
    (step_is_last l.object_steps l.published step last))

pub publishes_count : PublishesCount
publishes_count n l = publications_count l (local_after n l Publish) refl
