-- One key's part of a stream with one more event.
use Rattle.std.proofs.Common.{◌≡◌, ◌⊎◌, ◌∙◌, ℕ, nat_eq, ◌+◌, ◌-◌, ◌<◌, ◌^◌, min, true, false, List, [], ◌∷◌, ◌++◌, map, length, Option, Some, None, Result, Ok, Err, is_ok, is_err, if◌then◌else◌, slice_get, slice_set, refl, sym, ap, subst, length-append, inl, inr, arith}
use Rattle.std.specs.List.{remove}
use Rattle.std.specs.Map.{lookup}
use Rattle.std.proofs.lemmas.Option.{none-some, same_Some, slice_get_within}
use Rattle.list_laws.proofs.Places.{slice_get-push_last, slice_get-push_cases}
use Rattle.book_base.specs.SeqSpec.{SeqSpec}
use Rattle.streams.specs.Stream.{StreamEvent, Called, Returned, Lost, process_of, Ends, IsWaiting, IsValidStream}
use Rattle.streams.proofs.Returning.{get-longer, get-shorter, quiet-shorter}
use Rattle.streams.proofs.Pushing.{returns_now}
use Rattle.late_residue.specs.Description.{Description}
use Rattle.late_residue.specs.declared.open_call.OpenCall.{OpenCall}
use Rattle.late_residue.specs.Reached.{Has}
use Rattle.late_residue.specs.Known.{MayHaveReply, with_reply}
use Rattle.late_residue.specs.LateOnes.{AreOpen, AreLate}
use Rattle.watch_core.specs.Table.{Waits, Derives}
use Rattle.watch_core.specs.Part.{Parted, IsPartOf, RepliesAsKnown, TakesEvent, IsTold, Copies}
use Rattle.watch_core.specs.Parts.{TakeEvent, AreTold}
use Rattle.late_residue.proofs.Events.{late_call, late_loss, late_derived, late_removed}
use Rattle.late_residue.proofs.Items.{set-from}
use Rattle.watch_core.proofs.Places.{remove-from}
use Rattle.watch_core.proofs.Tables.{waits_in, table_call, table_loss, table_return, call_derives, derives_call, loss_derives, derives_loss, return_derives, returns_or_stays}
use Rattle.watch_core.proofs.Late.{known-derived, agree-derived}
use Rattle.watch_core.proofs.Expecting.{table_told, told_derives, derives_told}

abbrev pub part : ℕ → List OpenCall → List Description → Parted
part taken calls residue = record { taken = taken; calls = calls; residue = residue }

-- none of these calls is the pending one of a process
abbrev pub NonePending : List OpenCall → ℕ → Type 0
NonePending calls process = (one : OpenCall) → Has calls one → one.process ≡ process
    → one.is_lost ≡ false → ⊥

pub pushed : {X E : Type 0} {A : Type 0} (r : Result X E) (new more old : A)
    → is_err r ≡ false → new ≡ (if is_ok r then more else old) → new ≡ more
pushed (Ok x) new more old is there = there
pushed (Err e) new more old is there = absurd cc

-- a process that calls doesn't wait
pub call_free : (stream : List StreamEvent) (process op : ℕ)
    → IsValidStream (stream ++ Called process op ∷ []) → Waits stream process → ⊥
call_free stream process op valid (call, (first, called, quiet)) =
    let found = valid.calls call (length stream) process first op
    (slice_get_within stream call _ called)
    (get-longer stream (Called process op ∷ []) call _ called)
    (slice_get-push_last stream (Called process op)) in
    quiet found.0 found.1 found.2 found.3
    (get-shorter stream (Called process op ∷ []) found.0 found.1 found.3 found.4) found.5

-- the process of a return or a loss waits before it
pub end_waits : (stream : List StreamEvent) (event : StreamEvent)
    → IsValidStream (stream ++ event ∷ []) → Ends event → Waits stream (process_of event)
end_waits stream event valid ends =
    let found = valid.ends (length stream) event (slice_get-push_last stream event) ends in (
      found.0,
      (
        found.1,
        get-shorter stream (event ∷ []) found.0 (Called (process_of event) found.1) found.2 found.3,
        quiet-shorter stream (event ∷ []) (process_of event) found.0 (length stream) found.4,
      ),
    )

counted : (taken next n : ℕ) → taken ≡ n → n + 1 < 2 ^ 64 → next ≡ min (taken + 1) (2 ^ 64 - 1)
    → next ≡ n + 1
counted taken next n is short equal = omega (arith, is, short, equal)

count_more : (taken next : ℕ) (events : List StreamEvent) (event : StreamEvent)
    → taken ≡ length events → length events + 1 < 2 ^ 64
    → next ≡ min (taken + 1) (2 ^ 64 - 1) → next ≡ length (events ++ event ∷ [])
count_more taken next events event count short is =
    counted taken next (length events) count short is ∙ sym (length-append events (event ∷ []))

module _ (spec : SeqSpec) (taken : ℕ) (calls : List OpenCall) (residue : List Description) where
  pub part_none : (process : ℕ) (events : List StreamEvent) → NonePending calls process
      → IsPartOf spec (part taken calls residue) events → Waits events process → ⊥
  part_none process events none is waits =
      let found = waits_in events calls is.table process waits in
      none found.0 found.1 found.2 found.3

  abbrev new_call : ℕ → ℕ → ℕ → OpenCall
  new_call number process op =
      record { call = number; process = process; op = op; is_lost = false; reply = None }

  pub part_call : (process op next : ℕ) (now : List OpenCall)
      → now ≡ calls ++ new_call taken process op ∷ []
      → next ≡ min (taken + 1) (2 ^ 64 - 1)
      → TakesEvent spec (Called process op) (Some (part taken calls residue))
      (Some (part next now residue))
  part_call process op next now is further = record {
    held = λ events short valid replies old.
        let free = call_free events process op valid in
        let more : List OpenCall = calls ++ new_call (length events) process op ∷ [] in
        let same : now ≡ more =
        is ∙ ap (λ (n : ℕ). calls ++ new_call n process op ∷ []) old.count in
        subst (λ (l : List OpenCall).
        IsPartOf spec (part next l residue) (events ++ Called process op ∷ [])) (sym same) (record {
          count = count_more taken next events (Called process op) old.count short further;
          table = table_call events calls old.table process op free;
          late = late_derived spec (events ++ Called process op ∷ []) calls more residue
              (known-derived calls more (call_derives events calls old.table process op free))
              (λ at in_late. agree-derived more calls
              (derives_call events calls old.table process op free) at)
              (late_call spec events process op calls residue valid old.late);
        });
    known = λ one has reply given. subst (λ (l : List OpenCall). Has l one → (old : OpenCall)
        × Has calls old × (old.call ≡ one.call) × (old.reply ≡ Some reply)) (sym is)
        (λ there. pushed_known one reply there given) has;
  }
    where
      pushed_known : (one : OpenCall) (reply : ℕ)
          → Has (calls ++ new_call taken process op ∷ []) one → one.reply ≡ Some reply
          → (old : OpenCall) × Has calls old × (old.call ≡ one.call) × (old.reply ≡ Some reply)
      pushed_known one reply (k, at) given =
          elim (slice_get-push_cases calls (new_call taken process op) k one at) [
            | inl old ↦ (one, (k, old), refl, given)
            | inr new ↦
                absurd (none-some reply (sym (ap (λ (c : OpenCall). c.reply) new.1) ∙ given))
          ]

  pub part_loss : (at process next : ℕ) (one : OpenCall) (now : List OpenCall)
      → slice_get calls at ≡ Some one → one.process ≡ process → one.is_lost ≡ false
      → now ≡ slice_set calls at (record one { is_lost = true })
      → next ≡ min (taken + 1) (2 ^ 64 - 1)
      → TakesEvent spec (Lost process) (Some (part taken calls residue))
      (Some (part next now residue))
  part_loss at process next one now there same pending is further = record {
    held = λ events short valid replies old.
        let waits = old.table.waiting one (at, there) pending in
        let more : List OpenCall = slice_set calls at (record one { is_lost = true }) in
        subst (λ (l : List OpenCall).
        IsPartOf spec (part next l residue) (events ++ Lost process ∷ [])) (sym is)
        (subst (λ (p : ℕ). IsPartOf spec (part next more residue) (events ++ Lost p ∷ [])) same
        (record {
          count = count_more taken next events (Lost one.process) old.count short further;
          table = table_loss events calls old.table at one there waits;
          late = late_derived spec (events ++ Lost one.process ∷ []) calls more residue
              (known-derived calls more (loss_derives events calls old.table at one there waits))
              (λ point in_late. agree-derived more calls
              (derives_loss events calls old.table at one there waits) point)
              (late_loss spec events one.process calls residue
              (subst (λ (p : ℕ). IsValidStream (events ++ Lost p ∷ [])) (sym same) valid) old.late);
        }));
    known = λ other has reply given. lost_known other reply
        (subst (λ (l : List OpenCall). Has l other) is has) given;
  }
    where
      lost_known : (other : OpenCall) (reply : ℕ)
          → Has (slice_set calls at (record one { is_lost = true })) other
          → other.reply ≡ Some reply
          → (old : OpenCall) × Has calls old × (old.call ≡ other.call) × (old.reply ≡ Some reply)
      lost_known other reply (k, set) given =
          elim (set-from calls at _ k other set) [
            | inl (here, equal) ↦ (
              one,
              (at, there),
              ap (λ (c : OpenCall). c.call) equal,
              ap (λ (c : OpenCall). c.reply) equal ∙ given,
            )
            | inr (apart, old) ↦ (other, (k, old), refl, given)
          ]

  -- a part takes no return and no loss where no call is pending
  pub part_idle : (event : StreamEvent) (next : ℕ) → Ends event
      → NonePending calls (process_of event)
      → TakesEvent spec event (Some (part taken calls residue)) (Some (part next calls residue))
  part_idle event next ends none = record {
    held = λ events short valid replies old.
        absurd (part_none (process_of event) events none old (end_waits events event valid ends));
    known = λ one has reply given. (one, has, refl, given);
  }

  pub part_return : (at process reply next : ℕ) (one returning : OpenCall) (now : List OpenCall)
      (left : List Description)
      → slice_get calls at ≡ Some one → one.process ≡ process → one.is_lost ≡ false
      → returning ≡ one → now ≡ remove calls at → next ≡ min (taken + 1) (2 ^ 64 - 1)
      → ((events : List StreamEvent) (waiting : ℕ) → AreOpen events calls → Has calls returning
      → IsWaiting events waiting returning.call → MayHaveReply returning reply
      → IsValidStream (events ++ Returned waiting reply ∷ []) → AreLate spec events calls residue
      → AreLate spec (events ++ Returned waiting reply ∷ []) calls left)
      → TakesEvent spec (Returned process reply) (Some (part taken calls residue))
      (Some (part next now left))
  part_return at process reply next one returning now left there same pending equal is
      further after =
      record {
        held = λ events short valid replies old.
            let waits = old.table.waiting one (at, there) pending in
            let more : List OpenCall = remove calls at in
            let derives = return_derives events calls old.table at one there waits reply in
            let own : IsValidStream (events ++ Returned one.process reply ∷ []) =
            subst (λ (p : ℕ). IsValidStream (events ++ Returned p reply ∷ [])) (sym same) valid in
            let back : one ≡ returning = sym equal in
            let answer : MayHaveReply one reply = replies one (at, there)
            (subst (λ (p : ℕ). IsWaiting events p one.call) same waits) in
            let late : AreLate spec (events ++ Returned one.process reply ∷ []) calls left =
            after events one.process old.table.are_open
            (subst (λ (c : OpenCall). Has calls c) back (at, there))
            (subst (λ (c : OpenCall). IsWaiting events one.process c.call) back waits)
            (subst (λ (c : OpenCall). MayHaveReply c reply) back answer) own old.late in
            subst (λ (l : List OpenCall).
            IsPartOf spec (part next l left) (events ++ Returned process reply ∷ [])) (sym is)
            (subst
            (λ (p : ℕ). IsPartOf spec (part next more left) (events ++ Returned p reply ∷ []))
            same (record {
              count = count_more taken next events (Returned one.process reply) old.count short
                  further;
              table = table_return events calls old.table at one there waits reply;
              late = late_removed spec (events ++ Returned one.process reply ∷ []) calls more one
                  left (
                    length events,
                    reply,
                    returns_now events one.process one.call reply waits,
                  ) (known-derived calls more derives) (returns_or_stays events calls old.table at one there waits reply) late;
            }));
        known = λ other has known given. removed_known other known
            (subst (λ (l : List OpenCall). Has l other) is has) given;
      }
    where
      removed_known : (other : OpenCall) (known : ℕ) → Has (remove calls at) other
          → other.reply ≡ Some known
          → (old : OpenCall) × Has calls old × (old.call ≡ other.call) × (old.reply ≡ Some known)
      removed_known other known (k, left_at) given =
          elim (remove-from calls at k other
          (slice_get_within calls at one there) left_at) [
            | inl (below, old) ↦ (other, (k, old), refl, given)
            | inr (above, old) ↦ (other, (k + 1, old), refl, given)
          ]

  pub part_told : (at process reply : ℕ) (one : OpenCall) (now : List OpenCall)
      (left : List Description)
      → slice_get calls at ≡ Some one → one.process ≡ process → one.is_lost ≡ false
      → now ≡ slice_set calls at (record one { reply = Some reply })
      → ((events : List StreamEvent) (found : OpenCall) → Has calls found → found.call ≡ one.call
      → ((other : OpenCall) → Has calls other → other.call ≡ one.call → MayHaveReply other reply)
      → AreLate spec events calls residue
      → AreLate spec events (map (with_reply one.call reply) calls) left)
      → IsTold spec process reply (Some (part taken calls residue)) (Some (part taken now left))
  part_told at process reply one now left there same pending is revealed = record {
    held = λ events replies old.
        let waits : IsWaiting events process one.call =
        subst (λ (p : ℕ). IsWaiting events p one.call) same
        (old.table.waiting one (at, there) pending) in
        let after : List OpenCall = slice_set calls at (record one { reply = Some reply }) in
        let may : (other : OpenCall) → Has calls other → other.call ≡ one.call
        → MayHaveReply other reply = λ other has equal known given.
        replies other has (subst (λ (c : ℕ). IsWaiting events process c) (sym equal) waits) known
        given in
        subst (λ (l : List OpenCall). IsPartOf spec (part taken l left) events) (sym is) (record {
          count = old.count;
          table = table_told events calls old.table at reply one there;
          late = late_derived spec events (map (with_reply one.call reply) calls) after left
              (known-derived (map (with_reply one.call reply) calls) after
              (told_derives events calls old.table at reply one there))
              (λ point in_late. agree-derived after (map (with_reply one.call reply) calls)
              (derives_told events calls old.table at reply one there) point)
              (revealed events one (at, there) refl may old.late);
        });
    known = λ other has known given. known_told other known
        (subst (λ (l : List OpenCall). Has l other) is has) given;
  }
    where
      known_told : (other : OpenCall) (known : ℕ)
          → Has (slice_set calls at (record one { reply = Some reply })) other
          → other.reply ≡ Some known
          → ((old_one : OpenCall) × Has calls old_one × (old_one.call ≡ other.call)
          × (old_one.reply ≡ Some known))
          ⊎ ((other.process ≡ process) × (other.is_lost ≡ false) × (reply ≡ known))
      known_told other known (k, set) given =
          elim (set-from calls at _ k other set) [
            | inl (here, equal) ↦ inr (
              sym (ap (λ (c : OpenCall). c.process) equal) ∙ same,
              sym (ap (λ (c : OpenCall). c.is_lost) equal) ∙ pending,
              same_Some reply known (ap (λ (c : OpenCall). c.reply) equal ∙ given),
            )
            | inr (apart, old) ↦ inl (other, (k, old), refl, given)
          ]

-- a copy of a part holds what the part holds
pub part_copy : (taken : ℕ) (calls : List OpenCall) (residue : List Description)
    (now : List OpenCall) (copy : List Description) → now ≡ calls
    → ((spec : SeqSpec) (events : List StreamEvent) → AreLate spec events calls residue
    → AreLate spec events calls copy)
    → Copies (Some (part taken calls residue)) (Some (part taken now copy))
part_copy taken calls residue now copy same late =
    subst
    (λ (l : List OpenCall). Copies (Some (part taken calls residue)) (Some (part taken l copy)))
    (sym same) (record {
      held = λ spec events is. record {
        count = is.count;
        table = is.table;
        late = late spec events is.late;
      };
      known = λ one has reply given. (one, has, refl, given);
    })

-- where no part is held, no event that ends a call comes
pub takes_none : (spec : SeqSpec) (key : ℕ) (event : StreamEvent) (old new : List (ℕ × Parted))
    → Ends event → lookup (nat_eq key) old ≡ None → new ≡ old → TakeEvent spec key event old new
takes_none spec key event old new ends none same =
    let now : lookup (nat_eq key) new ≡ None =
    ap (λ (l : List (ℕ × Parted)). lookup (nat_eq key) l) same ∙ none in record {
      own = subst (λ (o : Option Parted). TakesEvent spec event o (lookup (nat_eq key) new))
          (sym none)
          (subst (λ (o : Option Parted). TakesEvent spec event None o) (sym now) (record {
            held = λ events short valid replies is.
                let waits = end_waits events event valid ends in
                let call = waits.1.1 in
                absurd (none-some _ (sym (ap (λ (e : List StreamEvent). slice_get e waits.0) is)
                ∙ call));
            known = λ one has reply given. (one, has, refl, given);
          }));
      others = λ k apart. ap (λ (l : List (ℕ × Parted)). lookup (nat_eq k) l) same;
    }

-- where no part is held, nothing is known
pub told_none : (spec : SeqSpec) (key process reply : ℕ) (old new : List (ℕ × Parted))
    → lookup (nat_eq key) old ≡ None → new ≡ old → AreTold spec key process reply old new
told_none spec key process reply old new none same =
    let now : lookup (nat_eq key) new ≡ None =
    ap (λ (l : List (ℕ × Parted)). lookup (nat_eq key) l) same ∙ none in record {
      own = subst (λ (o : Option Parted). IsTold spec process reply o (lookup (nat_eq key) new))
          (sym none) (subst (λ (o : Option Parted). IsTold spec process reply None o) (sym now)
          (record {
            held = λ events replies is. is;
            known = λ one has known given. inl (one, has, refl, given);
          }));
      others = λ k apart. ap (λ (l : List (ℕ × Parted)). lookup (nat_eq k) l) same;
    }

-- a part whose first event comes
pub takes_first : (spec : SeqSpec) (event : StreamEvent) (first new : Parted)
    → IsPartOf spec first [] → first.calls ≡ [] → TakesEvent spec event (Some first) (Some new)
    → TakesEvent spec event None (Some new)
takes_first spec event first new is none takes = record {
  held = λ events short valid replies empty. takes.held events short valid
      (subst (λ (l : List OpenCall). RepliesAsKnown events l event) (sym none) replies)
      (subst (λ (e : List StreamEvent). IsPartOf spec first e) (sym empty) is);
  known = subst (λ (l : List OpenCall). Derives l new.calls) none takes.known;
}
