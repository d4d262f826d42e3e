-- A watch with one more event, and one that is told of a reply.
use Rattle.std.proofs.Common.{◌≡◌, ◌∙◌, ℕ, nat_eq, ◌+◌, ◌<◌, ◌≤◌, ◌^◌, max, true, false, List, [], ◌∷◌, ◌++◌, length, drop, Option, Some, None, IfSome, IfNone, is_some, slice_get, slice_set, refl, sym, ap, subst, append_assoc, append-nil, length-append, inl, inr, arith}
use Rattle.std.specs.List.{remove}
use Rattle.std.specs.Map.{lookup}
use Rattle.std.proofs.lemmas.Bool.{cases_lt}
use Rattle.seq_objects.specs.declared.kind.Kind.{Kind}
use Rattle.seq_objects.specs.Objects.{kind_spec}
use Rattle.streams.specs.Stream.{StreamEvent, Called, Returned, Lost, IsCalledAt, IsWaiting, IsValidStream, Returns}
use Rattle.streams.specs.StreamOrder.{HasLegalStreamOrder}
use Rattle.streams.proofs.Returning.{returns-longer}
use Rattle.residue_laws.proofs.Settling.{only_returns_refute}
use Rattle.late_residue.specs.declared.open_call.OpenCall.{OpenCall}
use Rattle.stream_locality.specs.KindKeys.{key_of_kind}
use Rattle.watch_core.specs.declared.verdict.Verdict.{Verdict}
use Rattle.watch_core.specs.declared.verdict.Verdict.TheVariants.{Legal, Illegal, Unsure}
use Rattle.watch_core.specs.Table.{Waits, IsTable}
use Rattle.watch_core.specs.Part.{Parted, Copies}
use Rattle.watch_core.specs.Parts.{AreHeld, IsNextOfKey, TakeEvent, AreTold}
use Rattle.watch_core.specs.Verdict.{IsIllegalFrom, IsUnsureAt}
use Rattle.watch_core.specs.Watch.{Watched, IsHeld, HasTaken}
use Rattle.watch_core.proofs.Extending.{valid_call, valid_end}
use Rattle.watch_core.proofs.Tables.{waits_in, table_none, table_call, table_loss, table_return}
use Rattle.watch_core.proofs.Late.{valid_none, legal_none}
use Rattle.watch_core.proofs.Partly.{NonePending}
use Rattle.watch_core.proofs.Keyed.{next_call, next_end}
use Rattle.watch_core.proofs.Held.{next_near, held_after, held_none, held_copy, held_told}

abbrev pub watch : Kind → ℕ → ℕ → ℕ → List OpenCall → List (ℕ × Parted) → Option Verdict
    → Watched
watch kind limit taken seen calls parts last = record {
  kind = kind;
  limit = limit;
  taken = taken;
  seen = seen;
  calls = calls;
  parts = parts;
  last = last;
}

pub some_there : (P : ℕ → Type 0) (o : Option ℕ) → is_some o ≡ true → IfSome o P
    → (x : ℕ) × P x
some_there P None is there = absurd cc
some_there P (Some x) is there = (x, there)

pub none_there : (P : Type 0) (o : Option ℕ) → is_some o ≡ false → IfNone o P → P
none_there P None is there = there
none_there P (Some x) is there = absurd cc

-- what a watch holds before it has taken an event
pub taken_none : (watch : Watched) (later : List StreamEvent) → watch.taken ≡ 0 → watch.seen ≡ 0
    → watch.calls ≡ [] → watch.parts ≡ [] → watch.last ≡ None → HasTaken watch [] later
taken_none watch later count seen none empty last = record {
  valid = valid_none;
  count = count;
  table = subst (λ (l : List OpenCall). IsTable [] l) (sym none) table_none;
  near = [];
  far = later;
  split = refl;
  seen = seen;
  held = subst (λ (v : Option Verdict).
      IsHeld watch.kind watch.limit [] later [] watch.parts v) (sym last) (
        subst (λ (l : List (ℕ × Parted)). AreHeld watch.kind [] [] l) (sym empty)
            (held_none watch.kind),
        legal_none (kind_spec watch.kind),
      );
}

-- what is held of a stream where more is known, or one more event is taken
pub held_next : (kind : Kind) (limit : ℕ) (stream longer later rest near next : List StreamEvent)
    (old new : List (ℕ × Parted)) (last : Option Verdict)
    → stream ++ later ≡ longer ++ rest
    → (last ≡ None → AreHeld kind stream near old → HasLegalStreamOrder (kind_spec kind) stream
    → AreHeld kind longer next new × HasLegalStreamOrder (kind_spec kind) longer)
    → IsHeld kind limit stream later near old last → IsHeld kind limit longer rest next new last
held_next kind limit stream longer later rest near next old new None whole after held =
    after refl held.0 held.1
held_next kind limit stream longer later rest near next old new (Some (Legal number)) whole after
    held = absurd held
held_next kind limit stream longer later rest near next old new (Some (Illegal first last)) whole
    after held =
    subst (λ (w : List StreamEvent). IsIllegalFrom (kind_spec kind) w first last) whole held
held_next kind limit stream longer later rest near next old new (Some (Unsure number)) whole after
    held = subst (λ (w : List StreamEvent). IsUnsureAt kind limit w number) whole held

-- of two beginnings of a list the longer one begins with the shorter one
begins : {X : Type 0} (a b c d : List X) → a ++ b ≡ c ++ d → length a ≤ length c
    → (x : List X) × (c ≡ a ++ x)
begins [] b c d e less = (c, refl)
begins (y ∷ ys) b [] d e less = absurd (omega (arith, less))
begins {X} (y ∷ ys) b (z ∷ zs) d e less =
    let heads : y ≡ z = cc in
    let tails : ys ++ b ≡ zs ++ d = cc in
    let rest = begins ys b zs d tails (omega (arith, less)) in
    (rest.0, ap (λ (v : X). v ∷ zs) (sym heads) ∙ ap (λ (l : List X). y ∷ l) rest.1)

-- the longer one of two beginnings of a list
widest : (stream later a b c d : List StreamEvent) (seen by : ℕ) → later ≡ a ++ b
    → later ≡ c ++ d → seen ≡ length (stream ++ a) → by ≡ length (stream ++ c)
    → (wide : List StreamEvent) × (rest : List StreamEvent) × (later ≡ wide ++ rest)
    × (max seen by ≡ length (stream ++ wide)) × (x : List StreamEvent) × (wide ≡ a ++ x)
    × (y : List StreamEvent) × (wide ≡ c ++ y)
widest stream later a b c d seen by first second one other =
    let from = one ∙ length-append stream a in
    let to = other ∙ length-append stream c in
    elim (cases_lt (length a) (length c)) [
      | inl less ↦
          let longer = begins a b c d (sym first ∙ second) (omega (arith, less)) in
          let most : max seen by ≡ by = omega (arith, from, to, less) in
          (c, d, second, most ∙ other, longer.0, longer.1, [], sym (append-nil c))
      | inr more ↦
          let longer = begins c d a b (sym second ∙ first) more in
          let most : max seen by ≡ seen = omega (arith, from, to, more) in
          (a, b, first, most ∙ one, [], sym (append-nil a), longer.0, longer.1)
    ]

returns_in_wide : (stream near wide x : List StreamEvent) → wide ≡ near ++ x
    → (call end reply : ℕ) → Returns (stream ++ near) call end reply
    → Returns (stream ++ wide) call end reply
returns_in_wide stream near wide x is call end reply returns =
    subst (λ (s : List StreamEvent). Returns s call end reply)
    (append_assoc stream near x ∙ ap (λ (l : List StreamEvent). stream ++ l) (sym is))
    (returns-longer (stream ++ near) x call end reply returns)

module _ (kind : Kind) (limit taken seen : ℕ) (calls : List OpenCall)
    (parts : List (ℕ × Parted)) (last : Option Verdict) (stream : List StreamEvent) where
  abbrev this : Watched
  this = watch kind limit taken seen calls parts last

  pub waits_not : (later : List StreamEvent) → HasTaken this stream later
      → (process : ℕ) → NonePending calls process → Waits stream process → ⊥
  waits_not later has process none waits =
      let found = waits_in stream calls has.table process waits in
      none found.0 found.1 found.2 found.3

  pub waits_now : (later : List StreamEvent) → HasTaken this stream later
      → (at process : ℕ) (one : OpenCall) → slice_get calls at ≡ Some one
      → one.process ≡ process → one.is_lost ≡ false → Waits stream process
  waits_now later has at process one there same pending = (
    one.call,
    subst (λ (p : ℕ). IsWaiting stream p one.call) same (has.table.waiting one (at, there) pending),
  )

  -- a watch has taken an event, where its table and what it holds are right then
  taken_event : (later : List StreamEvent) (event : StreamEvent) (now : List OpenCall)
      (further : ℕ) (new : List (ℕ × Parted)) (next : Option Verdict)
      → (has : HasTaken this stream (event ∷ later)) → further ≡ max seen (taken + 1)
      → IsValidStream (stream ++ event ∷ []) → IsTable (stream ++ event ∷ []) now
      → IsHeld kind limit (stream ++ event ∷ []) later (drop 1 has.near) new next
      → HasTaken (watch kind limit (taken + 1) further now new next) (stream ++ event ∷ []) later
  taken_event later event now further new next has far valid table held =
      let near = next_near stream later has.near has.far event seen has.split has.seen in record {
        valid = valid;
        count = ap (λ (n : ℕ). n + 1) has.count ∙ sym (length-append stream (event ∷ []));
        table = table;
        near = drop 1 has.near;
        far = near.0;
        split = near.1;
        seen = far ∙ (ap (λ (n : ℕ). max seen (n + 1)) has.count ∙ near.2);
        held = held;
      }

  -- what is held after an event that leaves legal orders
  held_event : (later : List StreamEvent) (event : StreamEvent) (key : ℕ)
      (new : List (ℕ × Parted)) → (has : HasTaken this stream (event ∷ later))
      → taken + 1 < 2 ^ 64 → IsValidStream (stream ++ event ∷ [])
      → IsNextOfKey kind key stream event
      → (last ≡ None → TakeEvent (kind_spec kind) key event parts new)
      → (HasLegalStreamOrder (kind_spec kind) stream
      → HasLegalStreamOrder (kind_spec kind) (stream ++ event ∷ []))
      → IsHeld kind limit (stream ++ event ∷ []) later (drop 1 has.near) new last
  held_event later event key new has short valid of_key takes legal =
      let near = next_near stream later has.near has.far event seen has.split has.seen in
      let within : length stream + 1 < 2 ^ 64 =
      subst (λ (n : ℕ). n + 1 < 2 ^ 64) has.count short in
      held_next kind limit stream (stream ++ event ∷ []) (event ∷ later) later has.near
      (drop 1 has.near) parts new last (sym (append_assoc stream (event ∷ []) later))
      (λ none held is_legal. (
        held_after kind stream has.near (drop 1 has.near) event key of_key within valid near.3 parts
            new held (takes none),
        legal is_legal,
      )) has.held

  abbrev new_call : ℕ → ℕ → ℕ → OpenCall
  new_call number process op =
      record { call = number; process = process; op = op; is_lost = false; reply = None }

  pub taken_call : (later : List StreamEvent) (process op : ℕ)
      → HasTaken this stream (Called process op ∷ later)
      → (now : List OpenCall) (further : ℕ) (new : List (ℕ × Parted)) → NonePending calls process
      → now ≡ calls ++ new_call taken process op ∷ [] → further ≡ max seen (taken + 1)
      → taken + 1 < 2 ^ 64
      → (last ≡ None
      → TakeEvent (kind_spec kind) (key_of_kind kind op) (Called process op) parts new)
      → HasTaken (watch kind limit (taken + 1) further now new last)
      (stream ++ Called process op ∷ []) later
  taken_call later process op has now further new none is far short takes =
      let free = waits_not (Called process op ∷ later) has process none in
      let valid = valid_call stream process op has.valid free in
      let same : now ≡ calls ++ new_call (length stream) process op ∷ [] =
      is ∙ ap (λ (n : ℕ). calls ++ new_call n process op ∷ []) has.count in
      taken_event later (Called process op) now further new last has far valid
      (subst (λ (l : List OpenCall). IsTable (stream ++ Called process op ∷ []) l) (sym same)
      (table_call stream calls has.table process op free))
      (held_event later (Called process op) (key_of_kind kind op) new has short valid
      (next_call kind stream process op) takes
      (λ legal. (only_returns_refute (kind_spec kind) stream legal).0 process op))

  -- a return or a loss of an open call is of the call's key
  pub of_its_key : (later : List StreamEvent) (has : HasTaken this stream later)
      (at process : ℕ) (one : OpenCall) → slice_get calls at ≡ Some one
      → one.process ≡ process → one.is_lost ≡ false
      → ((reply : ℕ)
      → IsNextOfKey kind (key_of_kind kind one.op) stream (Returned process reply))
      × IsNextOfKey kind (key_of_kind kind one.op) stream (Lost process)
  of_its_key later has at process one there same pending =
      let waits = subst (λ (p : ℕ). IsWaiting stream p one.call) same
      (has.table.waiting one (at, there) pending) in
      let called = subst (λ (p : ℕ). IsCalledAt stream one.call p one.op)
      same (has.table.are_open.called one (at, there)) in (
        λ reply. next_end kind stream (Returned process reply) one.call one.op tt waits called,
        next_end kind stream (Lost process) one.call one.op tt waits called,
      )

  pub taken_loss : (later : List StreamEvent) (at process : ℕ) (one : OpenCall)
      → HasTaken this stream (Lost process ∷ later)
      → (now : List OpenCall) (further : ℕ) (new : List (ℕ × Parted))
      → slice_get calls at ≡ Some one → one.process ≡ process → one.is_lost ≡ false
      → now ≡ slice_set calls at (record one { is_lost = true }) → further ≡ max seen (taken + 1)
      → taken + 1 < 2 ^ 64
      → TakeEvent (kind_spec kind) (key_of_kind kind one.op) (Lost process) parts new
      → HasTaken (watch kind limit (taken + 1) further now new last)
      (stream ++ Lost process ∷ []) later
  taken_loss later at process one has now further new there same pending is far short takes =
      let waits = has.table.waiting one (at, there) pending in
      let valid = valid_end stream (Lost process) has.valid tt
      (waits_now (Lost process ∷ later) has at process one there same pending) in
      taken_event later (Lost process) now further new last has far valid
      (subst (λ (l : List OpenCall). IsTable (stream ++ Lost process ∷ []) l) (sym is)
      (subst (λ (p : ℕ). IsTable (stream ++ Lost p ∷ [])
      (slice_set calls at (record one { is_lost = true }))) same
      (table_loss stream calls has.table at one there waits)))
      (held_event later (Lost process) (key_of_kind kind one.op) new has short valid
      (of_its_key (Lost process ∷ later) has at process one there same pending).1 (λ none. takes)
      (λ legal. (only_returns_refute (kind_spec kind) stream legal).1 process))

  pub taken_return : (later : List StreamEvent) (at process reply : ℕ) (one : OpenCall)
      → HasTaken this stream (Returned process reply ∷ later)
      → (now : List OpenCall) (further : ℕ) (new : List (ℕ × Parted)) (next : Option Verdict)
      → slice_get calls at ≡ Some one → one.process ≡ process → one.is_lost ≡ false
      → now ≡ remove calls at → further ≡ max seen (taken + 1)
      → ((near far : List StreamEvent)
      → IsNextOfKey kind (key_of_kind kind one.op) stream (Returned process reply)
      → IsValidStream (stream ++ Returned process reply ∷ []) → taken ≡ length stream
      → Returned process reply ∷ later ≡ near ++ far → seen ≡ length (stream ++ near)
      → IsHeld kind limit stream (Returned process reply ∷ later) near parts last
      → IsHeld kind limit (stream ++ Returned process reply ∷ []) later (drop 1 near) new next)
      → HasTaken (watch kind limit (taken + 1) further now new next)
      (stream ++ Returned process reply ∷ []) later
  taken_return later at process reply one has now further new next there same pending is
      far judged =
      let waits = has.table.waiting one (at, there) pending in
      let valid = valid_end stream (Returned process reply) has.valid tt
      (waits_now (Returned process reply ∷ later) has at process one there same pending) in
      taken_event later (Returned process reply) now further new next has far valid
      (subst (λ (l : List OpenCall). IsTable (stream ++ Returned process reply ∷ []) l) (sym is)
      (subst (λ (p : ℕ). IsTable (stream ++ Returned p reply ∷ []) (remove calls at)) same
      (table_return stream calls has.table at one there waits reply)))
      (judged has.near has.far
      ((of_its_key (Returned process reply ∷ later) has at process one there same pending).0 reply)
      valid has.count has.split has.seen has.held)

  -- a watch that is told of a reply
  pub taken_told : (later near far : List StreamEvent) (at process reply by : ℕ) (one : OpenCall)
      (further : ℕ) (new : List (ℕ × Parted)) → HasTaken this stream later
      → slice_get calls at ≡ Some one → one.process ≡ process → one.is_lost ≡ false
      → later ≡ near ++ far → by ≡ length (stream ++ near)
      → ((call : ℕ) → IsWaiting stream process call
      → (end : ℕ) × Returns (stream ++ near) call end reply)
      → further ≡ max seen by
      → AreTold (kind_spec kind) (key_of_kind kind one.op) process reply parts new
      → HasTaken (watch kind limit taken further calls new last) stream later
  taken_told later near far at process reply by one further new has there same pending split reached
      expected further_is told =
      let waits : IsWaiting stream process one.call =
      subst (λ (p : ℕ). IsWaiting stream p one.call) same
      (has.table.waiting one (at, there) pending) in
      let called = subst (λ (p : ℕ). IsCalledAt stream one.call p one.op)
      same (has.table.are_open.called one (at, there)) in
      let returns = expected one.call waits in
      let w =
      widest stream later has.near has.far near far seen by has.split split has.seen reached in
      record {
        valid = has.valid;
        count = has.count;
        table = has.table;
        near = w.0;
        far = w.1;
        split = w.2;
        seen = further_is ∙ w.3;
        held = held_next kind limit stream stream later later has.near w.0 parts new last refl
            (λ none held legal. (
              held_told kind stream has.near w.0 (key_of_kind kind one.op) process reply one.call
                  one.op returns.0 (returns_in_wide stream has.near w.0 w.4 w.5) waits called refl
                  (returns_in_wide stream near w.0 w.6 w.7 one.call returns.0 reply returns.1) parts
                  new held told,
              legal,
            )) has.held;
      }

  -- a copy of a watch has taken what the watch has taken
  pub taken_copy : (later : List StreamEvent) (copy : List OpenCall) (new : List (ℕ × Parted))
      → HasTaken this stream later → copy ≡ calls
      → ((k : ℕ) → Copies (lookup (nat_eq k) parts)
      (lookup (nat_eq k) new))
      → HasTaken (watch kind limit taken seen copy new last) stream later
  taken_copy later copy new has same copies = record {
    valid = has.valid;
    count = has.count;
    table = subst (λ (l : List OpenCall). IsTable stream l) (sym same) has.table;
    near = has.near;
    far = has.far;
    split = has.split;
    seen = has.seen;
    held = held_next kind limit stream stream later later has.near has.near parts new last refl
        (λ none held legal. (held_copy kind stream has.near parts new copies held, legal)) has.held;
  }
