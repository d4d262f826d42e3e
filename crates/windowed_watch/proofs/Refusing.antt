-- Why a watch refuses an event of a valid stream in which few calls are open.
use Rattle.std.proofs.Common.{◌≡◌, ◌∙◌, ℕ, ◌<◌, ◌≤◌, ◌^◌, false, List, [], ◌∷◌, ◌++◌, length, get_or, true, Option, Some, None, IfSome, is_some, Result, Ok, Err, OnOk, slice_get, refl, sym, ap, subst, append_assoc, append-nil, length-append, inl, inr, arith}
use Rattle.std.proofs.lemmas.List.{append_cancel_left}
use Rattle.std.proofs.lemmas.Option.{same_Some, slice_get_within, slice_get-get_or}
use Rattle.list_laws.proofs.Pigeonhole.{pigeonhole}
use Rattle.list_laws.proofs.Places.{append_cases}
use Rattle.streams.specs.Stream.{StreamEvent, Called, process_of, IsValidStream}
use Rattle.streams.proofs.Pushing.{valid-prefix}
use Rattle.late_residue.specs.declared.open_call.OpenCall.{OpenCall}
use Rattle.watch_core.specs.declared.TheConstants.{MAX_OPEN}
use Rattle.watch_core.specs.declared.verdict.Refused.{Refused}
use Rattle.watch_core.specs.declared.verdict.Refused.TheVariants as refused
use Rattle.watch_core.specs.Table.{Waits, IsTable}
use Rattle.watch_core.specs.Verdict.{IsRefusal}
use Rattle.watch_core.specs.Watch.{Watched, HasTaken}
use Rattle.watch_core.proofs.Tables.{table_none, table_call}
use Rattle.watch_core.proofs.Late.{valid_none}
use Rattle.watch_core.proofs.Partly.{call_free, end_waits}
use Rattle.windowed_watch.specs.Ahead.{IsNarrow, IsTakable}
use Rattle.windowed_watch.proofs.Further.{taken_further}

-- two places of tables have the same call
abbrev HaveOneCall : List OpenCall → List OpenCall → ℕ → ℕ → Type 0
HaveOneCall one other i j = (a : OpenCall) × (b : OpenCall) × (slice_get one i ≡ Some a)
    × (slice_get other j ≡ Some b) × (a.call ≡ b.call)

item_at : (calls : List OpenCall) (i : ℕ) → i < length calls
    → (a : OpenCall) × (slice_get calls i ≡ Some a)
item_at [] i less = absurd (omega (arith, less))
item_at (a ∷ calls) i less =
    (get_or (a ∷ calls) i a, slice_get-get_or (a ∷ calls) i a less)

-- a table of a stream is no longer than another one
pub tables_as_long : (stream : List StreamEvent) (one other : List OpenCall) → IsTable stream one
    → IsTable stream other → length one ≤ length other
tables_as_long stream one other first second =
    pigeonhole (HaveOneCall one other) (length one) (length other)
    (λ i less.
    let found = item_at one i less in
    let a = found.0 in
    let also = second.are_open.whole a.call (a.process, a.op, first.are_open.called a (i, found.1))
    (first.are_open.pending a (i, found.1)) in (
      also.1.0,
      slice_get_within other also.1.0 also.0 also.1.1,
      (a, also.0, found.1, also.1.1, sym also.2),
    ))
    (λ i k j (a, b, at, there, same) (c, d, here, beside, equal).
    let one_call : b ≡ d = same_Some b d (sym there ∙ beside) in
    first.once i k a c at here (same ∙ (ap (λ (o : OpenCall). o.call) one_call ∙ sym equal)))

-- where a valid stream goes on with an event and few calls are open, the event is refused for want
-- of memory alone
pub refused_never : (stream : List StreamEvent) (event : StreamEvent) (calls : List OpenCall)
    (why : Refused) → IsValidStream (stream ++ event ∷ []) → IsNarrow (stream ++ event ∷ [])
    → length (stream ++ event ∷ []) < 2 ^ 64 → IsTable stream calls
    → IsRefusal stream (length calls) event why → why ≡ refused.NoMemory
refused_never stream event calls refused.Busy valid narrow short table ((process, op, is), waits) =
    absurd (call_free stream process op
    (subst (λ (e : StreamEvent). IsValidStream (stream ++ e ∷ [])) is valid)
    (subst (λ (e : StreamEvent). Waits stream (process_of e)) is waits))
refused_never stream event calls refused.Idle valid narrow short table (ends, free) =
    absurd (free (end_waits stream event valid ends))
refused_never stream event calls refused.Open valid narrow short table ((process, op, is), many) =
    let longer = subst (λ (e : StreamEvent). IsNarrow (stream ++ e ∷ [])) is narrow in
    let more = table_call stream calls table process op (call_free stream process op
    (subst (λ (e : StreamEvent). IsValidStream (stream ++ e ∷ [])) is valid)) in
    let new : OpenCall =
    record { call = length stream; process = process; op = op; is_lost = false; reply = None } in
    let few = longer (stream ++ Called process op ∷ []) [] (calls ++ new ∷ [])
    (sym (append-nil (stream ++ Called process op ∷ []))) more in
    absurd (omega (arith, many, few, length-append calls (new ∷ [])))
refused_never stream event calls refused.Full valid narrow short table much =
    absurd (omega (arith, much, short, length-append stream (event ∷ [])))
refused_never stream event calls refused.NoMemory valid narrow short table holds = refl

-- the beginning of a stream that a watch can take
pub takable_front : (front rest : List StreamEvent) → IsTakable (front ++ rest) → IsTakable front
takable_front front rest takable = record {
  valid = valid-prefix front rest takable.valid;
  narrow = λ first more calls parts table. takable.narrow first (more ++ rest) calls
      (ap (λ (l : List StreamEvent). l ++ rest) parts ∙ append_assoc first more rest) table;
  short = (let short = takable.short in omega (arith, short, length-append front rest));
}

-- the stream of no events
pub takable_none : IsTakable []
takable_none = record {
  valid = valid_none;
  narrow = λ front rest calls parts table.
      let none : front ≡ [] = nothing front rest (sym parts) in
      let less = tables_as_long [] calls [] (subst (λ (s : List StreamEvent). IsTable s calls) none
      table) table_none in
      omega (arith, less);
  short = omega arith;
}
  where
    nothing : (front rest : List StreamEvent) → front ++ rest ≡ [] → front ≡ []
    nothing [] rest e = refl
    nothing (event ∷ front) rest e = absurd cc

-- a stream with one more event
pub takable_more : (stream : List StreamEvent) (event : StreamEvent) (calls : List OpenCall)
    → IsTakable stream → IsValidStream (stream ++ event ∷ []) → IsTable (stream ++ event ∷ []) calls
    → length calls ≤ MAX_OPEN → length (stream ++ event ∷ []) < 2 ^ 64
    → IsTakable (stream ++ event ∷ [])
takable_more stream event calls takable valid table few short = record {
  valid = valid;
  narrow = λ front rest others parts other. narrow front rest others parts other;
  short = short;
}
  where
    none_after : (more : List StreamEvent) (next : StreamEvent) (rest : List StreamEvent)
        → event ∷ [] ≡ (next ∷ more) ++ rest → more ≡ []
    none_after [] next rest e = refl
    none_after (other ∷ more) next rest e =
        absurd (let tails : [] ≡ other ∷ (more ++ rest) = cc in cc)

    narrow : IsNarrow (stream ++ event ∷ [])
    narrow front rest others parts other =
        elim (append_cases front stream rest (event ∷ []) (sym parts)) [
          | inl (more, is) ↦ takable.narrow front more others is other
          | inr (more, is) ↦ by more is
        ]
      where
        by : (more : List StreamEvent) → front ≡ stream ++ more → length others ≤ MAX_OPEN
        by [] is = takable.narrow front [] others
            (sym (append-nil stream) ∙ (sym is ∙ sym (append-nil front))) other
        by (next ∷ more) is =
            let left : event ∷ [] ≡ (next ∷ more) ++ rest = append_cancel_left stream (event ∷ [])
            ((next ∷ more) ++ rest) (parts ∙ (ap (λ (l : List StreamEvent). l ++ rest) is
            ∙ append_assoc stream (next ∷ more) rest)) in
            let heads : event ≡ next = cc in
            let whole : front ≡ stream ++ event ∷ [] =
            is ∙ (ap (λ (l : List StreamEvent). stream ++ next ∷ l) (none_after more next rest left)
            ∙ ap (λ (e : StreamEvent). stream ++ e ∷ []) (sym heads)) in
            let less = tables_as_long (stream ++ event ∷ []) others calls
            (subst (λ (s : List StreamEvent). IsTable s others) whole other) table in
            omega (arith, less, few)

-- a watch that has taken all events takes one more
pub front_more : (old new : Watched) (stream : List StreamEvent) (event : StreamEvent)
    → HasTaken old stream [] → IsTakable stream → length old.calls ≤ MAX_OPEN
    → ((s later : List StreamEvent) → HasTaken old s (event ∷ later)
    → HasTaken new (s ++ event ∷ []) later) → new.taken < 2 ^ 64
    → (length old.calls ≤ MAX_OPEN → length new.calls ≤ MAX_OPEN)
    → HasTaken new (stream ++ event ∷ []) [] × IsTakable (stream ++ event ∷ [])
front_more old new stream event has takable few takes short stays =
    let taken = takes stream [] (taken_further old stream [] (event ∷ []) has) in (
      taken,
      takable_more stream event new.calls takable taken.valid taken.table (stays few)
          (subst (λ (n : ℕ). n < 2 ^ 64) taken.count short),
    )

pub on_ok_both : {T E P Q R : Type 0} (r : Result T E) → OnOk r P → OnOk r Q → (P → Q → R)
    → OnOk r R
on_ok_both (Ok x) p q f = f p q
on_ok_both (Err e) p q f = tt

pub if_none : {X : Type 0} (P : X → Type 0) (o : Option X) → is_some o ≡ false → IfSome o P
if_none P None is = tt
if_none P (Some x) is = absurd cc

pub some_not : {X P : Type 0} (o : Option X) → is_some o ≡ true → o ≡ None → P
some_not None is none = absurd cc
some_not (Some x) is none = absurd cc
