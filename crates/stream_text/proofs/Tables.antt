-- The tables of a reader.
use Rattle.std.proofs.Common.{◌≡◌, ◌∙◌, ℕ, ◌-◌, ◌<◌, Bool, true, false, if◌then◌else◌, Option, Some, None, List, [], ◌∷◌, ◌++◌, length, get_or, set, map, Result, Ok, Err, refl, sym, ap, subst, arith, nat_eq, inl, inr}
use Rattle.std.specs.Prelude.{◌==◌, unwrap_or, codes, IfErr}
use Rattle.std.proofs.lemmas.Bool.{cases_eq, eq-eqb, ne_eqb}
use Rattle.std.proofs.lemmas.List.{get_or-set_same, get_or-set_other}
use Rattle.std.proofs.lemmas.List.Sums.{fold-append}
use Rattle.streams.specs.Stream.{StreamEvent, Called, Returned, Lost, process_of}
use Rattle.indexmap.specs.IndexMap.{get}
use Rattle.seq_objects.specs.declared.kind.Kind.{Kind}
use Rattle.text_fields.specs.Head.{object_words}
use Rattle.text_fields.specs.Lines.{words_of}
use Rattle.stream_text.specs.declared.reader.StreamReader.{StreamReader}
use Rattle.stream_text.specs.declared.reader.Phase.TheVariants as phase
use Rattle.stream_text.specs.declared.reader.Taken.TheVariants as taken
use Rattle.stream_text.specs.Stream.{Said, ObjectEvent, Due, TitleDue, ObjectDue, EventDue, Ended, Passes, nothing_of, names_with, object_named, with_event, called_object, pending_after, pending_of, open_after, open_of}
use Rattle.stream_text.specs.Reader.{HasTables, HasRead, Tells}
use Rattle.stream_text.proofs.Names.{names_stay, names_same, some_within}

-- a reader with the same tables has what another one has
pub same_tables : (a b : StreamReader) (said : Said) → b.names ≡ a.names → b.counts ≡ a.counts
    → b.pending ≡ a.pending → HasTables a said → HasTables b said
same_tables a b said names counts pending has = record {
  names = ap (λ n. map (λ name. name.items) n.keys) names ∙ has.names;
  size = ap (λ n. length n.items) counts ∙ has.size;
  counts = λ object. ap (λ n. get_or n.items object 0) counts ∙ has.counts object;
  pending = λ process. ap (λ m. get nat_eq m process) pending ∙ has.pending process;
  named = has.named;
}

-- a reader that has one name more, and nothing else, has what was said and this name
pub named_tables : (a b : StreamReader) (said : Said) (name : List ℕ)
    → map (λ key. key.items) b.names.keys ≡ names_with said.names name
    → length b.counts.items ≡ length (names_with said.names name)
    → ((object : ℕ) → get_or b.counts.items object 0 ≡ get_or a.counts.items object 0)
    → b.pending ≡ a.pending → HasTables a said
    → HasTables b (record said { names = names_with said.names name })
named_tables a b said name names size counts pending has = record {
  names = names;
  size = size;
  counts = λ object. counts object ∙ has.counts object;
  pending = λ process. ap (λ m. get nat_eq m process) pending ∙ has.pending process;
  named = λ process object is.
      omega (arith, has.named process object is, names_stay said.names name);
}

-- where calls are open of the object of a name, the name isn't new
pub known_tables : (a b : StreamReader) (said : Said) (name : List ℕ) → HasTables a said
    → 0 < open_of (object_named said.names name) said.events
    → HasTables b (record said { names = names_with said.names name }) → HasTables b said
known_tables a b said name before some has =
    let object = object_named said.names name in
    let low = some_within a.counts.items object (omega (arith, before.counts object, some)) in
    subst (λ (names : List (List ℕ)). HasTables b (record said { names = names }))
    (names_same said.names name (omega (arith, low, before.size))) has

-- a reader whose counts and pending calls are those of another one has what that one has
pub alike_tables : (a b : StreamReader) (said : Said) → b.names ≡ a.names
    → b.counts.items ≡ a.counts.items
    → ((process : ℕ) → get nat_eq b.pending process ≡ get nat_eq a.pending process)
    → HasTables a said → HasTables b said
alike_tables a b said names counts pending has = record {
  names = ap (λ n. map (λ name. name.items) n.keys) names ∙ has.names;
  size = ap length counts ∙ has.size;
  counts = λ object. ap (λ n. get_or n object 0) counts ∙ has.counts object;
  pending = λ process. pending process ∙ has.pending process;
  named = has.named;
}

-- what is pending and open after one event more
pub one_pending : (process : ℕ) (events : List ObjectEvent) (one : ObjectEvent)
    → pending_of process (events ++ one ∷ [])
    ≡ pending_after process (pending_of process events) one
one_pending process events one = fold-append (pending_after process) None events (one ∷ [])

pub one_open : (object : ℕ) (events : List ObjectEvent) (one : ObjectEvent)
    → open_of object (events ++ one ∷ []) ≡ open_after object (open_of object events) one
one_open object events one = fold-append (open_after object) 0 events (one ∷ [])

named_still : (process : ℕ) (pending : Option ℕ) (one : ObjectEvent) (n : ℕ) → one.object < n
    → ((object : ℕ) → pending ≡ Some object → object < n) → (object : ℕ)
    → pending_after process pending one ≡ Some object → object < n
named_still process pending one n low before object is =
    go (process_of one.event == process) one.event is
  where
    go : (b : Bool) (event : StreamEvent)
        → (if b then called_object one event else pending) ≡ Some object → object < n
    go false event e = before object e
    go true (Called p op) e = omega (arith, low, ap (λ (o : Option ℕ). unwrap_or o 0) e)
    go true (Returned p reply) e = absurd cc
    go true (Lost p) e = absurd cc

-- a reader that has one event more, and nothing else, has what was said and this event
pub event_tables : (a b : StreamReader) (said : Said) (object : ℕ) (event : StreamEvent)
    → b.names ≡ a.names → length b.counts.items ≡ length a.counts.items
    → ((other : ℕ) → get_or b.counts.items other 0
    ≡ open_after other (get_or a.counts.items other 0) (record { object = object; event = event }))
    → ((process : ℕ) → get nat_eq b.pending process ≡ pending_after process
    (get nat_eq a.pending process) (record { object = object; event = event }))
    → object < length said.names → HasTables a said
    → HasTables b (with_event said said.names object event)
event_tables a b said object event names size counts pending low has =
    let one : ObjectEvent = record { object = object; event = event } in
    record {
      names = ap (λ n. map (λ name. name.items) n.keys) names ∙ has.names;
      size = size ∙ has.size;
      counts = λ other. counts other ∙ ap (λ (n : ℕ). open_after other n one) (has.counts other)
          ∙ sym (one_open other said.events one);
      pending = λ process. pending process
          ∙ ap (λ (o : Option ℕ). pending_after process o one) (has.pending process)
          ∙ sym (one_pending process said.events one);
      named = λ process other is. named_still process (pending_of process said.events) one
          (length said.names) low (has.named process) other
          (sym (one_pending process said.events one) ∙ is);
    }

-- a reader to which the title is due goes on to the object line
pub title_goes : (a b : StreamReader) (due : Due) (line : List ℕ) → a.phase ≡ phase.Title
    → line ≡ codes "stream 1" → HasRead a due → b.phase ≡ phase.Object → b.names ≡ a.names
    → b.counts ≡ a.counts → b.pending ≡ a.pending
    → (after : Due) × Passes due line after × Tells due taken.Head after × HasRead b after
title_goes a b TitleDue line is title has phase names counts pending = (
  ObjectDue,
  (title, refl),
  tt,
  (phase, λ kind. same_tables a b (nothing_of kind) names counts pending (has.1 kind)),
)
title_goes a b ObjectDue line is title has phase names counts pending = absurd cc
title_goes a b (EventDue said) line is title has phase names counts pending = absurd cc
title_goes a b (Ended said) line is title has phase names counts pending = absurd cc

-- a reader to which the object line is due goes on to the events
pub object_goes : (a b : StreamReader) (due : Due) (line : List ℕ) (kind : Kind)
    → a.phase ≡ phase.Object → words_of line ≡ object_words kind → HasRead a due
    → b.phase ≡ phase.Events kind → b.names ≡ a.names → b.counts ≡ a.counts
    → b.pending ≡ a.pending
    → (after : Due) × Passes due line after × Tells due taken.Head after × HasRead b after
object_goes a b TitleDue line kind is object has phase names counts pending = absurd cc
object_goes a b ObjectDue line kind is object has phase names counts pending = (
  EventDue (nothing_of kind),
  (kind, object, refl),
  tt,
  (phase, same_tables a b (nothing_of kind) names counts pending (has.1 kind)),
)
object_goes a b (EventDue said) line kind is object has phase names counts pending = absurd cc
object_goes a b (Ended said) line kind is object has phase names counts pending = absurd cc

-- one call less is open of an object, after a return of it
pub one_returned : (xs : List ℕ) (i v process reply : ℕ) → i < length xs
    → v ≡ get_or xs i 0 - 1 → (k : ℕ) → get_or (set xs i v) k 0
    ≡ open_after k (get_or xs k 0) (record { object = i; event = Returned process reply })
one_returned xs i v process reply low is k = elim (cases_eq k i) [
  | inl same ↦ rw same (get_or-set_same xs i v 0 low ∙ is
      ∙ sym (ap (λ (b : Bool). if b then get_or xs i 0 - 1 else get_or xs i 0) (eq-eqb i i refl)))
  | inr other ↦ get_or-set_other xs i k v 0 other
      ∙ sym (ap (λ (b : Bool). if b then get_or xs k 0 - 1 else get_or xs k 0)
      (ne_eqb i k (λ e. other (sym e))))
]

same_either : (b : Bool) (n : ℕ) → n ≡ (if b then n else n)
same_either true n = refl
same_either false n = refl

-- as many calls are open of an object after a loss as before
pub one_lost : (i process k n : ℕ)
    → n ≡ open_after k n (record { object = i; event = Lost process })
one_lost i process k n = same_either (i == k) n

-- what is so of an error is so where more follows from it
pub err_then : {T E : Type 0} (r : Result T E) (P Q : E → Type 0) → IfErr r P
    → ((e : E) → P e → Q e) → IfErr r Q
err_then (Ok x) P Q p f = tt
err_then (Err e) P Q p f = f e p

-- a reader to which an event is due has read what another one has, where it has so for events
pub events_still : (a b : StreamReader) (kind : Kind) (due : Due) → a.phase ≡ phase.Events kind
    → ((said : Said) → HasRead a (EventDue said) → HasRead b (EventDue said)) → HasRead a due
    → HasRead b due
events_still a b kind TitleDue is same has = absurd cc
events_still a b kind ObjectDue is same has = absurd cc
events_still a b kind (EventDue said) is same has = same said has
events_still a b kind (Ended said) is same has = absurd cc
