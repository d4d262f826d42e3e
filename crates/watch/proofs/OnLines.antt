-- On which lines of a stream the events of an object are.
use Rattle.std.proofs.Common.{◌≡◌, ◌∙◌, ℕ, zero, suc, ◌+◌, ◌-◌, ◌<◌, ◌≤◌, Bool, true, false, List, [], ◌∷◌, ◌++◌, length, take, drop, map, Some, slice_get, if◌then◌else◌, refl, sym, ap, subst, arith, append_assoc, append-nil}
use Rattle.std.specs.Prelude.{◌==◌, filter}
use Rattle.std.proofs.lemmas.List.{map-append, take-append-drop, take-take}
use Rattle.book_base.specs.SeqSpec.{SeqSpec}
use Rattle.seq_objects.specs.Objects.{kind_spec}
use Rattle.streams.specs.Stream.{StreamEvent}
use Rattle.streams.specs.StreamOrder.{HasLegalStreamOrder}
use Rattle.residue_laws.proofs.Settling.{prefixes_have_one}
use Rattle.stream_text.specs.Stream.{ObjectEvent, Said, events_of}
use Rattle.watch.specs.Lines.{head_lines, lines_from, lines_of, events_on, IsLegal, IsLegalOn, IsOnLine}

with_one : (b : Bool) (one : ObjectEvent) (rest : List ObjectEvent)
    → map ObjectEvent.event (if b then one ∷ rest else rest)
    ≡ (if b then one.event ∷ map ObjectEvent.event rest else map ObjectEvent.event rest)
with_one true one rest = refl
with_one false one rest = refl

-- the events of an object after a first one of all
pub events_of-cons : (object : ℕ) (one : ObjectEvent) (events : List ObjectEvent)
    → events_of object (one ∷ events)
    ≡ (if one.object == object then one.event ∷ events_of object events else events_of object events)
events_of-cons object one events =
    with_one (one.object == object) one (filter (λ (o : ObjectEvent). o.object == object) events)

appended : (b : Bool) (x : StreamEvent) (xs ys zs : List StreamEvent) → zs ≡ xs ++ ys
    → (if b then x ∷ zs else zs) ≡ (if b then x ∷ xs else xs) ++ ys
appended true x xs ys zs e = ap (λ (l : List StreamEvent). x ∷ l) e
appended false x xs ys zs e = e

-- the events of an object in two parts
pub events_of-append : (object : ℕ) (xs ys : List ObjectEvent)
    → events_of object (xs ++ ys) ≡ events_of object xs ++ events_of object ys
events_of-append object [] ys = refl
events_of-append object (x ∷ xs) ys =
    events_of-cons object x (xs ++ ys)
    ∙ (appended (x.object == object) x.event (events_of object xs) (events_of object ys)
    (events_of object (xs ++ ys)) (events_of-append object xs ys)
    ∙ ap (λ (l : List StreamEvent). l ++ events_of object ys) (sym (events_of-cons object x xs)))

same_length : (b : Bool) (x : StreamEvent) (xs : List StreamEvent) (line : ℕ) (lines : List ℕ)
    → length lines ≡ length xs
    → length (if b then line ∷ lines else lines) ≡ length (if b then x ∷ xs else xs)
same_length true x xs line lines e = ap suc e
same_length false x xs line lines e = e

-- each event of an object has one line
pub length-lines_from : (object line : ℕ) (events : List ObjectEvent)
    → length (lines_from object line events) ≡ length (events_of object events)
length-lines_from object line [] = refl
length-lines_from object line (x ∷ xs) =
    same_length (x.object == object) x.event (events_of object xs) line
    (lines_from object (line + 1) xs) (length-lines_from object (line + 1) xs)
    ∙ ap length (sym (events_of-cons object x xs))

added : (b : Bool) (line other : ℕ) (xs ys zs : List ℕ) → zs ≡ xs ++ ys
    → (if b then line ∷ zs else zs) ≡ (if b then line ∷ xs else xs) ++ ys
added true line other xs ys zs e = ap (λ (l : List ℕ). line ∷ l) e
added false line other xs ys zs e = e

-- the lines of an object's events, where one event more comes
pub lines_from-push : (object line : ℕ) (events : List ObjectEvent) (one : ObjectEvent)
    → lines_from object line (events ++ one ∷ [])
    ≡ lines_from object line events ++ lines_from object (line + length events) (one ∷ [])
lines_from-push object line [] one =
    ap (λ (n : ℕ). lines_from object n (one ∷ [])) (omega arith)
lines_from-push object line (x ∷ xs) one =
    added (x.object == object) line line (lines_from object (line + 1) xs)
    (lines_from object (line + length (x ∷ xs)) (one ∷ []))
    (lines_from object (line + 1) (xs ++ one ∷ []))
    (lines_from-push object (line + 1) xs one
    ∙ ap (λ (n : ℕ). lines_from object (line + 1) xs ++ lines_from object n (one ∷ []))
    (omega arith))

-- the event at an index of an object's events is on a line: how many events of all are on the lines
-- between this and a first one, and which of the object are before it and up to it
pub record IsAfter (object line : ℕ) (events : List ObjectEvent) (k at : ℕ) : Type 0 where
  pub between : ℕ
  pub at_is : at ≡ line + between
  pub within : between < length events
  pub before : events_of object (take between events) ≡ take k (events_of object events)
  pub here : events_of object (take (suc between) events)
      ≡ take (suc k) (events_of object events)

later : (object line k at : ℕ) (x : ObjectEvent) (xs : List ObjectEvent) (b : Bool)
    → (x.object == object) ≡ b
    → ((k : ℕ) → slice_get (lines_from object (line + 1) xs) k ≡ Some at
    → IsAfter object (line + 1) xs k at)
    → slice_get (if b then line ∷ lines_from object (line + 1) xs
    else lines_from object (line + 1) xs) k ≡ Some at
    → IsAfter object line (x ∷ xs) k at
later object line zero at x xs true is rest e =
    let all = events_of-cons object x xs in
    let one = events_of-cons object x [] in record {
      between = 0;
      at_is = let same : line ≡ at = cc in omega arith;
      within = omega arith;
      before = refl;
      here = one ∙ (ap (λ (b : Bool). if b then x.event ∷ [] else []) is
          ∙ (ap (λ (b : Bool). take 1 (if b then x.event ∷ events_of object xs
          else events_of object xs)) (sym is)
          ∙ ap (take 1) (sym all)));
    }
later object line (suc k) at x xs true is rest e =
    let less = rest k e in
    let all = events_of-cons object x xs
    ∙ ap (λ (b : Bool). if b then x.event ∷ events_of object xs else events_of object xs) is in
    let some = λ (n : ℕ). events_of-cons object x (take n xs)
    ∙ ap (λ (b : Bool). if b then x.event ∷ events_of object (take n xs)
    else events_of object (take n xs)) is in record {
      between = suc less.between;
      at_is = omega (arith, less.at_is);
      within = omega (arith, less.within);
      before = some less.between ∙ (ap (λ (l : List StreamEvent). x.event ∷ l) less.before
          ∙ ap (take (suc k)) (sym all));
      here = some (suc less.between) ∙ (ap (λ (l : List StreamEvent). x.event ∷ l) less.here
          ∙ ap (take (suc (suc k))) (sym all));
    }
later object line k at x xs false is rest e =
    let less = rest k e in
    let all = events_of-cons object x xs
    ∙ ap (λ (b : Bool). if b then x.event ∷ events_of object xs else events_of object xs) is in
    let some = λ (n : ℕ). events_of-cons object x (take n xs)
    ∙ ap (λ (b : Bool). if b then x.event ∷ events_of object (take n xs)
    else events_of object (take n xs)) is in record {
      between = suc less.between;
      at_is = omega (arith, less.at_is);
      within = omega (arith, less.within);
      before = some less.between ∙ (less.before ∙ ap (take k) (sym all));
      here = some (suc less.between) ∙ (less.here ∙ ap (take (suc k)) (sym all));
    }

pub is_after : (object line : ℕ) (events : List ObjectEvent) (k at : ℕ)
    → slice_get (lines_from object line events) k ≡ Some at → IsAfter object line events k at
is_after object line [] k at e = absurd cc
is_after object line (x ∷ xs) k at e =
    later object line k at x xs (x.object == object) refl
    (λ (n : ℕ). is_after object (line + 1) xs n at) e

-- the event at an index of an object's events is on its line
pub on_line : (said : Said) (object k at : ℕ)
    → slice_get (lines_of object said.events) k ≡ Some at → IsOnLine said object (suc k) at
on_line said object k at e =
    let a = is_after object (head_lines + 1) said.events k at e in
    let before : (at - 1) - head_lines ≡ a.between = omega (arith, a.at_is) in
    let here : at - head_lines ≡ suc a.between = omega (arith, a.at_is) in
    let index : suc k - 1 ≡ k = omega arith in (
      ap (λ (n : ℕ). events_of object (take n said.events)) before
          ∙ (a.before ∙ ap (λ (n : ℕ). take n (events_of object said.events)) (sym index)),
      ap (λ (n : ℕ). events_of object (take n said.events)) here ∙ a.here,
    )

-- the lines of an object's events were read
pub line_within : (said : Said) (object k at : ℕ)
    → slice_get (lines_of object said.events) k ≡ Some at → at ≤ length said.events + head_lines
line_within said object k at e =
    let a = is_after object (head_lines + 1) said.events k at e in omega (arith, a.at_is, a.within)

-- an object whose calls have a legal order has one on the first lines
pub legal_before : (said : Said) (object lines : ℕ) → IsLegal said object
    → IsLegalOn said object lines
legal_before said object lines legal =
    prefixes_have_one (kind_spec said.kind) (events_on said object lines)
    (events_of object (drop (lines - head_lines) said.events))
    (subst (HasLegalStreamOrder (kind_spec said.kind))
    (ap (events_of object) (sym (take-append-drop (lines - head_lines) said.events))
    ∙ events_of-append object (take (lines - head_lines) said.events)
    (drop (lines - head_lines) said.events)) legal)

-- the first ones of a list in two parts
pub first_of_first : {X : Type 0} (n m : ℕ) (xs : List X) → n ≤ m
    → take m xs ≡ take n xs ++ drop n (take m xs)
first_of_first n m xs less =
    sym (take-append-drop n (take m xs))
    ∙ ap (λ l. l ++ drop n (take m xs)) (take-take n m xs less)

-- an object whose calls have a legal order on the first lines has one on fewer
pub legal_on_fewer : (said : Said) (object fewer lines : ℕ) → fewer ≤ lines
    → IsLegalOn said object lines → IsLegalOn said object fewer
legal_on_fewer said object fewer lines less legal =
    let n = fewer - head_lines in
    let m = lines - head_lines in
    let within : fewer - head_lines ≤ lines - head_lines = omega (arith, less) in
    prefixes_have_one (kind_spec said.kind) (events_on said object fewer)
    (events_of object (drop n (take m said.events)))
    (subst (HasLegalStreamOrder (kind_spec said.kind))
    (ap (events_of object) (first_of_first n m said.events within)
    ∙ events_of-append object (take n said.events) (drop n (take m said.events))) legal)
