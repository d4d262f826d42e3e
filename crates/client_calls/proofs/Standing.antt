-- What holds of a client in one state holds in an equal state, and with an equal sheet and an equal
-- pass.
use Rattle.std.proofs.Common.{◌≡◌, ◌∙◌, refl, sym, subst, ap, ℕ, List, length, vec_capacity, arith}
use Rattle.std.specs.Prelude.{Option}
use Rattle.book_base.specs.declared.call.Record.{Record}
use Rattle.book_base.specs.SeqSpec.{SeqSpec}
use Rattle.world_core.specs.Shape.{Meaning}
use Rattle.world_core.specs.Local.{Local, Object_step}
use Rattle.world_core.specs.CallSteps.{all_steps_of}
use Rattle.report_lines.specs.declared.line.LineEnd.{LineEnd}
use Rattle.report_lines.specs.declared.line.Line.{Line}
use Rattle.row_table.specs.declared.rows.Rows.{Rows}
use Rattle.row_table.specs.declared.caller.Caller.{Caller}
use Rattle.row_table.specs.Callers.{who_of, local_with, IsCallerOf, IsStill}
use Rattle.row_gather.specs.Gathered.{IsGatheredBy}
use Rattle.drv_wrapper.specs.declared.announced.Announced.{Announced}
use Rattle.drv_wrapper.specs.declared.answered.Answered.{Answered}
use Rattle.drv_wrapper.specs.declared.viewed.Viewed.{Viewed}
use Rattle.enforcer.specs.declared.published_call.Published.{Published}
use Rattle.client_calls.specs.declared.stand.CallerState.{CallerState}
use Rattle.client_calls.specs.declared.stand.CallerState.TheVariants as at
use Rattle.client_calls.specs.declared.sheet.Sheet.{Sheet}
use Rattle.client_calls.specs.Asking.{Fits, PassCount, FitsCaller}
use Rattle.client_calls.specs.Stands.{caller_at, local_at_stand, phases_at, GoesOnFrom}
use Rattle.client_calls.specs.Course.{HasCome, Counts}
use Rattle.client_calls.specs.Clients.{HasCapacity}
use Rattle.client_calls.specs.Keeping.{KeepsStanding, IsSameSheet}
use Rattle.client_calls.specs.declared.client.Client.{Client}

pub come_at : {P : Type 0} {meaning : P → ℕ → ℕ → Meaning} {r : Rows P} {says : ℕ → Local → Record
    → List ℕ → LineEnd → Type 0} {who : ℕ} {operations : List ℕ} {own : List Line}
    (s t : CallerState P)
    → s ≡ t → HasCome meaning r says who operations s own
    → HasCome meaning r says who operations t own
come_at {P} {meaning} {r} {says} {who} {operations} {own} s t is h =
    subst (λ (z : CallerState P). HasCome meaning r says who operations z own) is h

pub counted_at : {P : Type 0} (count : Option PassCount) (operations : List ℕ) (own : List Line)
    (s t : CallerState P) → s ≡ t → Counts count operations s own → Counts count operations t own
counted_at {P} count operations own s t is h =
    subst (λ (z : CallerState P). Counts count operations z own) is h

pub fits_at : {P T : Type 0} (fits : Fits T) (pass : T) (s t : CallerState P) → s ≡ t
    → FitsCaller fits pass (caller_at s) → FitsCaller fits pass (caller_at t)
fits_at {P} fits pass s t is h =
    subst (λ (z : CallerState P). FitsCaller fits pass (caller_at z)) is h

-- a pass that fits a caller still fits it where the caller has the same object steps
pub fits_stays : {P T : Type 0} (meaning : P → ℕ → ℕ → Meaning) (r : Rows P) (fits : Fits T)
    (pass : T) (c d : Caller P) → IsCallerOf meaning r c → IsStill meaning r c d
    → all_steps_of (local_with d) ≡ all_steps_of (local_with c) → FitsCaller fits pass c
    → FitsCaller fits pass d
fits_stays meaning r fits pass c d was still steps h =
    let callers : d.callers ≡ c.callers = still.0.callers ∙ sym was.callers in
    let cap : d.cap ≡ c.cap = still.0.cap ∙ sym was.cap in
    subst (λ (n : ℕ). fits n d.cap pass (who_of d) (all_steps_of (local_with d))) (sym callers)
    (subst (λ (n : ℕ). fits c.callers n pass (who_of d) (all_steps_of (local_with d))) (sym cap)
    (subst (λ (i : ℕ). fits c.callers c.cap pass i (all_steps_of (local_with d))) (sym still.1)
    (subst (λ (own : List Object_step). fits c.callers c.cap pass (who_of c) own) (sym steps) h)))

-- a caller that isn't halted is idle, or its call is announced, answered, viewed or published
pub stands_before : {P : Type 0} (s : CallerState P) → GoesOnFrom s
    → ((c : Caller P) → s ≡ at.Idle c → ⊥)
    → ((a : Announced P) → s ≡ at.Announced a → ⊥) → ((a : Answered P) → s ≡ at.Answered a → ⊥)
    → ((v : Viewed P) → s ≡ at.Viewed v → ⊥) → ((p : Published P) → s ≡ at.Published p → ⊥) → ⊥
stands_before (at.Idle c) goes idle announced answered viewed published = idle c refl
stands_before (at.Announced a) goes idle announced answered viewed published = announced a refl
stands_before (at.Answered a) goes idle announced answered viewed published = answered a refl
stands_before (at.Viewed v) goes idle announced answered viewed published = viewed v refl
stands_before (at.Published p) goes idle announced answered viewed published = published p refl
stands_before (at.Halted c) goes idle announced answered viewed published = goes
stands_before (at.Unjudged u) goes idle announced answered viewed published = goes

-- what holds of one state and one sheet holds of equal ones
module _ {P E : Type 0} (s t : CallerState P) (h k : Sheet E) (stand_is : s ≡ t)
    (sheet_is : h ≡ k) where
  pub phases_with : (phases : ℕ) → phases_at (length k.lines.items) t ≡ phases
      → phases_at (length h.lines.items) s ≡ phases
  phases_with phases is = ap (λ (x : Sheet E). phases_at (length x.lines.items) s) sheet_is
      ∙ ap (λ (z : CallerState P). phases_at (length k.lines.items) z) stand_is ∙ is

  pub come_with : (meaning : P → ℕ → ℕ → Meaning) (r : Rows P)
      (says : SeqSpec → ℕ → Local → Record → List ℕ → LineEnd → Type 0) (object : E → SeqSpec)
      → HasCome meaning r (says (object k.ending)) k.who k.operations.now t k.lines.items
      → HasCome meaning r (says (object h.ending)) h.who h.operations.now s h.lines.items
  come_with meaning r says object come =
      subst (λ (z : CallerState P). HasCome meaning r
      (says (object h.ending)) h.who h.operations.now z h.lines.items) (sym stand_is)
      (subst (λ (x : Sheet E). HasCome meaning r
      (says (object x.ending)) x.who x.operations.now t x.lines.items) (sym sheet_is) come)

  pub counted_with : {T : Type 0} (p q : T) → p ≡ q → (count : T → Option PassCount)
      → Counts (count q) k.operations.now t k.lines.items
      → Counts (count p) h.operations.now s h.lines.items
  counted_with {T} p q pass_is count counted =
      subst (λ (z : CallerState P). Counts (count p) h.operations.now z h.lines.items)
      (sym stand_is)
      (subst (λ (x : Sheet E). Counts (count p) x.operations.now t x.lines.items) (sym sheet_is)
      (subst (λ (x : T). Counts (count x) k.operations.now t k.lines.items) (sym pass_is) counted))

  pub fits_with : {T : Type 0} (fits : Fits T) (p q : T) → p ≡ q → FitsCaller fits q (caller_at t)
      → FitsCaller fits p (caller_at s)
  fits_with {T} fits p q pass_is h =
      subst (λ (z : CallerState P). FitsCaller fits p (caller_at z)) (sym stand_is)
      (subst (λ (x : T). FitsCaller fits x (caller_at t)) (sym pass_is) h)

  pub kept_with : ∥ IsGatheredBy (local_at_stand t) k.gathered ∥₁
      → ∥ IsGatheredBy (local_at_stand s) h.gathered ∥₁
  kept_with kept =
      subst (λ (z : CallerState P). ∥ IsGatheredBy (local_at_stand z) h.gathered ∥₁) (sym stand_is)
      (subst (λ (x : Sheet E). ∥ IsGatheredBy (local_at_stand t) x.gathered ∥₁) (sym sheet_is) kept)

-- What stands of an order by one sheet stands by an equal one.
pub standing_with : {E : Type 0} (h k : Sheet E) → h ≡ k → (object : E → SeqSpec)
    → KeepsStanding (object k.ending) k → KeepsStanding (object h.ending) h
standing_with {E} h k is object stands =
    subst (λ (x : Sheet E). KeepsStanding (object x.ending) x) (sym is) stands

-- An equal sheet is the same sheet, and a sheet that equals a later one is later too.
pub same_sheet : {E : Type 0} (object : E → SeqSpec) (h k : Sheet E) → h ≡ k
    → IsSameSheet object k h
same_sheet {E} object h k is = record {
  who = ap (λ (x : Sheet E). x.who) is;
  operations = ap (λ (x : Sheet E). x.operations.now) is;
  lines = omega (arith, ap (λ (x : Sheet E). vec_capacity x.lines) is);
  judges = ap (λ (x : Sheet E). object x.ending) is;
}

pub same_with : {E : Type 0} (object : E → SeqSpec) (h k first : Sheet E) → h ≡ k
    → IsSameSheet object first k → IsSameSheet object first h
same_with {E} object h k first is same =
    subst (λ (x : Sheet E). IsSameSheet object first x) (sym is) same

-- A client that has capacity for its calls has it at a later moment too.
pub capacity_later : {P T E : Type 0} (object : E → SeqSpec) (r : Rows P) (c d : Client P T E)
    → IsSameSheet object c.sheet d.sheet → HasCapacity r c → HasCapacity r d
capacity_later object r c d same capacity =
    let operations = ap (λ (o : List ℕ). length o) same.operations in
    record {
      rows = omega (arith, operations, capacity.rows);
      lines = omega (arith, operations, same.lines, capacity.lines);
    }
