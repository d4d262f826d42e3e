-- Which words an allowed event leaves: those of all other callers, and each row below its count.
use Rattle.std.proofs.Common.{◌≡◌, ◌≢◌, ℕ, ◌+◌, ◌<◌, ◌≤◌, true, nat_lt, List, slice_index, refl, sym, ap, ◌∙◌, arith, IsTrue}
use Rattle.std.proofs.lemmas.List.{get_or-set_other}
use Rattle.std.proofs.lemmas.Bool.{and_parts, ltb-true}
use Rattle.world_core.specs.declared.region.Region.{Region}
use Rattle.world_core.specs.declared.region.Region.TheVariants.{N, M}
use Rattle.world_core.specs.Layout.{places, count_index, place_index, object_index, content}
use Rattle.world_core.specs.Shape.{Shape}
use Rattle.world_core.specs.Local.{Phase, Announcing, Asking, Viewing, Publishing, Judging, Local, own_count}
use Rattle.world_core.specs.Event.{Event, Stage, Announce, Object, Look, Peek, Publish, is_enabled, words_after, is_staging, is_due}
use Rattle.world_core.specs.Agreement.{Agrees, HasPhase}
use Rattle.world_core.proofs.Indices.{count_apart, count_or_row, row_apart, count_or_object, row_or_object}

-- A stage is allowed to put the word x at place p of a row of the region r.
pub record MayStage (s : Shape) (l : Local) (r : Region) (p x : ℕ) : Type 0 where
  pub staging : is_staging l.phase r ≡ true
  pub row : own_count l r < s.cap
  pub place : p < places s.callers r
  pub due : is_due l (content s.callers r p) x ≡ true

pub may_stage : (s : Shape) (me : ℕ) (l : Local) (r : Region) (p x : ℕ)
    → IsTrue (is_enabled s me l (Stage r p x)) → MayStage s l r p x
may_stage s me l r p x h =
    let a = and_parts (is_staging l.phase r) _ h in
    let b = and_parts (nat_lt (own_count l r) s.cap) _ a.1 in
    let c = and_parts (nat_lt p (places s.callers r)) _ b.1 in
    record { staging = a.0; row = ltb-true _ _ b.0; place = ltb-true _ _ c.0; due = c.1 }

-- a phase stages one region
pub one_staged : (phase : Phase) (r q : Region) → is_staging phase r ≡ true
    → is_staging phase q ≡ true → r ≡ q
one_staged phase N N a b = refl
one_staged phase M M a b = refl
one_staged Announcing N M a b = absurd (cc)
one_staged Asking N M a b = absurd (cc)
one_staged Viewing N M a b = absurd (cc)
one_staged Publishing N M a b = absurd (cc)
one_staged Judging N M a b = absurd (cc)
one_staged Announcing M N a b = absurd (cc)
one_staged Asking M N a b = absurd (cc)
one_staged Viewing M N a b = absurd (cc)
one_staged Publishing M N a b = absurd (cc)
one_staged Judging M N a b = absurd (cc)

-- an event leaves each row word but those of its caller's row under way
pub row_kept : (s : Shape) (me : ℕ) (l : Local) (words : List ℕ) (e : Event) → me < s.callers
    → IsTrue (is_enabled s me l e)
    → (r : Region) (i k p : ℕ) → i < s.callers → k < s.cap → p < places s.callers r
    → (i ≡ me → k < own_count l r)
    → slice_index (words_after s me l words e) (place_index s.callers s.cap r i k p)
    ≡ slice_index words (place_index s.callers s.cap r i k p)
row_kept s me l words (Stage q t x) low may r i k p low' a b below =
    let m = may_stage s me l q t x may in
    get_or-set_other words (place_index s.callers s.cap q me (own_count l q) t)
    (place_index s.callers s.cap r i k p) x 0
    (λ e. let same = row_apart s.callers s.cap r q i me k (own_count l q) p t a m.row b m.place e in
    let row : k ≡ own_count l r = same.row ∙ ap (own_count l) (sym same.region) in
    omega (arith, below same.caller, row))
row_kept s me l words Announce low may r i k p low' a b below =
    get_or-set_other words (count_index s.callers N me) (place_index s.callers s.cap r i k p)
    (l.announced + 1) 0 (λ e. count_or_row s.callers s.cap N r me i k p low (sym e))
row_kept s me l words Publish low may r i k p low' a b below =
    get_or-set_other words (count_index s.callers M me) (place_index s.callers s.cap r i k p)
    (l.published + 1) 0 (λ e. count_or_row s.callers s.cap M r me i k p low (sym e))
row_kept s me l words (Object o) low may r i k p low' a b below =
    get_or-set_other words (object_index s.callers s.cap o.place)
    (place_index s.callers s.cap r i k p) o.new 0
    (row_or_object s.callers s.cap r i k p o.place low' a b)
row_kept s me l words (Look q j x o) low may r i k p low' a b below = refl
row_kept s me l words (Peek q j m t x) low may r i k p low' a b below = refl

-- an event leaves each count but its caller's
pub count_kept : (s : Shape) (me : ℕ) (l : Local) (words : List ℕ) (e : Event) → me < s.callers
    → (r : Region) (i : ℕ) → i < s.callers → i ≢ me
    → slice_index (words_after s me l words e) (count_index s.callers r i)
    ≡ slice_index words (count_index s.callers r i)
count_kept s me l words (Stage q t x) low r i a ne =
    get_or-set_other words (place_index s.callers s.cap q me (own_count l q) t)
    (count_index s.callers r i) x 0 (count_or_row s.callers s.cap r q i me (own_count l q) t a)
count_kept s me l words Announce low r i a ne =
    get_or-set_other words (count_index s.callers N me) (count_index s.callers r i)
    (l.announced + 1) 0 (λ e. ne (count_apart s.callers r N i me a low e).1)
count_kept s me l words Publish low r i a ne =
    get_or-set_other words (count_index s.callers M me) (count_index s.callers r i)
    (l.published + 1) 0 (λ e. ne (count_apart s.callers r M i me a low e).1)
count_kept s me l words (Object o) low r i a ne =
    get_or-set_other words (object_index s.callers s.cap o.place)
    (count_index s.callers r i) o.new 0 (count_or_object s.callers s.cap r i o.place a)
count_kept s me l words (Look q j x o) low r i a ne = refl
count_kept s me l words (Peek q j m t x) low r i a ne = refl

-- the number of published records is no more than that of announced calls
pub published_few : (l : Local) → HasPhase l → l.published ≤ l.announced
published_few l h = omega (arith, h.announced)

pub own_few : (s : Shape) (words : List ℕ) (i : ℕ) (l : Local) (h : Agrees s words i l) (r : Region)
    → own_count l r ≤ s.cap
own_few s words i l h N = h.few
own_few s words i l h M = omega (arith, h.few, published_few l h.phase)

-- an event of another caller keeps the agreement
pub others_agree : (s : Shape) (me : ℕ) (l : Local) (words : List ℕ) (e : Event) → me < s.callers
    → IsTrue (is_enabled s me l e)
    → (i : ℕ) (other : Local) → i < s.callers → i ≢ me → Agrees s words i other
    → Agrees s (words_after s me l words e) i other
others_agree s me l words e low may i other a ne h =
    record {
      counts = λ r. count_kept s me l words e low r i a ne ∙ h.counts r;
      few = h.few;
      rows = λ r k p below fits.
          row_kept s me l words e low may r i k p a (omega (arith, own_few s words i other h r))
          fits (λ same. absurd (ne same)) ∙ h.rows r k p below fits;
      staged = λ r p staging staged.
          let here = h.staged r p staging staged in
          record {
            row = here.row;
            place_fits = here.place_fits;
            stands = row_kept s me l words e low may r i (own_count other r) p a here.row
                here.place_fits (λ same. absurd (ne same)) ∙ here.stands;
            due = here.due;
          };
      staged_in = h.staged_in;
      kept_in = h.kept_in;
      phase = h.phase;
      scan = h.scan;
    }
