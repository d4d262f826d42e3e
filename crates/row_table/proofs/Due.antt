-- Which words belong at the places of a row under way.
use Rattle.std.proofs.Common.{◌≡◌, ℕ, suc, ◌+◌, ◌-◌, ◌<◌, true, ◌&&◌, nat_lt, List, [], Option, Some, slice_index, slice_index_or, refl, sym, ap, ◌∙◌, arith, IsTrue, eq-eqb}
use Rattle.std.proofs.lemmas.Bool.{and_from, lt-ltb, le-ltb, cond-true, cond-false}
use Rattle.world_core.specs.declared.region.Region.{Region}
use Rattle.world_core.specs.declared.region.Region.TheVariants.{N, M}
use Rattle.world_core.specs.Shape.{Shape}
use Rattle.world_core.specs.Layout.{Content, Low, High, Reply, View_entry, Embedded_entry, places, content}
use Rattle.world_core.specs.Local.{Local, Staged, own_count}
use Rattle.world_core.specs.Event.{Stage, is_staging, is_due, is_entry_to_embed, is_enabled}
use Rattle.row_table.specs.Staging.{with_staged}

-- which word belongs at a place of a row doesn't depend on what was staged of it
due_same : (l : Local) (staged : List Staged) (c : Content) (x : ℕ)
    → is_due (with_staged l staged) c x ≡ is_due l c x
due_same l staged Low x = refl
due_same l staged High x = refl
due_same l staged Reply x = refl
due_same l staged (View_entry j) x = refl
due_same l staged (Embedded_entry region j) x = refl

count_same : (l : Local) (staged : List Staged) (region : Region)
    → own_count (with_staged l staged) region ≡ own_count l region
count_same l staged N = refl
count_same l staged M = refl

-- Whether a word may be staged at a place doesn't depend on what was staged.
pub stage_same : (s : Shape) (me : ℕ) (l : Local) (staged : List Staged) (region : Region)
    (place x : ℕ)
    → is_enabled s me (with_staged l staged) (Stage region place x)
    ≡ is_enabled s me l (Stage region place x)
stage_same s me l staged region place x = λ i.
    is_staging l.phase region && (nat_lt (count_same l staged region i) s.cap && (nat_lt place
    (places s.callers region) && due_same l staged (content s.callers region place) x i))

-- A word may be staged at a place of a row where the phase stages its region, the row exists, and
-- the word belongs at this place, which the row has.
pub may_stage_word : (s : Shape) (me : ℕ) (l : Local) (region : Region) (place x : ℕ)
    → is_staging l.phase region ≡ true → own_count l region < s.cap
    → place < places s.callers region → is_due l (content s.callers region place) x ≡ true
    → IsTrue (is_enabled s me l (Stage region place x))
may_stage_word s me l region place x phase row fits due =
    and_from (is_staging l.phase region) (nat_lt (own_count l region) s.cap
    && (nat_lt place (places s.callers region) && is_due l (content s.callers region place) x))
    phase
    (and_from (nat_lt (own_count l region) s.cap)
    (nat_lt place (places s.callers region) && is_due l (content s.callers region place) x)
    (lt-ltb (own_count l region) s.cap row)
    (and_from (nat_lt place (places s.callers region)) (is_due l (content s.callers region place) x)
    (lt-ltb place (places s.callers region) fits) due))

-- The entry of a caller in the view of a record belongs at its place of the record's row.
pub due_in_view : (n : ℕ) (l : Local) (view : List ℕ) (j : ℕ) → j < n
    → slice_index_or l.views l.published [] ≡ view
    → is_due l (content n M (1 + j)) (slice_index view j) ≡ true
due_in_view n l view j low e =
    ap (λ (p : ℕ). is_due l (content n M p) (slice_index view j))
    (let q : 1 + j ≡ suc j = omega arith in q)
    ∙ ap (λ (c : Content). is_due l c (slice_index view j))
    (cond-true (nat_lt j n) (View_entry j) (Embedded_entry M (j - n)) (lt-ltb j n low))
    ∙ eq-eqb (slice_index view j) (slice_index (slice_index_or l.views l.published []) j)
    (ap (λ (v : List ℕ). slice_index v j) (sym e))

-- The entry of a caller in the cut that a row of M is to embed belongs at its place of the row.
pub due_in_M : (n : ℕ) (l : Local) (cut : List ℕ) (j : ℕ) → l.to_embed ≡ Some cut
    → is_due l (content n M (1 + n + j)) (slice_index cut j) ≡ true
due_in_M n l cut j e =
    ap (λ (p : ℕ). is_due l (content n M p) (slice_index cut j))
    (let q : 1 + n + j ≡ suc (n + j) = omega arith in q)
    ∙ ap (λ (c : Content). is_due l c (slice_index cut j)) (cond-false (nat_lt (n + j) n)
    (View_entry (n + j)) (Embedded_entry M (n + j - n)) (le-ltb (n + j) n (omega arith)))
    ∙ ap (λ (i : ℕ). is_entry_to_embed l.to_embed i (slice_index cut j))
    (let q : n + j - n ≡ j = omega arith in q)
    ∙ ap (λ (o : Option (List ℕ)). is_entry_to_embed o j (slice_index cut j)) e
    ∙ eq-eqb (slice_index cut j) (slice_index cut j) refl
