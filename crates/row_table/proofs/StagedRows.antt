-- Whole rows that are staged, in each region, and when they may be.
use Rattle.std.proofs.Common.{◌≡◌, ℕ, ◌+◌, ◌<◌, ◌≤◌, true, List, [], ◌∷◌, ◌++◌, length, slice_index, sym, ap, subst, ◌∙◌, arith, IsTrue, inl, inr, eq-eqb}
use Rattle.std.proofs.lemmas.Bool.{and_from, cases_lt}
use Rattle.book_base.specs.OperationWord.{low_of, high_of, joined}
use Rattle.world_core.specs.declared.region.Region.{Region}
use Rattle.world_core.specs.declared.region.Region.TheVariants.{N, M}
use Rattle.world_core.specs.Shape.{Shape}
use Rattle.world_core.specs.Layout.{places}
use Rattle.world_core.specs.Local.{Phase, Announcing, Publishing, Local, Staged}
use Rattle.world_core.specs.Event.{Stage, Announce, is_staging, are_staged, is_row_staged, staged_at, is_enabled, local_after}
use Rattle.world_core.specs.Agreement.{HasPhase, unpublished_calls}
use Rattle.world_core.specs.Calls.{IsLocalOf}
use Rattle.world_laws.proofs.Locals.{locals_have_phases}
use Rattle.row_table.specs.Staging.{staged_from, with_staged, local_announced, MayPublish}
use Rattle.row_table.proofs.Staged.{kept, covered, below, all_staged}
use Rattle.row_table.proofs.Due.{stage_same, may_stage_word, due_in_view, due_in_M}

-- A word that may be staged at a place of a row may be so after more of the row is staged.
pub may_still : (s : Shape) (me : ℕ) (l m : Local) (staged : List Staged) (region : Region)
    (place x : ℕ) → m ≡ with_staged l staged
    → IsTrue (is_enabled s me l (Stage region place x))
    → IsTrue (is_enabled s me m (Stage region place x))
may_still s me l m staged region place x is may =
    subst (λ (k : Local). IsTrue (is_enabled s me k (Stage region place x))) (sym is)
    (stage_same s me l staged region place x ∙ may)

-- What is staged of a row of N with these words of an operation and the entries of a cut.
abbrev pub staged_N : ℕ → ℕ → List ℕ → List Staged → List Staged
staged_N low high cut staged = staged_from 2 cut
    (record { place = 1; word = high } ∷ record { place = 0; word = low } ∷ staged)

-- The whole row of N is then staged, where the cut has one entry for each caller.
pub row_N : (n : ℕ) (l : Local) (low high : ℕ) (cut : List ℕ) → l.phase ≡ Announcing
    → length cut ≡ n → is_row_staged n (with_staged l (staged_N low high cut l.staged)) N ≡ true
row_N n l low high cut phase wide =
    and_from (is_staging l.phase N) (are_staged (staged_N low high cut l.staged) (places n N))
    (ap (λ (p : Phase). is_staging p N) phase)
    (all_staged (staged_N low high cut l.staged) (places n N)
    (λ q few. covered 0 (low ∷ high ∷ cut) l.staged q (omega arith) (omega (arith, few, wide))))

-- The announcement of the row of N is that of the operation whose words are staged.
pub announced_N : (n : ℕ) (l : Local) (op low high : ℕ) (cut : List ℕ) → low ≡ low_of op
    → high ≡ high_of op
    → local_after n (with_staged l (staged_N low high cut l.staged)) Announce
    ≡ local_announced n op l
announced_N n l op low high cut is_low is_high =
    let staged : List Staged =
    record { place = 1; word = high } ∷ record { place = 0; word = low } ∷ l.staged in
    let at_0 : staged_at (staged_N low high cut l.staged) 0 ≡ low_of op =
    below 2 cut staged 0 (omega arith) ∙ is_low in
    let at_1 : staged_at (staged_N low high cut l.staged) 1 ≡ high_of op =
    below 2 cut staged 1 (omega arith) ∙ is_high in
    let whole : joined (low_of op) (high_of op) ≡ op = omega arith in
    ap (λ (o : ℕ). record (local_after n l Announce) { operations = l.operations ++ o ∷ [] })
    ((λ i. joined (at_0 i) (at_1 i)) ∙ whole)

-- What is staged of a row of M with a reply, the entries of a view, and those of a cut from a place
-- on.
abbrev pub staged_M : ℕ → ℕ → List ℕ → List ℕ → List Staged → List Staged
staged_M first reply view cut staged =
    staged_from first cut (staged_from 1 view (record { place = 0; word = reply } ∷ staged))

-- The whole row of M is then staged, where the view and the cut each have one entry for each caller
-- and the cut follows the view.
pub row_M : (n first : ℕ) (l : Local) (reply : ℕ) (view cut : List ℕ) → l.phase ≡ Publishing
    → first ≡ 1 + length view → length view ≡ n → length cut ≡ n
    → is_row_staged n (with_staged l (staged_M first reply view cut l.staged)) M ≡ true
row_M n first l reply view cut phase is_first view_wide wide =
    let staged : List Staged = staged_from 1 view (record { place = 0; word = reply } ∷ l.staged) in
    and_from (is_staging l.phase M)
    (are_staged (staged_M first reply view cut l.staged) (places n M))
    (ap (λ (p : Phase). is_staging p M) phase)
    (all_staged (staged_M first reply view cut l.staged) (places n M)
    (λ q few. elim (cases_lt q first) [
      | inl low ↦ kept first cut staged q
          (covered 0 (reply ∷ view) l.staged q (omega arith) (omega (arith, low, is_first)))
      | inr past ↦ covered first cut staged q past (omega (arith, few, is_first, view_wide, wide))
    ]))

-- A caller that is publishing, in a reachable world, has published fewer records than the cap.
pub row_left : (s : Shape) (i : ℕ) (l : Local) → IsLocalOf s i l → l.phase ≡ Publishing
    → l.published < s.cap
row_left s i l (locals, together, low, is) phase =
    let laws = locals_have_phases s locals together in
    let has : HasPhase l = subst HasPhase is (laws.1 i low) in
    let few : l.announced ≤ s.cap =
    subst (λ (m : Local). m.announced ≤ s.cap) is (laws.2 i N low) in
    let one : unpublished_calls l.phase ≡ 1 = ap unpublished_calls phase in
    omega (arith, few, has.announced, one)

module _ (s : Shape) (me : ℕ) (l : Local) (reply : ℕ) (view cut : List ℕ)
    (may : MayPublish s.callers reply view cut l) (row : l.published < s.cap) where
  phase_M : is_staging l.phase M ≡ true
  phase_M = ap (λ (p : Phase). is_staging p M) may.phase

  -- The reply may be staged in a row of M whose record the caller may publish.
  pub reply_may : IsTrue (is_enabled s me l (Stage M 0 reply))
  reply_may = may_stage_word s me l M 0 reply phase_M row (omega arith)
      (eq-eqb reply (slice_index l.replies l.published) (sym may.reply_is))

  -- Each entry of the view may be staged in that row.
  pub view_may : (j : ℕ) → j < length view
      → IsTrue (is_enabled s me l (Stage M (1 + j) (slice_index view j)))
  view_may j low =
      may_stage_word s me l M (1 + j) (slice_index view j) phase_M row
      (omega (arith, low, may.view_wide))
      (due_in_view s.callers l view j (omega (arith, low, may.view_wide)) may.view_is)

  -- Each entry of the cut may be staged in that row.
  pub entry_may_M : (j : ℕ) → j < length cut
      → IsTrue (is_enabled s me l (Stage M (1 + s.callers + j) (slice_index cut j)))
  entry_may_M j low = may_stage_word s me l M (1 + s.callers + j) (slice_index cut j) phase_M row
      (omega (arith, low, may.wide)) (due_in_M s.callers l cut j may.embeds)
