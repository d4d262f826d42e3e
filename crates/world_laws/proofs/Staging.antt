-- A stage keeps the agreement of its caller's local with the words.
use Rattle.std.proofs.Common.{◌≡◌, ℕ, ◌<◌, ◌≤◌, Bool, true, false, ◌||◌, ◌==◌, List, ◌∷◌, length, slice_index, refl, sym, ◌∙◌, subst, arith, IsTrue, inl, inr}
use Rattle.std.proofs.lemmas.List.{get_or-set_other, get_or-set_same}
use Rattle.std.proofs.lemmas.Bool.{eqb-true, eqb-false, cases_Bool, cond-true, cond-false, eq-eqb}
use Rattle.world_core.specs.declared.region.Region.{Region}
use Rattle.world_core.specs.declared.region.Region.TheVariants.{N, M}
use Rattle.world_core.specs.Layout.{places, count_index, place_index, content}
use Rattle.world_core.specs.Shape.{Shape, words_of}
use Rattle.world_core.specs.Local.{Phase, Announcing, Asking, Viewing, Publishing, Judging, Staged, Local, own_count}
use Rattle.world_core.specs.Event.{Stage, is_enabled, words_after, local_after, is_staging, is_staged, staged_at, is_due}
use Rattle.world_core.specs.Agreement.{Agrees, IsInRow, IsStagedIn}
use Rattle.world_core.proofs.Indices.{count_or_row, row_apart, row_within}
use Rattle.world_laws.proofs.Words.{MayStage, may_stage, one_staged, row_kept, own_few}

-- a phase that stages allows any staged words
staging_some : (phase : Phase) (r : Region) (staged more : List Staged) → is_staging phase r ≡ true
    → IsStagedIn phase staged → IsStagedIn phase more
staging_some Announcing r staged more a b = tt
staging_some Publishing r staged more a b = tt
staging_some Asking N staged more a b = absurd cc
staging_some Asking M staged more a b = absurd cc
staging_some Viewing N staged more a b = absurd cc
staging_some Viewing M staged more a b = absurd cc
staging_some Judging N staged more a b = absurd cc
staging_some Judging M staged more a b = absurd cc

-- The words at the place of a staged word, and elsewhere in the row under way.
module _ (s : Shape) (me : ℕ) (l : Local) (words : List ℕ) (q : Region) (t x : ℕ)
    (low : me < s.callers) (long : words_of s ≤ length words) (m : MayStage s l q t x) where
  abbrev new_words : List ℕ
  new_words = words_after s me l words (Stage q t x)

  abbrev new_local : Local
  new_local = local_after s.callers l (Stage q t x)

  staged_here : (t == t) ≡ true → IsInRow s new_words me new_local q t
  staged_here same =
      record {
        row = m.row;
        place_fits = m.place;
        stands =
            get_or-set_same words (place_index s.callers s.cap q me (own_count l q) t) x 0
            (omega (arith, row_within s.callers s.cap q me (own_count l q) t low m.row m.place))
            ∙ sym (cond-true (t == t) x (staged_at l.staged t) same);
        due = subst (λ (y : ℕ). is_due l (content s.callers q t) y ≡ true)
            (sym (cond-true (t == t) x (staged_at l.staged t) same)) m.due;
      }

  staged_away : (r : Region) (p : ℕ) → (t == p) ≡ false → IsInRow s words me l r p
      → IsInRow s new_words me new_local r p
  staged_away r p away here =
      record {
        row = here.row;
        place_fits = here.place_fits;
        stands =
            get_or-set_other words (place_index s.callers s.cap q me (own_count l q) t)
            (place_index s.callers s.cap r me (own_count l r) p) x 0
            (λ e. let same = row_apart s.callers s.cap r q me me (own_count l r)
            (own_count l q) p t here.row m.row here.place_fits m.place e in
            eqb-false t p away (sym same.place))
            ∙ here.stands
            ∙ sym (cond-false (t == p) x (staged_at l.staged p) away);
        due = subst (λ (y : ℕ). is_due l (content s.callers r p) y ≡ true)
            (sym (cond-false (t == p) x (staged_at l.staged p) away)) here.due;
      }

at_stage : (s : Shape) (me : ℕ) (l : Local) (words : List ℕ) (q : Region) (t x : ℕ) → me < s.callers
    → words_of s ≤ length words → MayStage s l q t x
    → (r : Region) (p : ℕ) → q ≡ r → t ≡ p → IsInRow s (words_after s me l words (Stage q t x)) me
    (local_after s.callers l (Stage q t x)) r p
at_stage s me l words q t x low long m r p region place =
    let at : IsInRow s (words_after s me l words (Stage q t x)) me
    (local_after s.callers l (Stage q t x)) q t =
    staged_here s me l words q t x low long m (eq-eqb t t refl) in
    subst (λ (u : Region). IsInRow s (words_after s me l words (Stage q t x)) me
    (local_after s.callers l (Stage q t x)) u p) region
    (subst (λ (y : ℕ). IsInRow s (words_after s me l words (Stage q t x)) me
    (local_after s.callers l (Stage q t x)) q y) place at)

-- a stage keeps the agreement of its own caller
pub stage_agrees : (s : Shape) (me : ℕ) (l : Local) (words : List ℕ) (q : Region) (t x : ℕ)
    → me < s.callers → words_of s ≤ length words
    → IsTrue (is_enabled s me l (Stage q t x)) → Agrees s words me l
    → Agrees s (words_after s me l words (Stage q t x)) me (local_after s.callers l (Stage q t x))
stage_agrees s me l words q t x low long may h =
    let m = may_stage s me l q t x may in
    let kept : (r : Region) (k p : ℕ) → k < s.cap → p < places s.callers r → k < own_count l r
    → slice_index (words_after s me l words (Stage q t x)) (place_index s.callers s.cap r me k p)
    ≡ slice_index words (place_index s.callers s.cap r me k p) =
    λ r k p a b below. row_kept s me l words (Stage q t x) low may r me k p low a b (λ _. below) in
    record {
      counts = λ r.
          get_or-set_other words (place_index s.callers s.cap q me (own_count l q) t)
          (count_index s.callers r me) x 0
          (count_or_row s.callers s.cap r q me me (own_count l q) t low)
          ∙ h.counts r;
      few = h.few;
      rows = λ r k p below fits. kept r k p (omega (arith, own_few s words me l h r)) fits below
          ∙ h.rows r k p below fits;
      staged = λ r p staging staged. elim (cases_Bool (t == p)) [
        | inl here ↦ at_stage s me l words q t x low long m r p
            (one_staged l.phase q r m.staging staging) (eqb-true t p here)
        | inr away ↦ staged_away s me l words q t x low long m r p away (h.staged r p staging
            (subst (λ (b : Bool). (b || is_staged l.staged p) ≡ true) away staged))
      ];
      staged_in = staging_some l.phase q l.staged
          (record { place = t; word = x } ∷ l.staged) m.staging h.staged_in;
      kept_in = h.kept_in;
      phase =
          record {
            announced = h.phase.announced;
            operations = h.phase.operations;
            replies = h.phase.replies;
            views = h.phase.views;
            seen = h.phase.seen;
            embedded_in_N = h.phase.embedded_in_N;
            embedded_in_M = h.phase.embedded_in_M;
            object_steps = h.phase.object_steps;
          };
      scan = h.scan;
    }
