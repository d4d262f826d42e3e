-- An announcement and a publication keep the agreement of their caller's local with the words.
use Rattle.std.proofs.Common.{◌≡◌, ℕ, zero, suc, ◌+◌, ◌-◌, ◌^◌, ◌<◌, ◌≤◌, Bool, true, false, nat_lt, List, [], ◌∷◌, length, Option, Some, None, slice_index, slice_index_or, refl, sym, ap, ◌∙◌, subst, arith, IsTrue, if◌then◌else◌, inl, inr, length-append}
use Rattle.std.proofs.lemmas.List.{get_or-set_other, get_or-set_same, get_or_append_left, get_or_push}
use Rattle.std.proofs.lemmas.Bool.{and_parts, ltb-true, eqb-true, cases_eq}
use Rattle.std.specs.Option.{unwrap_or}
use Rattle.book_base.specs.OperationWord.{low_of, high_of}
use Rattle.world_core.specs.declared.region.Region.{Region}
use Rattle.world_core.specs.declared.region.Region.TheVariants.{N, M}
use Rattle.world_core.specs.Layout.{places, count_index, place_index, content, Reply, View_entry, Embedded_entry}
use Rattle.world_core.specs.Shape.{Shape, words_of}
use Rattle.world_core.specs.Local.{Phase, Announcing, Asking, Viewing, Publishing, Judging, Staged, Local, own_count, word_of}
use Rattle.world_core.specs.Event.{Announce, Publish, is_enabled, words_after, local_after, cut_to_embed, is_staging, is_staged, are_staged, staged_at, staged_operation, is_due, is_entry_to_embed, is_row_staged, is_word}
use Rattle.world_core.specs.Agreement.{Agrees, IsInRow, HasPhase}
use Rattle.world_core.proofs.Indices.{count_apart, count_or_row, count_within}
use Rattle.world_laws.proofs.RowWords.{SameRow, same_row, low_joined, high_joined}
use Rattle.world_laws.proofs.Words.{published_few}

-- only `Announcing` stages a row of N, and only `Publishing` one of M
staging_N : (phase : Phase) → is_staging phase N ≡ true → phase ≡ Announcing
staging_N Announcing h = refl
staging_N Asking h = absurd cc
staging_N Viewing h = absurd cc
staging_N Publishing h = absurd cc
staging_N Judging h = absurd cc

staging_M : (phase : Phase) → is_staging phase M ≡ true → phase ≡ Publishing
staging_M Publishing h = refl
staging_M Announcing h = absurd cc
staging_M Asking h = absurd cc
staging_M Viewing h = absurd cc
staging_M Judging h = absurd cc

-- each place below a number is staged where all places below it are
staged_below : (staged : List Staged) (n p : ℕ) → are_staged staged n ≡ true → p < n
    → is_staged staged p ≡ true
staged_below staged zero p all below = absurd (omega arith)
staged_below staged (suc n) p all below =
    let parts = and_parts (is_staged staged n) (are_staged staged n) all in
    elim (cases_eq p n) [
      | inl here ↦ subst (λ (k : ℕ). is_staged staged k ≡ true) (sym here) parts.0
      | inr away ↦ staged_below staged n p parts.1 (omega arith)
    ]

-- a local whose row is staged has all its words in the row
pub row_staged : (s : Shape) (words : List ℕ) (i : ℕ) (l : Local) (r : Region)
    → IsTrue (is_row_staged s.callers l r) → Agrees s words i l
    → (p : ℕ) → p < places s.callers r → IsInRow s words i l r p
row_staged s words i l r whole h p fits =
    let parts = and_parts (is_staging l.phase r) (are_staged l.staged (places s.callers r)) whole in
    h.staged r p parts.0 (staged_below l.staged (places s.callers r) p parts.1 fits)

no_asking : (r : Region) → is_staging Asking r ≡ true → ⊥
no_asking N h = cc
no_asking M h = cc

no_judging : (r : Region) → is_staging Judging r ≡ true → ⊥
no_judging N h = cc
no_judging M h = cc

-- the counts after an announcement are those of its caller's local
pub announced_counts : (s : Shape) (me : ℕ) (l : Local) (words : List ℕ) → me < s.callers
    → words_of s ≤ length words → Agrees s words me l
    → (r : Region) → slice_index (words_after s me l words Announce) (count_index s.callers r me)
    ≡ own_count (local_after s.callers l Announce) r
announced_counts s me l words low long h N = get_or-set_same words (count_index s.callers N me)
    (l.announced + 1) 0 (omega (arith, count_within s.callers s.cap N me low))
announced_counts s me l words low long h M =
    get_or-set_other words (count_index s.callers N me) (count_index s.callers M me)
    (l.announced + 1) 0
    (λ e. let same : M ≡ N = (count_apart s.callers M N me me low low e).0 in cc)
    ∙ h.counts M

-- the entry that belongs in the row is that of the cut to embed
entry_to_embed : (kept : Option (List ℕ)) (j x : ℕ) → is_entry_to_embed kept j x ≡ true
    → x ≡ slice_index (unwrap_or kept []) j
entry_to_embed None j x h = absurd cc
entry_to_embed (Some cut) j x h = eqb-true x (slice_index cut j) h

-- the row of N that is announced has the words that belong to the new call
announced_word : (n : ℕ) (l : Local) (k p : ℕ) → HasPhase l → k ≡ l.announced
    → is_word (staged_at l.staged 0) ≡ true
    → is_due l (content n N p) (staged_at l.staged p) ≡ true
    → staged_at l.staged p ≡ word_of (local_after n l Announce) k (content n N p)
announced_word n l k zero h here low due =
    sym
    (ap low_of (get_or_push l.operations (staged_operation l.staged) 0 k (h.operations ∙ sym here))
    ∙ low_joined (staged_at l.staged 0) (staged_at l.staged 1)
    (ltb-true (staged_at l.staged 0) (2 ^ 64) low))
announced_word n l k (suc zero) h here low due =
    sym
    (ap high_of (get_or_push l.operations (staged_operation l.staged) 0 k (h.operations ∙ sym here))
    ∙ high_joined (staged_at l.staged 0) (staged_at l.staged 1)
    (ltb-true (staged_at l.staged 0) (2 ^ 64) low))
announced_word n l k (suc (suc j)) h here low due =
    entry_to_embed l.to_embed j (staged_at l.staged (suc (suc j))) due
    ∙ ap (λ (c : List ℕ). slice_index c j)
    (sym (get_or_push l.embedded_in_N (cut_to_embed l) [] k (h.embedded_in_N ∙ sym here)))

-- the rows of N before the announced one are as they were
announced_before : (n : ℕ) (l : Local) (r : Region) (k : ℕ) → HasPhase l → k < l.announced
    → SameRow l (local_after n l Announce) r k
announced_before n l N k h below =
    record {
      operation = sym (get_or_append_left l.operations (staged_operation l.staged ∷ []) 0 k
          (omega (arith, h.operations)));
      embedded = sym (get_or_append_left l.embedded_in_N (cut_to_embed l ∷ []) [] k
          (omega (arith, h.embedded_in_N)));
    }
announced_before n l M k h below = record { reply = refl; view = refl; embedded = refl }

-- the rows after an announcement have the words that the local has for them
announced_rows : (s : Shape) (me : ℕ) (l : Local) (words : List ℕ) → me < s.callers
    → IsTrue (is_enabled s me l Announce) → Agrees s words me l
    → (r : Region) (k p : ℕ) → k < own_count (local_after s.callers l Announce) r
    → p < places s.callers r
    → slice_index (words_after s me l words Announce) (place_index s.callers s.cap r me k p)
    ≡ word_of (local_after s.callers l Announce) k (content s.callers r p)
announced_rows s me l words low may h N k p below fits =
    get_or-set_other words (count_index s.callers N me) (place_index s.callers s.cap N me k p)
    (l.announced + 1) 0 (λ e. count_or_row s.callers s.cap N N me me k p low (sym e))
    ∙ (elim (cases_eq k l.announced) as (λ _. slice_index words (place_index s.callers s.cap N me k
    p) ≡ word_of (local_after s.callers l Announce) k (content s.callers N p)) [
      | inl here ↦
          let first = row_staged s words me l N may h 0 (omega arith) in
          let staged = row_staged s words me l N may h p fits in
          ap (λ (j : ℕ). slice_index words (place_index s.callers s.cap N me j p)) here
          ∙ staged.stands
          ∙ announced_word s.callers l k p h.phase here first.due staged.due
      | inr away ↦
          let old : k < l.announced = omega arith in
          h.rows N k p old fits ∙ same_row s.callers l (local_after s.callers l Announce) N k p
          (announced_before s.callers l N k h.phase old)
    ])
announced_rows s me l words low may h M k p below fits =
    get_or-set_other words (count_index s.callers N me) (place_index s.callers s.cap M me k p)
    (l.announced + 1) 0 (λ e. count_or_row s.callers s.cap N M me me k p low (sym e))
    ∙ h.rows M k p below fits
    ∙ same_row s.callers l (local_after s.callers l Announce) M k p
    (announced_before s.callers l M k h.phase (omega (arith, below, published_few l h.phase)))

-- the numbers of a local that is in this phase are those of this phase
pub in_phase : (l : Local) (phase : Phase) → HasPhase l → l.phase ≡ phase
    → HasPhase (record l { phase = phase })
in_phase l phase h is = subst (λ (f : Phase). HasPhase (record l { phase = f })) is h

-- an announcement keeps the agreement of its own caller
pub announce_agrees : (s : Shape) (me : ℕ) (l : Local) (words : List ℕ) → me < s.callers
    → words_of s ≤ length words
    → IsTrue (is_enabled s me l Announce) → Agrees s words me l
    → Agrees s (words_after s me l words Announce) me (local_after s.callers l Announce)
announce_agrees s me l words low long may h =
    let first : IsInRow s words me l N 0 = row_staged s words me l N may h 0 (omega arith) in
    let phase : l.phase ≡ Announcing = staging_N l.phase
    (and_parts (is_staging l.phase N) (are_staged l.staged (places s.callers N)) may).0 in
    let was = in_phase l Announcing h.phase phase in
    record {
      counts = λ r. announced_counts s me l words low long h r;
      few = omega (arith, first.row);
      rows = λ r k p below fits. announced_rows s me l words low may h r k p below fits;
      staged = λ r p staging staged. absurd (no_asking r staging);
      staged_in = refl;
      kept_in = refl;
      phase =
          record {
            announced = omega (arith, was.announced);
            operations = omega (
              arith,
              length-append l.operations (staged_operation l.staged ∷ []),
              h.phase.operations,
            );
            replies = was.replies;
            views = was.views;
            seen = was.seen;
            embedded_in_N = omega
                (arith, length-append l.embedded_in_N (cut_to_embed l ∷ []), h.phase.embedded_in_N);
            embedded_in_M = h.phase.embedded_in_M;
            object_steps =
                omega (arith, length-append l.object_steps ([] ∷ []), h.phase.object_steps);
          };
      scan = tt;
    }

pub published_counts : (s : Shape) (me : ℕ) (l : Local) (words : List ℕ) → me < s.callers
    → words_of s ≤ length words → Agrees s words me l
    → (r : Region) → slice_index (words_after s me l words Publish) (count_index s.callers r me)
    ≡ own_count (local_after s.callers l Publish) r
published_counts s me l words low long h M = get_or-set_same words (count_index s.callers M me)
    (l.published + 1) 0 (omega (arith, count_within s.callers s.cap M me low))
published_counts s me l words low long h N =
    get_or-set_other words (count_index s.callers M me) (count_index s.callers N me)
    (l.published + 1) 0
    (λ e. let same : N ≡ M = (count_apart s.callers N M me me low low e).0 in cc)
    ∙ h.counts N

-- the row of M that is published has the words that belong to the call
published_entry : (n : ℕ) (l : Local) (k i j x : ℕ) (b : Bool) → HasPhase l → k ≡ l.published
    → is_due l (if b then View_entry i else Embedded_entry M j) x ≡ true
    → x ≡ word_of (local_after n l Publish) k (if b then View_entry i else Embedded_entry M j)
published_entry n l k i j x true h here due =
    eqb-true x (word_of l l.published (View_entry i)) due
    ∙ ap (λ (m : ℕ). slice_index (slice_index_or l.views m []) i) (sym here)
published_entry n l k i j x false h here due =
    entry_to_embed l.to_embed j x due
    ∙ ap (λ (c : List ℕ). slice_index c j)
    (sym (get_or_push l.embedded_in_M (cut_to_embed l) [] k (h.embedded_in_M ∙ sym here)))

published_word : (n : ℕ) (l : Local) (k p x : ℕ) → HasPhase l → k ≡ l.published
    → is_due l (content n M p) x ≡ true → x ≡ word_of (local_after n l Publish) k (content n M p)
published_word n l k zero x h here due = eqb-true x (word_of l l.published Reply) due
    ∙ ap (λ (m : ℕ). slice_index l.replies m) (sym here)
published_word n l k (suc j) x h here due =
    published_entry n l k j (j - n) x (nat_lt j n) h here due

-- the rows of M before the published one are as they were
published_before : (n : ℕ) (l : Local) (r : Region) (k : ℕ) → HasPhase l → k < own_count l r
    → SameRow l (local_after n l Publish) r k
published_before n l N k h below = record { operation = refl; embedded = refl }
published_before n l M k h below =
    record {
      reply = refl;
      view = refl;
      embedded = sym (get_or_append_left l.embedded_in_M (cut_to_embed l ∷ []) [] k
          (omega (arith, h.embedded_in_M)));
    }

published_rows : (s : Shape) (me : ℕ) (l : Local) (words : List ℕ) → me < s.callers
    → IsTrue (is_enabled s me l Publish) → Agrees s words me l
    → (r : Region) (k p : ℕ) → k < own_count (local_after s.callers l Publish) r
    → p < places s.callers r
    → slice_index (words_after s me l words Publish) (place_index s.callers s.cap r me k p)
    ≡ word_of (local_after s.callers l Publish) k (content s.callers r p)
published_rows s me l words low may h N k p below fits =
    get_or-set_other words (count_index s.callers M me) (place_index s.callers s.cap N me k p)
    (l.published + 1) 0 (λ e. count_or_row s.callers s.cap M N me me k p low (sym e))
    ∙ h.rows N k p below fits
    ∙ same_row s.callers l (local_after s.callers l Publish) N k p
    (published_before s.callers l N k h.phase below)
published_rows s me l words low may h M k p below fits =
    get_or-set_other words (count_index s.callers M me) (place_index s.callers s.cap M me k p)
    (l.published + 1) 0 (λ e. count_or_row s.callers s.cap M M me me k p low (sym e))
    ∙ (elim (cases_eq k l.published) as (λ _. slice_index words (place_index s.callers s.cap M me k
    p) ≡ word_of (local_after s.callers l Publish) k (content s.callers M p)) [
      | inl here ↦
          let staged = row_staged s words me l M may h p fits in
          ap (λ (j : ℕ). slice_index words (place_index s.callers s.cap M me j p)) here
          ∙ staged.stands
          ∙ published_word s.callers l k p (staged_at l.staged p) h.phase here staged.due
      | inr away ↦
          let old : k < l.published = omega arith in
          h.rows M k p old fits ∙ same_row s.callers l (local_after s.callers l Publish) M k p
          (published_before s.callers l M k h.phase old)
    ])

-- a publication keeps the agreement of its own caller
pub publish_agrees : (s : Shape) (me : ℕ) (l : Local) (words : List ℕ) → me < s.callers
    → words_of s ≤ length words
    → IsTrue (is_enabled s me l Publish) → Agrees s words me l
    → Agrees s (words_after s me l words Publish) me (local_after s.callers l Publish)
publish_agrees s me l words low long may h =
    let phase : l.phase ≡ Publishing = staging_M l.phase
    (and_parts (is_staging l.phase M) (are_staged l.staged (places s.callers M)) may).0 in
    let was = in_phase l Publishing h.phase phase in
    record {
      counts = λ r. published_counts s me l words low long h r;
      few = h.few;
      rows = λ r k p below fits. published_rows s me l words low may h r k p below fits;
      staged = λ r p staging staged. absurd (no_judging r staging);
      staged_in = refl;
      kept_in = refl;
      phase =
          record {
            announced = omega (arith, was.announced);
            operations = h.phase.operations;
            replies = omega (arith, was.replies);
            views = omega (arith, was.views);
            seen = omega (arith, was.seen);
            embedded_in_N = h.phase.embedded_in_N;
            embedded_in_M = omega
                (arith, length-append l.embedded_in_M (cut_to_embed l ∷ []), h.phase.embedded_in_M);
            object_steps = h.phase.object_steps;
          };
      scan = tt;
    }
