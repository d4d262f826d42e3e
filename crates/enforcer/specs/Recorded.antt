-- What the local of a caller says after the publication of a record: after the publication alone,
-- and after the cut is seen too.
use Rattle.std.specs.Prelude.{◌≡◌, ◌<◌, ◌-◌, ℕ, Bool, true, false, is_none, List, [], ◌∷◌, Option, None, Some, slice_index, slice_index_or}
use Rattle.book_base.specs.declared.call.Record.{Record}
use Rattle.world_core.specs.declared.region.Region.{Region}
use Rattle.world_core.specs.declared.region.Region.TheVariants.{N, M}
use Rattle.world_core.specs.Local.{Local, Given, Phase, Announcing, Judging}
use Rattle.world_core.specs.Event.{is_unstaged}
use Rattle.row_table.specs.declared.caller.Caller.{Caller}
use Rattle.row_table.specs.Callers.{who_of, local_with}

-- Whether the phase is judge, the last one of a call.
abbrev pub is_judging : Phase → Bool
is_judging Judging = true
is_judging _ = false

-- Whether the phase is announce, the first one of a call.
abbrev pub is_announcing : Phase → Bool
is_announcing Announcing = true
is_announcing _ = false

-- The number of the call whose record a caller with this local published last; 0 where it has
-- published no record.
abbrev pub last_published : Local → ℕ
last_published l = l.published - 1

-- A caller with this local has published a record, and the last one that it published is this one.
pub record HasPublished (r : Record) (l : Local) : Type 0 where
  pub some : 0 < l.published
  pub reply_is : slice_index l.replies (last_published l) ≡ r.reply
  pub view_is : slice_index_or l.views (last_published l) [] ≡ r.view

-- A caller with this local has published this record as its last one, is in the phase judge, and
-- has staged no word.
pub record IsPublishing (r : Record) (l : Local) : Type 0 where
  pub judging : is_judging l.phase ≡ true
  pub unstaged : is_unstaged l.staged ≡ true
  pub published : HasPublished r l

-- The cut that a scan of this region gave, where the region is M; for N, no cut.
abbrev pub cut_of_M : Region → List ℕ → Option (List ℕ)
cut_of_M N cut = None
cut_of_M M cut = Some cut

-- The last one of these given cuts, where a scan of M gave it; no cut where a scan of N gave it, or
-- where the list is empty.
abbrev pub last_of_M : List Given → Option (List ℕ)
last_of_M [] = None
last_of_M (given ∷ []) = cut_of_M given.region given.cut
last_of_M (given ∷ later ∷ cuts) = last_of_M (later ∷ cuts)

-- A caller with this local has published this record as its last one, and the seen cut of that call
-- is this cut, which is also the last cut that a scan gave the caller. The caller is in the phase
-- announce, has staged no word, and has no scan under way.
pub record HasSeen (r : Record) (cut : List ℕ) (l : Local) : Type 0 where
  pub announcing : is_announcing l.phase ≡ true
  pub unstaged : is_unstaged l.staged ≡ true
  pub free : is_none l.scan ≡ true
  pub published : HasPublished r l
  pub seen_is : slice_index_or l.seen (last_published l) [] ≡ cut
  pub last : last_of_M l.cuts ≡ Some cut

-- The cut's count for this caller is the number of records that the caller has published.
abbrev pub HoldsOwn : {P : Type 0} → List ℕ → Caller P → Type 0
HoldsOwn cut c = slice_index cut (who_of c) ≡ (local_with c).published
