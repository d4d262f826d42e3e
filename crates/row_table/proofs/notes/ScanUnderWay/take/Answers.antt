use Rattle.std.proofs.Common.{◌≡◌, ℕ, None, ◌++◌, ◌∷◌, [], List, refl, sym, ap, ◌∙◌}
use Rattle.world_core.specs.Local as local
use Rattle.world_core.specs.declared.want.Want.{Want}
use Rattle.world_core.specs.declared.want.Want.TheVariants.{Look, Peek, Done}
use Rattle.world_core.specs.Event as event
use Rattle.world_core.specs.Standing.{ScanState, standing}
use Rattle.row_table.specs.declared.notes.ScanUnderWay.{ScanUnderWay}
use Rattle.row_table.specs.Notes.{under_way, cut_of}
use Rattle.row_table.proofs.notes.ScanUnderWay.take.Goals as goal

with_core : (n me : ℕ) (u : ScanUnderWay) (core : ScanState) (s : local.Scan) (x : ℕ)
    → u ≡ under_way n me s → core ≡ standing n me s.region (s.taken ++ x ∷ [])
    → ◌≡◌ {A = ScanUnderWay} (record { core = core; is_view = u.is_view })
    (under_way n me (event.with_word s x))
with_core n me u core s x is at =
    λ i. record { core = at i; is_view = ap (λ (u : ScanUnderWay). u.is_view) is i }

not_done : (w : Want) → ((cut : List ℕ) → w ≡ Done cut → ⊥) → None ≡ cut_of w
not_done (Look j) h = refl
not_done (Peek j row entry) h = refl
not_done (Done cut) h = absurd (h cut refl)

pub returns-in-Done-clause-taken : goal.returns-in-Done-clause-taken
returns-in-Done-clause-taken c n me s is =
    with_core n me c.args.self.now _ s c.args.word is
    (c.take.ensures.taken n me s.region s.taken (ap (λ (u : ScanUnderWay). u.core) is))

pub returns-in-Done-clause-ended : goal.returns-in-Done-clause-ended
returns-in-Done-clause-ended c n me s is =
    let core = c.take.ensures.taken n me s.region s.taken (ap (λ (u : ScanUnderWay). u.core) is) in
    let wanted = c.next.ensures.wanted n me s.region (s.taken ++ c.args.word ∷ []) core in
    ap cut_of (sym c.in-Done.is ∙ wanted)

pub returns-in_default : goal.returns-in_default
returns-in_default c =
    record {
      taken = λ n me s is. with_core n me c.args.self.now _ s c.args.word is
          (c.take.ensures.taken n me s.region s.taken (ap (λ (u : ScanUnderWay). u.core) is));
      ended = λ n me s is.
          let core =
          c.take.ensures.taken n me s.region s.taken (ap (λ (u : ScanUnderWay). u.core) is) in
          not_done c.next.result c.in_default.not-Done
          ∙ ap cut_of (c.next.ensures.wanted n me s.region (s.taken ++ c.args.word ∷ []) core);
    }
