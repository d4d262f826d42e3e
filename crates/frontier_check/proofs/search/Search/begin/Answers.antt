use Rattle.std.proofs.Common.{◌∙◌, ℕ, List, length, sym, ap, subst}
use Rattle.book_base.specs.State.{Contents}
use Rattle.book_base.specs.Pruning.{IsLeast}
use Rattle.frontier_check.proofs.Following.{stands-fit}
use Rattle.frontier_check.proofs.Walking.{prefix-fits}
use Rattle.frontier_check.proofs.search.Search.begin.Goals as goal

pub copy_from-requires : goal.copy_from-requires
copy_from-requires g c =
    let object = c.args.self.now.object.now in
    stands-fit (g.S.SeqObject.spec object) c.args.self.now.book.now c.args.self.now.prefix.now
    c.requires.prefix.stands c.in_ok-here.here.room c.in_ok-here.ensures

pub choices-requires-clause-fits : goal.choices-requires-clause-fits
choices-requires-clause-fits g c =
    let book = c.args.self.now.book.now in
    let object = c.args.self.now.object.now in
    let least : IsLeast book c.deref-2.result.now (length book) c.in-Some.first =
    subst (λ (cut : List ℕ). IsLeast book cut (length book) c.in-Some.first)
    (c.deref.ensures.value ∙ sym c.deref-2.ensures.value) c.in-Some.ensures.least in
    prefix-fits book c.args.self.now.prefix.now
    (g.S.SeqObject.spec object) c.deref-2.result.now c.copy_from.new.self.words c.in-Some.first
    c.requires.prefix
    (c.deref-2.ensures.value ∙ c.in_ok-counts.ensures)
    (ap (λ (s : Contents). s.words) c.copy_from.ensures) least c.args.spare.now.room
    c.requires.room
