use Rattle.std.proofs.Common.{◌≡◌, ◌∙◌, sym, subst}
use Rattle.std.proofs.lemmas.Bool.{false≢true}
use Rattle.std.proofs.lemmas.Option.{same_Some}
use Rattle.row_gather.specs.declared.gathered.Gathered.{Gathered}
use Rattle.row_gather.specs.Gathered.{HoldsAll}
use Rattle.row_gather.proofs.Beginning.{begun_with_none}
use Rattle.row_gather.proofs.gather.begin.Goals as goal
use Rattle.row_gather.proofs.gather.begin.Goals.{in-Some+else-holds_all, in_default}

pub returns : goal.returns
returns c =
    begun_with_none c.args.gathered c.args.cut.now c.n.result c.new.result c.n.ensures.count
    (λ g there holds. elim c.match-gathered.branch [
      | in-Some+else-holds_all w ↦
          let same : w.in-Some.kept ≡ g = same_Some w.in-Some.kept g (sym w.in-Some.is ∙ there) in
          false≢true (sym w.if-holds_all.false ∙ w.holds_all.ensures.1
          (subst (λ (k : Gathered). HoldsAll c.args.cut.now k.book) (sym same) holds))
      | in_default w ↦ w.in_default.not-Some g there
    ])
    c.new.ensures
