use Rattle.level_refutations.proofs.table.StoredTable.has.Goals as goal

pub returns : goal.returns
returns c =
    let known = c.requires c.args.level c.args.counts.now in (
      λ h. known.0 (c.is_known.ensures.0 h),
      λ node. c.is_known.ensures.1 (known.1 node),
    )
