use Rattle.refutations.proofs.find.search.Goals as goal

pub loop-number-init : goal.loop-number-init
loop-number-init g c =
    let spec = g.S.SeqObject.spec c.args.object.now in
    let book = c.args.book.now in
    c.in_ok-push.ensures.fit spec book c.start.new.state.room
    (c.new-items.ensures.fit spec book c.start.new.state.room) c.in_ok-start.ensures.fits
