use Rattle.std.proofs.Common.{◌∙◌, sym}
use Rattle.monitor.proofs.Taken.{watch_ready, watch_done, watch_at_hand, watch_back, others_stay, unmoved_on, back_stays}
use Rattle.monitor.proofs.beside.watch_beside.Goals as goal

pub work_beside-first-requires-clause-first : goal.work_beside-first-requires-clause-first
work_beside-first-requires-clause-first g c κs within =
    watch_ready (c.take_off-first.ensures.watch c.requires.free.0.local c.requires.free.0.here)

pub work_beside-first-requires-clause-second : goal.work_beside-first-requires-clause-second
work_beside-first-requires-clause-second g c κs within =
    let stays =
    (c.take_off-first.ensures.others c.args.other (λ same. c.requires.apart (sym same))).local in
    watch_ready
    (c.take_off-second.ensures.watch c.requires.free.1.local (stays ∙ c.requires.free.1.here))

pub bring_back-one-requires-clause-watch : goal.bring_back-one-requires-clause-watch
bring_back-one-requires-clause-watch g c =
    let watched =
    watch_done (c.take_off-first.ensures.watch c.requires.free.0.local c.requires.free.0.here)
    c.work_beside-first.ensures.first in
    watch_at_hand watched ((c.take_off-second.ensures.others c.args.one c.requires.apart).local
    ∙ c.take_off-first.ensures.gone)

pub bring_back-other-requires-clause-watch : goal.bring_back-other-requires-clause-watch
bring_back-other-requires-clause-watch g c =
    let stays =
    (c.take_off-first.ensures.others c.args.other (λ same. c.requires.apart (sym same))).local in
    let one =
    watch_done (c.take_off-first.ensures.watch c.requires.free.0.local c.requires.free.0.here)
    c.work_beside-first.ensures.first in
    let other = watch_done
    (c.take_off-second.ensures.watch c.requires.free.1.local (stays ∙ c.requires.free.1.here))
    c.work_beside-first.ensures.second in
    watch_at_hand other ((others_stay one c.bring_back-one.ensures.back c.args.other
    (λ same. c.requires.apart (sym same))).local ∙ c.take_off-second.ensures.gone)

pub returns-clause-others : goal.returns-clause-others
returns-clause-others g c i not_one not_other =
    let stays =
    (c.take_off-first.ensures.others c.args.other (λ same. c.requires.apart (sym same))).local in
    let one =
    watch_done (c.take_off-first.ensures.watch c.requires.free.0.local c.requires.free.0.here)
    c.work_beside-first.ensures.first in
    let other = watch_done
    (c.take_off-second.ensures.watch c.requires.free.1.local (stays ∙ c.requires.free.1.here))
    c.work_beside-first.ensures.second in
    unmoved_on (c.take_off-first.ensures.others i not_one)
    (unmoved_on (c.take_off-second.ensures.others i not_other)
    (unmoved_on (others_stay one c.bring_back-one.ensures.back i not_one)
    (others_stay other c.bring_back-other.ensures.back i not_other)))

pub returns-clause-one : goal.returns-clause-one
returns-clause-one g c l there =
    let stays =
    (c.take_off-first.ensures.others c.args.other (λ same. c.requires.apart (sym same))).local in
    let one =
    watch_done (c.take_off-first.ensures.watch l there) c.work_beside-first.ensures.first in
    let other = watch_done
    (c.take_off-second.ensures.watch c.requires.free.1.local (stays ∙ c.requires.free.1.here))
    c.work_beside-first.ensures.second in
    back_stays (others_stay other c.bring_back-other.ensures.back c.args.one c.requires.apart)
    (watch_back one c.bring_back-one.ensures.back)

pub returns-clause-other : goal.returns-clause-other
returns-clause-other g c l there =
    let stays =
    (c.take_off-first.ensures.others c.args.other (λ same. c.requires.apart (sym same))).local in
    let other = watch_done
    (c.take_off-second.ensures.watch l (stays ∙ there)) c.work_beside-first.ensures.second in
    watch_back other c.bring_back-other.ensures.back
