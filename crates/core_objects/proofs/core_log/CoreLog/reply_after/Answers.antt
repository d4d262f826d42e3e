use Rattle.std.proofs.Common.{◌≡◌, ◌<◌, ℕ, suc, ◌+◌, ◌-◌, List, [], ◌∷◌, ◌++◌, length, take, slice_index_or, length-take-le, take_all, refl, sym, ap, subst, ◌∙◌, arith}
use Rattle.std.proofs.Math.Seq.{take-suc}
use Rattle.book_base.specs.State.{Contents}
use Rattle.world_objects.specs.LogProgram.{list_of}
use Rattle.book_base.specs.Reaching.{SufficesAfter}
use Rattle.book_base.proofs.ReachingLemmas.{suffices-next, suffices-step}
use Rattle.core_objects.proofs.Replies.{list_of-append, suffices-listed}
use Rattle.core_objects.proofs.core_log.CoreLog.reply_after.Goals as goal

pub loop-place-init : goal.loop-place-init
loop-place-init g c =
    let object = c.args.self.now.object in
    let log : List ℕ = c.args.log.now in
    let made : ℕ = c.args.made in
    let spec = g.S.SeqObject.spec object in
    let room = c.args.state.now.room in
    let taken = length-take-le made log c.requires.made in
    record {
      words = c.requires.state;
      room = refl;
      fits = subst (λ (xs : List ℕ). SufficesAfter spec.next xs (length log + 1 - made) room)
          (sym c.requires.state)
          (suffices-listed spec.next spec.init (take made log) (length log + 1)
          (length log + 1 - made) room (omega (arith, taken, c.requires.made)) c.requires.room);
      within = c.requires.made;
    }

pub step-requires : goal.step-requires
step-requires g c =
    suffices-next (g.S.SeqObject.spec c.args.self.now.object).next c.loop-place.state.words
    (length c.args.log.now + 1 - c.loop-place.place) c.loop-place.state.room _
    (omega (arith, c.loop-place-test.true)) c.loop-place.invariant.fits

pub step-requires-2 : goal.step-requires-2
step-requires-2 g c =
    suffices-next (g.S.SeqObject.spec c.args.self.now.object).next c.loop-place.state.words
    (length c.args.log.now + 1 - c.loop-place.place) c.loop-place.state.room c.args.op
    (omega (arith, c.loop-place.invariant.within)) c.loop-place.invariant.fits

pub loop-place-preserved : goal.loop-place-preserved
loop-place-preserved g c =
    let object = c.args.self.now.object in
    let log : List ℕ = c.args.log.now in
    let i : ℕ = c.loop-place.place in
    let op : ℕ = slice_index_or log i 0 in
    let inv = c.loop-place.invariant in
    let low : i < length log = c.loop-place-test.true in
    let one_more : i + 1 ≡ suc i = omega arith in
    let taken : take (i + 1) log ≡ take i log ++ op ∷ [] =
    ap (λ (k : ℕ). take k log) one_more ∙ take-suc log i 0 low in
    let words = ap (λ (s : Contents). s.words) c.step.ensures.list in
    let spec = g.S.SeqObject.spec object in
    record {
      words =
          words
          ∙ ap (λ (xs : List ℕ). ((g.S.SeqObject.spec object).next xs op).0) inv.words
          ∙ sym
          (ap (list_of (g.S.SeqObject.spec object).next (g.S.SeqObject.spec object).init) taken
          ∙ list_of-append (g.S.SeqObject.spec object).next (g.S.SeqObject.spec object).init
          (take i log) op);
      room = ap (λ (s : Contents). s.room) c.step.ensures.list ∙ inv.room;
      fits = subst
          (λ (s : Contents). SufficesAfter spec.next s.words (length log + 1 - (i + 1)) s.room)
          (sym c.step.ensures.list)
          (suffices-step spec.next c.loop-place.state.words (length log + 1 - i)
          (length log + 1 - (i + 1)) c.loop-place.state.room op (omega (arith, low)) inv.fits);
      within = omega (arith, low);
    }

pub returns-clause-state : goal.returns-clause-state
returns-clause-state g c =
    let object = c.args.self.now.object in
    let log : List ℕ = c.args.log.now in
    let inv = c.loop-place.invariant in
    let end = c.loop-place-test.false in
    let all : take c.loop-place.place log ≡ log =
    take_all c.loop-place.place log (omega (arith, end, inv.within)) in
    ap (λ (s : Contents). s.words) c.step-2.ensures.list
    ∙ ap (λ (xs : List ℕ). ((g.S.SeqObject.spec object).next xs c.args.op).0)
    (inv.words ∙ ap (list_of (g.S.SeqObject.spec object).next (g.S.SeqObject.spec object).init) all)
    ∙ sym
    (list_of-append (g.S.SeqObject.spec object).next (g.S.SeqObject.spec object).init log c.args.op)
