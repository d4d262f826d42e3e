use Rattle.std.proofs.Common.{◌≡◌, ◌+◌, ◌-◌, ◌^◌, ◌∙◌, ℕ, List, length, refl, sym, ap, subst, arith}
use Rattle.std.proofs.lemmas.Bool.{both_ways}
use Rattle.book_base.specs.State.{Contents}
use Rattle.book_base.specs.Next.{HoldsAnswered}
use Rattle.set_order.specs.declared.walk.SetFrame.{SetFrame}
use Rattle.set_order.specs.declared.walk.SetWalk.{SetWalk}
use Rattle.set_order.specs.Search.{MayStandTogether, IsOpen, AreCandidates}
use Rattle.set_order.proofs.Trying.{open-start}
use Rattle.set_order.proofs.Raising.{raised-length}
use Rattle.set_order.proofs.Leading.{standing}
use Rattle.set_order.proofs.Walking.{IsDeeper, walk-deeper, walk-found, after_fits}
use Rattle.set_order.proofs.search.SetSearch.descend.Goals as goal

pub holds_answered-ended-requires : goal.holds_answered-ended-requires
holds_answered-ended-requires g c =
    let object = c.args.self.now.object.now in
    let old = c.args.walk.now in
    let s = standing (g.O.SetObject.init object) (g.O.SetObject.served object)
    c.args.self.now.book.now old.frames.items old.counts.items old.here.words c.requires.small
    c.requires.walk.leads in
    ap length (c.deref.ensures.value ∙ c.requires.counts)
    ∙ (raised-length old.counts.items c.args.set ∙ s.wide)

pub candidates-requires : goal.candidates-requires
candidates-requires g c =
    let object = c.args.self.now.object.now in
    let old = c.args.walk.now in
    let s = standing (g.O.SetObject.init object) (g.O.SetObject.served object)
    c.args.self.now.book.now old.frames.items old.counts.items old.here.words c.requires.small
    c.requires.walk.leads in
    ap length (c.deref-2.ensures.value ∙ c.requires.counts)
    ∙ (raised-length old.counts.items c.args.set ∙ s.wide)

pub copy_from-requires : goal.copy_from-requires
copy_from-requires g c =
    let object = c.args.self.now.object.now in
    let fits = after_fits (g.O.SetObject.init object) (g.O.SetObject.served object)
    c.args.self.now.book.now c.args.walk.now c.args.set c.args.spare.now.words c.requires.small
    c.requires.walk c.requires.stands in
    fits c.args.walk.now.here.room c.requires.walk.room

pub returns-then-ended : goal.returns-then-ended
returns-then-ended g c =
    let object = c.args.self.now.object.now in
    let book = c.args.self.now.book.now in
    let served = g.O.SetObject.served object in
    let old = c.args.walk.now in
    let frame : SetFrame = record {
      counts = c.replace.result;
      words = c.in_ok-words.words;
      set = c.args.set;
      callers = c.replace-2.result;
      left = c.replace-left.result - 1;
    } in
    let new : SetWalk = record {
      frames = c.push.new.self;
      counts = c.replace.new.dest;
      here = c.copy_from.new.self;
      callers = c.replace-2.new.dest;
      left = c.replace-left.new.dest;
      memo = old.memo;
    } in
    let deeper : IsDeeper served book old new frame = record {
      frames = c.in_ok-push.ensures.items;
      words = c.in_ok-words.ensures.items ∙ c.words.ensures;
      level_counts = ap (λ v. v.items) c.replace.ensures.value;
      level_callers = ap (λ v. v.items) c.replace-2.ensures.value;
      level_left = omega (arith, c.replace-left.ensures.value, c.requires.left);
      chosen = c.requires.callers;
      stands = subst (λ (l : List ℕ).
          MayStandTogether served book old.counts.items old.here.words c.args.set l)
          (sym (ap (λ (s : Contents). s.words) c.copy_from.ensures)) c.requires.stands;
      counts = ap (λ v. v.items) c.replace.ensures.after ∙ c.requires.counts;
      room = ap (λ (s : Contents). s.room) c.copy_from.ensures;
      memo = refl;
    } in
    let all : HoldsAnswered book c.deref.result.now =
    c.holds_answered-ended.ensures.0 c.if-ended.true in
    record {
      outcome =
          walk-found (g.O.SetObject.init object) served book old new frame c.requires.walk deeper
          (subst (λ (cut : List ℕ). HoldsAnswered book cut)
          (c.deref.ensures.value ∙ sym (ap (λ v. v.items) c.replace.ensures.after)) all);
    }

pub returns-else-ended : goal.returns-else-ended
returns-else-ended g c =
    let object = c.args.self.now.object.now in
    let book = c.args.self.now.book.now in
    let served = g.O.SetObject.served object in
    let old = c.args.walk.now in
    let frame : SetFrame = record {
      counts = c.replace.result;
      words = c.in_ok-words.words;
      set = c.args.set;
      callers = c.replace-2.result;
      left = c.replace-left.result - 1;
    } in
    let new : SetWalk = record {
      frames = c.push.new.self;
      counts = c.replace.new.dest;
      here = c.copy_from.new.self;
      callers = c.replace-2.new.dest;
      left = c.replace-left.new.dest;
      memo = old.memo;
    } in
    let counts : new.counts.items ≡ c.deref-2.result.now =
    ap (λ v. v.items) c.replace.ensures.after ∙ sym c.deref-2.ensures.value in
    let list : new.here.words ≡ c.args.spare.now.words =
    ap (λ (s : Contents). s.words) c.copy_from.ensures in
    let deeper : IsDeeper served book old new frame = record {
      frames = c.in_ok-push.ensures.items;
      words = c.in_ok-words.ensures.items ∙ c.words.ensures;
      level_counts = ap (λ v. v.items) c.replace.ensures.value;
      level_callers = ap (λ v. v.items) c.replace-2.ensures.value;
      level_left = omega (arith, c.replace-left.ensures.value, c.requires.left);
      chosen = c.requires.callers;
      stands = subst (λ (l : List ℕ). MayStandTogether served book old.counts.items old.here.words
          c.args.set l) (sym list) c.requires.stands;
      counts = ap (λ v. v.items) c.replace.ensures.after ∙ c.requires.counts;
      room = ap (λ (s : Contents). s.room) c.copy_from.ensures;
      memo = refl;
    } in
    let callers : new.callers.items ≡ c.in_ok-callers.callers.items =
    ap (λ v. v.items) c.replace-2.ensures.after in
    let whole : new.left + 1 ≡ 2 ^ length new.callers.items =
    ap (λ (n : ℕ). n + 1) c.replace-left.ensures.after ∙ (c.greatest.ensures.whole ∙ ap
    (λ (x : List ℕ). 2 ^ length x) (c.deref-3.ensures.value ∙ sym callers)) in
    let unended : HoldsAnswered book new.counts.items → ⊥ =
    λ (all : HoldsAnswered book new.counts.items).
    both_ways c.holds_answered-ended.result c.if-ended.false
    (c.holds_answered-ended.ensures.1 (subst (λ (cut : List ℕ). HoldsAnswered book cut)
    (counts ∙ (c.deref-2.ensures.value ∙ sym c.deref.ensures.value)) all)) in
    let candidates : AreCandidates book new.counts.items new.callers.items =
    subst (λ (cut : List ℕ). AreCandidates book cut new.callers.items) (sym counts)
    (subst (λ (is : List ℕ). AreCandidates book c.deref-2.result.now is)
    (sym callers) c.in_ok-callers.ensures.candidates) in
    let here : IsOpen served book new.counts.items new.here.words new.callers.items new.left =
    open-start served book new.counts.items new.here.words new.callers.items new.left whole unended
    candidates in
    record {
      outcome = walk-deeper (g.O.SetObject.init object) served book old new frame c.requires.small
          c.requires.walk deeper here
          (omega (arith, c.replace-left.ensures.after, c.greatest.ensures.few));
    }
