use Rattle.std.proofs.Common.{◌≡◌, ◌+◌, ◌∙◌, [], ◌∷◌, ◌++◌, ℕ, List, length, get_or, set, refl, sym, ap, subst, arith}
use Rattle.std.proofs.lemmas.List.{length-set}
use Rattle.book_base.specs.State.{Contents}
use Rattle.book_base.specs.Next.{raised, list_after, HoldsAnswered}
use Rattle.frontier_check.specs.declared.walk.WalkFrame.{WalkFrame}
use Rattle.frontier_check.specs.declared.walk.Walk.{Walk}
use Rattle.book_base.specs.Pruning.{IsLeast}
use Rattle.frontier_check.specs.Search.{places_of, IsOpen}
use Rattle.frontier_check.specs.Memo.{Remembers}
use Rattle.frontier_check.specs.Prefix.{IsBookCapacity}
use Rattle.frontier_check.proofs.Pairs.{remembers-moved}
use Rattle.frontier_check.proofs.Leading.{standing, lowered}
use Rattle.frontier_check.proofs.Walking.{walk-skip, IsDeeper, walk-deeper, walk-found, LeadsTo, deeper-fits, deeper-reached, same_open}
use Rattle.frontier_check.proofs.search.Search.enter.Goals as goal

pub set_count-requires-clause-caller : goal.set_count-requires-clause-caller
set_count-requires-clause-caller g c =
    let object = c.args.self.now.object.now in
    let old = c.args.walk.now in
    let w = c.requires.walk in
    let s = standing c.args.self.now.book.now c.args.self.now.prefix.now
    (g.S.SeqObject.spec object) old.frames.items old.counts.items old.here.words c.args.place
    w.begins w.leads w.here.sound.0.may_come in
    omega (
      arith,
      s.caller,
      ap length c.step.ensures.counts,
      length-set old.counts.items c.args.place.caller
          (get_or old.counts.items c.args.place.caller 0 + 1),
    )

pub copy_from-requires : goal.copy_from-requires
copy_from-requires g c =
    let object = c.args.self.now.object.now in
    let old = c.args.walk.now in
    let w = c.requires.walk in
    let s = standing c.args.self.now.book.now c.args.self.now.prefix.now
    (g.S.SeqObject.spec object) old.frames.items old.counts.items old.here.words c.args.place
    w.begins w.leads w.here.sound.0.may_come in
    let fits = (s.fits old.here.room w.room).here in
    omega (
      arith,
      fits,
      ap (λ (x : Contents). length x.words) c.step.ensures.spare,
      ap (λ (x : Contents). x.room) c.step.ensures.here,
    )

pub returns-then-remembers-clause-outcome : goal.returns-then-remembers-clause-outcome
returns-then-remembers-clause-outcome g c =
    let book = c.args.self.now.book.now in
    let spec = g.S.SeqObject.spec c.args.self.now.object.now in
    let old = c.args.walk.now in
    let e = c.step.ensures in
    let new : Walk = record (c.step.new.walk) {
      counts = c.set_count.new.counts;
      here = c.copy_from.new.self;
    } in
    let made : List ℕ → ℕ → Contents = λ words room. record { words = words; room = room } in
    let there : Remembers old.memo (raised old.counts.items c.args.place.caller)
    (list_after book spec.next old.here.words c.args.place) =
    remembers-moved old.memo c.step.new.walk.memo (raised old.counts.items c.args.place.caller)
    c.deref.result.now (list_after book spec.next old.here.words c.args.place) c.words.result.now
    e.memo (c.deref.ensures.value ∙ e.counts)
    (c.words.ensures ∙ ap (λ (s : Contents). s.words) e.here)
    (c.remembers.ensures c.if-remembers.true) in
    let counts : new.counts.items ≡ old.counts.items =
    c.set_count.ensures ∙ (ap (λ (cut : List ℕ). set cut c.args.place.caller c.args.place.number)
    e.counts ∙ lowered old.counts.items c.args.place.caller c.args.place.number
    c.requires.walk.here.sound.0.may_come.next) in
    let here : new.here ≡ old.here =
    c.copy_from.ensures ∙ (ap (λ (words : List ℕ). made words c.step.new.walk.here.room)
    (ap (λ (s : Contents). s.words) e.spare)
    ∙ ap (made old.here.words) (ap (λ (s : Contents). s.room) e.here)) in
    walk-skip book c.args.self.now.prefix.now spec
    old new c.args.place c.requires.walk there e.frames counts here e.choices e.memo

pub least_open-requires : goal.least_open-requires
least_open-requires g c =
    let object = c.args.self.now.object.now in
    let old = c.args.walk.now in
    let w = c.requires.walk in
    let s = standing c.args.self.now.book.now c.args.self.now.prefix.now
    (g.S.SeqObject.spec object) old.frames.items old.counts.items old.here.words c.args.place
    w.begins w.leads w.here.sound.0.may_come in
    ap length (c.deref-2.ensures.value ∙ c.step.ensures.counts) ∙ (length-set old.counts.items
    c.args.place.caller (get_or old.counts.items c.args.place.caller 0 + 1) ∙ s.wide)

pub choices-requires-clause-wide : goal.choices-requires-clause-wide
choices-requires-clause-wide g c =
    let object = c.args.self.now.object.now in
    let old = c.args.walk.now in
    let w = c.requires.walk in
    let s = standing c.args.self.now.book.now c.args.self.now.prefix.now
    (g.S.SeqObject.spec object) old.frames.items old.counts.items old.here.words c.args.place
    w.begins w.leads w.here.sound.0.may_come in
    ap length (c.deref-in-Some.ensures.value ∙ c.step.ensures.counts) ∙ (length-set old.counts.items
    c.args.place.caller (get_or old.counts.items c.args.place.caller 0 + 1) ∙ s.wide)

pub choices-requires-clause-reached : goal.choices-requires-clause-reached
choices-requires-clause-reached g c =
    let book = c.args.self.now.book.now in
    let object = c.args.self.now.object.now in
    let spec = g.S.SeqObject.spec object in
    let old = c.args.walk.now in
    let e = c.step.ensures in
    let frame : WalkFrame =
    record { place = c.args.place; words = c.in_ok-words.words; choices = old.choices } in
    let to : LeadsTo book spec.next old frame c.deref-in-Some.result.now
    c.step.new.walk.here.words =
    record {
      words = c.in_ok-words.ensures.items
          ∙ (c.words-2.ensures ∙ ap (λ (s : Contents). s.words) e.spare);
      choices = refl;
      cut_is = c.deref-in-Some.ensures.value ∙ e.counts;
      list_is = ap (λ (s : Contents). s.words) e.here;
    } in
    deeper-reached book c.args.self.now.prefix.now spec old frame
    c.deref-in-Some.result.now c.step.new.walk.here.words c.requires.walk to

pub choices-requires-clause-fits : goal.choices-requires-clause-fits
choices-requires-clause-fits g c =
    let book = c.args.self.now.book.now in
    let object = c.args.self.now.object.now in
    let spec = g.S.SeqObject.spec object in
    let old = c.args.walk.now in
    let e = c.step.ensures in
    let frame : WalkFrame =
    record { place = c.args.place; words = c.in_ok-words.words; choices = old.choices } in
    let least : IsLeast book c.deref-in-Some.result.now (length book) c.in-Some.first =
    subst (λ (cut : List ℕ). IsLeast book cut (length book) c.in-Some.first)
    (c.deref-2.ensures.value ∙ sym c.deref-in-Some.ensures.value) c.in-Some.ensures.least in
    let to : LeadsTo book spec.next old frame c.deref-in-Some.result.now
    c.step.new.walk.here.words =
    record {
      words = c.in_ok-words.ensures.items
          ∙ (c.words-2.ensures ∙ ap (λ (s : Contents). s.words) e.spare);
      choices = refl;
      cut_is = c.deref-in-Some.ensures.value ∙ e.counts;
      list_is = ap (λ (s : Contents). s.words) e.here;
    } in
    deeper-fits book c.args.self.now.prefix.now spec old frame
    c.deref-in-Some.result.now c.step.new.walk.here.words c.in-Some.first c.requires.walk to least
    c.step.new.spare.room
    (subst (λ (s : Contents). IsBookCapacity spec s.room) (sym e.spare) c.requires.room)

pub returns-in_ok-push-in-None-clause-outcome : goal.returns-in_ok-push-in-None-clause-outcome
returns-in_ok-push-in-None-clause-outcome g c =
    let book = c.args.self.now.book.now in
    let spec = g.S.SeqObject.spec c.args.self.now.object.now in
    let old = c.args.walk.now in
    let e = c.step.ensures in
    let frame : WalkFrame = record {
      place = c.args.place;
      words = c.in_ok-words.words;
      choices = c.replace-choices.result;
    } in
    let new : Walk = record (c.step.new.walk) {
      frames = c.push.new.self;
      choices = c.replace-choices.new.dest;
    } in
    let deeper : IsDeeper book spec.next old new frame = record {
      frames = c.in_ok-push-in-None.ensures.items ∙ ap (λ v. v.items ++ frame ∷ []) e.frames;
      words = c.in_ok-words.ensures.items
          ∙ (c.words-2.ensures ∙ ap (λ (s : Contents). s.words) e.spare);
      choices = ap (λ v. v.items) (c.replace-choices.ensures.value ∙ e.choices);
      counts = e.counts;
      here = ap (λ (s : Contents). s.words) e.here;
      room = ap (λ (s : Contents). s.room) e.here;
      memo = e.memo;
    } in
    walk-found book c.args.self.now.prefix.now
    spec old new frame c.requires.walk deeper
    (subst (λ (cut : List ℕ). HoldsAnswered book cut) c.deref-2.ensures.value
    c.in-None.ensures.none)

pub returns-in_ok-push-in-Some-clause-outcome : goal.returns-in_ok-push-in-Some-clause-outcome
returns-in_ok-push-in-Some-clause-outcome g c =
    let book = c.args.self.now.book.now in
    let object = c.args.self.now.object.now in
    let spec = g.S.SeqObject.spec object in
    let old = c.args.walk.now in
    let e = c.step.ensures in
    let frame : WalkFrame = record {
      place = c.args.place;
      words = c.in_ok-words.words;
      choices = c.replace-choices-in-Some.result;
    } in
    let new : Walk = record (c.step.new.walk) {
      frames = c.push-in-Some.new.self;
      choices = c.replace-choices-in-Some.new.dest;
    } in
    let deeper : IsDeeper book spec.next old new frame = record {
      frames = c.in_ok-push-in-Some.ensures.items ∙ ap (λ v. v.items ++ frame ∷ []) e.frames;
      words = c.in_ok-words.ensures.items
          ∙ (c.words-2.ensures ∙ ap (λ (s : Contents). s.words) e.spare);
      choices = ap (λ v. v.items) (c.replace-choices-in-Some.ensures.value ∙ e.choices);
      counts = e.counts;
      here = ap (λ (s : Contents). s.words) e.here;
      room = ap (λ (s : Contents). s.room) e.here;
      memo = e.memo;
    } in
    let fresh : new.choices ≡ c.in_ok-fresh-in-Some.fresh =
    c.replace-choices-in-Some.ensures.after in
    let here : IsOpen book spec.next new.counts.items new.here.words (places_of new.choices.items) =
    same_open book spec.next c.deref-in-Some.result.now new.counts.items new.here.words
    new.here.words
    (places_of c.in_ok-fresh-in-Some.fresh.items) (places_of new.choices.items)
    (sym c.deref-in-Some.ensures.value) refl
    (ap (λ v. places_of v.items) fresh) c.in_ok-fresh-in-Some.ensures.open in
    walk-deeper book c.args.self.now.prefix.now spec old new frame
    c.requires.walk deeper here
    (omega (arith, ap (λ v. length v.items) fresh, c.in_ok-fresh-in-Some.ensures.few))
