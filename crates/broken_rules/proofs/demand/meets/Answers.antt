use Rattle.std.proofs.Common.{◌↔◌, true, IsTrue, refl, sym, subst}
use Rattle.broken_rules.specs.declared.demand.Demand.{Demand}
use Rattle.broken_rules.specs.Demands.{Meets}
use Rattle.broken_rules.proofs.demand.meets.Goals as goal

pub returns-in-OwnPutsFollow : goal.returns-in-OwnPutsFollow
returns-in-OwnPutsFollow c =
    subst (λ (d : Demand). IsTrue c.put_follows.result ↔ Meets c.args.kind c.args.book.now d
    c.args.first c.args.second c.args.call) (sym c.in-OwnPutsFollow.is) c.put_follows.ensures

pub returns-in-OtherPutsFollow : goal.returns-in-OtherPutsFollow
returns-in-OtherPutsFollow c =
    subst (λ (d : Demand). IsTrue c.put_follows-in-OtherPutsFollow.result
    ↔ Meets c.args.kind c.args.book.now d c.args.first c.args.second c.args.call)
    (sym c.in-OtherPutsFollow.is) c.put_follows-in-OtherPutsFollow.ensures

pub returns-in-OtherPutsOutside : goal.returns-in-OtherPutsOutside
returns-in-OtherPutsOutside c =
    subst (λ (d : Demand). IsTrue c.put_is_outside.result ↔ Meets c.args.kind c.args.book.now d
    c.args.first c.args.second c.args.call) (sym c.in-OtherPutsOutside.is) c.put_is_outside.ensures

pub returns-in-OnlyPut : goal.returns-in-OnlyPut
returns-in-OnlyPut c =
    subst (λ (d : Demand). IsTrue c.put_is_only.result ↔ Meets c.args.kind c.args.book.now d
    c.args.first c.args.second c.args.call) (sym c.in-OnlyPut.is) c.put_is_only.ensures

pub returns-in-OnlyTake : goal.returns-in-OnlyTake
returns-in-OnlyTake c =
    subst (λ (d : Demand). IsTrue c.take_is_only.result ↔ Meets c.args.kind c.args.book.now d
    c.args.first c.args.second c.args.call) (sym c.in-OnlyTake.is) c.take_is_only.ensures

pub returns-in-TakesFollow : goal.returns-in-TakesFollow
returns-in-TakesFollow c =
    subst (λ (d : Demand). IsTrue c.take_follows.result ↔ Meets c.args.kind c.args.book.now d
    c.args.first c.args.second c.args.call) (sym c.in-TakesFollow.is) c.take_follows.ensures

pub returns-in-RemovalsOutside : goal.returns-in-RemovalsOutside
returns-in-RemovalsOutside c =
    subst (λ (d : Demand). IsTrue c.removal_is_outside.result ↔ Meets c.args.kind c.args.book.now d
    c.args.first c.args.second c.args.call) (sym c.in-RemovalsOutside.is)
    c.removal_is_outside.ensures

pub returns-in-EntryPutsFollow : goal.returns-in-EntryPutsFollow
returns-in-EntryPutsFollow c =
    subst (λ (d : Demand). IsTrue c.entry_put_follows.result ↔ Meets c.args.kind c.args.book.now d
    c.args.first c.args.second c.args.call) (sym c.in-EntryPutsFollow.is)
    c.entry_put_follows.ensures

pub returns-in-EntryPutsOutside : goal.returns-in-EntryPutsOutside
returns-in-EntryPutsOutside c =
    subst (λ (d : Demand). IsTrue c.entry_put_is_outside.result ↔ Meets c.args.kind
    c.args.book.now d c.args.first c.args.second c.args.call) (sym c.in-EntryPutsOutside.is)
    c.entry_put_is_outside.ensures

pub returns-in-OtherPutsBeside : goal.returns-in-OtherPutsBeside
returns-in-OtherPutsBeside c =
    subst (λ (d : Demand). IsTrue c.put_is_beside.result ↔ Meets c.args.kind c.args.book.now d
    c.args.first c.args.second c.args.call) (sym c.in-OtherPutsBeside.is) c.put_is_beside.ensures

pub returns-in-Nothing : goal.returns-in-Nothing
returns-in-Nothing c =
    subst (λ (d : Demand). IsTrue true ↔ Meets c.args.kind c.args.book.now d c.args.first
    c.args.second c.args.call) (sym c.in-Nothing.is) (λ e. tt, λ all. refl)
