use Rattle.std.proofs.lemmas.Map.Text.{hash_map_updates_str}
use Rattle.history_text.proofs.process_events.ProcessEvents.put.Goals as goal

pub returns : goal.returns
returns c = λ process.
    hash_map_updates_str c.args.lined.event.process.now c.args.self.now.events c.insert.new.self _
    c.in_ok-insert.ensures.updates process
