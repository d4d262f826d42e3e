use Rattle.std.proofs.Common.{refl}
use Rattle.stream_text.proofs.Tables.{title_goes, object_goes, err_then, events_still}
use Rattle.stream_text.proofs.reader.StreamReader.take.Goals as goal

pub returns-in_ok-read_title-in-Title-clause-taken :
    goal.returns-in_ok-read_title-in-Title-clause-taken
returns-in_ok-read_title-in-Title-clause-taken c due has =
    title_goes c.args.self.now _ due c.args.line.now c.in-Title.is
    c.in_ok-read_title-in-Title.ensures.title has refl refl refl refl

pub returns-in_ok-read_object-in-Object-clause-taken :
    goal.returns-in_ok-read_object-in-Object-clause-taken
returns-in_ok-read_object-in-Object-clause-taken c due has =
    object_goes c.args.self.now _ due c.args.line.now _ c.in-Object.is
    c.in_ok-read_object-in-Object.ensures.object has refl refl refl refl

pub returns-in_ok-read_stream_line-in-Events-clause-same :
    goal.returns-in_ok-read_stream_line-in-Events-clause-same
returns-in_ok-read_stream_line-in-Events-clause-same c =
    err_then c.take_line.result _ _ c.take_line.ensures.same
    (λ error same what e due has. events_still c.args.self.now c.take_line.new.self
    c.in-Events.kind due c.in-Events.is (same what e) has)
