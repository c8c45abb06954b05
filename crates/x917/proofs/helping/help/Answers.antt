use Rattle.x917.proofs.HelpWritten.{help_of, never_usage, help_faults}
use Rattle.x917.proofs.helping.help.Goals as goal

pub returns-in-Ok : goal.returns-in-Ok
returns-in-Ok g c =
    let text = c.in-Ok.text in
    let s = c.put_text.result in
    let before = g.K.Sink.written c.args.sink.now in
    let after = g.K.Sink.written c.put_text.new.sink in
    let puts = c.put_text.ensures.puts in
    record {
      help = help_of text s before after puts c.args.topic c.in-Ok.ensures;
      usage = never_usage text s before after puts;
      faults = λ read disk. help_faults text s before after puts read (g.K.Sink.faults c.args.sink.now) (g.K.Sink.faults c.put_text.new.sink) disk c.put_text.ensures.fault;
    }
