use Rattle.std.specs.Io.Buffered.{writer_contents, writer_buffer}
use Rattle.bimap.specs.BTree.{holding}
use Rattle.bimap_rows.proofs.Endings.{ascends, ends_clean}
use Rattle.bimap_rows.proofs.serve.serve.Goals as goal

pub returns-in-Ok-write_held-clause-ends : goal.returns-in-Ok-write_held-clause-ends
returns-in-Ok-write_held-clause-ends g c =
    let w = writer_contents g.W.Write.contents in
    let held = c.serve_lines.new.held in
    let pairs = (holding held).pairs in
    ends_clean c.finish.result (g.I.Read.remaining c.args.input.now) (g.I.Read.remaining c.serve_lines.new.input) (w c.args.output.now) (w c.serve_lines.new.output) (w c.write_held.new.output) (w c.finish.new.output) (writer_buffer c.finish.new.output)
    pairs (ascends pairs held.ascending) c.in-Ok.ensures.ok c.in-Ok.ensures.end c.in-Ok-write_held.ensures c.finish.ensures
