use Rattle.std.proofs.Common.{rules, inl, inr}
use Rattle.bimap_rows.proofs.Pieces.{PopsFeed, next_line}
use Rattle.bimap_rows.proofs.input.read_line.Goals as goal

pub returns : goal.returns
returns g c =
    let e = c.in_ok-read_until.ensures in
    let items = c.read_until.new.buf.items in
    let pops : PopsFeed items c.pop_if.new.self.items c.pop_if.result =
    elim c.pop_if.ensures.cases [ inl w ↦ inl w | inr w ↦ inr (w.0, w.1, w.4, search rules, search rules) ] in
    rw c.is_some.ensures (next_line (g.I.Read.remaining c.args.input.now) (g.I.Read.remaining c.read_until.new.self) c.clear.new.self.items items c.pop_if.new.self.items c.pop_if.result c.clear.ensures.items e.bytes e.rest pops)
