use Rattle.std.proofs.Common.{rules, ◌≡◌, map}
use Rattle.std.specs.Map.Iter.{deref_pair}
use Rattle.std.proofs.lemmas.Map.Iter.{iter_end}
use Rattle.bimap.specs.BTree.{holding}
use Rattle.bimap_rows.proofs.Shown.{next_shown, all_shown}
use Rattle.bimap_rows.proofs.held.write_held.Goals as goal

pub loop-left-preserved : goal.loop-left-preserved
loop-left-preserved g c =
    let w = g.W.Write.contents in
    next_shown (w c.writeln.new.self) (w c.loop-left.output) (w c.writeln-in-loop-left.new.self) c.loop-left.yielded (c.in-Some.left, c.in-Some.right) c.loop-left.invariant c.in_ok-writeln-2.ensures.bytes

pub returns : goal.returns
returns g c =
    let w = g.W.Write.contents in
    let pairs = (holding c.args.held.now).pairs in
    let all : map deref_pair c.loop-left.yielded ≡ pairs = search (rules, iter_end) in
    all_shown (w c.args.output.now) (w c.writeln.new.self) (w c.loop-left.output) c.len.result c.loop-left.yielded pairs all (search rules) c.in_ok-writeln.ensures.bytes c.loop-left.invariant
