use Rattle.std.proofs.Common.{refl, arith}
use Rattle.bimap_walk.proofs.Ready.{fewer_ready_in}
use Rattle.bimap_walk.proofs.window.Window.read_ahead.Goals as goal

pub returns-clause-read : goal.returns-clause-read
returns-clause-read c =
    let was = c.requires in
    let bounds = (c.ranks-end.ensures c.args.self.now.front).0 c.place-self.ensures.has in
    record {
      window = record {
        ordered = omega (arith, was.ordered, was.apart, was.ordered_back, c.if-self.false, bounds, c.min-self.ensures);
        apart = omega (arith, c.max-self.ensures);
        ordered_back = omega (arith, was.ordered_back, c.min-self.ensures, c.max-self.ensures);
        within = was.within;
        distinct = was.distinct;
        ahead = record {
          belongs = c.place-self.ensures.batch;
          has = λ rank l m. (c.ranks-end.ensures rank).1 (omega (arith, l, bounds), omega (arith, m, c.min-self.ensures));
        };
        behind = fewer_ready_in _ _ _ _ _ _ (omega (arith, c.max-self.ensures)) (omega arith) was.behind;
      };
      front = refl;
      back = refl;
      left = (λ _. omega (arith, was.ordered, was.apart, was.ordered_back, c.if-self.false), λ _. refl);
    }

pub returns-clause-ready : goal.returns-clause-ready
returns-clause-ready c _ =
    let was = c.requires in
    let bounds = (c.ranks-end.ensures c.args.self.now.front).0 c.place-self.ensures.has in
    omega (arith, was.ordered, was.apart, was.ordered_back, c.if-self.false, bounds, c.min-self.ensures)
