use Rattle.std.proofs.Common.{◌-◌, refl, arith}
use Rattle.bimap_walk.proofs.Ready.{belongs_in, fewer_ready}
use Rattle.bimap_walk.proofs.window.Window.read_behind.Goals as goal

pub returns-clause-read : goal.returns-clause-read
returns-clause-read c =
    let was = c.requires in
    let bounds = (c.ranks-start.ensures (c.args.self.now.back - 1)).0 c.place-self.ensures.has in
    record {
      window = record {
        ordered = omega (arith, was.ordered, was.apart, c.max-self.ensures, c.min-self.ensures);
        apart = omega (arith, c.min-self.ensures);
        ordered_back = omega (arith, was.ordered, was.apart, was.ordered_back, c.if-self.false, bounds, c.max-self.ensures);
        within = was.within;
        distinct = was.distinct;
        ahead = fewer_ready _ _ _ _ _ _ (omega arith) (omega (arith, c.min-self.ensures)) was.ahead;
        behind = record {
          belongs = c.place-self.ensures.batch;
          has = λ rank l m. (c.ranks-start.ensures rank).1 (omega (arith, l, c.max-self.ensures), omega (arith, m, bounds));
        };
      };
      front = refl;
      back = refl;
      left = (λ _. omega (arith, was.ordered, was.apart, was.ordered_back, c.if-self.false), λ _. refl);
    }

pub returns-clause-ready : goal.returns-clause-ready
returns-clause-ready c _ =
    let was = c.requires in
    let bounds = (c.ranks-start.ensures (c.args.self.now.back - 1)).0 c.place-self.ensures.has in
    omega (arith, was.ordered, was.apart, was.ordered_back, c.if-self.false, bounds, c.max-self.ensures)

pub make_batch-requires : goal.make_batch-requires
make_batch-requires c = belongs_in _ _ _ _ c.requires.behind
