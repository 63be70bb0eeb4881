use Rattle.bimap_walk.specs.Windows.{places_in, IsLiveWindow}
use Rattle.bimap_walk.proofs.Stepping.{last_step, window_once}
use Rattle.bimap_walk.proofs.ranks.OrderedCourseBack.last.Goals as goal

pub returns : goal.returns
returns g c =
    let places = c.args.self.now.places in
    last_step c.args._pairs.now (places_in places c.args.window.now) (places_in places c.last.new.self) (λ s. IsLiveWindow s places c.last.new.self) (λ s live. record { ranks = c.last.ensures.window; live = live })
    (window_once c.args._pairs.now places c.args.window.now c.requires.stands) c.requires.stands.live c.last.result c.last.ensures.takes
