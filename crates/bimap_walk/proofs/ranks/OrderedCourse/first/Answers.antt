use Rattle.bimap_walk.specs.Windows.{places_in, IsLiveWindow}
use Rattle.bimap_walk.proofs.Stepping.{first_step, window_once}
use Rattle.bimap_walk.proofs.ranks.OrderedCourse.first.Goals as goal

pub returns : goal.returns
returns g c =
    let places = c.args.self.now.places in
    first_step c.args._pairs.now (places_in places c.args.window.now) (places_in places c.first.new.self) (λ s. IsLiveWindow s places c.first.new.self) (λ s live. record { ranks = c.first.ensures.window; live = live })
    (window_once c.args._pairs.now places c.args.window.now c.requires.stands) c.requires.stands.live c.first.result c.first.ensures.takes
