use Rattle.bimap_walk.specs.Positions.{places_left, IsLiveListPosition}
use Rattle.bimap_walk.proofs.Stepping.{last_step}
use Rattle.bimap_walk.proofs.Positions.{position_once}
use Rattle.bimap_walk.proofs.by_insertion.LinkedListCourseBack.last.Goals as goal

pub returns : goal.returns
returns g c =
    let places = c.args.self.now.places in
    last_step c.args._pairs.now (places_left places c.args.position.now) (places_left places c.last.new.self) (λ s. IsLiveListPosition s places c.last.new.self) (λ s live. record { positions = c.last.ensures.position; live = live })
    (position_once places c.args.position.now c.requires.stands.positions) c.requires.stands.live c.last.result c.last.ensures.takes
