use Rattle.bimap_index.proofs.Insertion.{put_first}
use Rattle.bimap_index.proofs.insertion_order.InsertionOrder.to_front.Goals as goal

pub returns-clause-moved : goal.returns-clause-moved
returns-clause-moved g c = put_first c.args.self.now.list.places c.to_front.new.self.places c.args.place c.requires c.to_front.ensures.places
