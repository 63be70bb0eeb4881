use Rattle.bimap_index.proofs.Insertion.{put_last}
use Rattle.bimap_index.proofs.insertion_order.InsertionOrder.to_back.Goals as goal

pub returns-clause-moved : goal.returns-clause-moved
returns-clause-moved g c = put_last c.args.self.now.list.places c.to_back.new.self.places c.args.place c.requires c.to_back.ensures.places
